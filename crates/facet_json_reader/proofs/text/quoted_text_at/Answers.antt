-- The text stands between two quotes.
use Rattle.std.proofs.Common.{arith, refl}
use Rattle.std.proofs.lemmas.Option.{get_or_from_slice_get}
use Rattle.facet_format.specs.Bytes.{quote}
use Rattle.facet_json_reader.proofs.text.quoted_text_at.Goals as goal

pub quoted_text-requires-clause-quoted : goal.quoted_text-requires-clause-quoted
quoted_text-requires-clause-quoted c =
    let closed = c.in-Some.ensures.closed in
    record {
      opening = c.args.at;
      starts = refl;
      ordered = omega (arith, closed.ordered);
      within = omega (arith, closed.within);
      opens = get_or_from_slice_get c.args.input.now c.args.at quote 0 c.requires.here;
      closes = get_or_from_slice_get c.args.input.now c.in-Some.end quote 0 closed.closes;
    }
