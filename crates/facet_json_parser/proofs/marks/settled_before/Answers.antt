use Rattle.std.proofs.Common.{◌≡◌, ℕ, ◌-◌, slice_get, Some, ap, sym, ◌∙◌, arith}
use Rattle.std.proofs.lemmas.Option.{get_or_from_slice_get}
use Rattle.facet_format.specs.Bytes.{is_digit}
use Rattle.facet_json_parser.proofs.QuietTokens.{leads_on-nowhere}
use Rattle.facet_json_parser.proofs.PassedBytes.{passed-past, undigited, nothing-passed}
use Rattle.facet_json_parser.proofs.marks.settled_before.Goals as goal

pub returns-then-within : goal.returns-then-within
returns-then-within c = λ mode p. (leads_on-nowhere c.args.input.now mode c.args.settled (omega (arith, passed-past c.args.input.now mode c.args.settled c.args.at c.args.within p)), p)

pub returns-then-is_ascii_digit : goal.returns-then-is_ascii_digit
returns-then-is_ascii_digit c = λ mode p. (leads_on-nowhere c.args.input.now mode c.args.settled (omega (arith, passed-past c.args.input.now mode c.args.settled c.args.at c.args.within p)), p)

pub returns : goal.returns
returns c = λ mode p.
    let o = rw c.if-within.false at p in
    let none = λ (b : ℕ) (there : slice_get c.args.input.now (c.args.at - 1) ≡ Some b).
    ap is_digit (sym (get_or_from_slice_get c.args.input.now (c.args.at - 1) b 0 there)) ∙ sym c.is_ascii_digit.ensures.value ∙ c.if-is_ascii_digit.false in
    rw c.if-within.false (undigited c.args.input.now mode c.args.settled c.args.at o none, nothing-passed c.args.input.now mode c.args.at (omega (arith, c.requires)))
