use Rattle.std.proofs.Common.{ℤ, map, subst, string_bytes, sym, rules, w32, SFits}
use Rattle.std.proofs.lemmas.Int.{to_z-of_z}
use Rattle.std.specs.Option.{option_map}
use Rattle.facet_json_core.specs.Meaning.Reading.{IsRead}
use Rattle.facet_json_examples.specs.Accounts.{account}
use Rattle.facet_json_examples.proofs.accounts.AccountFacet.read_owned.Goals as goal

-- What `read_fields` promises is the goal, but for the number with a sign, which went into the struct as its bits.
pub returns-clause-read : goal.returns-clause-read
returns-clause-read c =
    let f = c.in_ok-id.field-0 in
    let held : SFits w32 f.1.1.1.1.1.0 = search rules in
    subst (λ (score : ℤ). IsRead account.reading c.args.parser.now (
      f.0,
      (
        string_bytes f.1.0,
        (
          string_bytes f.1.1.0,
          (
            f.1.1.1.0,
            (
              f.1.1.1.1.0,
              (
                score,
                (
                  f.1.1.1.1.1.1.0,
                  (
                    option_map string_bytes f.1.1.1.1.1.1.1.0,
                    (
                      map string_bytes f.1.1.1.1.1.1.1.1.0.items,
                      (option_map (λ n. n) f.1.1.1.1.1.1.1.1.1.0, tt),
                    ),
                  ),
                ),
              ),
            ),
          ),
        ),
      ),
    ) c.read_fields.new.parser)
    (sym (to_z-of_z w32 f.1.1.1.1.1.0 held)) c.in_ok-id.ensures.read
