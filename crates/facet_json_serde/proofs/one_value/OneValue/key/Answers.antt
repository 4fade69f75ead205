use Rattle.std.proofs.Common.{rules}
use Rattle.std.specs.Prelude.{IsUtf8}
use Rattle.std.proofs.lemmas.Str.{is_utf8-from_IsUtf8}
use Rattle.facet_json_serde.proofs.BegunSteps.{served-goes_on, key-goes_on}
use Rattle.facet_json_serde.proofs.one_value.OneValue.key.Goals as goal

pub invariant_of-self : goal.invariant_of-self
invariant_of-self c =
    let utf8 : IsUtf8 c.args.key.now = search rules in
    record {
      begun = served-goes_on _ _ _ _ _ _ _ _ c.field_key.result _ c.in-Ok.is c.field_key.ensures.serves
          (key-goes_on _ _ _ (is_utf8-from_IsUtf8 _ utf8) c.in-Key.is) c.args.self.now.begun;
    }
