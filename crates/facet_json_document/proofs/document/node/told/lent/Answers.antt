use Rattle.std.proofs.Common.{◌≡◌, true, sym, subst}
use Rattle.facet_format.specs.Number.{float}
use Rattle.facet_format.specs.NumberParts.{is_number}
use Rattle.facet_json_tree.proofs.Utf8Text.{valued-is_number}
use Rattle.facet_json_document.proofs.document.node.told.lent.Goals as goal

pub of_number-requires : goal.of_number-requires
of_number-requires c =
    subst (λ text. is_number text float ≡ true) (sym c.as_str.ensures.text) (valued-is_number _ _ c.as_str.ensures.number)
