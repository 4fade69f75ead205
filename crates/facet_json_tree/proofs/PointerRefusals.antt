-- What a refusal of a pointer says shows that the text is none.
use Rattle.std.proofs.Common.{List, ℕ}
use Rattle.facet_json_tree.specs.PointerViews.{IsWrongAt, RefusesPointer}
use Rattle.facet_json_tree.specs.declared.pointer_error.PointerError.{PointerError}
use Rattle.facet_json_tree.specs.declared.pointer_error.PointerError.TheVariants.{NoSlash, LoneTilde}
use Rattle.facet_json_tree.proofs.Pointers.{no_pointer-begins, no_pointer-lone}

pub refuses : (text : List ℕ) (error : PointerError) → IsWrongAt text error → RefusesPointer text error
refuses text NoSlash at = record { none = no_pointer-begins text at; at = at }
refuses text (LoneTilde i) at = record { none = no_pointer-lone text i at.1; at = at }
