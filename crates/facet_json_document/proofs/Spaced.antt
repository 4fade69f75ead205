-- White space that is appended.
use Rattle.std.proofs.Common.{◌≡◌, ℕ, List, [], ◌∷◌, ◌++◌, refl, sym, ◌∙◌, append-nil, append_assoc}
use Rattle.facet_format.specs.Bytes as bytes
use Rattle.facet_format.specs.Bytes.{line_feed}
use Rattle.facet_json_document.specs.declared.spacing.Space.TheVariants as space
use Rattle.facet_json_document.specs.Inner.Layout.{IsIndented, IsSpaced}

pub spaced-none : (out : List ℕ) → IsSpaced space.None out out
spaced-none out = record { by = record { spaces = []; blank = refl; appended = sym (append-nil out) }; begins = refl }

pub spaced-blank : (old new : List ℕ) → new ≡ old ++ bytes.space ∷ [] → IsSpaced space.Blank old new
spaced-blank old new e = record { by = record { spaces = bytes.space ∷ []; blank = refl; appended = e }; begins = refl }

pub spaced-line : (old new : List ℕ) → IsIndented (old ++ line_feed ∷ []) new → IsSpaced space.Line old new
spaced-line old new h = record {
  by = record { spaces = line_feed ∷ h.spaces; blank = h.blank; appended = h.appended ∙ append_assoc old (line_feed ∷ []) h.spaces };
  begins = (h.spaces, refl);
}

pub spaced-empty_line : (old new : List ℕ) → IsIndented (old ++ line_feed ∷ line_feed ∷ []) new → IsSpaced space.EmptyLine old new
spaced-empty_line old new h = record {
  by = record { spaces = line_feed ∷ line_feed ∷ h.spaces; blank = h.blank; appended = h.appended ∙ append_assoc old (line_feed ∷ line_feed ∷ []) h.spaces };
  begins = (line_feed ∷ h.spaces, refl);
}
