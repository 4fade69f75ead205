-- Where no document goes on, tokens are refused in one way.
use Rattle.std.proofs.Common.{◌≡◌, ℕ, List, true, false, refl, sym, ap, ◌∙◌}
use Rattle.std.specs.Prelude.{is_some, slice_range}
use Rattle.facet_format.specs.Complaint.{Refusal}
use Rattle.facet_json_token.specs.Token.{Token}
use Rattle.facet_json_token.specs.Token as token
use Rattle.facet_json_token.specs.Tokens.{Tokens}
use Rattle.facet_json_token.specs.Fault.{FirstFault}
use Rattle.facet_json_token.proofs.FaultLaws.{one_fault}
use Rattle.facet_json_grammar.specs.Place.{Place}
use Rattle.facet_json_grammar.specs.Refusal.{is_number_kind, Complains, of_number, of_plain_string, of_escaped_string, IsStuck, at_end, at_fault, meaningless, misplaced}

module _ (buffer : List ℕ) where
  -- A token without a meaning is refused in one way.
  complains-once : {t : Token} {r s : Refusal} → Complains buffer t r → Complains buffer t s → r ≡ s
  complains-once (of_number n e) (of_number _ f) = e ∙ sym f
  complains-once (of_number n e) (of_plain_string start finish k f) = let no : true ≡ false = sym n ∙ ap is_number_kind k in cc
  complains-once (of_number n e) (of_escaped_string start finish g k is f) = let no : true ≡ false = sym n ∙ ap is_number_kind k in cc
  complains-once (of_plain_string start finish k e) (of_number n f) = let no : true ≡ false = sym n ∙ ap is_number_kind k in cc
  complains-once (of_plain_string start finish k e) (of_plain_string _ _ _ f) = e ∙ sym f
  complains-once (of_plain_string start finish k e) (of_escaped_string from to g j is f) =
      let no : token.string start finish false ≡ token.string from to true = sym k ∙ j in cc
  complains-once (of_escaped_string start finish g k is e) (of_number n f) = let no : true ≡ false = sym n ∙ ap is_number_kind k in cc
  complains-once (of_escaped_string start finish g k is e) (of_plain_string from to j f) =
      let no : token.string start finish true ≡ token.string from to false = sym k ∙ j in cc
  complains-once (of_escaped_string start finish g k is e) (of_escaped_string from to h j other f) =
      let same : token.string start finish true ≡ token.string from to true = sym k ∙ j in
      let first : from ≡ start = cc in
      let last : to ≡ finish = cc in
      let there : FirstFault (slice_range buffer start finish) h = rw (first, last) at other in
      let fault : g ≡ h = one_fault (slice_range buffer start finish) g h is there in
      rw (e, f, first, fault) refl

  -- At a place tokens are refused in one way.
  pub stuck-once : (place : Place) (ts : Tokens) (r s : Refusal) → IsStuck buffer place ts r → IsStuck buffer place ts s → r ≡ s
  stuck-once place _ _ _ (at_end _) (at_end _) = refl
  stuck-once place _ _ _ (at_fault _ f) (at_fault _ _) = refl
  stuck-once place _ _ _ (meaningless _ t rest _ needs none because) (meaningless _ _ _ _ _ _ because_too) =
      complains-once because because_too
  stuck-once place _ _ _ (meaningless _ t rest _ needs none because) (misplaced _ _ _ means never) =
      let no : true ≡ false = sym (means needs) ∙ ap is_some none in cc
  stuck-once place _ _ _ (misplaced _ t rest means never) (meaningless _ _ _ _ needs none because) =
      let no : true ≡ false = sym (means needs) ∙ ap is_some none in cc
  stuck-once place _ _ _ (misplaced _ t rest means never) (misplaced _ _ _ _ _) = refl
