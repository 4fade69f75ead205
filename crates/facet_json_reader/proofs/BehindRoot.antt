-- What stands behind the root, where RFC 8259 alone is read.
use Rattle.std.proofs.Common.{◌≡◌, ◌≤◌, ℕ, false, List, length, Option, Some, None, Ok, Err, refl, ap, ◌∙◌}
use Rattle.facet_json_token.specs.declared.token.Token.TheVariants as code
use Rattle.facet_json_token.specs.declared.token.SpannedToken.{SpannedToken}
use Rattle.facet_json_token.specs.declared.fault.Fault.{Fault as RustFault}
use Rattle.facet_json_reader.specs.declared.place.Place.TheVariants as places
use Rattle.facet_json_reader.specs.declared.place.Turn.TheVariants as turns
use Rattle.facet_format.specs.Complaint.{Refusal}
use Rattle.facet_format.specs.Span.{Span}
use Rattle.facet_format.specs.Views.{span_of}
use Rattle.facet_json_token.specs.Gap.{Mode}
use Rattle.facet_json_token.specs.Token.{Kind}
use Rattle.facet_json_token.specs.Tokens.{Tokens, refused, next}
use Rattle.facet_json_token.specs.Views.{kind_of, cut_of, told_refusal}
use Rattle.facet_json_grammar.specs.Future.{finished, behind_root}
use Rattle.facet_json_grammar.specs.Language.{strict, strict_rules}
use Rattle.facet_json_grammar.specs.Place.{after_root, goes_on}
use Rattle.facet_json_grammar.specs.Refusal.{at_fault}
use Rattle.facet_json_grammar.specs.StrictTokens.{tokens_in, cut_in}
use Rattle.facet_json_reader.specs.PlaceViews.{turn_of, turn_by}
use Rattle.facet_json_reader.proofs.CutsAtPlaces.{is_refused}
use Rattle.facet_json_reader.proofs.StoppingTokens.{none-at_end, stopped-at_place}
use Rattle.facet_json_reader.specs.Views.{StopsAt, IsRefusedBefore, at_a_stop}

nowhere : (o : Option Kind) → turn_of turns.Stops ≡ turn_by after_root o
nowhere None = refl
nowhere (Some k) = refl

module _ (buffer : List ℕ) (mode : Mode) (position : ℕ) (last : Span) (room : position ≤ length buffer) where
  -- The end.
  pub end-behind : (t : SpannedToken) → cut_of (Ok t) ≡ Some (cut_in (strict mode) buffer position) → t.token ≡ code.Eof →
      behind_root strict_rules (tokens_in (strict mode) buffer position) ≡ finished
  end-behind t h e = ap (behind_root strict_rules) (none-at_end buffer position (strict mode) t room h e)

  -- A fault.
  pub fault-behind : (e : RustFault) (r : Refusal) → cut_of (Err e) ≡ Some (cut_in (strict mode) buffer position) →
      r ≡ told_refusal e → IsRefusedBefore buffer last (behind_root strict_rules (tokens_in (strict mode) buffer position)) r
  fault-behind e r h p =
      let f = is_refused buffer position (strict mode) e room h in
      let told = p ∙ f.passed_on in
      let there = f.tokens in
      rw (there, told) (at_a_stop after_root (refused f.what) _ (at_fault after_root f.what))

  -- A token.
  pub token-behind : (t : SpannedToken) (r : Refusal) → cut_of (Ok t) ≡ Some (cut_in (strict mode) buffer position) → (t.token ≡ code.Eof → ⊥) →
      ((kind : Kind) (rest : Tokens) → kind_of t.token ≡ Some kind → goes_on after_root kind ≡ false →
      StopsAt buffer after_root (next (record { kind = kind; span = span_of t.span }) rest) r) →
      IsRefusedBefore buffer last (behind_root strict_rules (tokens_in (strict mode) buffer position)) r
  token-behind t r h not_end at_token =
      stopped-at_place buffer position (strict mode) t places.AfterRoot (λ ts. IsRefusedBefore buffer last (behind_root strict_rules ts) r) room h
      (nowhere (kind_of t.token)) (λ e. absurd (not_end e))
      (λ kind rest k never. at_a_stop after_root _ r (at_token kind rest k never))
