-- Which tokens stand behind a document's last one, and how they are refused.
use Rattle.std.proofs.Common.{◌≡◌, ℕ, ◌≤◌, Bool, true, false, cond, List, [], length, drop, Option, None, Some, refl, sym, ap, ◌∙◌, subst, arith, length-drop}
use Rattle.std.specs.Prelude.{Ok, Err}
use Rattle.std.proofs.lemmas.List.{drop_all}
use Rattle.facet_format.specs.Complaint.{Refusal}
use Rattle.facet_format.specs.Span.{Span, stop}
use Rattle.facet_json_token.specs.Gap.{Mode}
use Rattle.facet_json_token.specs.Token.{Kind}
use Rattle.facet_json_token.specs.Tokens.{Tokens, ended, refused, next}
use Rattle.facet_json_token.specs.TokenList.{tokens_from}
use Rattle.facet_json_token.specs.Cut.{Cut, nothing_left, fault, cut_here, past_gap, cut}
use Rattle.facet_json_token.specs.Cut as cuts
use Rattle.facet_json_token.proofs.ShapeIsCut.{CutShape, here_shape}
use Rattle.facet_json_token.proofs.TokensSteps.{by_first, tokens_by_first, tokens_from-nothing}
use Rattle.facet_json_grammar.specs.Future.{Future, finished, stuck, within, reads, reads_by, is_meaningless}
use Rattle.facet_json_grammar.specs.Language.{lenient, lenient_rules}
use Rattle.facet_json_grammar.specs.Place.{after_root, stops, place_turn}
use Rattle.facet_json_grammar.specs.Reader.{Reader, future_at}
use Rattle.facet_json_grammar.specs.Now.{RefusedAt}
use Rattle.facet_json_grammar.specs.Refusal.{IsStuck}
use Rattle.facet_json_grammar.specs.UnreadLaws.{RefusalWithin}
use Rattle.facet_json_grammar.proofs.Spans.EventsWithin.{refused-within}
use Rattle.facet_json_grammar.proofs.WalkComes.{reads-turn}
use Rattle.facet_json_reader.specs.declared.reader.Held.{Held}
use Rattle.facet_json_reader.specs.declared.reader.Reader.{Reader as RustReader}
use Rattle.facet_json_reader.specs.declared.refusal.Refused.{Refused}
use Rattle.facet_json_reader.specs.PlaceViews.{refused_of}
use Rattle.facet_json_reader.specs.Views.{stage_of, comes_at, coming, IsRefusedBefore, without_memory, at_a_stop, IsUpcoming}
use Rattle.facet_format.specs.Views.{span_of}
use Rattle.facet_json_document.specs.Inner.Checking.{IsStuckBehind}

module _ (text : List ℕ) (mode : Mode) (at to : ℕ) (is : to ≡ past_gap text at mode) where
  -- Nothing stands behind a gap up to the end.
  pub gap-ends : to ≡ length text → tokens_from text mode at ≡ ended
  unfolding cut cut_here
  gap-ends e =
      let none : drop to text ≡ [] = drop_all to text (omega (arith, e)) in
      tokens_from-nothing text at mode (ap (λ n. cut_here mode n (drop n text)) (sym is) ∙ ap (cut_here mode to) none)

  -- Something does behind another one.
  pub gap-more : to ≤ length text → (to ≡ length text → ⊥) → tokens_from text mode at ≡ ended → ⊥
  unfolding cut
  gap-more h more none = by (cut text at mode) refl (sym (tokens_by_first text mode at _ refl) ∙ none)
    where
      by : (c : Cut) → cut text at mode ≡ c → by_first text mode c ≡ ended → ⊥
      by nothing_left e f =
          let left : drop to text ≡ [] =
          subst (CutShape to (drop to text)) (ap (λ n. cut_here mode n (drop n text)) is ∙ e) (here_shape mode to (drop to text)) in
          more (omega (arith, h, length-drop to text, ap length left))
      by (fault g) e f = cc
      by (cuts.token t) e f = cc

-- ---- behind the root

turn-stops : (k : Kind) → place_turn after_root k ≡ stops
turn-stops k = refl

behind-stuck : (text : List ℕ) (ts : Tokens) → reads text [] (within after_root) ts ≡ stuck after_root ts
unfolding reads_by
behind-stuck text ended = refl
behind-stuck text (refused f) = refl
behind-stuck text (next t ts) = reads-turn lenient_rules text [] after_root t ts stops (by (is_meaningless text t))
  where
    by : (b : Bool) → cond b stops (place_turn after_root t.kind) ≡ stops
    by true = refl
    by false = turn-stops t.kind

module _ (text : List ℕ) (mode : Mode) (last : Span) (inside : stop last ≤ length text) where
  abbrev behind : Tokens
  behind = tokens_from text mode (stop last)

  abbrev reader : Reader
  reader = record { last = last; stack = []; stage = within after_root }

  comes : future_at text (lenient mode) reader ≡ stuck after_root behind
  comes = behind-stuck text behind

  before_by : (f : Future) (before : Span) (r : Refusal) → IsRefusedBefore text before f r → f ≡ stuck after_root behind → IsStuck text after_root behind r
  before_by _ before _ (without_memory p future takes) e = cc
  before_by _ before r (at_a_stop place rest _ so) e =
      let here : place ≡ after_root = cc in
      let left : rest ≡ behind = cc in
      rw (← here, ← left) so

  pub stuck-within : (r : Refusal) → IsStuck text after_root behind r → RefusalWithin text r
  stuck-within r so = refused-within text (lenient mode) reader r inside (subst (λ f. RefusedAt text f r) (sym comes) so)

  -- ---- what a reader there answers

  module _ (r : RustReader) (no_containers : r.contexts ≡ []) (at_root : stage_of r.stage ≡ within after_root) (there : span_of r.last ≡ last) where
    coming-stuck : coming text (lenient mode) r ≡ stuck after_root behind
    coming-stuck =
        ap (λ s. comes_at text (lenient mode) s (stage_of r.stage) (stop (span_of r.last))) no_containers
        ∙ ap (λ s. comes_at text (lenient mode) [] s (stop (span_of r.last))) at_root
        ∙ ap (λ s. comes_at text (lenient mode) [] (within after_root) (stop s)) there ∙ comes

    pub upcoming-refuses : (o : Option Held) → IsUpcoming text (lenient mode) r (Ok o) → ⊥
    upcoming-refuses None e = let bad : stuck after_root behind ≡ finished = sym coming-stuck ∙ e in cc
    upcoming-refuses (Some h) (rest, e) = let bad = sym coming-stuck ∙ e in cc

    pub upcoming-refused : (e : Refused) → IsUpcoming text (lenient mode) r (Err e) → (behind ≡ ended → ⊥) → IsStuckBehind text behind (refused_of e)
    upcoming-refused e was some = record { some = some; so = before_by _ (span_of r.last) (refused_of e) was coming-stuck }
