-- What is first beyond from a position on, by what is cut there.
use Rattle.std.proofs.Common.{◌≡◌, ◌≢◌, ◌≤◌, ◌<◌, ℕ, List, length, Option, None, Some, Ok, Err, refl, sym, ap, ◌∙◌}
use Rattle.facet_format.specs.Span.{Span, stop}
use Rattle.facet_format.specs.Views.{span_of}
use Rattle.facet_json_token.specs.Cut.{cut}
use Rattle.facet_json_token.specs.Gap.{Mode}
use Rattle.facet_json_token.specs.Token.{Kind, Fault}
use Rattle.facet_json_token.specs.Tokens.{ended, refused}
use Rattle.facet_json_token.specs.TokenList.{tokens_from}
use Rattle.facet_json_token.specs.Views.{kind_of, cut_of}
use Rattle.facet_json_token.specs.declared.token.SpannedToken.{SpannedToken}
use Rattle.facet_json_token.specs.declared.fault.Fault.{Fault as RustFault}
use Rattle.facet_json_grammar.specs.Language.{lenient}
use Rattle.facet_json_reader.proofs.CutsAtPlaces.{ends, stands, is_cut, is_refused}
use Rattle.facet_json.specs.declared.nesting.Passed.{Passed}
use Rattle.facet_json.specs.declared.nesting.Passed.TheVariants as passed
use Rattle.facet_json.specs.Nesting.{bracket_of}
use Rattle.facet_json.specs.Inner.Nested.{beyond_at, tokens_beyond, beyond_after}
use Rattle.facet_json.proofs.NestedValues.{at-first}

-- Nothing is beyond where no token is left.
none-ended : (around room : ℕ) → tokens_beyond ended around room ≡ None
unfolding tokens_beyond
none-ended around room = refl

none-refused : (f : Fault) (around room : ℕ) → tokens_beyond (refused f) around room ≡ None
unfolding tokens_beyond
none-refused f around room = refl

module _ (buffer : List ℕ) (mode : Mode) (position around room : ℕ) (inside : position ≤ length buffer) where
  -- After a token: what that leads to.
  pub beyond-token : (t : SpannedToken) → cut_of (Ok t) ≡ Some (cut buffer position mode) → (after : Passed) →
      ((kind : Kind) (span : Span) (others : ℕ → ℕ → Option Span) → kind_of t.token ≡ Some kind →
      beyond_at (bracket_of kind) span others around room ≡ beyond_after after span others) →
      (kind_of t.token ≡ None → after ≡ passed.Over) →
      tokens_beyond (tokens_from buffer mode position) around room
      ≡ beyond_after after (span_of t.span) (tokens_beyond (tokens_from buffer mode (stop (span_of t.span))))
  beyond-token t e after turns over =
      let others = tokens_beyond (tokens_from buffer mode (stop (span_of t.span))) in
      elim (is_cut buffer position (lenient mode) t inside e) [
        | ends is_end none ↦
            ap (λ ts. tokens_beyond ts around room) none ∙ none-ended around room
            ∙ ap (λ a. beyond_after a (span_of t.span) others) (sym (over (ap kind_of is_end)))
        | stands s ↦
            ap (λ ts. tokens_beyond ts around room) s.tokens ∙ at-first _ _ around room ∙ turns s.kind (span_of t.span) others s.is_kind
      ]

  -- At a fault nothing is.
  pub beyond-fault : (f : RustFault) → cut_of (Err f) ≡ Some (cut buffer position mode) →
      tokens_beyond (tokens_from buffer mode position) around room ≡ None
  beyond-fault f e =
      let r = is_refused buffer position (lenient mode) f inside e in
      ap (λ ts. tokens_beyond ts around room) r.tokens ∙ none-refused r.what around room

  -- A token where the value goes on, or that is beyond, stands behind the position and within the buffer.
  pub token-counts : (t : SpannedToken) → cut_of (Ok t) ≡ Some (cut buffer position mode) → (after : Passed) →
      (kind_of t.token ≡ None → after ≡ passed.Over) → after ≢ passed.Over →
      (position < stop (span_of t.span)) × (stop (span_of t.span) ≤ length buffer)
  token-counts t e after over goes =
      elim (is_cut buffer position (lenient mode) t inside e) [
        | ends is_end none ↦ absurd (goes (over (ap kind_of is_end)))
        | stands s ↦ (s.past, s.within)
      ]
