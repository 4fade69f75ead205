-- Texts in which an escape stands.
use Rattle.std.proofs.Common.{◌≡◌, ℕ, suc, ◌+◌, ◌-◌, ◌<◌, Bool, true, false, List, Option, Some, None, take, drop, slice_get, slice_range, refl, sym, subst, ap, ap₂, ◌∙◌, arith}
use Rattle.std.specs.Prelude.{IfOk, IsSome, Result, Ok, Err, is_ok}
use Rattle.std.specs.Option.{option_map}
use Rattle.std.proofs.lemmas.Option.{slice_get_within}
use Rattle.facet_format.specs.Bytes.{quote}
use Rattle.facet_format.specs.Event.{Event, owned, text}
use Rattle.facet_format.specs.Span.{Span, stop, span_at}
use Rattle.facet_json_token.specs.Cut.{content_len, cut_here, cut_text, has_backslash, opens_text, start_of, token, token_at}
use Rattle.facet_json_token.specs.Decoded.{decoded}
use Rattle.facet_json_token.specs.Gap.{Mode, plain}
use Rattle.facet_json_token.specs.Token.{Token, string}
use Rattle.facet_json_token.proofs.FirstBytes.{cut_here-by}
use Rattle.facet_json_grammar.specs.Language.{Language}
use Rattle.facet_json_grammar.specs.StrictTokens.{Allows}
use Rattle.facet_json_grammar.specs.Tree as tree
use Rattle.facet_json_reader.specs.Inner.InSight.{TakesScalar, TakesText}
use Rattle.facet_json_reader.specs.Values.{IsEscapedAt}
use Rattle.facet_json_token.specs.declared.token.SpannedToken.{SpannedToken}
use Rattle.facet_json_token.specs.declared.token.Token.TheVariants as code
use Rattle.facet_json_token.specs.Views.{cut_of, token_answer}
use Rattle.facet_format.specs.Views.{span_of}
use Rattle.facet_json_reader.proofs.TokensThere.{there-fits}

-- In each mode a string is cut so where its quote stands.
text-here : (mode : Mode) (buffer : List ℕ) (at : ℕ) → slice_get buffer at ≡ Some quote →
    cut_here mode at (drop at buffer) ≡ cut_text at (drop (at + 1) buffer) (content_len false (drop (at + 1) buffer))
unfolding start_of
text-here mode buffer at here = sym (cut_here-by mode buffer at quote opens_text here refl)

-- A string that is cut ends so.
string-cut : (at start finish : ℕ) (escaped : Bool) (span : Span) (bytes : List ℕ) (o : Option ℕ) →
    token (record { kind = string start finish escaped; span = span }) ≡ cut_text at bytes o →
    (cut_text at bytes o ≡ token_at (string (at + 1) finish escaped) at ((finish + 1) - at)) × (at < finish)
string-cut at start finish escaped span bytes None e = cc
string-cut at start finish escaped span bytes (Some n) e =
    let there : Token = record { kind = string start finish escaped; span = span } in
    let kind = string (suc at) (suc at + n) (has_backslash (take n bytes)) in
    let here : Token = record { kind = kind; span = span_at at (suc (suc n)) } in
    let same : there ≡ here = cc in
    let kinds : string start finish escaped ≡ kind = ap (λ (t : Token). t.kind) same in
    let ends : finish ≡ suc at + n = cc in
    let marks : escaped ≡ has_backslash (take n bytes) = cc in
    let begins : suc at ≡ at + 1 = omega arith in
    let long : suc (suc n) ≡ (finish + 1) - at = omega (arith, ends) in (
      ap₂ (λ k l. token_at k at l) (ap₂ (λ s f. string s f (has_backslash (take n bytes))) begins (sym ends) ∙ ap (string (at + 1) finish) (sym marks)) long,
      omega (arith, ends),
    )

escaped-there : (buffer : List ℕ) (at start finish : ℕ) (span : Span) → slice_get buffer at ≡ Some quote →
    Some (token (record { kind = string start finish true; span = span })) ≡ Some (cut_here plain at (drop at buffer)) → IsEscapedAt buffer at finish
escaped-there buffer at start finish span here e =
    let rest = drop (at + 1) buffer in
    let found = content_len false rest in
    let first : token (record { kind = string start finish true; span = span }) ≡ cut_here plain at (drop at buffer) = cc in
    let cut = string-cut at start finish true span rest found (first ∙ text-here plain buffer at here) in
    let fits = there-fits plain buffer at ((finish + 1) - at) (string (at + 1) finish true) (omega (arith, slice_get_within buffer at quote here))
    (text-here plain buffer at here ∙ cut.0) in
    record {
      cut = λ mode. text-here mode buffer at here ∙ cut.0;
      ordered = cut.1;
      within = omega (arith, cut.1, fits.within);
    }

-- Where a string with an escape is cut, its quotes stand.
pub escaped-cut : (buffer : List ℕ) (at start finish : ℕ) (escaped : Bool) (t : SpannedToken) → slice_get buffer at ≡ Some quote →
    cut_of (Ok t) ≡ Some (cut_here plain at (drop at buffer)) → t.token ≡ code.String start finish escaped → escaped ≡ true → IsEscapedAt buffer at finish
escaped-cut buffer at start finish escaped t here cut is mark =
    let string_there : t.token ≡ code.String start finish true = is ∙ ap (code.String start finish) mark in
    escaped-there buffer at start finish (span_of t.span) here (ap (token_answer t.span) (sym string_there) ∙ cut)

-- Where its text is taken, a scalar is.
pub escaped-taken : {T : Type 0} (takes : Option Event → T → T → Type 0) (buffer : List ℕ) (language : Language) (at finish : ℕ) (span : Span) (x y : T) →
    IsEscapedAt buffer at finish → ((s : Span) → Allows language buffer (record { kind = string (at + 1) finish true; span = s })) → span ≡ span_at at ((finish + 1) - at) → TakesText takes buffer span x y →
    TakesScalar takes buffer language at ((finish + 1) - at) x y
escaped-taken takes buffer language at finish span x y is allowed whole taken =
    let one = subst (λ s. TakesText takes buffer s x y) whole taken in
    let ends : (at + ((finish + 1) - at)) - 1 ≡ finish = omega (arith, is.ordered) in
    let means : decoded (slice_range buffer (at + 1) finish) ≡ Some one.text = ap (λ e. decoded (slice_range buffer (at + 1) e)) (sym ends) ∙ one.means in
    record {
      is = record {
        value = text (owned one.text);
        there = record {
          kind = string (at + 1) finish true;
          meant = tree.text one.text;
          cut = is.cut;
          scalar = refl;
          means = ap (option_map tree.text) means;
          read = refl;
        };
        allowed = allowed _;
      };
      taken = one.taken;
    }

-- Where nothing is kept, a text is taken that is there.
some-told : {T : Type 0} (buffer : List ℕ) (span : Span) (x y : T) (o : Option (List ℕ)) → o ≡ decoded (slice_range buffer (span.offset + 1) (stop span - 1)) →
    IsSome o → TakesText (λ _ _ _. Unit {0}) buffer span x y
some-told buffer span x y None e some = cc
some-told buffer span x y (Some t) e some = record { text = t; means = sym e; taken = tt }

pub text-told : {T X E : Type 0} (buffer : List ℕ) (span : Span) (finish : ℕ) (x y : T) (answer : Result X E) → is_ok answer ≡ true → finish ≡ stop span →
    IfOk answer (λ _. IsSome (decoded (slice_range buffer (span.offset + 1) (finish - 1)))) → TakesText (λ _ _ _. Unit {0}) buffer span x y
text-told buffer span finish x y (Ok v) done ends some =
    some-told buffer span x y (decoded (slice_range buffer (span.offset + 1) (stop span - 1))) refl
    (subst (λ f. IsSome (decoded (slice_range buffer (span.offset + 1) (f - 1)))) ends some)
text-told buffer span finish x y (Err e) done ends some = cc
