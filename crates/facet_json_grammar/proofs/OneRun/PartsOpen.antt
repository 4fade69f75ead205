-- After a part that is skipped or captured those brackets are open that the tokens up to its end leave open.
use Rattle.std.proofs.Common.{◌≡◌, ℕ, List, Some, Result, Ok, refl, sym, subst, ◌∙◌}
use Rattle.facet_format.specs.Complaint.{Refusal}
use Rattle.facet_format.specs.Event.{ContainerKind, object}
use Rattle.facet_format.specs.Part.{Part, value, broken, key, closing, nothing, skip_of, capture_of}
use Rattle.facet_format.specs.Span.{stop}
use Rattle.facet_json_token.specs.Gap.{Mode}
use Rattle.facet_json_token.specs.Tokens.{Tokens, next}
use Rattle.facet_json_token.specs.TokenList.{tokens, tokens_from}
use Rattle.facet_json_token.proofs.TokensSteps.{tokens_from-others}
use Rattle.facet_json_grammar.specs.Future.{Stage, within, over}
use Rattle.facet_json_grammar.specs.Reader.{Reader}
use Rattle.facet_json_grammar.specs.Language.{Language, gaps, Rules, rules}
use Rattle.facet_json_grammar.specs.Place.{Place, led}
use Rattle.facet_json_grammar.specs.Unread.{HasColon, colon_stands, colon_missing, PartFrom, separator, a_value, a_broken_value, a_key, a_closing, none_of_them, PartIn, PartAt}
use Rattle.facet_json_grammar.proofs.Parts.BracketsOnWalk.{a_colon}
use Rattle.facet_json_grammar.proofs.Parts.PartsWithin.{captured-place}
use Rattle.facet_json_grammar.proofs.Parts.TokensAfterRuns.{tokens_from-run}
use Rattle.facet_json_grammar.proofs.OneRun.OpenBrackets.{Opens, container_of, innermost, StageOpen, StandsOpen, run-passed, separator-passed}
use Rattle.facet_json_grammar.proofs.OneRun.BracketTurns.{TurnsTo, turns, separator-open, key-open, closing-open}

module _ (buffer : List ℕ) (mode : Mode) where
  -- all tokens, and those from a position on
  abbrev all : Tokens
  all = tokens buffer mode

  abbrev left : ℕ → Tokens
  left position = tokens_from buffer mode position

  abbrev PlaceOpen : Reader → Type 0
  PlaceOpen s = StageOpen all s.stack s.stage (left (stop s.last))

  -- The place after the part, if there is one, has the brackets open that it remembers.
  abbrev LeadsOpen : Part Reader → Type 0
  LeadsOpen (value has start finish place) = PlaceOpen place
  LeadsOpen (broken r) = Unit {0}
  LeadsOpen (key start (Ok place)) = PlaceOpen place
  LeadsOpen (key start _) = Unit {0}
  LeadsOpen (closing start place) = PlaceOpen place
  LeadsOpen (nothing r) = Unit {0}

  -- A key and its colon leave the brackets open.
  colon-leads : (stack : List ContainerKind) (start from : ℕ) (ts : Tokens) (result : Result Reader Refusal) → Some object ≡ innermost stack →
      HasColon buffer stack ts result → left from ≡ ts → Opens all stack ts → LeadsOpen (key start result)
  colon-leads stack start from _ _ inside (colon_stands mark rest c) at opened =
      let after = tokens_from-others buffer mode from mark rest at in
      (subst (Opens all stack) (sym after) (separator-passed all object stack mark rest inside opened (a_colon mark.kind c)), inside)
  colon-leads stack start from _ _ inside (colon_missing _ r none) at opened = tt

  -- So does each part, up to the closing bracket that it is.
  part-leads : (by : Rules) (stack : List ContainerKind) (place : Place) (from : ℕ) (ts : Tokens) (part : Part Reader) →
      PartFrom buffer by stack place ts part → left from ≡ ts → Opens all stack ts → container_of place ≡ innermost stack → LeadsOpen part
  part-leads by stack place from _ part (separator _ other t rest _ e more) at opened inside =
      let w = subst (TurnsTo place t.kind) e (turns place t.kind) in
      let later = separator-open all stack place t rest inside opened by other w in
      part-leads by stack (led by other) (stop t.span) rest part more (tokens_from-others buffer mode from t rest at) later.0 later.1
  part-leads by stack place from _ _ (a_value _ t last rest others e run) at opened inside =
      let after = tokens_from-run buffer mode from (next t rest) others last run at in
      rw after (run-passed all stack (next t rest) others last opened run)
  part-leads by stack place from _ _ (a_broken_value _ t rest r e b) at opened inside = tt
  part-leads by stack place from _ _ (a_key _ t rest result e colon) at opened inside =
      let w = subst (TurnsTo place t.kind) e (turns place t.kind) in
      colon-leads stack t.span.offset (stop t.span) rest result (w.1 ∙ inside) colon (tokens_from-others buffer mode from t rest at)
      (key-open all stack place t rest inside opened w)
  part-leads by stack place from _ _ (a_closing _ t rest e) at opened inside =
      let after = tokens_from-others buffer mode from t rest at in
      rw after (closing-open all stack place t rest inside opened _ (turns place t.kind) e)
  part-leads by stack place from ts _ (none_of_them _ _ r none) at opened inside = tt

-- ---- from a place of an input

module _ (buffer : List ℕ) (language : Language) where
  stage-leads : (s : Reader) (stage : Stage) (part : Part Reader) → PartIn buffer language s stage part →
      StageOpen (all buffer (gaps language)) s.stack stage (left buffer (gaps language) (stop s.last)) → LeadsOpen buffer (gaps language) part
  stage-leads s over part is opened = rw is tt
  stage-leads s (within place) part is opened =
      part-leads buffer (gaps language) (rules language) s.stack place (stop s.last) _ part is refl opened.0 opened.1

  skip-leads : (part : Part Reader) (place : Reader) → LeadsOpen buffer (gaps language) part → skip_of part ≡ Ok place →
      StandsOpen buffer language place
  skip-leads (value has start finish there) place leads e = let same : there ≡ place = cc in subst (StandsOpen buffer language) same leads
  skip-leads (broken r) place leads e = cc
  skip-leads (key start (Ok there)) place leads e = let same : there ≡ place = cc in subst (StandsOpen buffer language) same leads
  skip-leads (key start _) place leads e = cc
  skip-leads (closing start there) place leads e = let same : there ≡ place = cc in subst (StandsOpen buffer language) same leads
  skip-leads (nothing r) place leads e = cc

  capture-leads : (part : Part Reader) (text : List ℕ) (place : Reader) → LeadsOpen buffer (gaps language) part →
      capture_of buffer part ≡ Ok (text, place) → StandsOpen buffer language place
  capture-leads (value has start finish there) text place leads e =
      subst (StandsOpen buffer language) (captured-place buffer start finish there place _ text _ e) leads
  capture-leads (broken r) text place leads e = cc
  capture-leads (key start result) text place leads e = cc
  capture-leads (closing start there) text place leads e = cc
  capture-leads (nothing r) text place leads e = cc

  -- The place after a skip has the brackets open that it remembers.
  pub skip-open : (s : Reader) (part : Part Reader) (place : Reader) → StandsOpen buffer language s → PartAt buffer language s part →
      skip_of part ≡ Ok place → StandsOpen buffer language place
  skip-open s part place opened stands is = skip-leads part place (stage-leads s s.stage part stands opened) is

  -- So has the place after a capture.
  pub capture-open : (s : Reader) (part : Part Reader) (text : List ℕ) (place : Reader) → StandsOpen buffer language s →
      PartAt buffer language s part → capture_of buffer part ≡ Ok (text, place) → StandsOpen buffer language place
  capture-open s part text place opened stands is = capture-leads part text place (stage-leads s s.stage part stands opened) is
