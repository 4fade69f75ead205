-- A value that is passed from the start of an input is the balanced run that the input begins with, and ends where the parser stands.
use Rattle.std.proofs.Common.{◌≡◌, ◌<◌, ◌≤◌, ℕ, List, length, arith, ap, sym, subst}
use Rattle.facet_format.specs.Cursor.{current_span}
use Rattle.facet_format.specs.Span.{stop}
use Rattle.facet_json_token.specs.Gap.{Mode}
use Rattle.facet_json_token.specs.Token.{Kind, Token}
use Rattle.facet_json_token.specs.Token as token
use Rattle.facet_json_token.specs.Tokens.{Tokens, next}
use Rattle.facet_json_token.specs.TokenList.{tokens}
use Rattle.facet_json_grammar.specs.Language.{lenient_rules}
use Rattle.facet_json_grammar.specs.Place.{Place, root, passes, place_turn}
use Rattle.facet_json_grammar.specs.Run.{Run}
use Rattle.facet_json_grammar.specs.Now.{Now, fresh, on_input, current_span_of}
use Rattle.facet_json_grammar.specs.SkipLaws.{GoesOnWith, with_value, after_separator}
use Rattle.facet_json_grammar.proofs.Parts.PartsWithin.{run-ahead}
use Rattle.facet_json_grammar.proofs.TokensInOrder.{tokens-in_order}
use Rattle.facet_json_core.specs.Meaning.OneValue.{PassesValue}
use Rattle.facet_json_facet.specs.Inputs.{BeginsWithRun, BeginsWithRunTo}

-- No separator stands before the root.
no-separator : (k : Kind) (other : Place) → place_turn root k ≡ passes other → ⊥
no-separator token.object_start other e = cc
no-separator _ other e = cc

-- So its run stands first.
root-first : (ts : Tokens) (first last : Token) (others rest : Tokens) → GoesOnWith lenient_rules root ts first others →
    Run (next first others) last rest → Run ts last rest
root-first _ first last others rest (with_value _ _ _ b) run = run
root-first _ first last others rest (after_separator _ other t _ ts _ e more) run = absurd (no-separator t.kind other e)

pub ends-from : (input : List ℕ) (mode : Mode) (old new : Now) → old ≡ fresh input mode → PassesValue old new →
    BeginsWithRunTo input mode (stop (current_span_of new))
ends-from input mode old new is_new value =
    let v = subst (λ now. PassesValue now new) is_new value in
    let stage = v.before.stage in
    let at_root : v.before.place ≡ root = cc in
    let goes = subst (λ place. GoesOnWith lenient_rules place (tokens input mode) v.first v.others) at_root v.before.value in
    let ends : current_span_of new ≡ v.passed.last.span = ap (current_span (on_input new.buffer new.language)) v.passed.there in
    (v.passed.last, v.passed.rest, root-first (tokens input mode) v.first v.passed.last v.others v.passed.rest goes v.passed.run, ap stop (sym ends))

pub begins-from : (input : List ℕ) (mode : Mode) (old new : Now) → old ≡ fresh input mode → PassesValue old new → BeginsWithRun input mode
begins-from input mode old new is_new value =
    let run = ends-from input mode old new is_new value in (run.0, run.1, run.2)

-- It ends behind its first byte, and within the input.
pub ends-within : (input : List ℕ) (mode : Mode) (end : ℕ) → BeginsWithRunTo input mode end → (0 < end) × (end ≤ length input)
ends-within input mode end to =
    let ahead = run-ahead input 0 (tokens input mode) to.1 to.0 to.2 (tokens-in_order input mode 0 (omega arith)) in
    rw (← to.3) (ahead.behind, ahead.inside)
