-- What is found is answered, and kept if it is open.
use Rattle.std.proofs.Common.{rules, ◌≡◌, length, drop, IfErr, sym, ap, subst}
use Rattle.facet_json_scan.specs.Scanner.{GoesOnFrom, Describes, idle, waiting, past_growing_gap, Gives}
use Rattle.facet_json_token.specs.Views.{mode_of}
use Rattle.facet_json_scan.specs.ScannerViews.{answered}
use Rattle.facet_json_scan.specs.Inner.Found.{state_of, position_after}
use Rattle.facet_json_scan.proofs.OpenNeedsMore.{gives-open}
use Rattle.facet_json_scan.proofs.Refusals.{more-no_refusal, gives-refused}
use Rattle.facet_json_scan.proofs.scanner.Scanner.next_token.Goals as goal

pub returns-in-Open-clause-token : goal.returns-in-Open-clause-token
returns-in-Open-clause-token c = λ p g.
    let buffer = c.args.buf.now in
    let start = c.in-Open.start in
    let state = state_of c.in-Open.state in
    let mode = ap (λ s. s.mode) c.self.view_is in
    let from = subst (λ s. GoesOnFrom s buffer p) (sym c.self.view_is) g in
    let found =
    subst (λ m. (start ≡ past_growing_gap buffer p m) × Describes m state (drop (past_growing_gap buffer p m) buffer))
    mode (c.in-Open.ensures.here p from) in
    gives-open buffer p start c.args.self.now.mode state _ _ found c.needs_more.ensures.token
    (ap (λ m. waiting (length buffer) m start state) mode)

pub invariant_of-self-in-Answer : goal.invariant_of-self-in-Answer
invariant_of-self-in-Answer c = search rules

pub returns-in-Answer-clause-token : goal.returns-in-Answer-clause-token
returns-in-Answer-clause-token c = search rules

pub returns-in-Answer-clause-idle : goal.returns-in-Answer-clause-idle
returns-in-Answer-clause-idle c = search rules

pub returns-in-Open-clause-refusal : goal.returns-in-Open-clause-refusal
returns-in-Open-clause-refusal c = more-no_refusal c.needs_more.result _ _ _ c.needs_more.ensures.token

pub returns-in-Answer-clause-refusal : goal.returns-in-Answer-clause-refusal
returns-in-Answer-clause-refusal c =
    let buffer = c.args.buf.now in
    let r = c.in-Answer.result in
    let inside = mode_of c.self.inside.mode in
    let p = position_after c.in-Answer.start r in
    subst (λ n. IfErr r (λ _. Gives buffer n c.args.self.now.mode (answered r) (idle n inside)))
    (sym c.stands_after-self-inside.ensures)
    (subst (λ m. IfErr r (λ _. Gives buffer p m (answered r) (idle p inside))) (ap (λ s. s.mode) c.self.view_is)
    (gives-refused buffer c.in-Answer.start inside r c.in-Answer.ensures.refusal))

pub returns-in-Answer-clause-position : goal.returns-in-Answer-clause-position
returns-in-Answer-clause-position c = search rules

pub returns-in-Answer-clause-span : goal.returns-in-Answer-clause-span
returns-in-Answer-clause-span c = search rules

pub returns-in-Answer-clause-indices : goal.returns-in-Answer-clause-indices
returns-in-Answer-clause-indices c = search rules

pub returns-in-Answer-clause-mode : goal.returns-in-Answer-clause-mode
returns-in-Answer-clause-mode c = search rules
