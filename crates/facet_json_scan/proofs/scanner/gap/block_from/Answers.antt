-- A slash after a star ends the comment, else the first mark from there on does; where none is found it goes on.
use Rattle.std.proofs.Common.{◌≡◌, ◌&&◌, ◌==◌, ◌⊎◌, inl, inr, ℕ, Bool, false, ap, subst, refl}
use Rattle.std.proofs.lemmas.Bool.{ne_eqb, and_right}
use Rattle.facet_format.specs.Bytes.{slash}
use Rattle.facet_json_token.specs.Gap.{jsonc}
use Rattle.facet_json_scan.specs.Scanner.{Describes, in_block}
use Rattle.facet_json_token.proofs.Offsets.{slice_get-from_read}
use Rattle.facet_json_scan.proofs.Segments.{between, between-all}
use Rattle.facet_json_scan.proofs.Pieces.PendingComment.{block-ends_here, block-ends, block-goes_on}
use Rattle.facet_json_scan.proofs.scanner.gap.block_from.Goals as goal

-- what the test for the end says where it fails
not_closed : (b : ℕ) (after_star : Bool) → ((b ≡ slash) × (after_star ≡ false)) ⊎ (b ≡ slash → ⊥) →
    after_star && (b == slash) ≡ false
not_closed b after_star (inl h) = ap (λ t. t && (b == slash)) h.1
not_closed b after_star (inr n) = and_right after_star (b == slash) (ne_eqb b slash n)

pub returns-in_default-clause-here : goal.returns-in_default-clause-here
returns-in_default-clause-here c = λ d.
    subst (Describes jsonc (in_block c.args.after_star)) (between-all c.args.buffer.now c.args.start c.args.at c.in_default.ensures.lookup.3) d

pub returns-then-after_star-clause-here : goal.returns-then-after_star-clause-here
returns-then-after_star-clause-here c = λ d.
    let buffer = c.args.buffer.now in
    let here = slice_get-from_read buffer c.args.at c.in-Some.first.now slash c.in-Some.ensures.lookup.3 c.if-first-eq47.true in
    block-ends_here buffer c.args.start c.args.at c.requires.order
    (subst (λ v. Describes jsonc (in_block v) (between buffer c.args.start c.args.at)) c.if-after_star.true d) here

pub returns-in-Some-block_end-clause-here : goal.returns-in-Some-block_end-clause-here
returns-in-Some-block_end-clause-here c = λ d.
    let buffer = c.args.buffer.now in
    let b = c.in-Some.first.now in
    let here = slice_get-from_read buffer c.args.at b b c.in-Some.ensures.lookup.3 refl in
    block-ends buffer c.args.start c.args.at c.in-Some-block_end.end b c.args.after_star c.requires.order here d
    (not_closed b c.args.after_star c.else-first-eq47.either) c.in-Some-block_end.ensures.end

pub returns-in-None-clause-here : goal.returns-in-None-clause-here
returns-in-None-clause-here c = λ d.
    let buffer = c.args.buffer.now in
    let b = c.in-Some.first.now in
    let here = slice_get-from_read buffer c.args.at b b c.in-Some.ensures.lookup.3 refl in
    block-goes_on buffer c.args.start c.args.at b c.args.after_star c.requires.order here d
    (not_closed b c.args.after_star c.else-first-eq47.either) c.in-None.ensures.end
