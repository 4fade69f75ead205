-- A blank is a piece of one byte, and another byte than a slash is none.
use Rattle.std.proofs.Common.{◌≡◌, ◌≢◌, [], drop, refl, sym, ap, ◌∙◌, subst, arith, Some}
use Rattle.std.proofs.lemmas.Bool.{ne_eqb}
use Rattle.std.proofs.lemmas.List.{drop_all}
use Rattle.std.proofs.lemmas.Option.{slice_get_within}
use Rattle.facet_format.specs.Bytes.{slash}
use Rattle.facet_json_token.specs.Gap.{plain, growing}
use Rattle.facet_json_token.specs.GapLen.{piece_len}
use Rattle.facet_json_token.specs.Open.{IsBeginning}
use Rattle.facet_json_token.specs.Views.{mode_of}
use Rattle.facet_json_token.proofs.Offsets.{drop-at_byte, slice_get-from_read}
use Rattle.facet_json_scan.proofs.NoPiece.{no_piece, slash_shut-plain}
use Rattle.facet_json_scan.proofs.scanner.gap.piece_from.Goals as goal
use Rattle.facet_json_token.proofs.Gaps.{piece_len-blank}

pub returns-in_default-clause-here : goal.returns-in_default-clause-here
returns-in_default-clause-here c =
    let buffer = c.args.buffer.now in
    let at = c.args.at in
    let nothing : drop at buffer ≡ [] = drop_all at buffer c.in_default.ensures.lookup.3 in (
      ap (piece_len (mode_of c.args.mode) growing) nothing,
      λ h i. absurd (omega (arith, c.in_default.ensures.lookup.3, slice_get_within buffer at slash h)),
    )

pub returns-then-is_space-clause-here : goal.returns-then-is_space-clause-here
returns-then-is_space-clause-here c =
    let buffer = c.args.buffer.now in
    let at = c.args.at in
    let b = c.in-Some.first.now in
    let here = slice_get-from_read buffer at b b c.in-Some.ensures.lookup.3 refl in
    let mode = mode_of c.args.mode in
    let one : piece_len mode growing (drop at buffer) ≡ 1 =
    ap (piece_len mode growing) (drop-at_byte buffer at b here)
    ∙ piece_len-blank mode growing b _ (sym c.is_space.ensures ∙ c.if-is_space.true) in
    omega arith

pub returns-then-first-ne47-clause-here : goal.returns-then-first-ne47-clause-here
returns-then-first-ne47-clause-here c =
    let buffer = c.args.buffer.now in
    let at = c.args.at in
    let b = c.in-Some.first.now in
    let here = slice_get-from_read buffer at b b c.in-Some.ensures.lookup.3 refl in
    let mode = mode_of c.args.mode in
    let no_slash : b ≢ slash = omega arith in (
      ap (piece_len mode growing) (drop-at_byte buffer at b here)
          ∙ no_piece mode growing b _ (sym c.is_space.ensures ∙ c.if-is_space.false) (ne_eqb b slash no_slash),
      λ h i. no_slash (let same : Some b ≡ Some slash = sym here ∙ h in cc),
    )

pub comment_from-requires : goal.comment_from-requires
comment_from-requires c =
    slice_get-from_read c.args.buffer.now c.args.at c.in-Some.first.now slash c.in-Some.ensures.lookup.3 (omega arith)

pub returns-in-Plain-clause-here : goal.returns-in-Plain-clause-here
returns-in-Plain-clause-here c =
    let buffer = c.args.buffer.now in
    let at = c.args.at in
    let here =
    slice_get-from_read buffer at c.in-Some.first.now slash c.in-Some.ensures.lookup.3 (omega arith) in
    let front = drop-at_byte buffer at slash here in
    let is : mode_of c.args.mode ≡ plain = ap mode_of c.in-Plain.is in (
      ap (λ m. piece_len m growing (drop at buffer)) is ∙ ap (piece_len plain growing) front,
      λ h i. slash_shut-plain _
          (subst (IsBeginning plain) front (subst (λ m. IsBeginning m (drop at buffer)) is i)),
    )
