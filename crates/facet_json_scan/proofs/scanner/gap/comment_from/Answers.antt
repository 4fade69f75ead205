-- The byte after the slash says which comment it is.
use Rattle.std.proofs.Common.{◌≡◌, ◌≢◌, ℕ, ◌+◌, ◌<◌, List, [], ◌∷◌, length, get_or, slice_get, Some, drop, false, refl, sym, ap, ◌∙◌, subst, arith}
use Rattle.std.proofs.lemmas.List.{drop_all}
use Rattle.facet_format.specs.Bytes.{slash, star}
use Rattle.facet_json_token.specs.Gap.{jsonc, growing, OpensBlock, OpensLine}
use Rattle.facet_json_token.specs.GapLen.{piece_len}
use Rattle.facet_json_token.specs.Open.{IsBeginning}
use Rattle.facet_json_scan.specs.Scanner.{State, Describes, after_slash, in_block, in_line}
use Rattle.facet_json_token.proofs.Offsets.{drop-at_byte, slice_get-from_read}
use Rattle.facet_json_scan.proofs.Segments.{between, between-two}
use Rattle.facet_json_scan.proofs.NoPiece.{slash_shut-jsonc, no_comment}
use Rattle.facet_json_scan.proofs.scanner.gap.comment_from.Goals as goal

-- a slash and the byte after it begin the comment
begun : (state : State) (buffer : List ℕ) (at x b : ℕ) → slice_get buffer at ≡ Some slash →
    (at + 1 < length buffer) × ((d : ℕ) → x ≡ get_or buffer (at + 1) d) → x ≡ b → Describes jsonc state (slash ∷ b ∷ []) →
    Describes jsonc state (between buffer at (at + 2))
begun state buffer at x b first read is described =
    let second = slice_get-from_read buffer (at + 1) x b read is in
    subst (Describes jsonc state) (sym (between-two buffer at slash b first second)) described

pub returns-in_default-clause-here : goal.returns-in_default-clause-here
returns-in_default-clause-here c =
    let buffer = c.args.buffer.now in
    let at = c.args.at in
    let front : drop at buffer ≡ slash ∷ [] =
    drop-at_byte buffer at slash c.requires
    ∙ ap (λ l. slash ∷ l) (drop_all (at + 1) buffer c.in_default.ensures.lookup.3) in
    subst (Describes jsonc after_slash) (sym front) Describes.slash_alone

pub returns-in-42-clause-here : goal.returns-in-42-clause-here
returns-in-42-clause-here c =
    c.block_from.ensures.here
    (begun (in_block false) c.args.buffer.now c.args.at c.in-Some.second.now star c.requires c.in-Some.ensures.lookup.3 c.in-42.is
    (Describes.block [] false OpensBlock.nothing refl))

pub returns-in-47-clause-here : goal.returns-in-47-clause-here
returns-in-47-clause-here c =
    c.line_from.ensures.here
    (begun in_line c.args.buffer.now c.args.at c.in-Some.second.now slash c.requires c.in-Some.ensures.lookup.3 c.in-47.is
    (Describes.line [] OpensLine.nothing))

pub returns-in_default-second-clause-here : goal.returns-in_default-second-clause-here
returns-in_default-second-clause-here c =
    let buffer = c.args.buffer.now in
    let at = c.args.at in
    let b = c.in-Some.second.now in
    let second = slice_get-from_read buffer (at + 1) b b c.in-Some.ensures.lookup.3 refl in
    let rest = drop ((at + 1) + 1) buffer in
    let front : drop at buffer ≡ slash ∷ b ∷ rest =
    drop-at_byte buffer at slash c.requires ∙ ap (λ l. slash ∷ l) (drop-at_byte buffer (at + 1) b second) in
    let no_star : b ≢ star = omega arith in
    let no_slash : b ≢ slash = omega arith in (
      ap (piece_len jsonc growing) front ∙ no_comment b rest no_star no_slash,
      λ here i. slash_shut-jsonc b rest no_star no_slash (subst (IsBeginning jsonc) front i),
    )
