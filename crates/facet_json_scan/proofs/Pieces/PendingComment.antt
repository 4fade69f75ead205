-- A comment that the end of a buffer cuts, and how it goes on.
use Rattle.std.proofs.Common.{get_or, ◌≡◌, ℕ, suc, ◌+◌, ◌-◌, ◌<◌, ◌≤◌, Bool, true, false, cond, ◌==◌, ◌&&◌, List, [], ◌∷◌, ◌++◌, length, drop, slice_get, Option, Some, None, refl, sym, ap, ◌∙◌, subst, arith}
use Rattle.std.specs.Option.{option_map}
use Rattle.std.proofs.lemmas.List.{get_or-drop, length-drop}
use Rattle.std.proofs.lemmas.Option.{slice_get_within}
use Rattle.facet_format.specs.Bytes.{slash, star}
use Rattle.facet_json_token.specs.Gap.{jsonc, growing, OpensBlock, OpensLine}
use Rattle.facet_json_token.specs.GapLen.{one_more, through_block_end, through_line_end, with_mark, with_line_mark, piece_len}
use Rattle.facet_json_scan.specs.Scanner.{in_line, in_block, ends_in_star, Describes}
use Rattle.facet_json_token.proofs.Offsets.{drop-at_byte, option_map-none}
use Rattle.facet_json_scan.proofs.Growth.GrowthOfGap.{opens_block, opens_line}
use Rattle.facet_json_scan.proofs.Segments.{between, between-length, between-rest}

-- ---- a line comment

-- A line goes on after bytes that hold no line feed.
opens_line-append : (body rest : List ℕ) → OpensLine body → OpensLine rest → OpensLine (body ++ rest)
opens_line-append _ rest OpensLine.nothing k = k
opens_line-append _ rest (OpensLine.more b body e h) k = OpensLine.more b _ e (opens_line-append body rest h k)

-- Its end is found after them.
line_end-append : (body rest : List ℕ) (n : ℕ) → OpensLine body → through_line_end rest ≡ Some n →
    through_line_end (body ++ rest) ≡ Some (length body + n)
line_end-append _ rest n OpensLine.nothing e = e ∙ ap Some (omega arith)
line_end-append _ rest n (OpensLine.more b body shut h) e = rw shut (ap one_more (line_end-append body rest n h e) ∙ ap Some (omega arith))

-- A line comment that isn't closed goes on.
pub line-open : (bytes rest : List ℕ) → Describes jsonc in_line bytes → through_line_end rest ≡ None →
    Describes jsonc in_line (bytes ++ rest)
line-open _ rest (Describes.line body h) e = Describes.line (body ++ rest) (opens_line-append body rest h (opens_line rest e))

-- One that is closed is a piece of a gap.
pub line-closed : (bytes rest : List ℕ) (n : ℕ) → Describes jsonc in_line bytes → through_line_end rest ≡ Some n →
    piece_len jsonc growing (bytes ++ rest) ≡ length bytes + n
line-closed _ rest n (Describes.line body h) e =
    ap (with_line_mark growing (body ++ rest)) (line_end-append body rest n h e) ∙ omega arith

-- ---- a block comment

-- A block goes on after bytes that it goes on from.
opens_block-append : (body rest : List ℕ) (b : ℕ) → OpensBlock body → ends_in_star body && (b == slash) ≡ false → OpensBlock (b ∷ rest) →
    OpensBlock (body ++ b ∷ rest)
opens_block-append _ rest b OpensBlock.nothing e k = k
opens_block-append _ rest b (OpensBlock.one x) e k = OpensBlock.more x b rest e k
opens_block-append _ rest b (OpensBlock.more x y bytes shut h) e k =
    OpensBlock.more x y (bytes ++ b ∷ rest) shut (opens_block-append (y ∷ bytes) rest b h e k)

-- Its end is found after them.
block_end-append : (body rest : List ℕ) (b n : ℕ) → OpensBlock body → ends_in_star body && (b == slash) ≡ false →
    through_block_end (b ∷ rest) ≡ Some n → through_block_end (body ++ b ∷ rest) ≡ Some (length body + n)
block_end-append _ rest b n OpensBlock.nothing e is = is ∙ ap Some (omega arith)
block_end-append _ rest b n (OpensBlock.one x) e is = rw e (ap one_more is ∙ ap Some (omega arith))
block_end-append _ rest b n (OpensBlock.more x y bytes shut h) e is =
    rw shut (ap one_more (block_end-append (y ∷ bytes) rest b n h e is) ∙ ap Some (omega arith))

-- The last byte is that of the bytes after them.
ends_in_star-append : (body rest : List ℕ) (b : ℕ) → ends_in_star (body ++ b ∷ rest) ≡ ends_in_star (b ∷ rest)
ends_in_star-append [] rest b = refl
ends_in_star-append (x ∷ []) rest b = refl
ends_in_star-append (x ∷ y ∷ body) rest b = ends_in_star-append (y ∷ body) rest b

-- Where the bytes end in a star, their last byte is one.
ends_in_star-last : (b : ℕ) (rest : List ℕ) → ends_in_star (b ∷ rest) ≡ (get_or (b ∷ rest) (length rest) 0 == star)
ends_in_star-last b [] = refl
ends_in_star-last b (c ∷ rest) = ends_in_star-last c rest

-- A slash after a star closes a block.
block_end-here : (body rest : List ℕ) → OpensBlock body → ends_in_star body ≡ true →
    through_block_end (body ++ slash ∷ rest) ≡ Some (suc (length body))
block_end-here _ rest OpensBlock.nothing e = cc
block_end-here _ rest (OpensBlock.one x) e =
    ap (λ t. cond (t && true) (Some 2) (one_more (through_block_end (slash ∷ rest)))) e
block_end-here _ rest (OpensBlock.more x y bytes shut h) e =
    rw shut (ap one_more (block_end-here (y ∷ bytes) rest h e))

-- A block comment that isn't closed goes on.
block-open : (bytes rest : List ℕ) (after_star : Bool) (b : ℕ) → Describes jsonc (in_block after_star) bytes → after_star && (b == slash) ≡ false →
    through_block_end (b ∷ rest) ≡ None → Describes jsonc (in_block (ends_in_star (b ∷ rest))) (bytes ++ b ∷ rest)
block-open _ rest after_star b (Describes.block body _ h is) e none =
    Describes.block (body ++ b ∷ rest) (ends_in_star (b ∷ rest))
    (opens_block-append body rest b h (ap (λ t. t && (b == slash)) is ∙ e) (opens_block (b ∷ rest) none)) (ends_in_star-append body rest b)

-- One that is closed is a piece of a gap.
block-closed : (bytes rest : List ℕ) (after_star : Bool) (b n : ℕ) → Describes jsonc (in_block after_star) bytes → after_star && (b == slash) ≡ false →
    through_block_end (b ∷ rest) ≡ Some n → piece_len jsonc growing (bytes ++ b ∷ rest) ≡ length bytes + n
block-closed _ rest after_star b n (Describes.block body _ h is) e closed =
    ap with_mark (block_end-append body rest b n h (ap (λ t. t && (b == slash)) is ∙ e) closed) ∙ omega arith

-- So is one that the first byte closes.
block-closed_here : (bytes rest : List ℕ) → Describes jsonc (in_block true) bytes →
    piece_len jsonc growing (bytes ++ slash ∷ rest) ≡ suc (length bytes)
block-closed_here _ rest (Describes.block body _ h is) = ap with_mark (block_end-here body rest h is)

-- ---- in a buffer

-- Where a line feed is found from an offset on, the line comment ends there.
pub line-ends : (buffer : List ℕ) (start at end : ℕ) → start < at → at ≤ length buffer →
    Describes jsonc in_line (between buffer start at) →
    Some end ≡ option_map (λ n. at + n) (through_line_end (drop at buffer)) →
    end ≡ start + piece_len jsonc growing (drop start buffer)
line-ends buffer start at end order room d e = by_end (through_line_end (drop at buffer)) refl e
  where
    by_end : (o : Option ℕ) → through_line_end (drop at buffer) ≡ o → Some end ≡ option_map (λ n. at + n) o →
        end ≡ start + piece_len jsonc growing (drop start buffer)
    by_end None is f = cc
    by_end (Some n) is f =
        let there : end ≡ at + n = cc in
        let size = between-length buffer start at room in
        let closed : piece_len jsonc growing (drop start buffer) ≡ length (between buffer start at) + n =
        ap (piece_len jsonc growing) (between-rest buffer start at (omega arith) room)
        ∙ line-closed (between buffer start at) (drop at buffer) n d is in
        omega arith

-- Where none is found, it goes on.
pub line-goes_on : (buffer : List ℕ) (start at : ℕ) → start < at → at ≤ length buffer →
    Describes jsonc in_line (between buffer start at) →
    None ≡ option_map (λ n. at + n) (through_line_end (drop at buffer)) →
    Describes jsonc in_line (drop start buffer)
line-goes_on buffer start at order room d e =
    subst (Describes jsonc in_line) (sym (between-rest buffer start at (omega arith) room))
    (line-open (between buffer start at) (drop at buffer) d (option_map-none at _ e))

-- A slash after a star ends the block comment.
pub block-ends_here : (buffer : List ℕ) (start end : ℕ) → start < end →
    Describes jsonc (in_block true) (between buffer start end) → slice_get buffer end ≡ Some slash →
    end + 1 ≡ start + piece_len jsonc growing (drop start buffer)
block-ends_here buffer start end order d here =
    let room = slice_get_within buffer end slash here in
    let bytes = between buffer start end in
    let rest = drop (end + 1) buffer in
    let size = between-length buffer start end (omega arith) in
    let whole : drop start buffer ≡ bytes ++ slash ∷ rest =
    between-rest buffer start end (omega arith) (omega arith)
    ∙ ap (λ l. bytes ++ l) (drop-at_byte buffer end slash here) in
    let closed : piece_len jsonc growing (drop start buffer) ≡ suc (length bytes) =
    ap (piece_len jsonc growing) whole ∙ block-closed_here bytes rest d in
    omega arith

-- Else it ends where its mark is found from an offset on.
pub block-ends : (buffer : List ℕ) (start at end b : ℕ) (after_star : Bool) → start < at → slice_get buffer at ≡ Some b →
    Describes jsonc (in_block after_star) (between buffer start at) → after_star && (b == slash) ≡ false →
    Some end ≡ option_map (λ n. at + n) (through_block_end (drop at buffer)) →
    end ≡ start + piece_len jsonc growing (drop start buffer)
block-ends buffer start at end b after_star order here d goes_on e = by_end (through_block_end (drop at buffer)) refl e
  where
    room : at < length buffer
    room = slice_get_within buffer at b here

    front : drop at buffer ≡ b ∷ drop (at + 1) buffer
    front = drop-at_byte buffer at b here

    by_end : (o : Option ℕ) → through_block_end (drop at buffer) ≡ o → Some end ≡ option_map (λ n. at + n) o →
        end ≡ start + piece_len jsonc growing (drop start buffer)
    by_end None is f = cc
    by_end (Some n) is f =
        let there : end ≡ at + n = cc in
        let bytes = between buffer start at in
        let size = between-length buffer start at (omega (arith, room)) in
        let closed : piece_len jsonc growing (drop start buffer) ≡ length bytes + n =
        ap (piece_len jsonc growing) (between-rest buffer start at (omega arith) (omega (arith, room)) ∙ ap (λ l. bytes ++ l) front)
        ∙ block-closed bytes (drop (at + 1) buffer) after_star b n d goes_on (ap through_block_end (sym front) ∙ is) in
        omega arith

-- Where none is found, it goes on, and its last byte is the buffer's.
pub block-goes_on : (buffer : List ℕ) (start at b : ℕ) (after_star : Bool) → start < at → slice_get buffer at ≡ Some b →
    Describes jsonc (in_block after_star) (between buffer start at) → after_star && (b == slash) ≡ false →
    None ≡ option_map (λ n. at + n) (through_block_end (drop at buffer)) →
    Describes jsonc (in_block (get_or buffer (length buffer - 1) 0 == star)) (drop start buffer)
block-goes_on buffer start at b after_star order here d goes_on e =
    let room = slice_get_within buffer at b here in
    let bytes = between buffer start at in
    let rest = drop (at + 1) buffer in
    let front : drop at buffer ≡ b ∷ rest = drop-at_byte buffer at b here in
    let whole : drop start buffer ≡ bytes ++ b ∷ rest =
    between-rest buffer start at (omega arith) (omega arith) ∙ ap (λ l. bytes ++ l) front in
    let none : through_block_end (b ∷ rest) ≡ None = ap through_block_end (sym front) ∙ option_map-none at _ e in
    let end : at + length rest ≡ length buffer - 1 = omega (arith, length-drop (at + 1) buffer) in
    let last : get_or (b ∷ rest) (length rest) 0 ≡ get_or buffer (length buffer - 1) 0 =
    ap (λ l. get_or l (length rest) 0) (sym front) ∙ get_or-drop at buffer (length rest) 0 ∙ ap (λ n. get_or buffer n 0) end in
    subst (λ v. Describes jsonc (in_block v) (drop start buffer)) (ends_in_star-last b rest ∙ ap (λ n. n == star) last)
    (subst (Describes jsonc (in_block (ends_in_star (b ∷ rest)))) (sym whole) (block-open bytes rest after_star b d goes_on none))
