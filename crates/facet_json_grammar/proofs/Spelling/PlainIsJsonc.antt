-- A plain document is the same JSONC document: where the plain cut gives a token, the JSONC cut gives the same.
use Rattle.std.proofs.Common.{◌≡◌, ℕ, zero, suc, ◌+◌, ◌-◌, Bool, true, false, ◌==◌, List, [], ◌∷◌, drop, refl, sym, ap, ◌∙◌, subst}
use Rattle.std.proofs.lemmas.List.{drop-drop}
use Rattle.std.proofs.lemmas.Bool.{eqb-true}
use Rattle.facet_format.specs.Bytes.{is_space, slash}
use Rattle.facet_json_token.specs.Gap.{Mode, plain, jsonc, Input, whole}
use Rattle.facet_json_token.specs.GapLen.{comment_len, gap_len_from, gap_len}
use Rattle.facet_json_token.specs.Token.{Token, Fault}
use Rattle.facet_format.specs.Span.{stop}
use Rattle.facet_json_token.specs.Cut.{Cut, nothing_left, token, fault, Start, opens_comment, start_of, cut_by, cut_here, past_gap, cut}
use Rattle.facet_json_token.specs.Tokens.{Tokens, ended, refused, next}
use Rattle.facet_json_token.specs.TokenList.{tokens_past, tokens}
use Rattle.facet_json_grammar.specs.Node.{Node, scalar, array, object, Nodes, no_nodes, Members, no_members, member, Spells, one_token, brackets, braces, SpellsItems, closed, item_and_comma, last_item, SpellsMembers, ended_members, member_and_comma, last_member}
use Rattle.facet_json_grammar.specs.Laws.{PlainIsJsonc}
use Rattle.facet_json_token.proofs.TokensSteps.{follow}
use Rattle.facet_json_token.proofs.Gaps.{piece_len-blank, gap_len-none, gap_len-some}

-- ---- the gaps

-- Two lengths of a gap before the bytes are one, or after the first stands a slash.
data AlikeOrSlash (plain_len jsonc_len : ℕ) (bytes : List ℕ) : Type 0 where
  alike : plain_len ≡ jsonc_len → AlikeOrSlash plain_len jsonc_len bytes
  at_slash : (rest : List ℕ) → drop plain_len bytes ≡ slash ∷ rest → AlikeOrSlash plain_len jsonc_len bytes

-- Where no slash stands there is no comment.
no_comment : (input : Input) (b : ℕ) (bytes : List ℕ) → (b == slash) ≡ false → comment_len input (b ∷ bytes) ≡ 0
no_comment input b [] e = refl
no_comment input b (c ∷ bytes) e = rw e refl

-- A gap goes on after white space.
gap_at_blank : (mode : Mode) (input : Input) (b : ℕ) (bytes : List ℕ) → is_space b ≡ true →
    gap_len mode input (b ∷ bytes) ≡ suc (gap_len mode input bytes)
gap_at_blank mode input b bytes e = gap_len-some mode input b bytes 0 (piece_len-blank mode input b bytes e)

-- A plain gap ends where no white space stands.
plain_gap_ends : (input : Input) (b : ℕ) (bytes : List ℕ) → is_space b ≡ false → gap_len plain input (b ∷ bytes) ≡ 0
plain_gap_ends input b bytes e = gap_len-none plain input (b ∷ bytes) (rw e)

-- A JSONC gap ends where neither white space nor a slash stands.
jsonc_gap_ends : (input : Input) (b : ℕ) (bytes : List ℕ) → is_space b ≡ false → (b == slash) ≡ false →
    gap_len jsonc input (b ∷ bytes) ≡ 0
jsonc_gap_ends input b bytes e f = gap_len-none jsonc input (b ∷ bytes) (rw e (no_comment input b bytes f))

-- Two lengths that are alike, or end at a slash, are so with one more byte in front.
gaps_at : (input : Input) (b : ℕ) (bytes : List ℕ) (is_blank is_slash : Bool) → is_space b ≡ is_blank →
    (b == slash) ≡ is_slash → AlikeOrSlash (gap_len plain input bytes) (gap_len jsonc input bytes) bytes →
    AlikeOrSlash (gap_len plain input (b ∷ bytes)) (gap_len jsonc input (b ∷ bytes)) (b ∷ bytes)
gaps_at input b bytes true s e f (alike same) =
    alike (gap_at_blank plain input b bytes e ∙ ap suc same ∙ sym (gap_at_blank jsonc input b bytes e))
gaps_at input b bytes true s e f (at_slash rest here) = at_slash rest (rw (gap_at_blank plain input b bytes e) here)
gaps_at input b bytes false true e f h =
    at_slash bytes (rw (plain_gap_ends input b bytes e) (let same = eqb-true b slash f in ap (λ x. x ∷ bytes) same))
gaps_at input b bytes false false e f h =
    alike (plain_gap_ends input b bytes e ∙ sym (jsonc_gap_ends input b bytes e f))

-- The plain gap is the JSONC gap, or after it stands a slash.
gaps_alike : (input : Input) (bytes : List ℕ) → AlikeOrSlash (gap_len plain input bytes) (gap_len jsonc input bytes)
    bytes
unfolding gap_len_from
gaps_alike input [] = alike refl
gaps_alike input (b ∷ bytes) = gaps_at input b bytes (is_space b) (b == slash) refl refl (gaps_alike input bytes)

-- ---- the cuts

cut_by_either : (start : Start) (at b : ℕ) (bytes : List ℕ) (t : Token) → cut_by start plain at b bytes ≡ token t →
    cut_by start jsonc at b bytes ≡ token t
cut_by_either opens_comment at b bytes t e = cc
cut_by_either _ at b bytes t e = e

cut_here_either : (at : ℕ) (bytes : List ℕ) (t : Token) → cut_here plain at bytes ≡ token t →
    cut_here jsonc at bytes ≡ token t
unfolding cut_here
cut_here_either at [] t e = e
cut_here_either at (b ∷ bytes) t e = cut_by_either (start_of b) at b bytes t e

no_token_at_slash : (at : ℕ) (rest : List ℕ) (t : Token) → cut_here plain at (slash ∷ rest) ≡ token t → ⊥
unfolding cut_here start_of
no_token_at_slash at rest t e = cc

cut_at : (buffer : List ℕ) (at : ℕ) (t : Token) → AlikeOrSlash (gap_len plain whole (drop at buffer))
    (gap_len jsonc whole (drop at buffer)) (drop at buffer) → cut buffer at plain ≡ token t →
    cut buffer at jsonc ≡ token t
unfolding cut
cut_at buffer at t (alike same) e =
    subst (λ n. cut_here jsonc (at + n) (drop (at + n) buffer) ≡ token t) same (cut_here_either _ _ t e)
cut_at buffer at t (at_slash rest here) e =
    let p = past_gap buffer at plain in
    let there = sym (drop-drop (gap_len plain whole (drop at buffer)) at buffer) ∙ here in
    absurd (no_token_at_slash p rest t (subst (λ bytes. cut_here plain p bytes ≡ token t) there e))

-- Where the plain cut gives a token, the JSONC cut gives the same.
pub cut-either : (buffer : List ℕ) (at : ℕ) (t : Token) → cut buffer at plain ≡ token t → cut buffer at jsonc ≡ token t
cut-either buffer at t e = cut_at buffer at t (gaps_alike whole (drop at buffer)) e

-- ---- the tokens

-- The second tokens have the first in front: they may go on where those end or are refused.
pub data Extends : Tokens → Tokens → Type 0 where
  one_more : (t : Token) (front all : Tokens) → Extends front all → Extends (next t front) (next t all)
  at_end : (all : Tokens) → Extends ended all
  at_fault : (f : Fault) (all : Tokens) → Extends (refused f) all

follow_extends : (buffer : List ℕ) (at : ℕ) (left : List ℕ) (c d : Cut) → ((t : Token) → c ≡ token t → d ≡ token t) →
    ((inside : ℕ) → Extends (tokens_past buffer plain inside (suc at) left)
    (tokens_past buffer jsonc inside (suc at) left)) →
    Extends (follow buffer plain at left c) (follow buffer jsonc at left d)
follow_extends buffer at left nothing_left d same others = at_end _
follow_extends buffer at left (fault f) d same others = at_fault f _
follow_extends buffer at left (token t) d same others =
    rw (same t refl) (one_more t _ _ (others (stop t.span - suc at)))

tokens_past-extends : (buffer : List ℕ) (inside at : ℕ) (left : List ℕ) →
    Extends (tokens_past buffer plain inside at left) (tokens_past buffer jsonc inside at left)
unfolding tokens_past
tokens_past-extends buffer inside at [] = at_end _
tokens_past-extends buffer (suc inside) at (b ∷ left) = tokens_past-extends buffer inside (suc at) left
tokens_past-extends buffer zero at (b ∷ left) =
    follow_extends buffer at left (cut buffer at plain) (cut buffer at jsonc) (cut-either buffer at)
    (λ inside. tokens_past-extends buffer inside (suc at) left)

-- The JSONC tokens have the plain tokens in front.
pub tokens-extends : (buffer : List ℕ) → Extends (tokens buffer plain) (tokens buffer jsonc)
tokens-extends buffer = tokens_past-extends buffer 0 0 buffer

-- ---- the spellings

extends_next : {us : Tokens} {ts : Tokens} → Extends ts us → (t : Token) (front : Tokens) → ts ≡ next t front →
    (all : Tokens) × (us ≡ next t all) × Extends front all
extends_next (one_more u front all h) t others e =
    let first : u ≡ t = cc in
    let same : front ≡ others = cc in
    (all, ap (λ x. next x all) first, subst (λ ts. Extends ts all) same h)
extends_next (at_end all) t others e = cc
extends_next (at_fault f all) t others e = cc

mutual
  -- What the prefix spells, all spell.
  node_extends : {ts rest us : Tokens} {node : Node} → Spells ts node rest → Extends ts us →
      (after : Tokens) × Spells us node after × Extends rest after
  node_extends (one_token t rest e) x =
      let all = extends_next x t rest refl in
      (all.0, subst (λ us. Spells us (scalar t) all.0) (sym all.1) (one_token t all.0 e), all.2)
  node_extends (brackets first last inner rest nodes e h) x =
      let all = extends_next x first inner refl in
      let both = items_extend h all.2 in
      let root = array first last nodes in
      let here = brackets first last all.0 both.0 nodes e both.1 in
      (both.0, subst (λ us. Spells us root both.0) (sym all.1) here, both.2)
  node_extends (braces first last inner rest ms e h) x =
      let all = extends_next x first inner refl in
      let both = members_extend h all.2 in
      let root = object first last ms in
      let here = braces first last all.0 both.0 ms e both.1 in
      (both.0, subst (λ us. Spells us root both.0) (sym all.1) here, both.2)

  -- The same of items.
  items_extend : {ts rest us : Tokens} {nodes : Nodes} {last : Token} → SpellsItems ts nodes last rest →
      Extends ts us → (after : Tokens) × SpellsItems us nodes last after × Extends rest after
  items_extend (closed last rest e) x =
      let all = extends_next x last rest refl in
      (all.0, subst (λ us. SpellsItems us no_nodes last all.0) (sym all.1) (closed last all.0 e), all.2)
  items_extend {us = us} (item_and_comma ts others rest node nodes separator last s e h) x =
      let first = node_extends s x in
      let all = extends_next first.2 separator others refl in
      let both = items_extend h all.2 in
      let here = subst (λ vs. Spells us node vs) all.1 first.1 in
      (both.0, item_and_comma us all.0 both.0 node nodes separator last here e both.1, both.2)
  items_extend {us = us} (last_item ts rest node last s e) x =
      let first = node_extends s x in
      let all = extends_next first.2 last rest refl in
      (all.0, last_item us all.0 node last (subst (λ vs. Spells us node vs) all.1 first.1) e, all.2)

  -- The same of members.
  members_extend : {ts rest us : Tokens} {ms : Members} {last : Token} → SpellsMembers ts ms last rest →
      Extends ts us → (after : Tokens) × SpellsMembers us ms last after × Extends rest after
  members_extend (ended_members last rest e) x =
      let all = extends_next x last rest refl in
      (all.0, subst (λ us. SpellsMembers us no_members last all.0) (sym all.1) (ended_members last all.0 e), all.2)
  members_extend (member_and_comma ts others rest key mark node ms separator last k c s e h) x =
      let at_key = extends_next x key (next mark ts) refl in
      let at_mark = extends_next at_key.2 mark ts refl in
      let value = node_extends s at_mark.2 in
      let all = extends_next value.2 separator others refl in
      let both = members_extend h all.2 in
      let spells = subst (λ vs. Spells at_mark.0 node vs) all.1 value.1 in
      let here = member_and_comma at_mark.0 all.0 both.0 key mark node ms separator last k c spells e both.1 in
      let front = sym (at_key.1 ∙ ap (next key) at_mark.1) in
      (both.0, subst (λ us. SpellsMembers us (member key mark node ms) last both.0) front here, both.2)
  members_extend (last_member ts rest key mark node last k c s e) x =
      let at_key = extends_next x key (next mark ts) refl in
      let at_mark = extends_next at_key.2 mark ts refl in
      let value = node_extends s at_mark.2 in
      let all = extends_next value.2 last rest refl in
      let spells = subst (λ vs. Spells at_mark.0 node vs) all.1 value.1 in
      let here = last_member at_mark.0 all.0 key mark node last k c spells e in
      let front = sym (at_key.1 ∙ ap (next key) at_mark.1) in
      (all.0, subst (λ us. SpellsMembers us (member key mark node no_members) last all.0) front here, all.2)

-- A plain document is the same JSONC document.
pub plain_is_jsonc : PlainIsJsonc
plain_is_jsonc buffer root value d =
    let all = node_extends d.reads.spells (tokens-extends buffer) in
    record { rest = all.0; reads = record { spells = all.1; has_tree = d.reads.has_tree } }
