-- The bytes of a node spell it by themselves, whatever stands around them. So nodes whose ranges hold the same bytes are nodes of the same text.
use Rattle.std.proofs.Common.{◌≡◌, ℕ, ◌+◌, ◌-◌, ◌≤◌, ◌<◌, true, false, List, ◌++◌, length, drop, refl, sym, ap, ap₂, ◌∙◌, subst, arith, true≢false, Option, length-drop}
use Rattle.std.proofs.lemmas.List.{length-take-le, take-append-drop}
use Rattle.facet_format.specs.Span.{stop}
use Rattle.facet_json_token.specs.Cut.{Cut, nothing_left, token, fault, cut}
use Rattle.facet_json_token.specs.Gap.{Mode, plain, jsonc}
use Rattle.facet_json_token.specs.Token.{Kind, Token, string, number, object_start, object_end, array_start, array_end, colon, comma}
use Rattle.facet_json_token.specs.Tokens.{Tokens, next}
use Rattle.facet_json_token.specs.TokenList.{tokens_from}
use Rattle.facet_json_token.proofs.CutBounds.{TokenFits, cut-token_fits}
use Rattle.facet_json_token.proofs.TokensSteps.{cut-token_within, by_first, tokens_by_first, tokens_from-others}
use Rattle.facet_json_grammar.specs.Node.{Node, scalar, array, object, Nodes, no_nodes, item, Members, no_members, member, is_scalar, is_string, Spells, one_token, brackets, braces, SpellsItems, closed, item_and_comma, last_item, SpellsMembers, ended_members, member_and_comma, last_member}
use Rattle.facet_json_grammar.specs.Refusal.{needs_meaning}
use Rattle.facet_json_grammar.specs.RunLaws.{last_token_of}
use Rattle.facet_json_grammar.specs.UnreadLaws.{first_token}
use Rattle.facet_json_grammar.proofs.InOrder.{InOrder}
use Rattle.facet_json_grammar.proofs.Spelling.OneSpelling.{one_spelling}
use Rattle.facet_json_grammar.proofs.Spelling.PlainIsJsonc.{cut-either}
use Rattle.facet_json_grammar.proofs.TokensInOrder.{tokens-in_order}
use Rattle.facet_json_grammar.proofs.Cuts.CutsWithin.{part, cut-within, cut-again}
use Rattle.facet_json_grammar.proofs.Cuts.MovedTokens.{moved_kind, moved, moved-stop, moved-is_scalar, moved-is_string}
use Rattle.facet_json_grammar.proofs.Values.OneValue.{IsLeft}
use Rattle.facet_json_grammar.specs.SkipLaws.{bytes_between}
use Rattle.facet_json_core.specs.Meaning.Laws.{SameReading}
use Rattle.facet_json_core.specs.Meaning.Nodes.{SameToken, SameText, same_scalars, same_arrays, same_objects, SameItems, same_none, same_first, SameMembers, same_no_members, same_member}
use Rattle.facet_json_core.specs.Meaning.SameBytes.{node_bytes, SameBytesSameText, ReadsBytesAlike}
use Rattle.facet_json_core.proofs.Meaning.Nodes.MovedNodes.{token-same, bytes-same}
use Rattle.facet_json_core.proofs.Meaning.Nodes.NodesInOrder.{in_order-next, node-order, items-order, members-order}
use Rattle.facet_json_core.proofs.Meaning.Nodes.TextsThrough.{text-through}

-- ---- the first token

-- The first token is the one that is cut.
first-cut : (buffer : List ℕ) (mode : Mode) (c : Cut) (t : Token) (others : Tokens) → by_first buffer mode c ≡ next t others → c ≡ token t
first-cut buffer mode nothing_left t others e = cc
first-cut buffer mode (token u) t others e = cc
first-cut buffer mode (fault f) t others e = cc

is-cut : (buffer : List ℕ) (mode : Mode) (at : ℕ) (t : Token) (others : Tokens) → tokens_from buffer mode at ≡ next t others →
    cut buffer at mode ≡ token t
is-cut buffer mode at t others e =
    first-cut buffer mode (cut buffer at mode) t others (sym (tokens_by_first buffer mode at (cut buffer at mode) refl) ∙ e)

-- What is cut of an input without comments is cut where comments may stand.
cut-jsonc : (buffer : List ℕ) (mode : Mode) (at : ℕ) (t : Token) → cut buffer at mode ≡ token t → cut buffer at jsonc ≡ token t
cut-jsonc buffer plain at t e = cut-either buffer at t e
cut-jsonc buffer jsonc at t e = e

-- A mark's kind says the same wherever it stands.
moved-mark : (n : ℕ) (kind other : Kind) → needs_meaning other ≡ false → moved_kind n kind ≡ other → kind ≡ other
moved-mark n (string start finish has_escapes) other m e = absurd (true≢false (ap needs_meaning e ∙ m))
moved-mark n (number start finish hint) other m e = absurd (true≢false (ap needs_meaning e ∙ m))
moved-mark n kind other m e = e

-- ---- within a part of the buffer

module _ (buffer : List ℕ) (mode : Mode) (n k : ℕ) (inside : n + k ≤ length buffer) where
  -- the part alone
  abbrev raw : List ℕ
  raw = part buffer n k

  raw-length : length raw ≡ k
  raw-length = length-take-le k (drop n buffer) (omega (arith, length-drop n buffer, inside))

  raw-left : IsLeft buffer n (raw ++ drop k (drop n buffer))
  raw-left = record { within = omega (arith, inside); here = sym (take-append-drop k (drop n buffer)) }

  -- the tokens of the part from an offset on
  abbrev those : ℕ → Tokens
  those at = tokens_from raw jsonc at

  -- The first token at an offset is one of the part, and the others come after it.
  record TokenWithin (at : ℕ) (t : Token) (ts : Tokens) : Type 0 where
    here : Token
    same : t ≡ moved n here
    fits : TokenFits raw at here
    ends : stop here.span ≤ k
    first : those at ≡ next here (those (stop here.span))
    others : tokens_from buffer mode (n + stop here.span) ≡ ts

  token-within : (at : ℕ) (t : Token) (ts : Tokens) → at ≤ k → tokens_from buffer mode (n + at) ≡ next t ts → stop t.span ≤ n + k →
      TokenWithin at t ts
  token-within at t ts h e end =
      let c = cut-within buffer n k at t (omega (arith, inside)) (cut-jsonc buffer mode (n + at) t (is-cut buffer mode (n + at) t ts e)) end in
      let fits = cut-token_fits raw at jsonc c.here (omega (arith, raw-length)) c.is_cut in
      let there : n + stop c.here.span ≡ stop t.span = sym (ap (λ x. stop x.span) c.same ∙ moved-stop n c.here) in
      record {
        here = c.here;
        same = c.same;
        fits = fits;
        ends = omega (arith, fits.within, raw-length);
        first = tokens_by_first raw jsonc at (token c.here) c.is_cut;
        others = ap (tokens_from buffer mode) there ∙ tokens_from-others buffer mode (n + at) t ts e;
      }

  -- A mark of the buffer is one of the part.
  mark-within : (at : ℕ) (t : Token) (ts : Tokens) (kind : Kind) (w : TokenWithin at t ts) → needs_meaning kind ≡ false → t.kind ≡ kind →
      w.here.kind ≡ kind
  mark-within at t ts kind w m e = moved-mark n w.here.kind kind m (sym (ap (λ x. x.kind) w.same) ∙ e)

  -- The tokens stand in order.
  ordered : (at : ℕ) (ts : Tokens) → at ≤ k → tokens_from buffer mode (n + at) ≡ ts → InOrder buffer (n + at) ts
  ordered at ts h e = subst (InOrder buffer (n + at)) e (tokens-in_order buffer mode (n + at) (omega (arith, inside)))

  -- The part has the node, and the tokens of the buffer go on after it.
  record NodeWithin (at : ℕ) (node : Node) (rest : Tokens) : Type 0 where
    here : Node
    to : ℕ
    spells : Spells (those at) here (those to)
    same : SameText raw buffer here node
    onward : at < to
    ends : to ≤ k
    others : tokens_from buffer mode (n + to) ≡ rest

  record ItemsWithin (at : ℕ) (nodes : Nodes) (last : Token) (rest : Tokens) : Type 0 where
    here : Nodes
    bracket : Token
    moves : last ≡ moved n bracket
    spells : SpellsItems (those at) here bracket (those (stop bracket.span))
    same : SameItems raw buffer here nodes
    onward : at < stop bracket.span
    ends : stop bracket.span ≤ k
    others : tokens_from buffer mode (n + stop bracket.span) ≡ rest

  record MembersWithin (at : ℕ) (members : Members) (last : Token) (rest : Tokens) : Type 0 where
    here : Members
    bracket : Token
    moves : last ≡ moved n bracket
    spells : SpellsMembers (those at) here bracket (those (stop bracket.span))
    same : SameMembers raw buffer here members
    onward : at < stop bracket.span
    ends : stop bracket.span ≤ k
    others : tokens_from buffer mode (n + stop bracket.span) ≡ rest

  -- The bytes between two tokens.
  between-same : (first last begin end : Token) → begin ≡ moved n first → end ≡ moved n last → first.span.offset ≤ stop last.span →
      stop last.span ≤ k → bytes_between raw first last ≡ bytes_between buffer begin end
  between-same first last begin end e f ordered within =
      bytes-same raw buffer (drop k (drop n buffer)) n raw-left first last ordered (omega (arith, raw-length, within))
      ∙ ap₂ (bytes_between buffer) (sym e) (sym f)

  one-same : (at : ℕ) (t : Token) (ts : Tokens) (w : TokenWithin at t ts) → SameToken raw buffer w.here t
  one-same at t ts w =
      subst (SameToken raw buffer w.here) (sym w.same) (token-same raw buffer (drop k (drop n buffer)) n raw-left at w.here w.fits)

  mutual
    node-within : (ts rest : Tokens) (node : Node) → Spells ts node rest → (at : ℕ) → at ≤ k → tokens_from buffer mode (n + at) ≡ ts →
        stop (last_token_of node).span ≤ n + k → NodeWithin at node rest
    node-within _ _ _ (one_token t rest i) at h e end =
        let w = token-within at t rest h e end in
        let is : is_scalar w.here.kind ≡ true = sym (moved-is_scalar n w.here.kind) ∙ ap (λ x. is_scalar x.kind) (sym w.same) ∙ i in
        record {
          here = scalar w.here;
          to = stop w.here.span;
          spells = subst (λ ts. Spells ts (scalar w.here) (those (stop w.here.span))) (sym w.first) (one_token w.here (those (stop w.here.span)) is);
          same =
              same_scalars w.here t (one-same at t rest w)
              (between-same w.here w.here t t w.same w.same (omega (arith, w.fits.some)) w.ends);
          onward = omega (arith, w.fits.behind, w.fits.some);
          ends = w.ends;
          others = w.others;
        }
    node-within _ _ _ (brackets first last inner rest nodes i s) at h e end =
        let o = in_order-next buffer (n + at) first inner (ordered at (next first inner) h e) in
        let more = items-order buffer (stop first.span) inner rest nodes last s o.after in
        let w = token-within at first inner h e (omega (arith, more.behind, end)) in
        let items = items-within inner rest nodes last s (stop w.here.span) w.ends w.others end in
        let whole = array w.here items.bracket items.here in
        record {
          here = whole;
          to = stop items.bracket.span;
          spells =
              subst (λ ts. Spells ts whole (those (stop items.bracket.span))) (sym w.first)
              (brackets w.here items.bracket (those (stop w.here.span)) (those (stop items.bracket.span)) items.here (mark-within at first inner array_start w refl i) items.spells);
          same =
              same_arrays w.here items.bracket first last items.here nodes
              (between-same w.here items.bracket first last w.same items.moves (omega (arith, w.fits.some, items.onward)) items.ends) items.same;
          onward = omega (arith, w.fits.behind, w.fits.some, items.onward);
          ends = items.ends;
          others = items.others;
        }
    node-within _ _ _ (braces first last inner rest members i s) at h e end =
        let o = in_order-next buffer (n + at) first inner (ordered at (next first inner) h e) in
        let more = members-order buffer (stop first.span) inner rest members last s o.after in
        let w = token-within at first inner h e (omega (arith, more.behind, end)) in
        let pairs = members-within inner rest members last s (stop w.here.span) w.ends w.others end in
        let whole = object w.here pairs.bracket pairs.here in
        record {
          here = whole;
          to = stop pairs.bracket.span;
          spells =
              subst (λ ts. Spells ts whole (those (stop pairs.bracket.span))) (sym w.first)
              (braces w.here pairs.bracket (those (stop w.here.span)) (those (stop pairs.bracket.span)) pairs.here (mark-within at first inner object_start w refl i) pairs.spells);
          same =
              same_objects w.here pairs.bracket first last pairs.here members
              (between-same w.here pairs.bracket first last w.same pairs.moves (omega (arith, w.fits.some, pairs.onward)) pairs.ends) pairs.same;
          onward = omega (arith, w.fits.behind, w.fits.some, pairs.onward);
          ends = pairs.ends;
          others = pairs.others;
        }

    items-within : (ts rest : Tokens) (nodes : Nodes) (last : Token) → SpellsItems ts nodes last rest → (at : ℕ) → at ≤ k →
        tokens_from buffer mode (n + at) ≡ ts → stop last.span ≤ n + k → ItemsWithin at nodes last rest
    items-within _ _ _ _ (closed last rest i) at h e end =
        let w = token-within at last rest h e end in
        record {
          here = no_nodes;
          bracket = w.here;
          moves = w.same;
          spells =
              subst (λ ts. SpellsItems ts no_nodes w.here (those (stop w.here.span))) (sym w.first)
              (closed w.here (those (stop w.here.span)) (mark-within at last rest array_end w refl i));
          same = same_none;
          onward = omega (arith, w.fits.behind, w.fits.some);
          ends = w.ends;
          others = w.others;
        }
    items-within _ _ _ _ (item_and_comma ts others rest node nodes separator last s i more) at h e end =
        let first_ends = node-order buffer (n + at) ts (next separator others) node s (ordered at ts h e) in
        let comma_ends = in_order-next buffer _ separator others first_ends.after in
        let all_end = items-order buffer (stop separator.span) others rest nodes last more comma_ends.after in
        let first = node-within ts (next separator others) node s at h e (omega (arith, comma_ends.behind, all_end.behind, end)) in
        let w = token-within first.to separator others first.ends first.others (omega (arith, all_end.behind, end)) in
        let later = items-within others rest nodes last more (stop w.here.span) w.ends w.others end in
        record {
          here = item first.here later.here;
          bracket = later.bracket;
          moves = later.moves;
          spells =
              item_and_comma (those at) (those (stop w.here.span)) (those (stop later.bracket.span)) first.here later.here w.here later.bracket (subst (Spells (those at) first.here) w.first first.spells)
              (mark-within first.to separator others comma w refl i) later.spells;
          same = same_first first.here node later.here nodes first.same later.same;
          onward = omega (arith, first.onward, w.fits.behind, w.fits.some, later.onward);
          ends = later.ends;
          others = later.others;
        }
    items-within _ _ _ _ (last_item ts rest node last s i) at h e end =
        let first_ends = node-order buffer (n + at) ts (next last rest) node s (ordered at ts h e) in
        let all_end = in_order-next buffer _ last rest first_ends.after in
        let first = node-within ts (next last rest) node s at h e (omega (arith, all_end.behind, end)) in
        let w = token-within first.to last rest first.ends first.others end in
        record {
          here = item first.here no_nodes;
          bracket = w.here;
          moves = w.same;
          spells =
              last_item (those at) (those (stop w.here.span)) first.here w.here (subst (Spells (those at) first.here) w.first first.spells)
              (mark-within first.to last rest array_end w refl i);
          same = same_first first.here node no_nodes no_nodes first.same same_none;
          onward = omega (arith, first.onward, w.fits.behind, w.fits.some);
          ends = w.ends;
          others = w.others;
        }

    members-within : (ts rest : Tokens) (members : Members) (last : Token) → SpellsMembers ts members last rest → (at : ℕ) → at ≤ k →
        tokens_from buffer mode (n + at) ≡ ts → stop last.span ≤ n + k → MembersWithin at members last rest
    members-within _ _ _ _ (ended_members last rest i) at h e end =
        let w = token-within at last rest h e end in
        record {
          here = no_members;
          bracket = w.here;
          moves = w.same;
          spells =
              subst (λ ts. SpellsMembers ts no_members w.here (those (stop w.here.span))) (sym w.first)
              (ended_members w.here (those (stop w.here.span)) (mark-within at last rest object_end w refl i));
          same = same_no_members;
          onward = omega (arith, w.fits.behind, w.fits.some);
          ends = w.ends;
          others = w.others;
        }
    members-within _ _ _ _ (member_and_comma ts others rest key mark node members separator last i c s j more) at h e end =
        let key_ends = in_order-next buffer (n + at) key (next mark ts) (ordered at (next key (next mark ts)) h e) in
        let mark_ends = in_order-next buffer _ mark ts key_ends.after in
        let first_ends = node-order buffer (stop mark.span) ts (next separator others) node s mark_ends.after in
        let comma_ends = in_order-next buffer _ separator others first_ends.after in
        let all_end = members-order buffer (stop separator.span) others rest members last more comma_ends.after in
        let a = token-within at key (next mark ts) h e (omega (arith, mark_ends.behind, first_ends.behind, comma_ends.behind, all_end.behind, end)) in
        let b = token-within (stop a.here.span) mark ts a.ends a.others (omega (arith, first_ends.behind, comma_ends.behind, all_end.behind, end)) in
        let first = node-within ts (next separator others) node s (stop b.here.span) b.ends b.others (omega (arith, comma_ends.behind, all_end.behind, end)) in
        let w = token-within first.to separator others first.ends first.others (omega (arith, all_end.behind, end)) in
        let later = members-within others rest members last more (stop w.here.span) w.ends w.others end in
        let front : those at ≡ next a.here (next b.here (those (stop b.here.span))) = a.first ∙ ap (next a.here) b.first in
        let is : is_string a.here.kind ≡ true = sym (moved-is_string n a.here.kind) ∙ ap (λ x. is_string x.kind) (sym a.same) ∙ i in
        let all = member a.here b.here first.here later.here in
        record {
          here = all;
          bracket = later.bracket;
          moves = later.moves;
          spells =
              subst (λ ts. SpellsMembers ts all later.bracket (those (stop later.bracket.span))) (sym front)
              (member_and_comma (those (stop b.here.span)) (those (stop w.here.span)) (those (stop later.bracket.span)) a.here b.here first.here later.here w.here later.bracket is
              (mark-within (stop a.here.span) mark ts colon b refl c) (subst (Spells (those (stop b.here.span)) first.here) w.first first.spells)
              (mark-within first.to separator others comma w refl j) later.spells);
          same =
              same_member a.here b.here key mark first.here node later.here members (one-same at key (next mark ts) a) first.same later.same;
          onward = omega (arith, a.fits.behind, a.fits.some, b.fits.behind, b.fits.some, first.onward, w.fits.behind, w.fits.some, later.onward);
          ends = later.ends;
          others = later.others;
        }
    members-within _ _ _ _ (last_member ts rest key mark node last i c s j) at h e end =
        let key_ends = in_order-next buffer (n + at) key (next mark ts) (ordered at (next key (next mark ts)) h e) in
        let mark_ends = in_order-next buffer _ mark ts key_ends.after in
        let first_ends = node-order buffer (stop mark.span) ts (next last rest) node s mark_ends.after in
        let all_end = in_order-next buffer _ last rest first_ends.after in
        let a = token-within at key (next mark ts) h e (omega (arith, mark_ends.behind, first_ends.behind, all_end.behind, end)) in
        let b = token-within (stop a.here.span) mark ts a.ends a.others (omega (arith, first_ends.behind, all_end.behind, end)) in
        let first = node-within ts (next last rest) node s (stop b.here.span) b.ends b.others (omega (arith, all_end.behind, end)) in
        let w = token-within first.to last rest first.ends first.others end in
        let front : those at ≡ next a.here (next b.here (those (stop b.here.span))) = a.first ∙ ap (next a.here) b.first in
        let is : is_string a.here.kind ≡ true = sym (moved-is_string n a.here.kind) ∙ ap (λ x. is_string x.kind) (sym a.same) ∙ i in
        let all = member a.here b.here first.here no_members in
        record {
          here = all;
          bracket = w.here;
          moves = w.same;
          spells =
              subst (λ ts. SpellsMembers ts all w.here (those (stop w.here.span))) (sym front)
              (last_member (those (stop b.here.span)) (those (stop w.here.span)) a.here b.here first.here w.here is
              (mark-within (stop a.here.span) mark ts colon b refl c) (subst (Spells (those (stop b.here.span)) first.here) w.first first.spells)
              (mark-within first.to last rest object_end w refl j));
          same =
              same_member a.here b.here key mark first.here node no_members no_members (one-same at key (next mark ts) a) first.same same_no_members;
          onward = omega (arith, a.fits.behind, a.fits.some, b.fits.behind, b.fits.some, first.onward, w.fits.behind, w.fits.some);
          ends = w.ends;
          others = w.others;
        }

-- ---- nodes whose ranges hold the same bytes

-- A node's tokens begin with its first one.
spells-first : (ts rest : Tokens) (node : Node) → Spells ts node rest → (others : Tokens) × (ts ≡ next (first_token node) others)
spells-first _ _ _ (one_token t rest i) = (rest, refl)
spells-first _ _ _ (brackets first last inner rest nodes i s) = (inner, refl)
spells-first _ _ _ (braces first last inner rest pairs i s) = (inner, refl)

-- The bytes of a node alone spell a node of the same text.
record IsAlone (buffer : List ℕ) (node : Node) : Type 0 where
  here : Node
  rest : Tokens
  spells : Spells (tokens_from (node_bytes buffer node) jsonc 0) here rest
  same : SameText (node_bytes buffer node) buffer here node

alone : (buffer : List ℕ) (mode : Mode) (from : ℕ) (node : Node) (rest : Tokens) → Spells (tokens_from buffer mode from) node rest →
    IsAlone buffer node
alone buffer mode from node rest s =
    let t = first_token node in
    let start = t.span.offset in
    let end = stop (last_token_of node).span in
    let first = spells-first (tokens_from buffer mode from) rest node s in
    let is = is-cut buffer mode from t first.0 first.1 in
    let again = cut-again buffer mode from t is in
    let there : tokens_from buffer mode start ≡ tokens_from buffer mode from =
    tokens_by_first buffer mode start (token t) again ∙ sym (tokens_by_first buffer mode from (token t) is) in
    let order =
    node-order buffer start (tokens_from buffer mode start) rest node (subst (λ ts. Spells ts node rest) (sym there) s)
    (tokens-in_order buffer mode start (cut-token_within buffer start mode t again)) in
    let none : start + 0 ≡ start = omega arith in
    let w =
    node-within buffer mode start (end - start) (omega (arith, order.behind, order.within)) (tokens_from buffer mode from) rest node s 0 (omega arith)
    (ap (tokens_from buffer mode) none ∙ there) (omega (arith, order.behind)) in
    record { here = w.here; rest = _; spells = w.spells; same = w.same }

-- Nodes whose ranges hold the same bytes are nodes of the same text.
pub same-bytes : SameBytesSameText
same-bytes these those n m s r e =
    let bytes = node_bytes these n in
    let a = alone these s.mode s.from n s.rest s.spells in
    let b = alone those r.mode r.from m r.rest r.spells in
    let again : Spells (tokens_from bytes jsonc 0) b.here b.rest = subst (λ l. Spells (tokens_from l jsonc 0) b.here b.rest) (sym e) b.spells in
    let one = (one_spelling (tokens_from bytes jsonc 0) a.rest b.rest a.here b.here a.spells again).0 in
    let same : SameText bytes those a.here m =
    subst (λ l. SameText l those a.here m) (sym e) (subst (λ x. SameText (node_bytes those m) those x m) (sym one) b.same) in
    text-through bytes these those a.here n m a.same same

-- They are read alike, where nodes of the same text are.
pub bytes-read_alike : {V : Type 0} (reading : List ℕ → Node → Option V) → SameReading reading → ReadsBytesAlike reading
bytes-read_alike reading same these those n m s r e = same these those n m (same-bytes these those n m s r e)
