-- The node of a text that stands within a longer one: there it is moved, and the same bytes spell it.
use Rattle.std.specs.Prelude.{ℕ, List, length, slice_range}
use Rattle.std.proofs.Common.{◌≡◌, ◌+◌, ◌≤◌, List, ◌++◌, refl, sym, ap, ◌∙◌, arith}
use Rattle.facet_format.specs.Span.{stop}
use Rattle.facet_json_token.specs.Gap.{plain}
use Rattle.facet_json_token.specs.Cut.{cut}
use Rattle.facet_json_token.specs.Token.{Kind, Token, string, number}
use Rattle.facet_json_token.specs.Tokens.{Tokens, ended, refused, next}
use Rattle.facet_json_token.specs.TokenList.{tokens_from}
use Rattle.facet_json_token.proofs.CutBounds.{KindFits, TokenFits, cut-token_fits}
use Rattle.facet_json_token.proofs.TokensSteps.{tokens_by_first, tokens_from-others}
use Rattle.facet_json_grammar.specs.Node.{Node, Nodes, no_nodes, Members, no_members, Spells, one_token, brackets, braces, SpellsItems, closed, item_and_comma, last_item, SpellsMembers, ended_members, member_and_comma, last_member}
use Rattle.facet_json_grammar.specs.Refusal.{needs_meaning}
use Rattle.facet_json_grammar.specs.SkipLaws.{bytes_between}
use Rattle.facet_json_grammar.proofs.Cuts.MovedTokens.{moved_kind, moved, moved_node, moved_nodes, moved_members, moved-stop}
use Rattle.facet_json_grammar.proofs.Values.OneValue.{IsLeft}
use Rattle.facet_json_grammar.proofs.Values.RawValues.{slice-moved, first-token}
use Rattle.facet_json_core.specs.Meaning.Nodes.{SameToken, same_mark, same_string, same_number, SameText, same_scalars, same_arrays, same_objects, SameItems, same_none, same_first, SameMembers, same_no_members, same_member}

-- ---- the tokens of a text

-- Each token stands after the one before, within the text, and its kind says the truth.
abbrev AreFit : List ℕ → ℕ → Tokens → Type 0
AreFit raw from ended = Unit {0}
AreFit raw from (refused f) = Unit {0}
AreFit raw from (next t ts) = TokenFits raw from t × AreFit raw (stop t.span) ts

tokens-fit : (raw : List ℕ) (at : ℕ) (ts : Tokens) → at ≤ length raw → tokens_from raw plain at ≡ ts → AreFit raw at ts
tokens-fit raw at ended h e = tt
tokens-fit raw at (refused f) h e = tt
tokens-fit raw at (next t ts) h e =
    let is = first-token raw (cut raw at plain) t ts (sym (tokens_by_first raw plain at (cut raw at plain) refl) ∙ e) in
    let fits = cut-token_fits raw at plain t h is in
    (fits, tokens-fit raw (stop t.span) ts fits.within (tokens_from-others raw plain at t ts e))

-- These are the same, and the tokens go on so from an offset that is no less.
record GoOn (S : Type 0) (raw : List ℕ) (at : ℕ) (rest : Tokens) : Type 0 where
  same : S
  to : ℕ
  onward : at ≤ to
  fit : AreFit raw to rest

-- The same of what stands up to a closing bracket.
record GoOnAfter (S : Type 0) (raw : List ℕ) (at : ℕ) (last : Token) (rest : Tokens) : Type 0 where
  same : S
  ordered : at ≤ stop last.span
  within : stop last.span ≤ length raw
  fit : AreFit raw (stop last.span) rest

module _ (raw buffer after : List ℕ) (n : ℕ) (left : IsLeft buffer n (raw ++ after)) where
  -- ---- one token

  kind-same : (t : Token) (kind : Kind) → t.kind ≡ kind → KindFits raw t.span kind → stop t.span ≤ length raw → SameToken raw buffer t (moved n t)
  kind-same t (string start finish has_escapes) e fits within =
      same_string t (moved n t) start finish (n + start) (n + finish) has_escapes e (ap (moved_kind n) e)
      (sym (slice-moved buffer raw after n start finish left fits.ordered (omega (arith, fits.within))))
  kind-same t (number start finish hint) e fits within =
      same_number t (moved n t) start finish (n + start) (n + finish) hint e (ap (moved_kind n) e)
      (sym (slice-moved buffer raw after n start finish left (omega (arith, fits.starts, fits.finishes)) (omega (arith, fits.finishes))))
  kind-same t kind e fits within = same_mark t (moved n t) (ap needs_meaning e) (e ∙ sym (ap (moved_kind n) e))

  pub token-same : (at : ℕ) (t : Token) → TokenFits raw at t → SameToken raw buffer t (moved n t)
  token-same at t fits = kind-same t t.kind refl fits.kind_fits fits.within

  pub bytes-same : (first last : Token) → first.span.offset ≤ stop last.span → stop last.span ≤ length raw →
      bytes_between raw first last ≡ bytes_between buffer (moved n first) (moved n last)
  bytes-same first last ordered within =
      sym (slice-moved buffer raw after n first.span.offset (stop last.span) left ordered within)
      ∙ ap (slice_range buffer (n + first.span.offset)) (sym (moved-stop n last))

  -- ---- nodes

  mutual
    unfolding moved_node

    node-same : (ts : Tokens) (node : Node) (rest : Tokens) → Spells ts node rest → (at : ℕ) → AreFit raw at ts →
        GoOn (SameText raw buffer node (moved_node n node)) raw at rest
    node-same _ _ _ (one_token t rest k) at fit = record {
      same = same_scalars t (moved n t) (token-same at t fit.0) (bytes-same t t (omega (arith, fit.0.some)) fit.0.within);
      to = stop t.span;
      onward = omega (arith, fit.0.behind, fit.0.some);
      fit = fit.1;
    }
    node-same _ _ _ (brackets first last inner rest nodes k s) at fit =
        let inside = items-same inner nodes last rest s (stop first.span) fit.1 in
        record {
          same =
              same_arrays first last (moved n first) (moved n last) nodes (moved_nodes n nodes)
              (bytes-same first last (omega (arith, inside.ordered, fit.0.some)) inside.within) inside.same;
          to = stop last.span;
          onward = omega (arith, inside.ordered, fit.0.behind, fit.0.some);
          fit = inside.fit;
        }
    node-same _ _ _ (braces first last inner rest members k s) at fit =
        let inside = members-same inner members last rest s (stop first.span) fit.1 in
        record {
          same =
              same_objects first last (moved n first) (moved n last) members (moved_members n members)
              (bytes-same first last (omega (arith, inside.ordered, fit.0.some)) inside.within) inside.same;
          to = stop last.span;
          onward = omega (arith, inside.ordered, fit.0.behind, fit.0.some);
          fit = inside.fit;
        }

    items-same : (ts : Tokens) (nodes : Nodes) (last : Token) (rest : Tokens) → SpellsItems ts nodes last rest → (at : ℕ) → AreFit raw at ts →
        GoOnAfter (SameItems raw buffer nodes (moved_nodes n nodes)) raw at last rest
    items-same _ _ _ _ (closed last rest k) at fit =
        record { same = same_none; ordered = omega (arith, fit.0.behind, fit.0.some); within = fit.0.within; fit = fit.1 }
    items-same _ _ _ _ (item_and_comma ts others rest node nodes separator last s k more) at fit =
        let first = node-same ts node (next separator others) s at fit in
        let later = items-same others nodes last rest more (stop separator.span) first.fit.1 in
        record {
          same = same_first node (moved_node n node) nodes (moved_nodes n nodes) first.same later.same;
          ordered = omega (arith, first.onward, first.fit.0.behind, first.fit.0.some, later.ordered);
          within = later.within;
          fit = later.fit;
        }
    items-same _ _ _ _ (last_item ts rest node last s k) at fit =
        let first = node-same ts node (next last rest) s at fit in
        record {
          same = same_first node (moved_node n node) no_nodes no_nodes first.same same_none;
          ordered = omega (arith, first.onward, first.fit.0.behind, first.fit.0.some);
          within = first.fit.0.within;
          fit = first.fit.1;
        }

    members-same : (ts : Tokens) (members : Members) (last : Token) (rest : Tokens) → SpellsMembers ts members last rest → (at : ℕ) →
        AreFit raw at ts → GoOnAfter (SameMembers raw buffer members (moved_members n members)) raw at last rest
    members-same _ _ _ _ (ended_members last rest k) at fit =
        record { same = same_no_members; ordered = omega (arith, fit.0.behind, fit.0.some); within = fit.0.within; fit = fit.1 }
    members-same _ _ _ _ (member_and_comma ts others rest key mark node members separator last i c s k more) at fit =
        let first = node-same ts node (next separator others) s (stop mark.span) fit.1.1 in
        let later = members-same others members last rest more (stop separator.span) first.fit.1 in
        record {
          same =
              same_member key mark (moved n key) (moved n mark) node (moved_node n node) members (moved_members n members)
              (token-same at key fit.0) first.same later.same;
          ordered =
              omega (arith, fit.0.behind, fit.0.some, fit.1.0.behind, fit.1.0.some, first.onward, first.fit.0.behind, first.fit.0.some, later.ordered);
          within = later.within;
          fit = later.fit;
        }
    members-same _ _ _ _ (last_member ts rest key mark node last i c s k) at fit =
        let first = node-same ts node (next last rest) s (stop mark.span) fit.1.1 in
        record {
          same =
              same_member key mark (moved n key) (moved n mark) node (moved_node n node) no_members no_members (token-same at key fit.0) first.same
              same_no_members;
          ordered = omega (arith, fit.0.behind, fit.0.some, fit.1.0.behind, fit.1.0.some, first.onward, first.fit.0.behind, first.fit.0.some);
          within = first.fit.0.within;
          fit = first.fit.1;
        }

  -- A node that a front of the text's tokens spells is spelled by the same bytes where the text stands.
  pub moved-same : (node : Node) (rest : Tokens) → Spells (tokens_from raw plain 0) node rest → SameText raw buffer node (moved_node n node)
  moved-same node rest s =
      (node-same (tokens_from raw plain 0) node rest s 0 (tokens-fit raw 0 (tokens_from raw plain 0) (omega arith) refl)).same
