-- A node that stands within a spelled one is spelled too, further on.
use Rattle.std.proofs.Common.{◌≡◌, ℕ, List, refl}
use Rattle.facet_format.specs.Span.{stop}
use Rattle.facet_json_token.specs.Gap.{Mode}
use Rattle.facet_json_token.specs.Token.{Token}
use Rattle.facet_json_token.specs.Tokens.{Tokens, next}
use Rattle.facet_json_token.specs.TokenList.{tokens_from}
use Rattle.facet_json_token.proofs.TokensSteps.{tokens_from-others}
use Rattle.facet_json_grammar.specs.Node.{Node, Nodes, Members, Spells, brackets, braces, SpellsItems, closed, item_and_comma, last_item, SpellsMembers, ended_members, member_and_comma, last_member}
use Rattle.facet_json_grammar.specs.RunLaws.{last_token_of}
use Rattle.facet_json_grammar.proofs.Parts.TokensAfterRuns.{tokens_from-run}
use Rattle.facet_json_grammar.proofs.Runs.SpelledRuns.{spelled_is_run}
use Rattle.facet_json_core.specs.Meaning.SameBytes.{IsSpelledIn, IsNodeOf, itself, in_list, in_object, IsAmongItems, in_first, in_others, IsAmongMembers, in_value, in_later, DocumentNodesAreSpelled}

module _ (buffer : List ℕ) (mode : Mode) where
  -- After a node stand the tokens from its end on.
  after-node : (from : ℕ) (ts rest : Tokens) (node : Node) → Spells ts node rest → tokens_from buffer mode from ≡ ts →
      tokens_from buffer mode (stop (last_token_of node).span) ≡ rest
  after-node from ts rest node s e = tokens_from-run buffer mode from ts rest (last_token_of node) (spelled_is_run ts rest node s) e

  mutual
    node-spelled : (from : ℕ) (ts rest : Tokens) (node inner : Node) → Spells ts node rest → tokens_from buffer mode from ≡ ts →
        IsNodeOf inner node → IsSpelledIn buffer inner
    node-spelled from ts rest _ inner s e itself = record { mode = mode; from = from; rest = rest; spells = rw e s }
    node-spelled from _ _ _ inner (brackets first last ts rest nodes k s) e (in_list _ _ _ i) =
        items-spelled (stop first.span) ts rest nodes last inner s (tokens_from-others buffer mode from first ts e) i
    node-spelled from _ _ _ inner (braces first last ts rest members k s) e (in_object _ _ _ i) =
        members-spelled (stop first.span) ts rest members last inner s (tokens_from-others buffer mode from first ts e) i

    items-spelled : (from : ℕ) (ts rest : Tokens) (nodes : Nodes) (last : Token) (inner : Node) → SpellsItems ts nodes last rest →
        tokens_from buffer mode from ≡ ts → IsAmongItems inner nodes → IsSpelledIn buffer inner
    items-spelled from _ _ _ _ inner (closed last rest k) e i = elim i [ ]
    items-spelled from _ _ _ _ inner (item_and_comma ts others rest node nodes separator last s k more) e (in_first _ _ i) =
        node-spelled from ts (next separator others) node inner s e i
    items-spelled from _ _ _ _ inner (item_and_comma ts others rest node nodes separator last s k more) e (in_others _ _ i) =
        items-spelled (stop separator.span) others rest nodes last inner more
        (tokens_from-others buffer mode (stop (last_token_of node).span) separator others (after-node from ts (next separator others) node s e)) i
    items-spelled from _ _ _ _ inner (last_item ts rest node last s k) e (in_first _ _ i) = node-spelled from ts (next last rest) node inner s e i
    items-spelled from _ _ _ _ inner (last_item ts rest node last s k) e (in_others _ _ i) = elim i [ ]

    members-spelled : (from : ℕ) (ts rest : Tokens) (members : Members) (last : Token) (inner : Node) → SpellsMembers ts members last rest →
        tokens_from buffer mode from ≡ ts → IsAmongMembers inner members → IsSpelledIn buffer inner
    members-spelled from _ _ _ _ inner (ended_members last rest k) e i = elim i [ ]
    members-spelled from _ _ _ _ inner (member_and_comma ts others rest key mark node members separator last k c s j more) e (in_value _ _ _ _ i) =
        node-spelled (stop mark.span) ts (next separator others) node inner s
        (tokens_from-others buffer mode (stop key.span) mark ts (tokens_from-others buffer mode from key (next mark ts) e)) i
    members-spelled from _ _ _ _ inner (member_and_comma ts others rest key mark node members separator last k c s j more) e (in_later _ _ _ _ i) =
        let here = tokens_from-others buffer mode (stop key.span) mark ts (tokens_from-others buffer mode from key (next mark ts) e) in
        members-spelled (stop separator.span) others rest members last inner more
        (tokens_from-others buffer mode (stop (last_token_of node).span) separator others (after-node (stop mark.span) ts (next separator others) node s here)) i
    members-spelled from _ _ _ _ inner (last_member ts rest key mark node last k c s j) e (in_value _ _ _ _ i) =
        node-spelled (stop mark.span) ts (next last rest) node inner s
        (tokens_from-others buffer mode (stop key.span) mark ts (tokens_from-others buffer mode from key (next mark ts) e)) i
    members-spelled from _ _ _ _ inner (last_member ts rest key mark node last k c s j) e (in_later _ _ _ _ i) = elim i [ ]

-- The nodes of a document are spelled in its input.
pub document-nodes : DocumentNodesAreSpelled
document-nodes buffer mode root node value d i =
    node-spelled buffer mode 0 (tokens_from buffer mode 0) d.rest root node d.reads.spells refl i
