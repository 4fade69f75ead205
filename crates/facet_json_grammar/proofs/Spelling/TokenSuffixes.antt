-- What stands after a value is a suffix of the tokens.
use Rattle.facet_json_token.specs.Token.{Token}
use Rattle.facet_json_token.specs.Tokens.{Tokens, next}
use Rattle.facet_json_grammar.specs.Node.{Node, Nodes, Members, Spells, one_token, brackets, braces, SpellsItems, closed, item_and_comma, last_item, SpellsMembers, ended_members, member_and_comma, last_member}

-- The second tokens are a suffix of the first.
pub data IsSuffix : Tokens → Tokens → Type 0 where
  all : (ts : Tokens) → IsSuffix ts ts
  later : (t : Token) (ts rest : Tokens) → IsSuffix ts rest → IsSuffix (next t ts) rest

IsSuffix-trans : (a b c : Tokens) → IsSuffix a b → IsSuffix b c → IsSuffix a c
IsSuffix-trans a b c (all _) q = q
IsSuffix-trans a b c (later t ts _ p) q = later t ts c (IsSuffix-trans ts b c p q)

-- What stands after a first token.
behind : (t : Token) (ts rest : Tokens) → IsSuffix ts (next t rest) → IsSuffix ts rest
behind t ts rest p = IsSuffix-trans ts (next t rest) rest p (later t rest rest (all rest))

mutual
  pub Spells-suffix : (ts : Tokens) (node : Node) (rest : Tokens) → Spells ts node rest → IsSuffix ts rest
  Spells-suffix _ _ _ (one_token t rest k) = later t rest rest (all rest)
  Spells-suffix _ _ _ (brackets first last inner rest nodes k s) = later first inner rest (items-suffix inner nodes last rest s)
  Spells-suffix _ _ _ (braces first last inner rest members k s) = later first inner rest (members-suffix inner members last rest s)

  items-suffix : (ts : Tokens) (nodes : Nodes) (last : Token) (rest : Tokens) → SpellsItems ts nodes last rest → IsSuffix ts rest
  items-suffix _ _ _ _ (closed last rest k) = later last rest rest (all rest)
  items-suffix _ _ _ _ (item_and_comma ts others rest node nodes separator last s k more) = IsSuffix-trans ts others rest (behind separator ts others (Spells-suffix ts node _ s)) (items-suffix others nodes last rest more)
  items-suffix _ _ _ _ (last_item ts rest node last s k) = behind last ts rest (Spells-suffix ts node _ s)

  members-suffix : (ts : Tokens) (members : Members) (last : Token) (rest : Tokens) → SpellsMembers ts members last rest → IsSuffix ts rest
  members-suffix _ _ _ _ (ended_members last rest k) = later last rest rest (all rest)
  members-suffix _ _ _ _ (member_and_comma ts others rest key mark node members separator last n c s k more) =
      later key _ rest (later mark ts rest (IsSuffix-trans ts others rest (behind separator ts others (Spells-suffix ts node _ s)) (members-suffix others members last rest more)))
  members-suffix _ _ _ _ (last_member ts rest key mark node last n c s k) = later key _ rest (later mark ts rest (behind last ts rest (Spells-suffix ts node _ s)))
