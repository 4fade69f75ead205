-- The tokens of a value are a run.
use Rattle.std.proofs.Common.{◌≡◌, true, ap, refl, ◌∙◌}
use Rattle.facet_format.specs.Event as event
use Rattle.facet_json_token.specs.Token.{Kind, Token, string, array_end, object_end, comma, colon}
use Rattle.facet_json_token.specs.Tokens.{Tokens, next}
use Rattle.facet_json_grammar.specs.Node.{Node, Nodes, Members, is_scalar, is_string, Spells, SpellsItems, closed, item_and_comma, last_item, SpellsMembers, ended_members, member_and_comma, last_member}
use Rattle.facet_json_grammar.specs.Node as node
use Rattle.facet_json_grammar.specs.Run.{is_separator, Run, one_token, brackets, RunsInside, nothing, separator, a_run}
use Rattle.facet_json_grammar.specs.RunLaws.{last_token_of, SpelledIsRun}

-- A string is a scalar.
pub string-is_scalar : (k : Kind) → is_string k ≡ true → is_scalar k ≡ true
string-is_scalar (string start finish has_escapes) e = refl
string-is_scalar _ e = cc

-- A comma or colon before others is passed.
one_mark : (t : Token) (kind : Kind) (ts rest : Tokens) → t.kind ≡ kind → is_separator kind ≡ true → RunsInside ts rest →
    RunsInside (next t ts) rest
one_mark t kind ts rest e mark more = separator t ts rest (ap is_separator e ∙ mark) more

-- So are a key and its colon.
key_inside : (key mark : Token) (ts rest : Tokens) → is_string key.kind ≡ true → mark.kind ≡ colon → RunsInside ts rest →
    RunsInside (next key (next mark ts)) rest
key_inside key mark ts rest k c more =
    a_run _ (next mark ts) rest key (one_token key (next mark ts) (string-is_scalar key.kind k)) (one_mark mark colon ts rest c refl more)

-- What stands in a list or an object, and the bracket that closes it.
record IsClosed (kind : Kind) (ts : Tokens) (last : Token) (rest : Tokens) : Type 0 where
  inside : RunsInside ts (next last rest)
  closes : last.kind ≡ kind

mutual
  spelled : (ts rest : Tokens) (value : Node) → Spells ts value rest → Run ts (last_token_of value) rest
  spelled _ _ _ (node.one_token t rest e) = one_token t rest e
  spelled _ _ _ (node.brackets first last inner rest nodes e items) =
      let closed_list = items_closed inner rest nodes last items in
      brackets event.array first last inner rest e closed_list.inside closed_list.closes
  spelled _ _ _ (node.braces first last inner rest members e pairs) =
      let closed_object = members_closed inner rest members last pairs in
      brackets event.object first last inner rest e closed_object.inside closed_object.closes

  items_closed : (ts rest : Tokens) (nodes : Nodes) (last : Token) → SpellsItems ts nodes last rest → IsClosed array_end ts last rest
  items_closed _ _ _ _ (closed last rest e) = record { inside = nothing (next last rest); closes = e }
  items_closed _ _ _ _ (item_and_comma ts others rest value nodes mark last s c more) =
      let later = items_closed others rest nodes last more in
      record {
        inside = a_run _ _ _ _ (spelled ts _ value s) (one_mark mark comma others _ c refl later.inside);
        closes = later.closes;
      }
  items_closed _ _ _ _ (last_item ts rest value last s e) = record {
    inside = a_run _ _ _ _ (spelled ts _ value s) (nothing _);
    closes = e;
  }

  members_closed : (ts rest : Tokens) (members : Members) (last : Token) → SpellsMembers ts members last rest →
      IsClosed object_end ts last rest
  members_closed _ _ _ _ (ended_members last rest e) = record { inside = nothing (next last rest); closes = e }
  members_closed _ _ _ _ (member_and_comma ts others rest key mark value members separator_token last k c s e more) =
      let later = members_closed others rest members last more in
      let value_inside = a_run _ _ _ _ (spelled ts _ value s) (one_mark separator_token comma others _ e refl later.inside) in
      record { inside = key_inside key mark ts (next last rest) k c value_inside; closes = later.closes }
  members_closed _ _ _ _ (last_member ts rest key mark value last k c s e) =
      let value_inside = a_run _ _ _ _ (spelled ts _ value s) (nothing _) in
      record { inside = key_inside key mark ts (next last rest) k c value_inside; closes = e }

pub spelled_is_run : SpelledIsRun
spelled_is_run ts rest value s = spelled ts rest value s
