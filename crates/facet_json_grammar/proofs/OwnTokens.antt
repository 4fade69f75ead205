-- The own tokens of a spelling: whatever follows them they spell the same, and the events of its walk end in them.
use Rattle.std.proofs.Common.{◌≡◌, List, [], ◌∷◌, ◌++◌, refl, sym, ap, ◌∙◌, arith}
use Rattle.std.specs.Prelude.{ℕ, List, All, Contains}
use Rattle.std.proofs.lemmas.List.Elements.{All-nil, All-cons, All-append, All-weaker, Contains-append_left, Contains-append_right}
use Rattle.facet_format.specs.Event.{EventKind, Passed}
use Rattle.facet_json_token.specs.Token.{Token}
use Rattle.facet_json_token.specs.Tokens.{Tokens, next}
use Rattle.facet_json_grammar.specs.Node.{Node, Nodes, Members, Spells, one_token, brackets, braces, SpellsItems, closed, item_and_comma, last_item, SpellsMembers, ended_members, member_and_comma, last_member}
use Rattle.facet_json_grammar.specs.Walk.{event_at, key_event, walk, walk_items, walk_members}
use Rattle.facet_json_grammar.specs.Begun.{tokens_before}
use Rattle.facet_json_grammar.specs.EventLaws.{EndsAmong}

-- ---- lists of tokens before others

pub before-append : (a b : List Token) (rest : Tokens) → tokens_before (a ++ b) rest ≡ tokens_before a (tokens_before b rest)
before-append [] b rest = refl
before-append (t ∷ a) b rest = ap (next t) (before-append a b rest)

-- ---- where events end

-- The first token is one of them.
first-in : (t : Token) (ts : List Token) → Contains (t ∷ ts) t
first-in t ts = (0, omega arith, refl)

-- What stands after the token that follows others stands in all of them.
later-in : (a b : List Token) (t last : Token) → Contains b last → Contains (a ++ t ∷ b) last
later-in a b t last h = Contains-append_right a (t ∷ b) last (Contains-append_right (t ∷ []) b last h)

-- Events that end in tokens end in more of them.
ends-left : (a b : List Token) (events : List Passed) → All (EndsAmong a) events → All (EndsAmong (a ++ b)) events
ends-left a b events h =
    All-weaker (EndsAmong a) (EndsAmong (a ++ b)) (λ p e. (e.0, Contains-append_left a b e.0 e.1, e.2)) events h

ends-right : (a b : List Token) (events : List Passed) → All (EndsAmong b) events → All (EndsAmong (a ++ b)) events
ends-right a b events h =
    All-weaker (EndsAmong b) (EndsAmong (a ++ b)) (λ p e. (e.0, Contains-append_right a b e.0 e.1, e.2)) events h

-- Events on either side of a token.
pub ends-join : (a b : List Token) (t : Token) (events others : List Passed) → All (EndsAmong a) events → All (EndsAmong b) others →
    All (EndsAmong (a ++ t ∷ b)) (events ++ others)
ends-join a b t events others h k =
    All-append (EndsAmong (a ++ t ∷ b)) events others (ends-left a (t ∷ b) events h) (ends-right a (t ∷ b) others (ends-right (t ∷ []) b others k))

-- The event of one token, and others.
pub ends-first : (t : Token) (ts : List Token) (kind : EventKind) (events : List Passed) → All (EndsAmong ts) events →
    All (EndsAmong (t ∷ ts)) (event_at kind t ∷ events)
ends-first t ts kind events h =
    All-cons (EndsAmong (t ∷ ts)) (event_at kind t) events (t, first-in t ts, refl) (ends-right (t ∷ []) ts events h)

-- The event of a key, and others.
pub ends-key : (buffer : List ℕ) (key mark : Token) (ts : List Token) (events : List Passed) → All (EndsAmong ts) events →
    All (EndsAmong (key ∷ mark ∷ ts)) (key_event buffer key mark ∷ events)
ends-key buffer key mark ts events h =
    All-cons (EndsAmong (key ∷ mark ∷ ts)) (key_event buffer key mark) events (mark, (1, omega arith, refl), refl)
    (ends-right (key ∷ mark ∷ []) ts events h)

-- Others, and the event of one token.
ends-last : (ts : List Token) (last : Token) (kind : EventKind) (events : List Passed) → Contains ts last → All (EndsAmong ts) events →
    All (EndsAmong ts) (events ++ event_at kind last ∷ [])
ends-last ts last kind events c h =
    All-append (EndsAmong ts) events (event_at kind last ∷ []) h (All-cons (EndsAmong ts) (event_at kind last) [] (last, c, refl) (All-nil (EndsAmong ts)))

-- ---- a spelling's own tokens

module _ (buffer : List ℕ) where
  -- The tokens before the rest are these, and whatever else follows them, they spell the same.
  pub record SpelledBy (ts : Tokens) (node : Node) (rest : Tokens) : Type 0 where
    pub own : List Token
    pub here : ts ≡ tokens_before own rest
    pub anywhere : (other : Tokens) → Spells (tokens_before own other) node other
    pub ends : All (EndsAmong own) (walk buffer node)

  record ItemsBy (ts : Tokens) (nodes : Nodes) (last : Token) (rest : Tokens) : Type 0 where
    own : List Token
    here : ts ≡ tokens_before own rest
    anywhere : (other : Tokens) → SpellsItems (tokens_before own other) nodes last other
    ends : All (EndsAmong own) (walk_items buffer nodes)
    closes : Contains own last

  record MembersBy (ts : Tokens) (members : Members) (last : Token) (rest : Tokens) : Type 0 where
    own : List Token
    here : ts ≡ tokens_before own rest
    anywhere : (other : Tokens) → SpellsMembers (tokens_before own other) members last other
    ends : All (EndsAmong own) (walk_members buffer members)
    closes : Contains own last

  mutual
    unfolding walk

    pub spelled_by : {ts rest : Tokens} {node : Node} → Spells ts node rest → SpelledBy ts node rest
    spelled_by (one_token t rest k) = record {
      own = t ∷ [];
      here = refl;
      anywhere = λ other. one_token t other k;
      ends = ends-last (t ∷ []) t _ [] (first-in t []) (All-nil (EndsAmong (t ∷ [])));
    }
    spelled_by (brackets first last inner rest nodes k s) =
        let by = items_by s in
        record {
          own = first ∷ by.own;
          here = ap (next first) by.here;
          anywhere = λ other. brackets first last (tokens_before by.own other) other nodes k (by.anywhere other);
          ends = ends-first first by.own _ _ (ends-last by.own last _ (walk_items buffer nodes) by.closes by.ends);
        }
    spelled_by (braces first last inner rest ms k s) =
        let by = members_by s in
        record {
          own = first ∷ by.own;
          here = ap (next first) by.here;
          anywhere = λ other. braces first last (tokens_before by.own other) other ms k (by.anywhere other);
          ends = ends-first first by.own _ _ (ends-last by.own last _ (walk_members buffer ms) by.closes by.ends);
        }

    items_by : {ts rest : Tokens} {nodes : Nodes} {last : Token} → SpellsItems ts nodes last rest → ItemsBy ts nodes last rest
    items_by (closed last rest k) = record {
      own = last ∷ [];
      here = refl;
      anywhere = λ other. closed last other k;
      ends = All-nil (EndsAmong (last ∷ []));
      closes = first-in last [];
    }
    items_by (item_and_comma ts others rest node nodes separator last s k more) =
        let by = spelled_by s in
        let behind = items_by more in
        record {
          own = by.own ++ separator ∷ behind.own;
          here = by.here ∙ ap (λ r. tokens_before by.own (next separator r)) behind.here ∙ sym (before-append by.own (separator ∷ behind.own) rest);
          anywhere = λ other. rw (before-append by.own (separator ∷ behind.own) other) (item_and_comma (tokens_before by.own (next separator (tokens_before behind.own other))) (tokens_before behind.own other) other node nodes separator last (by.anywhere (next separator (tokens_before behind.own other))) k (behind.anywhere other));
          ends = ends-join by.own behind.own separator (walk buffer node) (walk_items buffer nodes) by.ends behind.ends;
          closes = later-in by.own behind.own separator last behind.closes;
        }
    items_by (last_item ts rest node last s k) =
        let by = spelled_by s in
        record {
          own = by.own ++ last ∷ [];
          here = by.here ∙ sym (before-append by.own (last ∷ []) rest);
          anywhere = λ other. rw (before-append by.own (last ∷ []) other) (last_item (tokens_before by.own (next last other)) other node last (by.anywhere (next last other)) k);
          ends = ends-join by.own [] last (walk buffer node) [] by.ends (All-nil (EndsAmong []));
          closes = Contains-append_right by.own (last ∷ []) last (first-in last []);
        }

    members_by : {ts rest : Tokens} {members : Members} {last : Token} → SpellsMembers ts members last rest →
        MembersBy ts members last rest
    members_by (ended_members last rest k) = record {
      own = last ∷ [];
      here = refl;
      anywhere = λ other. ended_members last other k;
      ends = All-nil (EndsAmong (last ∷ []));
      closes = first-in last [];
    }
    members_by (member_and_comma ts others rest key mark node ms separator last i c s k more) =
        let by = spelled_by s in
        let behind = members_by more in
        let inner = by.own ++ separator ∷ behind.own in
        record {
          own = key ∷ mark ∷ inner;
          here = ap (λ r. next key (next mark r)) (by.here ∙ ap (λ r. tokens_before by.own (next separator r)) behind.here ∙ sym (before-append by.own (separator ∷ behind.own) rest));
          anywhere = λ other. rw (before-append by.own (separator ∷ behind.own) other) (member_and_comma (tokens_before by.own (next separator (tokens_before behind.own other))) (tokens_before behind.own other) other key mark node ms separator last i c (by.anywhere (next separator (tokens_before behind.own other))) k (behind.anywhere other));
          ends = ends-key buffer key mark inner _ (ends-join by.own behind.own separator (walk buffer node) (walk_members buffer ms) by.ends behind.ends);
          closes = Contains-append_right (key ∷ mark ∷ []) inner last (later-in by.own behind.own separator last behind.closes);
        }
    members_by (last_member ts rest key mark node last i c s k) =
        let by = spelled_by s in
        let inner = by.own ++ last ∷ [] in
        record {
          own = key ∷ mark ∷ inner;
          here = ap (λ r. next key (next mark r)) (by.here ∙ sym (before-append by.own (last ∷ []) rest));
          anywhere = λ other. rw (before-append by.own (last ∷ []) other) (last_member (tokens_before by.own (next last other)) other key mark node last i c (by.anywhere (next last other)) k);
          ends = ends-key buffer key mark inner _ (ends-join by.own [] last (walk buffer node) [] by.ends (All-nil (EndsAmong [])));
          closes = Contains-append_right (key ∷ mark ∷ []) inner last (Contains-append_right by.own (last ∷ []) last (first-in last []));
        }
