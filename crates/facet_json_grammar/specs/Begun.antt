-- Begun documents: prefixes of tokens with which some document begins, and the events that they give (RFC 8259, sections 2 to 5).
use Rattle.std.specs.Prelude.{◌≡◌, ◌≤◌, ℕ, true, List, [], ◌∷◌, ◌++◌, Some}
use Rattle.facet_json_token.specs.Gap.{Mode}
use Rattle.facet_json_token.specs.Token.{Token}
use Rattle.facet_json_token.specs.Token as token
use Rattle.facet_json_token.specs.Tokens.{Tokens, next}
use Rattle.facet_json_token.specs.TokenList.{tokens}
use Rattle.facet_json_grammar.specs.Node.{Node, Spells, is_string}
use Rattle.facet_json_grammar.specs.Tree.{Tree}
use Rattle.facet_json_grammar.specs.Meaning.{meaning, tree_of, text_in_tree}
use Rattle.facet_json_grammar.specs.Order.{count}
use Rattle.facet_json_grammar.specs.Place.{Place, root, before_key, after_key, after_colon, after_member, before_item, after_item}
use Rattle.facet_format.specs.Complaint.{Refusal}
use Rattle.facet_json_grammar.specs.Refusal.{IsStuck}
use Rattle.facet_format.specs.Event.{object, array, struct_start, sequence_start, Passed}
use Rattle.facet_json_grammar.specs.Walk.{event_at, key_event, walk}
use Rattle.facet_json_grammar.specs.Future.{Stage, within, over}

-- these tokens, and then others
abbrev pub tokens_before : List Token → Tokens → Tokens
tokens_before [] rest = rest
tokens_before (t ∷ ts) rest = next t (tokens_before ts rest)

-- The tokens before the last ones, which have a meaning, begin a value, give these events, and lead to the stage `here`. The
-- value stands at the place, and after all of it stands the stage `after`. An event is there once its last token is.
mutual
  pub data Begun (buffer : List ℕ) : Place → Stage → Tokens → List Passed → Stage → Tokens → Type 0 where
    nothing : (place : Place) (after : Stage) (ts : Tokens) → Begun buffer place after ts [] (within place) ts
    whole : (place : Place) (after : Stage) (ts rest : Tokens) (node : Node) (value : Tree) → Spells ts node rest →
        tree_of buffer node ≡ Some value → Begun buffer place after ts (walk buffer node) after rest
    in_list : (place : Place) (after here : Stage) (first : Token) (inner rest : Tokens) (events : List Passed) →
        first.kind ≡ token.array_start → ListBegun buffer inner events here rest →
        Begun buffer place after (next first inner) (event_at (sequence_start array) first ∷ events) here rest
    in_object : (place : Place) (after here : Stage) (first : Token) (inner rest : Tokens) (events : List Passed) →
        first.kind ≡ token.object_start → ObjectBegun buffer inner events here rest →
        Begun buffer place after (next first inner) (event_at (struct_start object) first ∷ events) here rest

  -- the same after a bracket that opens a list, or after a comma of that list: items each with its comma, then the beginning of one
  pub data ListBegun (buffer : List ℕ) : Tokens → List Passed → Stage → Tokens → Type 0 where
    begins_item : (ts rest : Tokens) (events : List Passed) (here : Stage) →
        Begun buffer before_item (within after_item) ts events here rest → ListBegun buffer ts events here rest
    past_item : (ts others rest : Tokens) (node : Node) (value : Tree) (separator : Token) (events all : List Passed)
        (here : Stage) → Spells ts node (next separator others) → tree_of buffer node ≡ Some value →
        separator.kind ≡ token.comma → ListBegun buffer others events here rest → all ≡ walk buffer node ++ events →
        ListBegun buffer ts all here rest

  -- the same after a brace that opens an object, or after a comma of that object
  pub data ObjectBegun (buffer : List ℕ) : Tokens → List Passed → Stage → Tokens → Type 0 where
    no_key : (ts : Tokens) → ObjectBegun buffer ts [] (within before_key) ts
    -- its event is given with its colon
    key_alone : (key : Token) (rest : Tokens) (name : List ℕ) → is_string key.kind ≡ true →
        text_in_tree (meaning buffer key) ≡ Some name → ObjectBegun buffer (next key rest) [] (within after_key) rest
    begins_member : (key mark : Token) (ts rest : Tokens) (name : List ℕ) (events : List Passed) (here : Stage) →
        is_string key.kind ≡ true → text_in_tree (meaning buffer key) ≡ Some name → mark.kind ≡ token.colon →
        Begun buffer after_colon (within after_member) ts events here rest →
        ObjectBegun buffer (next key (next mark ts)) (key_event buffer key mark ∷ events) here rest
    past_member : (key mark : Token) (ts others rest : Tokens) (name : List ℕ) (node : Node) (value : Tree)
        (separator : Token) (events all : List Passed) (here : Stage) → is_string key.kind ≡ true →
        text_in_tree (meaning buffer key) ≡ Some name → mark.kind ≡ token.colon → Spells ts node (next separator others) →
        tree_of buffer node ≡ Some value → separator.kind ≡ token.comma → ObjectBegun buffer others events here rest →
        all ≡ key_event buffer key mark ∷ walk buffer node ++ events → ObjectBegun buffer (next key (next mark ts)) all here rest

-- The tokens begin a document.
abbrev pub BegunDocument : List ℕ → Tokens → List Passed → Stage → Tokens → Type 0
BegunDocument buffer ts events here rest = Begun buffer root over ts events here rest

-- The longest prefix that begins a document gives these events, and leads to this place, before these tokens.
pub record LongestPrefix (buffer : List ℕ) (ts : Tokens) (events : List Passed) (here : Place) (rest : Tokens) : Type 0 where
  pub begun : BegunDocument buffer ts events (within here) rest
  pub longest : (others : List Passed) (there : Stage) (left : Tokens) → BegunDocument buffer ts others there left →
      count rest ≤ count left

-- Where the input has no document, these events are given, and then it is refused so, by what stands after the longest prefix.
pub record RefusesAfter (buffer : List ℕ) (mode : Mode) (events : List Passed) (refusal : Refusal) : Type 0 where
  pub here : Place
  pub rest : Tokens
  pub prefix : LongestPrefix buffer (tokens buffer mode) events here rest
  pub stuck : IsStuck buffer here rest refusal
