-- Laws of begun documents and of what they give.
use Rattle.std.specs.Prelude.{ℕ, ◌≡◌, List, [], ◌++◌, All, Contains, Some}
use Rattle.facet_json_token.specs.Gap.{Mode}
use Rattle.facet_json_token.specs.Token.{Token}
use Rattle.facet_json_token.specs.Tokens.{Tokens}
use Rattle.facet_json_token.specs.TokenList.{tokens}
use Rattle.facet_json_grammar.specs.Node.{Node, Spells}
use Rattle.facet_json_grammar.specs.Tree.{Tree}
use Rattle.facet_json_grammar.specs.Meaning.{tree_of}
use Rattle.facet_json_grammar.specs.Document.{IsDocument}
use Rattle.facet_json_grammar.specs.Place.{Place, root}
use Rattle.facet_format.specs.Event.{Passed}
use Rattle.facet_json_grammar.specs.Walk.{walk}
use Rattle.facet_json_grammar.specs.Future.{finished, events_before, Stage, reads, stuck, within}
use Rattle.facet_json_grammar.specs.Begun.{BegunDocument, LongestPrefix, tokens_before}
use Rattle.facet_format.specs.Complaint.{Refusal}
use Rattle.facet_json_grammar.specs.PrefixRefusal.{Refuses}

-- Tokens that begin a document are a prefix of the spelling of some value with a meaning, whatever follows that.
abbrev pub BegunIsPrefix : Type 0
BegunIsPrefix = (buffer : List ℕ) (ts rest : Tokens) (events : List Passed) (here : Stage) →
    BegunDocument buffer ts events here rest →
    (prefix : List Token) × (back : List Token) × (node : Node) × (value : Tree) × (ts ≡ tokens_before prefix rest)
    × ((other : Tokens) → Spells (tokens_before prefix (tokens_before back other)) node other)
    × (tree_of buffer node ≡ Some value)

-- A prefix of the spelling of a value with a meaning begins a document.
abbrev pub PrefixIsBegun : Type 0
PrefixIsBegun = (buffer : List ℕ) (prefix back : List Token) (other : Tokens) (node : Node) (value : Tree) →
    Spells (tokens_before prefix (tokens_before back other)) node other → tree_of buffer node ≡ Some value →
    (events : List Passed) × (here : Stage)
    × BegunDocument buffer (tokens_before prefix (tokens_before back other)) events here (tokens_before back other)

-- The event's last token is one of these.
abbrev pub EndsAmong : List Token → Passed → Type 0
EndsAmong ts p = (t : Token) × Contains ts t × (p.last ≡ t.span)

-- Whatever value goes on from it, a prefix gives the first events of that value's walk. Their last tokens are among its own; those
-- of the other events, in the tokens of an input, are not.
abbrev pub PrefixGivesWalk : Type 0
PrefixGivesWalk = (buffer : List ℕ) (mode : Mode) (prefix : List Token) (mid rest : Tokens) (node : Node) (value : Tree)
    (events : List Passed) (here : Stage) → BegunDocument buffer (tokens_before prefix mid) events here mid →
    Spells (tokens_before prefix mid) node rest → tree_of buffer node ≡ Some value →
    (more : List Passed) × (walk buffer node ≡ events ++ more) × All (EndsAmong prefix) events
    × (tokens buffer mode ≡ tokens_before prefix mid → All (λ p. EndsAmong prefix p → ⊥) more)

-- An input without a document has one longest prefix: all give the same events, and lead to the same place, before the same tokens.
abbrev pub OneGiven : Type 0
OneGiven = (buffer : List ℕ) (mode : Mode) → ((node : Node) (value : Tree) → IsDocument buffer mode node value → ⊥) →
    (events : List Passed) × (here : Place) × (rest : Tokens) × LongestPrefix buffer (tokens buffer mode) events here rest
    × ((others : List Passed) (there : Place) (left : Tokens) →
    LongestPrefix buffer (tokens buffer mode) others there left → (others ≡ events) × (there ≡ here) × (left ≡ rest))

-- What comes from the root of an input on: the walk of its document, or what the longest prefix gives, after which nothing goes on.
pub data RootComes (buffer : List ℕ) (mode : Mode) : Type 0 where
  document_comes : (node : Node) (value : Tree) → IsDocument buffer mode node value →
      reads buffer [] (within root) (tokens buffer mode) ≡ events_before (walk buffer node) finished →
      RootComes buffer mode
  prefix_comes : (events : List Passed) (here : Place) (rest : Tokens) →
      LongestPrefix buffer (tokens buffer mode) events here rest →
      reads buffer [] (within root) (tokens buffer mode) ≡ events_before events (stuck here rest) → RootComes buffer mode

-- Each input has a document, whose walk comes, or a longest prefix after which nothing comes.
abbrev pub InputComes : Type 0
InputComes = (buffer : List ℕ) (mode : Mode) → RootComes buffer mode

-- An input that is refused has no document.
abbrev pub RefusedHasNone : Type 0
RefusedHasNone = (buffer : List ℕ) (mode : Mode) (refusal : Refusal) (root : Node) (value : Tree) → Refuses buffer mode refusal →
    IsDocument buffer mode root value → ⊥

-- An input is refused in one way at most.
abbrev pub RefusedInOneWay : Type 0
RefusedInOneWay = (buffer : List ℕ) (mode : Mode) (r s : Refusal) → Refuses buffer mode r → Refuses buffer mode s → r ≡ s
