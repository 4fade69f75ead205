-- What the definitions of runs mean. Each law is the contract of a function of the module `laws`.
use Rattle.std.specs.Prelude.{◌≡◌, ◌⊎◌, ℕ, List}
use Rattle.facet_format.specs.Complaint.{Refusal}
use Rattle.facet_format.specs.Event.{ContainerKind}
use Rattle.facet_json_token.specs.Token.{Token}
use Rattle.facet_json_token.specs.Tokens.{Tokens, next}
use Rattle.facet_json_grammar.specs.Node.{Node, scalar, array, object, Spells}
use Rattle.facet_json_grammar.specs.Run.{Run, BreaksOff, opening}

-- At most one run begins with given tokens.
abbrev pub OneRun : Type 0
OneRun = (ts r s : Tokens) (a b : Token) → Run ts a r → Run ts b s → (a ≡ b) × (r ≡ s)

-- a value's last token
abbrev pub last_token_of : Node → Token
last_token_of (scalar t) = t
last_token_of (array first last items) = last
last_token_of (object first last pairs) = last

-- The tokens of a value are a run.
abbrev pub SpelledIsRun : Type 0
SpelledIsRun = (ts rest : Tokens) (node : Node) → Spells ts node rest → Run ts (last_token_of node) rest

-- Tokens that begin with an opening bracket begin with a run, or break off.
abbrev pub RunsOrBreaksOff : Type 0
RunsOrBreaksOff = (buffer : List ℕ) (kind : ContainerKind) (first : Token) (inner : Tokens) → first.kind ≡ opening kind →
    ((last : Token) × (rest : Tokens) × Run (next first inner) last rest)
    ⊎ ((refusal : Refusal) × BreaksOff buffer (next first inner) refusal)

-- No run breaks off.
abbrev pub NoRunBreaksOff : Type 0
NoRunBreaksOff = (buffer : List ℕ) (ts rest : Tokens) (last : Token) (refusal : Refusal) → Run ts last rest →
    BreaksOff buffer ts refusal → ⊥

-- Tokens break off in one way.
abbrev pub OneBreak : Type 0
OneBreak = (buffer : List ℕ) (ts : Tokens) (a b : Refusal) → BreaksOff buffer ts a → BreaksOff buffer ts b → a ≡ b
