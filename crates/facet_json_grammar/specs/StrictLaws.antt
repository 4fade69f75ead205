-- Laws of documents of RFC 8259 alone.
use Rattle.std.specs.Prelude.{◌≡◌, ℕ, List, []}
use Rattle.facet_json_token.specs.Gap.{plain}
use Rattle.facet_json_token.specs.Tokens.{Tokens}
use Rattle.facet_json_grammar.specs.Node.{Node}
use Rattle.facet_json_grammar.specs.Tree.{Tree}
use Rattle.facet_json_grammar.specs.Document.{IsDocument}
use Rattle.facet_json_grammar.specs.StrictDocument.{IsStrictDocument}
use Rattle.facet_json_grammar.specs.StrictTokens.{tokens_in}
use Rattle.facet_json_grammar.specs.Language.{strict, strict_rules}
use Rattle.facet_json_grammar.specs.Place.{Place, root}
use Rattle.facet_format.specs.Event.{Passed}
use Rattle.facet_json_grammar.specs.Walk.{walk}
use Rattle.facet_json_grammar.specs.Future.{finished, events_before, reads_by, stuck, within}

-- A strict document is the same plain document.
abbrev pub StrictIsPlain : Type 0
StrictIsPlain = (buffer : List ℕ) (node : Node) (value : Tree) → IsStrictDocument buffer node value → IsDocument buffer plain node value

-- What comes from the root of an input on where RFC 8259 alone is read: the walk of its strict document; or, where it has none, events after
-- which nothing goes on.
pub data StrictRootComes (buffer : List ℕ) : Type 0 where
  document_comes : (node : Node) (value : Tree) → IsStrictDocument buffer node value →
      reads_by strict_rules buffer [] (within root) (tokens_in (strict plain) buffer 0) ≡ events_before (walk buffer node) finished →
      StrictRootComes buffer
  no_document_comes : (events : List Passed) (here : Place) (rest : Tokens) →
      ((node : Node) (value : Tree) → IsStrictDocument buffer node value → ⊥) →
      reads_by strict_rules buffer [] (within root) (tokens_in (strict plain) buffer 0) ≡ events_before events (stuck here rest) →
      StrictRootComes buffer

abbrev pub StrictInputComes : Type 0
StrictInputComes = (buffer : List ℕ) → StrictRootComes buffer
