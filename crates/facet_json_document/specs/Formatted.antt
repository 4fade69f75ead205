-- Which texts are formatted, and how the others are refused.
use Rattle.std.specs.Prelude.{◌≡◌, ◌≢◌, ◌⊎◌, ℕ, List, Option, Some, None}
use Rattle.facet_format.specs.Complaint.{Refusal}
use Rattle.facet_format.specs.Event.{Passed}
use Rattle.facet_format.specs.Span.{Span}
use Rattle.facet_json_token.specs.Gap.{Mode, plain}
use Rattle.facet_json_token.specs.Tokens.{Tokens, ended}
use Rattle.facet_json_token.specs.TokenList.{tokens}
use Rattle.facet_json_grammar.specs.Document.{IsDocument, Reads}
use Rattle.facet_json_grammar.specs.Future.{events_before, stuck}
use Rattle.facet_json_grammar.specs.Language.{strict}
use Rattle.facet_json_grammar.specs.Node.{Node}
use Rattle.facet_json_grammar.specs.Now.{Now, fresh_in, future_of}
use Rattle.facet_json_grammar.specs.Place.{Place, after_root}
use Rattle.facet_json_grammar.specs.PrefixRefusal.{Refuses, IsStuck}
use Rattle.facet_json_grammar.specs.Tree.{Tree}
use Rattle.facet_json_core.specs.Reading.{LacksMemory}
use Rattle.facet_json_tree.specs.Depth.{too_deep_at, beyond}

-- The text begins with a document.
abbrev pub BeginsDocument : List ℕ → Mode → Type 0
BeginsDocument text mode = (root : Node) × (tree : Tree) × IsDocument text mode root tree

-- All of the text is this document, with this tree: nothing but a gap follows it.
abbrev pub IsOneDocument : List ℕ → Mode → Node → Tree → Type 0
IsOneDocument text mode root tree = Reads text (tokens text mode) root tree ended

-- All of the text is a document.
abbrev pub HasOneDocument : List ℕ → Mode → Type 0
HasOneDocument text mode = (root : Node) × (tree : Tree) × IsOneDocument text mode root tree

-- Where all of the one text is a document, so is all of the other, and it has the same tree.
abbrev pub HaveOneTree : List ℕ → List ℕ → Mode → Type 0
HaveOneTree text other mode = (root : Node) (tree : Tree) → IsOneDocument text mode root tree → (node : Node) × IsOneDocument other mode node tree

-- The text is not one document: it begins with none, or a token or a fault stands behind it. It is refused so.
pub data RefusesOne (text : List ℕ) (mode : Mode) (refusal : Refusal) : Type 0 where
  no_document : Refuses text mode refusal → RefusesOne text mode refusal
  more_follows : (root : Node) (tree : Tree) (rest : Tokens) → Reads text (tokens text mode) root tree rest →
      rest ≢ ended → IsStuck text after_root rest refusal → RefusesOne text mode refusal

-- Memory ran out, or the text is not one document, and is refused so.
abbrev pub LacksOrRefusesOne : List ℕ → Mode → Refusal → Type 0
LacksOrRefusesOne text mode refusal = LacksMemory refusal ⊎ RefusesOne text mode refusal

-- After some events nothing goes on with what comes, and it is refused so.
pub record GetsStuck (now : Now) (refusal : Refusal) : Type 0 where
  pub events : List Passed
  pub place : Place
  pub rest : Tokens
  pub comes : future_of now ≡ events_before events (stuck place rest)
  pub so : IsStuck now.buffer place rest refusal

-- Memory ran out, or RFC 8259 has no such text, and it is refused so.
abbrev pub LacksOrGetsStuck : List ℕ → Refusal → Type 0
LacksOrGetsStuck text refusal = LacksMemory refusal ⊎ GetsStuck (fresh_in text (strict plain)) refusal

-- After some events nothing goes on with what comes, and none of them opens a container beyond the limit; or one does. It is refused so.
pub data GetsStuckWithin (limit : Option ℕ) (now : Now) (refusal : Refusal) : Type 0 where
  as_ever : GetsStuck now refusal → beyond (future_of now) limit ≡ None → GetsStuckWithin limit now refusal
  opens_beyond : (span : Span) → beyond (future_of now) limit ≡ Some span → refusal ≡ too_deep_at span → GetsStuckWithin limit now refusal
