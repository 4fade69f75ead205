-- Where a place of an input is one on a document's walk.
use Rattle.std.specs.Prelude.{◌≡◌, ◌≤◌, ℕ, List, length, drop}
use Rattle.facet_format.specs.Part.{Source, last_of}
use Rattle.facet_json_grammar.specs.Language.{Language}
use Rattle.facet_json_grammar.specs.Future.{finished, events_before}
use Rattle.facet_json_grammar.specs.Reader.{Reader, future_at}

-- The reader stands at the place on the walk in the same input: the same events come, after the same token.
pub record IsOnWalk (buffer : List ℕ) (language : Language) (w : Source) (s : Reader) (place : ℕ) : Type 0 where
  pub bytes : buffer ≡ w.bytes
  pub place_within : place ≤ length w.events
  pub comes : future_at buffer language s ≡ events_before (drop place w.events) finished
  pub last : s.last ≡ last_of w.events place
