-- Two parsers that are one value answer alike.
use Rattle.std.proofs.Common.{◌≡◌, ℕ, List}
use Rattle.facet_format.specs.Complaint.{Refusal}
use Rattle.facet_json_grammar.specs.Future.{Future, gives, finished, stuck}
use Rattle.facet_json_grammar.specs.Reader.{future_at}
use Rattle.facet_json_grammar.proofs.StuckOnce.{stuck-once}
use Rattle.facet_json_grammar.proofs.Parts.OnePart.{one-part}
use Rattle.facet_format.proofs.CursorAgrees.{runs-agree}
use Rattle.facet_json_grammar.specs.Now.{on_input, RefusedAt}
use Rattle.facet_json_grammar.specs.ParserLaws.{MovesAgree}

-- At a place one refusal comes.
refused-once : (buffer : List ℕ) (future : Future) (r q : Refusal) → RefusedAt buffer future r → RefusedAt buffer future q → r ≡ q
refused-once buffer (gives p future) r q first second = absurd first
refused-once buffer finished r q first second = absurd first
refused-once buffer (stuck place rest) r q first second = stuck-once buffer place rest r q first second

-- Both are runs of one cursor over the input's places.
pub moves-agree : MovesAgree
moves-agree now calls these those new changed first second =
    runs-agree (on_input now.buffer now.language) (λ place. refused-once now.buffer (future_at now.buffer now.language place))
    (one-part now.buffer now.language) now.cursor new.cursor changed.cursor calls these those first.run second.run
