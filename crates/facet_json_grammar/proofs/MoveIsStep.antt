-- On a document each move of a parser is a step of the cursor on its walk, and all moves in order are a run of it.
use Rattle.std.specs.Prelude.{ℕ, List}
use Rattle.std.proofs.Common.{ℕ, List}
use Rattle.facet_json_token.specs.Gap.{Mode}
use Rattle.facet_format.specs.Cursor.{Call, Answer, Cursor, on_walk, start, Run}
use Rattle.facet_format.specs.Part.{Source}
use Rattle.facet_format.specs.Steps.{IsStep}
use Rattle.facet_format.specs.Alike.{CursorsAlike}
use Rattle.facet_json_grammar.specs.Node.{Node}
use Rattle.facet_json_grammar.specs.Tree.{Tree}
use Rattle.facet_json_grammar.specs.Document.{IsDocument}
use Rattle.facet_json_grammar.specs.Walk.{source_of}
use Rattle.facet_json_grammar.specs.Now.{Now, fresh, SameInput, StandsAt}
use Rattle.facet_json_grammar.specs.OnWalk.{IsOnWalk}
use Rattle.facet_json_grammar.specs.Move.{Moves, MovesAll}
use Rattle.facet_json_grammar.proofs.StandsOnWalk.{fresh-stands, input-on_walk}
use Rattle.facet_format.proofs.StepsAlike.{step-alike, run-alike}

-- Where the input is the same, a parser stands where its places say.
stands-still : (old new : Now) (w : Source) (d : Cursor ℕ) → SameInput old new →
    CursorsAlike (IsOnWalk old.buffer old.language w) new.cursor d → StandsAt new w d
stands-still old new w d same on = rw (same.buffer, same.language) on

-- Where a call is a move, it is a step of the cursor.
pub move-steps : (old new : Now) (call : Call) (answer : Answer) → Moves old call answer new → IsStep StandsAt old call answer new
move-steps old new call answer move w c stands =
    let found = step-alike _ (on_walk w) _ (input-on_walk old.buffer old.language w) stands move.step in
    (found.0, found.1, stands-still old new w found.0 move.input found.2)

-- So are all moves of a list of calls a run of it.
pub moves-run : (old new : Now) (w : Source) (c : Cursor ℕ) {calls : List Call} {answers : List Answer} → StandsAt old w c →
    MovesAll old calls answers new → (d : Cursor ℕ) × Run (on_walk w) c calls answers d × StandsAt new w d
moves-run old new w c stands moves =
    let found = run-alike _ (on_walk w) _ (input-on_walk old.buffer old.language w) stands moves.run in
    (found.0, found.1, stands-still old new w found.0 moves.input found.2)

-- On a document a new parser answers every list of calls as the cursor does from its start.
pub document-run : (buffer : List ℕ) (mode : Mode) (node : Node) (value : Tree) {new : Now} {calls : List Call}
    {answers : List Answer} → IsDocument buffer mode node value → MovesAll (fresh buffer mode) calls answers new →
    (d : Cursor ℕ) × Run (on_walk (source_of buffer node)) start calls answers d × StandsAt new (source_of buffer node) d
document-run buffer mode node value {new = new} d moves =
    moves-run (fresh buffer mode) new (source_of buffer node) start (fresh-stands buffer mode node value d) moves
