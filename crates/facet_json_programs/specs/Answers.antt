-- What an answer is (JSON-RPC 2.0, section 5).
use Rattle.std.specs.Prelude.{ℕ, List, codes}
use Rattle.facet_json.specs.Tree.{Tree, text, raw, pairs, pair, no_pairs}

-- the answer to the request of this id: its result or its error, as the name says
abbrev pub answer : List ℕ → List ℕ → List ℕ → Tree
answer id name part = pairs (pair (codes "jsonrpc") (text (codes "2.0")) (pair (codes "id") (raw id) (pair name (raw part) no_pairs)))
