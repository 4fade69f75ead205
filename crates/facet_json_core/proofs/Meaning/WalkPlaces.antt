-- What comes at a place of a walk, after it, and after a node.
use Rattle.std.specs.Prelude.{ℕ, List, drop, slice_get, length}
use Rattle.std.proofs.Common.{◌≡◌, ◌+◌, ℕ, zero, suc, List, [], ◌∷◌, ◌++◌, Some, sym, ap, ◌∙◌}
use Rattle.std.proofs.lemmas.List.{drop-drop, drop_more}
use Rattle.std.proofs.lemmas.Option.{slice_get_within, get_or_from_slice_get}
use Rattle.std.proofs.Math.Seq.{drop-append_seam}
use Rattle.facet_format.specs.Event.{Passed}
use Rattle.facet_format.specs.Part.{Source}
use Rattle.facet_json_grammar.specs.Node.{Node}
use Rattle.facet_json_grammar.specs.Walk.{walk}

-- What stands at a place is the first of what comes from there.
pub drop-get : (events : List Passed) (place : ℕ) (p : Passed) (others : List Passed) → drop place events ≡ p ∷ others →
    slice_get events place ≡ Some p
drop-get [] zero p others e = cc
drop-get [] (suc place) p others e = cc
drop-get (q ∷ events) zero p others e = cc
drop-get (q ∷ events) (suc place) p others e = drop-get events place p others e

-- So it is the other way round.
pub get-drop : (events : List Passed) (place : ℕ) (p : Passed) → slice_get events place ≡ Some p → drop place events ≡ p ∷ drop (place + 1) events
get-drop events place p e =
    drop_more events place p (slice_get_within events place p e)
    ∙ ap (λ x. x ∷ drop (place + 1) events) (get_or_from_slice_get events place p p e)

-- What comes from the next place on.
pub drop-suc : (events : List Passed) (place : ℕ) (p : Passed) (others : List Passed) → drop place events ≡ p ∷ others →
    drop (suc place) events ≡ others
drop-suc [] zero p others e = cc
drop-suc [] (suc place) p others e = cc
drop-suc (q ∷ events) zero p others e = cc
drop-suc (q ∷ events) (suc place) p others e = drop-suc events place p others e

-- What comes after a node.
pub drop-node : (w : Source) (place : ℕ) (n : Node) (others : List Passed) → drop place w.events ≡ walk w.bytes n ++ others →
    drop (place + length (walk w.bytes n)) w.events ≡ others
drop-node w place n others comes =
    sym (drop-drop (length (walk w.bytes n)) place w.events) ∙ ap (drop (length (walk w.bytes n))) comes
    ∙ drop-append_seam (walk w.bytes n) others
