-- What is read, said in the words of a step.
use Rattle.std.proofs.Common.{ℕ, true, false, List}
use Rattle.facet_format.specs.Event.{Event}
use Rattle.facet_json_grammar.specs.Move.{with_kept}
use Rattle.facet_json_grammar.specs.Next.{PassesNext}
use Rattle.facet_json_grammar.specs.Now.{Now}
use Rattle.serde.specs.Names.{Finds}
use Rattle.serde.specs.declared.name.Name.{Name}
use Rattle.facet_json_serde.specs.declared.json.Json.{Json}
use Rattle.facet_json_serde.specs.Ahead.{StepReads, Picks, HoldsKey, HoldsText}

-- The key that was read stands for this name first.
pub key-picks : (old new : Json) (names : List Name) (key input : List ℕ) (at : ℕ) → StepReads old (λ given. HoldsKey given.kind key) new → Finds names key at →
    Picks old input true names at new
key-picks old new names key input at reads finds now stands = let r = reads now stands in (r.0, r.1, r.2, r.3, (key, r.4, finds))

-- And a text.
pub text-picks : (old new : Json) (names : List Name) (key input : List ℕ) (at : ℕ) → StepReads old (λ given. HoldsText given.kind key) new → Finds names key at →
    Picks old input false names at new
text-picks old new names key input at reads finds now stands = let r = reads now stands in (r.0, r.1, r.2, r.3, (key, r.4, finds))

-- What comes after a point was kept came before.
pub kept_passes : (old new : Now) (given : Event) → PassesNext (with_kept old) given new → PassesNext old given new
kept_passes old new given passes = record { last = passes.last; comes = passes.comes; free = passes.free }
