-- What is answered where memory is wanted before anything is read.
use Rattle.std.proofs.Common.{◌≡◌, ℕ, List, [], Option, Some, None, IfSome, ◌⊎◌, refl, inl, inr}
use Rattle.facet_json_command.specs.Arguments.{Command, fmt, events, tokens, drive}
use Rattle.facet_json_command.specs.declared.run.Outcome.{Outcome}
use Rattle.facet_json_command.specs.declared.run.Outcome.TheVariants.{Done, Refused}
use Rattle.facet_json_grammar.specs.Language.{Language}
use Rattle.facet_json_command.specs.Run.{AnswersInput, HasDocumentIn}
use Rattle.facet_json_command.specs.Outcome.{IsFailure}
use Rattle.facet_json_command.proofs.Printing.{appends_nothing}

pub no_memory_answers : (command : Command) (remaining held : Option (List ℕ)) (outcome : Outcome) → outcome ≡ Refused 9 None →
    IfSome remaining (λ input. AnswersInput command input held held outcome)
no_memory_answers command None held outcome is = tt
no_memory_answers (fmt language pretty) (Some input) None outcome is = tt
no_memory_answers (fmt language pretty) (Some input) (Some before) outcome is = rw is (inl refl, refl)
no_memory_answers (events language) (Some input) held outcome is = rw is (inl (refl, refl, ([], appends_nothing held)))
no_memory_answers (tokens mode) (Some input) held outcome is = rw is (inl (refl, refl, ([], appends_nothing held)))
no_memory_answers (drive language calls) (Some input) None outcome is = tt
no_memory_answers (drive language calls) (Some input) (Some before) outcome is = rw is (refl, refl)

pub no_memory_only : (language : Language) (remaining : Option (List ℕ)) (outcome : Outcome) → outcome ≡ Refused 9 None →
    IfSome remaining (λ input. HasDocumentIn language input → (outcome ≡ Done) ⊎ IsFailure outcome)
no_memory_only language None outcome is = tt
no_memory_only language (Some input) outcome is = λ has. inr (rw is refl)
