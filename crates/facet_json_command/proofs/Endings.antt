-- How `events` ends after what it printed, once that is on its way.
use Rattle.std.proofs.Common.{◌≡◌, ◌≢◌, ◌⊎◌, ℕ, List, [], Option, Some, None, IfSome, refl, sym, subst, ◌∙◌, inl, inr}
use Rattle.std.specs.Io.KnownBytes.{Keeps}
use Rattle.facet_json_grammar.specs.Language.{Language}
use Rattle.facet_json_command.specs.declared.run.Outcome.{Outcome}
use Rattle.facet_json_command.specs.declared.run.Outcome.TheVariants.{Io, Usage}
use Rattle.facet_json_command.specs.Outcome.{IsFailure, IsFaultOfRun}
use Rattle.facet_json_command.specs.Run.{OutcomeWithin, OnlyGrows, Lists}
use Rattle.facet_json_command.proofs.Printing.{appends_nothing}
use Rattle.facet_json_command.proofs.Listing.{grows_keeps, lists_keeps, lists_grow}

-- A run ended as its printing did, or a last write failed.
abbrev pub Ends : Option (List ℕ) → Option (List ℕ) → Outcome → Outcome → Type 0
Ends before after printed final = (final ≡ Io) ⊎ ((final ≡ printed) × Keeps before after)

-- ---- where nothing could be read

pub fault_within : (outcome : Outcome) (len : ℕ) → IsFaultOfRun outcome → OutcomeWithin len outcome
fault_within outcome len (inl memory) = rw memory tt
fault_within outcome len (inr io) = rw io tt

pub no_growth : (held : Option (List ℕ)) → OnlyGrows held held
no_growth held = ([], appends_nothing held)

pub unread_lists : (language : Language) (remaining held : Option (List ℕ)) (outcome : Outcome) → IsFaultOfRun outcome →
    IfSome remaining (λ input. Lists language input held held outcome)
unread_lists language None held outcome failed = tt
unread_lists language (Some input) held outcome (inl memory) = rw memory (inl (refl, refl, no_growth held))
unread_lists language (Some input) held outcome (inr io) = rw io tt

-- ---- `events`

pub io_is_not_usage : Io ≡ Usage → ⊥
io_is_not_usage same = subst IsFailure same tt

pub events_end : (language : Language) (remaining : Option (List ℕ)) (items : List ℕ) (a b c : Option (List ℕ)) (printed final : Outcome) →
    IfSome remaining (λ input. items ≡ input) → Lists language items a b printed → Ends b c printed final →
    IfSome remaining (λ input. Lists language input a c final)
events_end language None items a b c printed final read lists ends = tt
events_end language (Some input) items a b c printed final read lists (inl io) = rw io tt
events_end language (Some input) items a b c printed final read lists (inr same) =
    rw same.0 (lists_keeps language input a b c printed (subst (λ i. Lists language i a b printed) read lists) same.1)

pub events_grow : (language : Language) (items : List ℕ) (a b c : Option (List ℕ)) (printed final : Outcome) →
    Lists language items a b printed → Ends b c printed final → final ≢ Io → OnlyGrows a c
events_grow language items a b c printed final lists (inl io) other = absurd (other io)
events_grow language items a b c printed final lists (inr same) other =
    grows_keeps a b c (lists_grow language items a b printed lists (λ io. other (same.0 ∙ io))) same.1

pub events_not_usage : (language : Language) (items : List ℕ) (a b c : Option (List ℕ)) (printed final : Outcome) →
    Lists language items a b printed → Ends b c printed final → final ≢ Usage
events_not_usage language items a b c printed final lists (inl io) usage = io_is_not_usage (sym io ∙ usage)
events_not_usage language items a b c printed final lists (inr same) usage = rw (sym same.0 ∙ usage) at lists
