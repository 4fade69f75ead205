-- What a run of the program owes.
use Rattle.std.specs.Prelude.{◌≡◌, ◌≤◌, ◌+◌, ℕ, ◌⊎◌, Bool, List, [], ◌∷◌, ◌++◌, length, map, Option, Some, None, Result, Ok, Err, IfSome}
use Rattle.std.specs.Option.{option_map}
use Rattle.std.specs.List.{flat_map}
use Rattle.std.specs.Io.KnownBytes.{Appends}
use Rattle.facet_format.specs.declared.event.Span.{Span}
use Rattle.facet_json_token.specs.Gap.{Mode}
use Rattle.facet_json_token.specs.Tokens.{Tokens, AreCuts}
use Rattle.facet_json_grammar.specs.Language.{Language, lenient, strict}
use Rattle.facet_json_grammar.specs.Node.{Node}
use Rattle.facet_json_grammar.specs.Tree.{Tree}
use Rattle.facet_json_grammar.specs.Document.{IsDocument}
use Rattle.facet_json_grammar.specs.StrictDocument.{IsStrictDocument, IsStrict}
use Rattle.facet_format.specs.Complaint.{Refusal, code_of}
use Rattle.facet_json_grammar.specs.PrefixRefusal.{Refuses}
use Rattle.facet_json_grammar.specs.Now.{Now, fresh_in}
use Rattle.facet_json_grammar.specs.Move.{MovesAll}
use Rattle.facet_format.specs.Event.{Event}
use Rattle.facet_format.specs.Cursor.{Call, next, Answer, event}
use Rattle.facet_json_grammar.specs.Text.{Options, default_options, text}
use Rattle.facet_format.specs.Views.{span_of}
use Rattle.facet_json_command.specs.Arguments.{Command, fmt, events, tokens, drive}
use Rattle.facet_json_command.specs.Lines.{event_line, answer_lines}
use Rattle.facet_json_command.specs.TokenLines.{token_lines, EndAs}
use Rattle.facet_json_command.specs.declared.run.Outcome.{Outcome}
use Rattle.facet_json_command.specs.declared.run.Outcome.TheVariants.{Done, Refused, Io, Usage}
pub use Rattle.facet_json_command.specs.Outcome.{IsFailure, IsFaultOfRun}

-- The input begins with this document, or, where RFC 8259 alone is read, is it. No arguments ask for `strict jsonc`.
abbrev pub IsDocumentIn : Language → List ℕ → Node → Tree → Type 0
IsDocumentIn (lenient mode) input root value = IsDocument input mode root value
IsDocumentIn (strict mode) input root value = IsStrictDocument input root value

abbrev pub HasDocumentIn : Language → List ℕ → Type 0
HasDocumentIn language input = (root : Node) × (value : Tree) × IsDocumentIn language input root value

-- how the text is laid out: compact, or indented by two spaces
abbrev pub layout : (pretty : Bool) → Options
layout pretty = record default_options { pretty = pretty }

-- This is the text, so laid out, of the tree of the document that the input has.
pub record IsReformatted (language : Language) (pretty : Bool) (input output : List ℕ) : Type 0 where
  pub root : Node
  pub value : Tree
  pub document : IsDocumentIn language input root value
  pub written : output ≡ text (layout pretty) 0 value

-- The input is refused so, and with this code and these bytes.
pub record IsRefusedSo (mode : Mode) (input : List ℕ) (code : ℕ) (span : Option Span) : Type 0 where
  pub refusal : Refusal
  pub refuses : Refuses input mode refusal
  pub has_code : code ≡ code_of refusal.complaint
  pub has_span : option_map span_of span ≡ refusal.span

-- Where RFC 8259 alone is read, what is said of a refusal is that the input is no such document.
abbrev pub IsRefusedIn : Language → List ℕ → ℕ → Option Span → Type 0
IsRefusedIn (lenient mode) input code span = IsRefusedSo mode input code span
IsRefusedIn (strict mode) input code span = ¬ IsStrict input

-- The input is refused, or memory was wanted.
abbrev pub IsRefusal : Language → List ℕ → Outcome → Type 0
IsRefusal language input Done = ⊥
IsRefusal language input (Refused code span) = (code ≡ 9) ⊎ IsRefusedIn language input code span
IsRefusal language input Io = ⊥
IsRefusal language input Usage = ⊥

-- A refusal is about bytes of an input of this length, or about none.
abbrev pub OutcomeWithin : (len : ℕ) → Outcome → Type 0
OutcomeWithin len Done = Unit {0}
OutcomeWithin len (Refused code span) = IfSome span (λ s. s.offset + s.len ≤ len)
OutcomeWithin len Io = Unit {0}
OutcomeWithin len Usage = Unit {0}

-- What `fmt` answers to an input, where the writer held the bytes before and then holds those after.
abbrev pub Formats : Language → (pretty : Bool) → List ℕ → List ℕ → Option (List ℕ) → Outcome → Type 0
Formats language pretty input before after Done =
    (output : List ℕ) × IsReformatted language pretty input output × (after ≡ Some (before ++ output))
Formats language pretty input before after (Refused code span) = IsRefusal language input (Refused code span) × (after ≡ Some before)
Formats language pretty input before after Io = Unit {0}
Formats language pretty input before after Usage = ⊥

-- The bytes that a writer is known to hold are still at the start of what it holds.
abbrev pub OnlyGrows : Option (List ℕ) → Option (List ℕ) → Type 0
OnlyGrows before after = (written : List ℕ) × Appends before after written

-- How printing stops before its end: memory was wanted, which has no place in the input, and a prefix is written; or a write failed.
abbrev pub Stops : Option (List ℕ) → Option (List ℕ) → Outcome → Type 0
Stops before after Done = ⊥
Stops before after (Refused code span) = (code ≡ 9) × (span ≡ None) × OnlyGrows before after
Stops before after Io = Unit {0}
Stops before after Usage = ⊥

-- How the printing of a text ends: it is written, or printing stopped.
abbrev pub Prints : {T : Type 0} → Option (List ℕ) → Option (List ℕ) → List ℕ → Result T Outcome → Type 0
Prints before after text (Ok done) = Appends before after text
Prints before after text (Err outcome) = Stops before after outcome

-- `next` for each of these events, and once more
abbrev pub nexts : List Event → List Call
nexts given = map (λ e. next) given ++ (next ∷ [])

-- A parser that has read nothing gave these events, whose lines are printed, and then answered so.
pub record AreListed (language : Language) (input : List ℕ) (before after : Option (List ℕ)) (last : Answer) : Type 0 where
  pub given : List Event
  pub parser : Now
  pub moves : MovesAll (fresh_in input language) (nexts given) (map (λ e. event (Ok (Some e))) given ++ (last ∷ [])) parser
  pub printed : Appends before after (flat_map event_line given)

-- A parser that has read nothing was refused so after the events whose lines are printed.
pub record AreListedUpTo (language : Language) (input : List ℕ) (before after : Option (List ℕ)) (code : ℕ) (span : Option Span) : Type 0 where
  pub refusal : Refusal
  pub listed : AreListed language input before after (event (Err refusal))
  pub has_code : code ≡ code_of refusal.complaint
  pub has_span : option_map span_of span ≡ refusal.span

-- What `events` answers to an input, where the writer held the known bytes before and then holds those after.
abbrev pub Lists : Language → List ℕ → Option (List ℕ) → Option (List ℕ) → Outcome → Type 0
Lists language input before after Done = AreListed language input before after (event (Ok None))
Lists language input before after (Refused code span) =
    Stops before after (Refused code span) ⊎ AreListedUpTo language input before after code span
Lists language input before after Io = Unit {0}
Lists language input before after Usage = ⊥

-- These are all tokens of the input, whose lines are printed, and the run ends as they do.
pub record AreTokensListed (mode : Mode) (input : List ℕ) (before after : Option (List ℕ)) (outcome : Outcome) : Type 0 where
  pub these : Tokens
  pub cuts : AreCuts input mode 0 these
  pub printed : Appends before after (token_lines (length input) these)
  pub ends : EndAs these outcome

-- What `tokens` answers to an input, where the writer held the known bytes before and then holds those after.
abbrev pub ListsTokens : Mode → List ℕ → Option (List ℕ) → Option (List ℕ) → Outcome → Type 0
ListsTokens mode input before after Done = AreTokensListed mode input before after Done
ListsTokens mode input before after (Refused code span) =
    Stops before after (Refused code span) ⊎ AreTokensListed mode input before after (Refused code span)
ListsTokens mode input before after Io = Unit {0}
ListsTokens mode input before after Usage = ⊥

-- What `drive` answers: the lines of the answers of a parser that has read nothing, where the writer held the bytes before and
-- then holds those after.
abbrev pub Drives : Language → List Call → List ℕ → List ℕ → Option (List ℕ) → Outcome → Type 0
Drives language calls input before after Done = (answers : List Answer) × (parser : Now) ×
    MovesAll (fresh_in input language) calls answers parser × (after ≡ Some (before ++ flat_map answer_lines answers))
Drives language calls input before after (Refused code span) = (code ≡ 9) × (span ≡ None)
Drives language calls input before after Io = Unit {0}
Drives language calls input before after Usage = ⊥

-- What a command answers to an input, where the writer held the known bytes before and then holds those after.
abbrev pub AnswersInput : Command → List ℕ → Option (List ℕ) → Option (List ℕ) → Outcome → Type 0
AnswersInput (fmt language pretty) input before after outcome = IfSome before (λ held. Formats language pretty input held after outcome)
AnswersInput (events language) input before after outcome = Lists language input before after outcome
AnswersInput (tokens mode) input before after outcome = ListsTokens mode input before after outcome
AnswersInput (drive language calls) input before after outcome = IfSome before (λ held. Drives language calls input held after outcome)

-- where the command is `fmt`
abbrev pub ForFmt : Command → (Language → Type 0) → Type 0
ForFmt (fmt language pretty) P = P language
ForFmt (events language) P = Unit {0}
ForFmt (tokens mode) P = Unit {0}
ForFmt (drive language calls) P = Unit {0}

-- where the command is `drive`
abbrev pub ForDrive : Command → Type 0 → Type 0
ForDrive (fmt language pretty) P = Unit {0}
ForDrive (events language) P = Unit {0}
ForDrive (tokens mode) P = Unit {0}
ForDrive (drive language calls) P = P
