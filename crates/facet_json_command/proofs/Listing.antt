-- Printing events one by one, as a parser gives them.
use Rattle.std.proofs.Common.{◌≡◌, ◌≢◌, ℕ, List, [], ◌∷◌, ◌++◌, map, Option, Some, None, Ok, Err, refl, ap, inl, inr}
use Rattle.std.specs.List.{flat_map}
use Rattle.std.specs.Io.KnownBytes.{Appends, Keeps}
use Rattle.std.proofs.lemmas.List.{append-nil}
use Rattle.std.proofs.lemmas.Grind.{flat_map-append}
use Rattle.facet_format.specs.Event.{Event}
use Rattle.facet_format.specs.Cursor.{next, Answer, event, no_calls}
use Rattle.facet_json_grammar.specs.Language.{Language}
use Rattle.facet_json_grammar.specs.Now.{Now, fresh_in}
use Rattle.facet_json_grammar.specs.Move.{Moves, MovesAll}
use Rattle.facet_json_grammar.proofs.MoveLaws.{moves-one_more}
use Rattle.facet_json_command.specs.Lines.{event_line}
use Rattle.facet_json_command.specs.declared.run.Outcome.{Outcome}
use Rattle.facet_json_command.specs.declared.run.Outcome.TheVariants.{Done, Refused, Io, Usage}
use Rattle.facet_json_command.specs.Run.{OnlyGrows, Stops, AreListed, Lists}
use Rattle.facet_json_command.proofs.Printing.{appends_nothing, appends_both, appends_keeps, stops_behind, stops_keeps}

-- the answers that give these events
abbrev pub given_out : List Event → List Answer
given_out given = map (λ e. event (Ok (Some e))) given

-- The parser gave these events so far, and their lines are printed.
pub record AreSoFar (language : Language) (input : List ℕ) (before after : Option (List ℕ)) (parser : Now) : Type 0 where
  pub given : List Event
  pub moves : MovesAll (fresh_in input language) (map (λ e. next) given) (given_out given) parser
  pub printed : Appends before after (flat_map event_line given)

pub none_so_far : (language : Language) (input : List ℕ) (held : Option (List ℕ)) (parser : Now) → parser ≡ fresh_in input language →
    AreSoFar language input held held parser
none_so_far language input held parser is = record {
  given = [];
  moves = rw is (record { input = record { buffer = refl; language = refl }; run = no_calls _ });
  printed = appends_nothing held;
}

nexts_more : (given : List Event) (e : Event) → map (λ d. next) (given ++ (e ∷ [])) ≡ map (λ d. next) given ++ (next ∷ [])
nexts_more [] e = refl
nexts_more (d ∷ given) e = ap (λ l. next ∷ l) (nexts_more given e)

given_more : (given : List Event) (e : Event) → given_out (given ++ (e ∷ [])) ≡ given_out given ++ (event (Ok (Some e)) ∷ [])
given_more [] e = refl
given_more (d ∷ given) e = ap (λ l. event (Ok (Some d)) ∷ l) (given_more given e)

-- One more event was given, and its line is printed.
pub one_more_event : (language : Language) (input : List ℕ) (a b c : Option (List ℕ)) (old new : Now) (e : Event) →
    AreSoFar language input a b old → Moves old next (event (Ok (Some e))) new → Appends b c (event_line e) →
    AreSoFar language input a c new
one_more_event language input a b c old new e so_far move line = record {
  given = so_far.given ++ (e ∷ []);
  moves = rw (nexts_more so_far.given e, given_more so_far.given e)
      (moves-one_more so_far.moves move);
  printed = rw (flat_map-append event_line so_far.given (e ∷ []), append-nil (event_line e))
      (appends_both a b c (flat_map event_line so_far.given) (event_line e) so_far.printed line);
}

-- The parser answered something else.
pub last_answer : (language : Language) (input : List ℕ) (a b : Option (List ℕ)) (old new : Now) (answer : Answer) →
    AreSoFar language input a b old → Moves old next answer new → AreListed language input a b answer
last_answer language input a b old new answer so_far move = record {
  given = so_far.given;
  parser = new;
  moves = moves-one_more so_far.moves move;
  printed = so_far.printed;
}

-- A line could not be printed.
pub line_stopped : (language : Language) (input : List ℕ) (a b c : Option (List ℕ)) (parser : Now) (outcome : Outcome) →
    AreSoFar language input a b parser → Stops b c outcome → Lists language input a c outcome
line_stopped language input a b c parser Done so_far stops = absurd stops
line_stopped language input a b c parser (Refused code span) so_far stops =
    inl (stops_behind a b c (flat_map event_line so_far.given) (Refused code span) so_far.printed stops)
line_stopped language input a b c parser Io so_far stops = tt
line_stopped language input a b c parser Usage so_far stops = absurd stops

-- ---- after the last line

pub grows_keeps : (a b c : Option (List ℕ)) → OnlyGrows a b → Keeps b c → OnlyGrows a c
grows_keeps a b c grows keeps = (grows.0, appends_keeps a b c grows.0 grows.1 keeps)

listed_keeps : (language : Language) (input : List ℕ) (a b c : Option (List ℕ)) (last : Answer) → AreListed language input a b last →
    Keeps b c → AreListed language input a c last
listed_keeps language input a b c last listed keeps = record {
  given = listed.given;
  parser = listed.parser;
  moves = listed.moves;
  printed = appends_keeps a b c (flat_map event_line listed.given) listed.printed keeps;
}

pub lists_keeps : (language : Language) (input : List ℕ) (a b c : Option (List ℕ)) (outcome : Outcome) → Lists language input a b outcome →
    Keeps b c → Lists language input a c outcome
lists_keeps language input a b c Done lists keeps = listed_keeps language input a b c (event (Ok None)) lists keeps
lists_keeps language input a b c (Refused code span) (inl no_memory) keeps = inl (stops_keeps a b c (Refused code span) no_memory keeps)
lists_keeps language input a b c (Refused code span) (inr refused) keeps = inr (record {
  refusal = refused.refusal;
  listed = listed_keeps language input a b c (event (Err refused.refusal)) refused.listed keeps;
  has_code = refused.has_code;
  has_span = refused.has_span;
})
lists_keeps language input a b c Io lists keeps = tt
lists_keeps language input a b c Usage lists keeps = lists

pub lists_grow : (language : Language) (input : List ℕ) (a b : Option (List ℕ)) (outcome : Outcome) → Lists language input a b outcome →
    outcome ≢ Io → OnlyGrows a b
lists_grow language input a b Done lists other = (flat_map event_line lists.given, lists.printed)
lists_grow language input a b (Refused code span) (inl no_memory) other = no_memory.2
lists_grow language input a b (Refused code span) (inr refused) other = (flat_map event_line refused.listed.given, refused.listed.printed)
lists_grow language input a b Io lists other = absurd (other refl)
lists_grow language input a b Usage lists other = absurd lists
