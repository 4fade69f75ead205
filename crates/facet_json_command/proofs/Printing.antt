-- Printing in pieces: what was written before, and one more piece.
use Rattle.std.proofs.Common.{◌≡◌, ℕ, List, [], ◌++◌, Option, Some, None, Result, Ok, Err, sym, ap, ◌∙◌}
use Rattle.std.specs.Result.{OnOk}
use Rattle.std.specs.Io.KnownBytes.{Appends, Keeps}
use Rattle.std.proofs.lemmas.List.{append-nil, append_assoc}
use Rattle.facet_json_command.specs.declared.run.Outcome.{Outcome}
use Rattle.facet_json_command.specs.declared.run.Outcome.TheVariants.{Done, Refused, Io, Usage}
use Rattle.facet_json_command.specs.Run.{OnlyGrows, OutcomeWithin, Stops, Prints}

pub appends_nothing : (held : Option (List ℕ)) → Appends held held []
appends_nothing None = tt
appends_nothing (Some xs) = sym (append-nil xs)

pub appends_both : (a b c : Option (List ℕ)) (xs ys : List ℕ) → Appends a b xs → Appends b c ys → Appends a c (xs ++ ys)
appends_both None b c xs ys first second = tt
appends_both (Some held) None c xs ys first second = absurd first
appends_both (Some held) (Some mid) None xs ys first second = absurd second
appends_both (Some held) (Some mid) (Some last) xs ys first second = second ∙ ap (λ l. l ++ ys) first ∙ append_assoc held xs ys

pub appends_keeps : (a b c : Option (List ℕ)) (xs : List ℕ) → Appends a b xs → Keeps b c → Appends a c xs
appends_keeps None b c xs appends keeps = tt
appends_keeps (Some held) None c xs appends keeps = absurd appends
appends_keeps (Some held) (Some mid) None xs appends keeps = absurd keeps
appends_keeps (Some held) (Some mid) (Some last) xs appends keeps = keeps ∙ appends

pub grows_both : (a b c : Option (List ℕ)) (xs : List ℕ) → Appends a b xs → OnlyGrows b c → OnlyGrows a c
grows_both a b c xs first second = (xs ++ second.0, appends_both a b c xs second.0 first second.1)

-- Printing that stopped after what was written
pub stops_behind : (a b c : Option (List ℕ)) (xs : List ℕ) (outcome : Outcome) → Appends a b xs → Stops b c outcome → Stops a c outcome
stops_behind a b c xs Done first second = second
stops_behind a b c xs (Refused code span) first second = (second.0, second.1, grows_both a b c xs first second.2)
stops_behind a b c xs Io first second = second
stops_behind a b c xs Usage first second = second

-- So it is after a last flush.
pub stops_keeps : (a b c : Option (List ℕ)) (outcome : Outcome) → Stops a b outcome → Keeps b c → Stops a c outcome
stops_keeps a b c Done stops keeps = stops
stops_keeps a b c (Refused code span) stops keeps =
    (stops.0, stops.1, (stops.2.0, appends_keeps a b c stops.2.0 stops.2.1 keeps))
stops_keeps a b c Io stops keeps = stops
stops_keeps a b c Usage stops keeps = stops

-- It has no place in an input.
pub stops_within : (a b : Option (List ℕ)) (outcome : Outcome) (len : ℕ) → Stops a b outcome → OutcomeWithin len outcome
stops_within a b Done len stops = tt
stops_within a b (Refused code span) len stops = rw stops.1 tt
stops_within a b Io len stops = tt
stops_within a b Usage len stops = tt

-- what is printed after what is written already
pub prints_behind : {T : Type 0} (a b c : Option (List ℕ)) (xs ys : List ℕ) (result : Result T Outcome) →
    Appends a b xs → Prints b c ys result → Prints a c (xs ++ ys) result
prints_behind a b c xs ys (Ok done) first second = appends_both a b c xs ys first second
prints_behind a b c xs ys (Err outcome) first second = stops_behind a b c xs outcome first second

-- A text of which a prefix is printed, and what is left of it
pub record IsPrintedUpTo (before now : Option (List ℕ)) (whole left : List ℕ) : Type 0 where
  pub front : List ℕ
  pub appended : Appends before now front
  pub parts : whole ≡ front ++ left

pub up_to_more : (a b c : Option (List ℕ)) (whole left line rest : List ℕ) → left ≡ line ++ rest →
    IsPrintedUpTo a b whole left → Appends b c line → IsPrintedUpTo a c whole rest
up_to_more a b c whole left line rest cut printed more = record {
  front = printed.front ++ line;
  appended = appends_both a b c printed.front line printed.appended more;
  parts = printed.parts ∙ ap (λ l. printed.front ++ l) cut ∙ sym (append_assoc printed.front line rest);
}

-- a line in three pieces
pub three_pieces : {T E : Type 0} (a b c d : Option (List ℕ)) (xs ys zs : List ℕ) (result : Result T E) → Appends a b xs →
    Appends b c ys → OnOk result (Appends c d zs) → OnOk result (Appends a d (xs ++ ys ++ zs))
three_pieces a b c d xs ys zs (Ok done) first second third =
    appends_both a c d (xs ++ ys) zs (appends_both a b c xs ys first second) third
three_pieces a b c d xs ys zs (Err e) first second third = tt
