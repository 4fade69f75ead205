-- An event with which no value begins, where one is to come.
use Rattle.std.proofs.Common.{◌≡◌, ◌⊎◌, inl, inr, ℕ, List, true, false, sym, ap, ◌∙◌}
use Rattle.std.specs.Prelude.{codes}
use Rattle.facet_format.specs.Complaint.{Refusal}
use Rattle.facet_format.specs.Event.{Event, Passed}
use Rattle.facet_json_grammar.specs.Future.{Future, gives}
use Rattle.facet_json_grammar.specs.Place.{Place}
use Rattle.facet_json_grammar.specs.Tree.{Tree}
use Rattle.facet_json_grammar.specs.Next.{PassesNext}
use Rattle.facet_json_grammar.specs.Now.{Now, future_of}
use Rattle.facet_json_token.specs.Tokens.{Tokens}
use Rattle.facet_json_core.specs.Reading.{LacksMemory, GivesNone, IsValueUnread}
use Rattle.facet_json_core.specs.Refusing.{mismatch_of}
use Rattle.facet_json_core.specs.Told.{begins, Tells, a_scalar, a_list, an_object, Breaks, at_once, in_list, in_object}
use Rattle.facet_json_core.specs.Transcode.{BeginsNone}
use Rattle.facet_json_core.proofs.Passing.{none-lacks}

-- Where events tell a value, or break off within one after the first event, this one begins it.
told-begins : (f g : Future) (v : Tree) (rest : Future) (p : Passed) → f ≡ gives p g → Tells f v rest → begins p.event.kind ≡ true
told-begins _ g v rest p is (a_scalar q r value t k scalar) = let same : q ≡ p = cc in ap (λ (x : Passed). begins x.event.kind) (sym same) ∙ ap begins k
told-begins _ g v rest p is (a_list q inner r kind items k told) = let same : q ≡ p = cc in ap (λ (x : Passed). begins x.event.kind) (sym same) ∙ ap begins k
told-begins _ g v rest p is (an_object q inner r kind members k told) = let same : q ≡ p = cc in ap (λ (x : Passed). begins x.event.kind) (sym same) ∙ ap begins k

breaks-begins : (f g : Future) (place : Place) (ts : Tokens) (p : Passed) → f ≡ gives p g → Breaks place ts f → begins p.event.kind ≡ true
breaks-begins _ g place ts p is at_once = cc
breaks-begins _ g place ts p is (in_list q inner kind k broken) = let same : q ≡ p = cc in ap (λ (x : Passed). begins x.event.kind) (sym same) ∙ ap begins k
breaks-begins _ g place ts p is (in_object q inner kind k broken) = let same : q ≡ p = cc in ap (λ (x : Passed). begins x.event.kind) (sym same) ∙ ap begins k

-- Where it begins none, the events tell no value and don't break off within one.
pub misplaced-unread : (start : Future) (buffer : List ℕ) (r : Refusal) (p : Passed) (g : Future) → start ≡ gives p g →
    begins p.event.kind ≡ false → IsValueUnread buffer start r
misplaced-unread start buffer r p g is none = record {
  told = λ v rest told. let both : true ≡ false = sym (told-begins start g v rest p is told) ∙ none in cc;
  broken = λ place ts broken. let both : true ≡ false = sym (breaks-begins start g place ts p is broken) ∙ none in cc;
}

-- Then no event is passed.
pub none-passed : (start now after : Now) (depth : ℕ) (given : Event) (p : Passed) (rest : Future) → depth ≡ 0 → now ≡ start →
    PassesNext now given after → (depth ≡ 0 → begins given.kind ≡ true) → future_of start ≡ gives p rest → begins p.event.kind ≡ false → ⊥
none-passed start now after depth given p rest zero same passes begun comes none =
    let q : Passed = record { event = given; last = passes.last } in
    let both : gives q (future_of after) ≡ gives p rest = sym passes.comes ∙ ap future_of same ∙ comes in
    let is : q ≡ p = cc in
    let yes : begins p.event.kind ≡ true = ap (λ (x : Passed). begins x.event.kind) (sym is) ∙ begun zero in
    let not : true ≡ false = sym yes ∙ none in cc

-- It is refused for that, or memory ran out.
pub none-misplaced : (start now : Now) (depth : ℕ) (r : Refusal) (p : Passed) (rest : Future) → now ≡ start → future_of start ≡ gives p rest →
    GivesNone now r ⊎ BeginsNone now depth r → LacksMemory r ⊎ (r ≡ mismatch_of (codes "value") p.event)
none-misplaced start now depth r p rest same comes (inl none) = inl (none-lacks now r p rest (ap future_of same ∙ comes) none)
none-misplaced start now depth r p rest same comes (inr m) =
    let both : gives m.given m.left ≡ gives p rest = sym m.comes ∙ ap future_of same ∙ comes in
    let is : m.given ≡ p = cc in
    inr (m.told ∙ ap (λ (x : Passed). mismatch_of (codes "value") x.event) is)
