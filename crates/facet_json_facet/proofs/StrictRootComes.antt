-- A new strict parser stands before its document's root; and where nothing is left behind what was read, the whole input was.
use Rattle.std.proofs.Common.{◌≡◌, ◌≢◌, ◌+◌, ℕ, List, [], Option, None, length, drop, refl, sym, ap, ◌∙◌, subst, arith, append-nil}
use Rattle.std.proofs.lemmas.List.{drop_all}
use Rattle.facet_format.specs.Complaint.{Refusal}
use Rattle.facet_format.specs.Cursor.{start, Spot, unpeeked}
use Rattle.facet_json_token.specs.Gap.{plain}
use Rattle.facet_json_grammar.specs.Future.{finished, events_before}
use Rattle.facet_json_grammar.specs.Language.{strict}
use Rattle.facet_json_grammar.specs.Node.{Node}
use Rattle.facet_json_grammar.specs.StrictDocument.{IsStrictDocument}
use Rattle.facet_json_grammar.specs.Tree.{Tree}
use Rattle.facet_json_grammar.specs.Walk.{walk, source_of}
use Rattle.facet_json_grammar.specs.Now.{Now, fresh_in, future_of}
use Rattle.facet_json_grammar.specs.OneRun.{IsOneRun}
use Rattle.facet_json_grammar.specs.UnreadLaws.{RefusalWithin}
use Rattle.facet_json_grammar.proofs.CallsLead.{none-lead, led-moves}
use Rattle.facet_json_grammar.proofs.OneRun.EndsAtRun.{ends_at_run}
use Rattle.facet_json_grammar.proofs.StrictAnswered.{strict-stands}
use Rattle.facet_json_core.specs.Meaning.Nodes.{StandsBefore, KeepsOn}
use Rattle.facet_json_core.specs.Meaning.Reading.{IsRead, IsUnread}
use Rattle.facet_json_facet.specs.Inputs.{IsReadStrictly, IsUnreadStrictly}

strict_root-comes : (input : List ℕ) (root : Node) (tree : Tree) → IsStrictDocument input root tree →
    StandsBefore (fresh_in input (strict plain)) (source_of input root) start root
strict_root-comes input root tree d = record {
  stands = strict-stands input root tree d;
  free = refl;
  others = [];
  comes = sym (append-nil (walk input root));
  value = tree;
  meant = d.whole.reads.has_tree;
}

module _ {V : Type 0} (reading : List ℕ → Node → Option V) (input : List ℕ) (old : Now) (is_new : old ≡ fresh_in input (strict plain)) where
  pub read-strictly : (value : V) (new : Now) → IsRead reading old value new → IsReadStrictly reading input value
  read-strictly value new is_read root tree d =
      (is_read (source_of input root) start root (rw is_new (strict_root-comes input root tree d))).0

  pub unread-strictly : (refusal : Refusal) → IsUnread reading old refusal → IsUnreadStrictly reading input refusal
  unread-strictly refusal unread root tree d =
      unread (source_of input root) start root (rw is_new (strict_root-comes input root tree d))

  -- After a strict document's value nothing is left: what is left there is behind no strict document.
  pub left-unread_strictly : (value : V) (mid : Now) → IsRead reading old value mid → (mid.cursor.refusal ≡ None → future_of mid ≢ finished) →
      (refusal : Refusal) → IsUnreadStrictly reading input refusal
  left-unread_strictly value mid is_read left refusal root tree d =
      let after = (is_read (source_of input root) start root (rw is_new (strict_root-comes input root tree d))).1 in
      let free : mid.cursor.refusal ≡ None = after.stands.refusal ∙ after.free in
      let events = events-left after.cursor.spot after.there in
      absurd (left free (after.stands.spot.place.comes ∙ ap (λ es. events_before es finished) events))
    where
      -- Behind the root no event is left.
      events-left : (spot : Spot ℕ) → spot ≡ unpeeked (0 + length (walk input root)) → drop spot.place (walk input root) ≡ []
      events-left spot there = drop_all spot.place (walk input root) (omega (arith, ap (λ (s : Spot ℕ). s.place) there))

module _ (input : List ℕ) (old : Now) (is_new : old ≡ fresh_in input (strict plain)) where
  -- The whole input is one run, where nothing is left behind what was read.
  pub one_run-from : (mid : Now) → KeepsOn old mid → future_of mid ≡ finished → IsOneRun input plain
  one_run-from mid keeps over =
      let first = fresh_in input (strict plain) in
      let from : KeepsOn first mid = subst (λ now. KeepsOn now mid) is_new keeps in
      let led = from.by_calls first (none-lead first) in
      ends_at_run input plain mid led.calls led.answers (led-moves first mid led) over

  -- A refusal within what a reader left of the input is within the input.
  pub within-strictly : (new : Now) → new.buffer ≡ old.buffer → (refusal : Refusal) → RefusalWithin new.buffer refusal → RefusalWithin input refusal
  within-strictly new kept refusal = subst (λ b. RefusalWithin b refusal) (kept ∙ ap (λ (now : Now). now.buffer) is_new)
