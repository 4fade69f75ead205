-- A new parser stands before its document's root, so what is read from there is the document's reading.
use Rattle.std.proofs.Common.{◌≡◌, ℕ, List, [], Option, refl, sym, ap, ◌∙◌, subst, append-nil}
use Rattle.facet_format.specs.Complaint.{Refusal}
use Rattle.facet_format.specs.Cursor.{start}
use Rattle.facet_json_token.specs.Gap.{Mode}
use Rattle.facet_json_grammar.specs.Document.{IsDocument}
use Rattle.facet_json_grammar.specs.Language.{Language}
use Rattle.facet_json_grammar.specs.Node.{Node}
use Rattle.facet_json_grammar.specs.Tree.{Tree}
use Rattle.facet_json_grammar.specs.Walk.{walk, source_of}
use Rattle.facet_json_grammar.specs.Now.{Now, fresh, fresh_in}
use Rattle.facet_json_grammar.specs.UnreadLaws.{RefusalWithin}
use Rattle.facet_json_grammar.proofs.StandsOnWalk.{fresh-stands}
use Rattle.facet_json_core.specs.Refusing.{ComesTo, TellsRefusal}
use Rattle.facet_json_core.specs.Meaning.Nodes.{KeepsOn, StandsBefore}
use Rattle.facet_json_core.specs.Meaning.Reading.{IsRead, IsUnread}
use Rattle.facet_json_core.proofs.Meaning.Refusals.{keeps-there}
use Rattle.facet_json_facet.specs.Inputs.{IsReadFrom, IsToldOf, IsUnreadFrom}

root-comes : (input : List ℕ) (mode : Mode) (root : Node) (tree : Tree) → IsDocument input mode root tree →
    StandsBefore (fresh input mode) (source_of input root) start root
root-comes input mode root tree d = record {
  stands = fresh-stands input mode root tree d;
  free = refl;
  others = [];
  comes = sym (append-nil (walk input root));
  value = tree;
  meant = d.reads.has_tree;
}

module _ {V : Type 0} (reading : List ℕ → Node → Option V) (input : List ℕ) (mode : Mode) (old : Now) (is_new : old ≡ fresh input mode) where
  pub read-from : (value : V) (new : Now) → IsRead reading old value new → IsReadFrom reading input mode value
  read-from value new is_read root tree d =
      (is_read (source_of input root) start root (rw is_new (root-comes input mode root tree d))).0

  pub unread-from : (refusal : Refusal) → IsUnread reading old refusal → IsUnreadFrom reading input mode refusal
  unread-from refusal unread root tree d =
      unread (source_of input root) start root (rw is_new (root-comes input mode root tree d))

module _ (input : List ℕ) (mode : Mode) (old new : Now) (is_new : old ≡ fresh input mode) where
  pub within-from : new.buffer ≡ old.buffer → (refusal : Refusal) → RefusalWithin new.buffer refusal → RefusalWithin input refusal
  within-from kept refusal = subst (λ b. RefusalWithin b refusal) (kept ∙ ap (λ (now : Now). now.buffer) is_new)

-- What is told of a new parser is told of its input.
pub told-of : (input : List ℕ) (language : Language) (old new : Now) → old ≡ fresh_in input language → KeepsOn old new → (refusal : Refusal) →
    TellsRefusal old new refusal → IsToldOf input language refusal
told-of input language old new is_new keeps refusal tells = record {
  last = new;
  came = subst (λ now. ComesTo now new) is_new (keeps-there keeps);
  tells = subst (λ now. TellsRefusal now new refusal) is_new tells;
}
