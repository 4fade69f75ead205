-- Texts that are borrowed of the input: nodes of the same text are read alike, and how they are read from one event.
use Rattle.std.specs.Prelude.{ℕ, List, cond, length}
use Rattle.std.specs.Option.{option_and_then}
use Rattle.std.proofs.Common.{◌≡◌, ℕ, Bool, true, false, List, Option, None, Some, refl, sym, ap, ◌∙◌}
use Rattle.facet_format.specs.Complaint.{Refusal}
use Rattle.facet_format.specs.Event.{Event, EventKind}
use Rattle.facet_format.specs.Event as event
use Rattle.facet_json_token.specs.Token.{Kind, Token}
use Rattle.facet_json_token.specs.Token as token
use Rattle.facet_json_grammar.specs.Node.{Node, scalar}
use Rattle.facet_json_grammar.specs.Node as node
use Rattle.facet_json_grammar.specs.Meaning.{meaning}
use Rattle.facet_json_grammar.specs.Tree.{Tree}
use Rattle.facet_json_grammar.specs.Tree as trees
use Rattle.facet_json_grammar.specs.Walk.{walk, text_by, scalar_of}
use Rattle.facet_json_grammar.specs.Now.{Now}
use Rattle.facet_json_grammar.specs.Next.{PassesNext}
use Rattle.facet_json_core.specs.Meaning.Nodes.{SameToken, same_mark, same_string, same_number, same_scalars, same_arrays, same_objects}
use Rattle.facet_json_core.specs.Meaning.Borrowed.{is_plain_string, borrowed_text, lent, unread_text}
use Rattle.facet_json_core.specs.Meaning.Laws.{SameReading, ReadsBack}
use Rattle.facet_json_core.specs.Meaning.Passing.{WalksPast}
use Rattle.facet_json_core.specs.Meaning.Reading.{IsRead, IsUnread, HasDocument, EndsStrictly}
use Rattle.facet_json_core.specs.Meaning.Readings.{text_of_tree, taken}
use Rattle.facet_json_core.proofs.Meaning.Walks.FirstEvents.{first_event, first-read, first-unread}
use Rattle.facet_json_core.proofs.Meaning.Leaves.LeafLaws.{same-means}
use Rattle.facet_json_core.proofs.Meaning.Leaves.LeafReadings.{leaf-document, leaf-strict}

-- ---- the laws

same-plain : (these those : List ℕ) (t u : Token) → SameToken these those t u → is_plain_string t.kind ≡ is_plain_string u.kind
same-plain these those t u (same_mark _ _ e k) = ap is_plain_string k
same-plain these those t u (same_string _ _ start finish begin end has_escapes k l e) = ap is_plain_string k ∙ sym (ap is_plain_string l)
same-plain these those t u (same_number _ _ start finish begin end hint k l e) = ap is_plain_string k ∙ sym (ap is_plain_string l)

pub borrowed-same : SameReading borrowed_text
borrowed-same these those _ _ (same_scalars t u same bytes) =
    rw (same-plain these those t u same, same-means these those t u same) refl
borrowed-same these those _ _ (same_arrays first last begin end nodes others bytes same) = refl
borrowed-same these those _ _ (same_objects first last begin end inside others bytes same) = refl

pub unread-same : SameReading unread_text
unread-same these those n m same = refl

-- Nothing comes back where nothing is read.
pub unread-reads_back : ReadsBack unread_text trees.text (λ (t : List ℕ). Unit {0}) (λ (t : List ℕ). ⊥)
unread-reads_back t always readable = absurd readable

-- ---- from one event

none-both : (b : Bool) → ◌≡◌ {A = Option (List ℕ)} None (cond b None None)
none-both true = refl
none-both false = refl

lent-text : (kind : Kind) (bytes : List ℕ) → lent (event.scalar (event.text (text_by kind bytes))) ≡ cond (is_plain_string kind) (Some bytes) None
lent-text (token.string start finish false) bytes = refl
lent-text _ bytes = refl

lent-scalar : (kind : Kind) (value : Option Tree) →
    lent (event.scalar (scalar_of kind value)) ≡ cond (is_plain_string kind) (option_and_then text_of_tree value) None
lent-scalar kind (Some (trees.text bytes)) = lent-text kind bytes
lent-scalar kind _ = none-both (is_plain_string kind)

pub lent-first : (buffer : List ℕ) (n : Node) → lent (first_event buffer n).event.kind ≡ borrowed_text buffer n
lent-first buffer (scalar t) = lent-scalar t.kind (meaning buffer t)
lent-first buffer (node.array first last nodes) = refl
lent-first buffer (node.object first last inside) = refl

borrowed-one : (buffer : List ℕ) (n : Node) (v : List ℕ) → borrowed_text buffer n ≡ Some v → length (walk buffer n) ≡ 1
unfolding walk
borrowed-one buffer (scalar t) v e = refl
borrowed-one buffer (node.array first last nodes) v e = cc
borrowed-one buffer (node.object first last inside) v e = cc

pub borrowed-read : (old new : Now) (e : Event) (v : List ℕ) → WalksPast old e new → lent e.kind ≡ Some v → IsRead borrowed_text old v new
borrowed-read = first-read lent borrowed_text lent-first borrowed-one

pub borrowed-unread : (old new : Now) (e : Event) (r : Refusal) → WalksPast old e new → lent e.kind ≡ None → IsUnread borrowed_text old r
borrowed-unread = first-unread lent borrowed_text lent-first borrowed-one

lent-taken : (kind : EventKind) (v : List ℕ) → lent kind ≡ Some v → taken text_of_tree kind ≡ Some v
lent-taken (event.scalar (event.text (event.borrowed t))) v e = e
lent-taken _ v e = cc

pub borrowed-document : (old new : Now) (e : Event) (v : List ℕ) → PassesNext old e new → lent e.kind ≡ Some v → HasDocument old
borrowed-document old new e v next is = leaf-document text_of_tree old new e v next (lent-taken e.kind v is)

pub borrowed-strict : (old new : Now) (e : Event) (v : List ℕ) → PassesNext old e new → lent e.kind ≡ Some v → EndsStrictly old new
borrowed-strict old new e v next is = leaf-strict text_of_tree old new e v next (lent-taken e.kind v is)
