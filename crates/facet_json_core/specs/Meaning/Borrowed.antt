-- Texts that are borrowed of the input.
use Rattle.std.specs.Prelude.{◌≡◌, ◌⊎◌, ℕ, Bool, false, not, cond, List, Option, Some, None, codes}
use Rattle.std.specs.Option.{option_and_then}
use Rattle.facet_format.specs.Complaint.{Complaint, invalid_value, Refusal, refusal_at}
use Rattle.facet_format.specs.Event.{Event, EventKind}
use Rattle.facet_format.specs.Event as event
use Rattle.facet_json_token.specs.Token.{Kind}
use Rattle.facet_json_token.specs.Token as token
use Rattle.facet_json_grammar.specs.Node.{Node, scalar, array, object}
use Rattle.facet_json_grammar.specs.Meaning.{meaning}
use Rattle.facet_json_core.specs.Refusing.{mismatch_of}
use Rattle.facet_json_core.specs.Meaning.Readings.{text_of_tree}

-- a string without a backslash
abbrev pub is_plain_string : Kind → Bool
is_plain_string (token.string start finish has_escapes) = not has_escapes
is_plain_string _ = false

-- the text of such a string, which stands in the input as it is
abbrev pub borrowed_text : List ℕ → Node → Option (List ℕ)
borrowed_text buffer (scalar t) = cond (is_plain_string t.kind) (option_and_then text_of_tree (meaning buffer t)) None
borrowed_text buffer (array first last nodes) = None
borrowed_text buffer (object first last inside) = None

-- the same from the scalar's event
abbrev pub lent : EventKind → Option (List ℕ)
lent (event.scalar (event.text (event.borrowed t))) = Some t
lent _ = None

-- what is wrong with a text that has to be made, or may not be borrowed
abbrev pub made_text : Complaint
made_text = invalid_value (codes "a borrowed text needs an unescaped string")

-- The event is no text, or one that is not lent.
abbrev pub IsNotLent : Event → Refusal → Type 0
IsNotLent given refusal = (refusal ≡ refusal_at made_text given.span) ⊎ (refusal ≡ mismatch_of (codes "string") given)

-- Where nothing may be borrowed, no node is read.
abbrev pub unread_text : List ℕ → Node → Option (List ℕ)
unread_text buffer node = None
