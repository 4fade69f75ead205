-- What the definitions of parts mean. Each law is the contract of a function of the module `laws`.
use Rattle.std.specs.Prelude.{◌≡◌, ◌<◌, ◌≤◌, ℕ, ◌+◌, Bool, true, false, List, ◌++◌, length, Ok, Err, IfSome}
use Rattle.facet_format.specs.Alike.{PartsAlike}
use Rattle.facet_format.specs.Complaint.{Refusal}
use Rattle.facet_format.specs.Event.{Passed}
use Rattle.facet_format.specs.Part.{Part, value, skip_of, capture_of, Source, part_at}
use Rattle.facet_format.specs.Span.{stop}
use Rattle.facet_json_token.specs.Token.{Token}
use Rattle.facet_json_grammar.specs.Reader.{Reader}
use Rattle.facet_json_grammar.specs.Language.{Language}
use Rattle.facet_json_grammar.specs.Node.{Node, scalar, array, object}
use Rattle.facet_json_grammar.specs.RunLaws.{last_token_of}
use Rattle.facet_json_grammar.specs.OnWalk.{IsOnWalk}
use Rattle.facet_json_grammar.specs.Unread.{PartAt}
use Rattle.facet_json_grammar.specs.Walk.{walk}

-- One part at most stands at a place of an input.
abbrev pub OnePart : Type 0
OnePart = (buffer : List ℕ) (language : Language) (s : Reader) (a b : Part Reader) → PartAt buffer language s a →
    PartAt buffer language s b → a ≡ b

-- The last token before the place ends after this offset, and within the buffer.
abbrev pub LiesAhead : List ℕ → ℕ → Reader → Type 0
LiesAhead buffer from place = (from < stop place.last) × (stop place.last ≤ length buffer)

-- The refusal lies within the buffer, if it has a place.
abbrev pub RefusalWithin : List ℕ → Refusal → Type 0
RefusalWithin buffer r = IfSome r.span (λ x. stop x ≤ length buffer)

-- A skip and a capture of the part lead ahead, and what they are refused with lies within the buffer.
pub record IsPartWithin (buffer : List ℕ) (s : Reader) (part : Part Reader) : Type 0 where
  pub skip : (place : Reader) → skip_of part ≡ Ok place → LiesAhead buffer (stop s.last) place
  pub no_skip : (r : Refusal) → skip_of part ≡ Err r → RefusalWithin buffer r
  pub capture : (text : List ℕ) (place : Reader) → capture_of buffer part ≡ Ok (text, place) → LiesAhead buffer (stop s.last) place
  pub no_capture : (r : Refusal) → capture_of buffer part ≡ Err r → RefusalWithin buffer r

-- Where the last token before a place lies within the buffer, a skip and a capture lead to a place whose last token lies within it and
-- after that one; what they are refused with lies within it.
abbrev pub PartsWithin : Type 0
PartsWithin = (buffer : List ℕ) (language : Language) (s : Reader) (part : Part Reader) → stop s.last ≤ length buffer →
    PartAt buffer language s part → IsPartWithin buffer s part

-- Where a place of an input is one on a walk, the same stands at both, and leads to places that are alike.
abbrev pub PartsOnWalk : Type 0
PartsOnWalk = (buffer : List ℕ) (language : Language) (w : Source) (s : Reader) (place : ℕ) (part : Part Reader) →
    IsOnWalk buffer language w s place → PartAt buffer language s part →
    (other : Part ℕ) × (other ≡ part_at w place) × PartsAlike (IsOnWalk buffer language w) part other

-- a value's first token
abbrev pub first_token : Node → Token
first_token (scalar t) = t
first_token (array first last items) = first
first_token (object first last pairs) = first

-- a list or an object
abbrev pub is_container : Node → Bool
is_container (scalar t) = false
is_container (array first last items) = true
is_container (object first last pairs) = true

-- Wherever the walk of a value stands among events, what stands at its first event is this value, from its first token to its last one,
-- and the place after it is the one after the walk's last event.
abbrev pub WalkIsOneValue : Type 0
WalkIsOneValue = (buffer : List ℕ) (node : Node) (before after : List Passed) →
    part_at (record { bytes = buffer; events = before ++ (walk buffer node ++ after) }) (length before)
    ≡ value (is_container node) (first_token node).span.offset (stop (last_token_of node).span) (length before + length (walk buffer node))
