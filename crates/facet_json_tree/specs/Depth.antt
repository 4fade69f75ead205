-- How deep a value nests, and how an input is refused that nests deeper than a limit (RFC 8259, section 9, lets a reader set one).
use Rattle.std.specs.Prelude.{◌≡◌, ◌≤◌, ℕ, zero, suc, max, List, [], ◌∷◌, Option, None, Some, codes}
use Rattle.std.specs.Option.{option_or}
use Rattle.facet_format.specs.Complaint.{Refusal, refusal_at, invalid_value}
use Rattle.facet_format.specs.Event.{Passed, EventKind, struct_start, struct_end, sequence_start, sequence_end, field_key}
use Rattle.facet_format.specs.Event as event
use Rattle.facet_format.specs.Span.{Span}
use Rattle.facet_json_token.specs.Gap.{Mode}
use Rattle.facet_json_token.specs.Tokens.{Tokens}
use Rattle.facet_json_token.specs.TokenList.{tokens}
use Rattle.facet_json_grammar.specs.Node.{Node, scalar, array, object, Nodes, no_nodes, item, Members, no_members, member}
use Rattle.facet_json_grammar.specs.Tree.{Tree}
use Rattle.facet_json_grammar.specs.Place.{Place}
use Rattle.facet_json_grammar.specs.Document.{IsDocument}
use Rattle.facet_json_grammar.specs.Future.{Future, gives, finished, stuck}
use Rattle.facet_json_grammar.specs.Begun.{LongestPrefix, RefusesAfter}

-- ---- values

unfoldable mutual
  -- how many containers stand within one another: none in a scalar, two in `[[], 1]`
  pub depth_of : Node → ℕ
  depth_of (scalar t) = 0
  depth_of (array first last nodes) = suc (depth_of_items nodes)
  depth_of (object first last members) = suc (depth_of_members members)

  -- that of the deepest
  pub depth_of_items : Nodes → ℕ
  depth_of_items no_nodes = 0
  depth_of_items (item node nodes) = max (depth_of node) (depth_of_items nodes)

  pub depth_of_members : Members → ℕ
  depth_of_members no_members = 0
  depth_of_members (member key colon node members) = max (depth_of node) (depth_of_members members)

unfoldable mutual
  -- the first opening bracket with this many containers around it, if there is one: of `[[], 1]` the second for 1, none for 2
  pub first_beyond : ℕ → Node → Option Span
  first_beyond limit (scalar t) = None
  first_beyond zero (array first _ _) = Some first.span
  first_beyond zero (object first _ _) = Some first.span
  first_beyond (suc limit) (array first last nodes) = first_beyond_items limit nodes
  first_beyond (suc limit) (object first last members) = first_beyond_members limit members

  pub first_beyond_items : ℕ → Nodes → Option Span
  first_beyond_items limit no_nodes = None
  first_beyond_items limit (item node nodes) = option_or (first_beyond limit node) (first_beyond_items limit nodes)

  pub first_beyond_members : ℕ → Members → Option Span
  first_beyond_members limit no_members = None
  first_beyond_members limit (member key colon node members) = option_or (first_beyond limit node) (first_beyond_members limit members)

-- There is no such bracket exactly where the value nests no deeper.
abbrev pub FirstBeyondIsDeeper : Type 0
FirstBeyondIsDeeper = (limit : ℕ) (node : Node) →
    (first_beyond limit node ≡ None → depth_of node ≤ limit) × (depth_of node ≤ limit → first_beyond limit node ≡ None)

-- ---- events

-- how many more containers may be opened after one has ended; `None` is without a limit
abbrev pub outer : Option ℕ → Option ℕ
outer None = None
outer (Some n) = Some (suc n)

-- the span of an opening bracket where no more containers may be opened; else what is found from it on
abbrev pub beyond_bracket : Span → (Option ℕ → Option Span) → Option ℕ → Option Span
beyond_bracket span others None = others None
beyond_bracket span others (Some zero) = Some span
beyond_bracket span others (Some (suc n)) = others (Some n)

-- the same at an event of this kind
abbrev pub beyond_event : EventKind → Span → (Option ℕ → Option Span) → Option ℕ → Option Span
beyond_event (struct_start kind) span others limit = beyond_bracket span others limit
beyond_event struct_end span others limit = others (outer limit)
beyond_event (sequence_start kind) span others limit = beyond_bracket span others limit
beyond_event sequence_end span others limit = others (outer limit)
beyond_event (field_key name) span others limit = others limit
beyond_event (event.scalar value) span others limit = others limit

-- the first event that opens a container where no more may be opened
abbrev pub events_beyond : List Passed → Option ℕ → Option Span
events_beyond [] limit = None
events_beyond (p ∷ events) limit = beyond_event p.event.kind p.event.span (events_beyond events) limit

-- the first event to come that opens a container where no more may be opened
abbrev pub beyond : Future → Option ℕ → Option Span
beyond (gives p future) limit = beyond_event p.event.kind p.event.span (beyond future) limit
beyond finished limit = None
beyond (stuck place rest) limit = None

-- ---- refusals

-- how a bracket beyond the limit is refused
abbrev pub too_deep_at : Span → Refusal
too_deep_at span = refusal_at (invalid_value (codes "nested too deeply")) span

-- How an input is refused within a depth: as without one, where no bracket beyond it comes before; else for the first such bracket,
-- of its document, or of the longest prefix that begins one.
pub data RefusesWithin (buffer : List ℕ) (mode : Mode) (depth : ℕ) (refusal : Refusal) : Type 0 where
  has_none : (events : List Passed) → RefusesAfter buffer mode events refusal → events_beyond events (Some depth) ≡ None →
      RefusesWithin buffer mode depth refusal
  in_document : (root : Node) (value : Tree) (span : Span) → IsDocument buffer mode root value →
      first_beyond depth root ≡ Some span → refusal ≡ too_deep_at span → RefusesWithin buffer mode depth refusal
  in_prefix : (events : List Passed) (here : Place) (rest : Tokens) (span : Span) →
      LongestPrefix buffer (tokens buffer mode) events here rest → events_beyond events (Some depth) ≡ Some span →
      refusal ≡ too_deep_at span → RefusesWithin buffer mode depth refusal
