-- What stands first, after separators.
use Rattle.std.proofs.Common.{◌≡◌, ◌∙◌, ℕ, true, List, refl, ap}
use Rattle.facet_format.specs.declared.event.ContainerKind.{ContainerKind as RustContainerKind}
use Rattle.facet_format.specs.declared.event.ContainerKind.TheVariants as containers
use Rattle.facet_json_token.specs.declared.token.SpannedToken.{SpannedToken}
use Rattle.facet_json_reader.specs.declared.place.Place.{Place as RustPlace}
use Rattle.facet_json_reader.specs.declared.place.Turn.{Turn as RustTurn}
use Rattle.facet_json_reader.specs.declared.place.Turn.TheVariants as turns
use Rattle.facet_json_reader.specs.declared.reader.Reader.{Reader as RustReader}
use Rattle.facet_json_reader.specs.declared.reader.Stage.TheVariants as stages
use Rattle.facet_json_parser.specs.declared.part.Part.{Part as RustPart}
use Rattle.facet_format.specs.Complaint.{Refusal}
use Rattle.facet_format.specs.Event.{ContainerKind}
use Rattle.facet_format.specs.Part.{Part, nothing}
use Rattle.facet_format.specs.Span.{stop}
use Rattle.facet_format.specs.Views.{span_of}
use Rattle.facet_json_token.specs.Token.{Token}
use Rattle.facet_json_token.specs.TokenList.{tokens_from}
use Rattle.facet_json_grammar.specs.Future.{within}
use Rattle.facet_json_grammar.specs.Reader.{Reader}
use Rattle.facet_json_grammar.specs.Language.{Language, lenient, gaps, rules}
use Rattle.facet_json_grammar.specs.Place.{Place, passes, led}
use Rattle.facet_json_grammar.specs.Unread.{begins_value, closes_container, IsStuckUnread, PartFrom, separator, none_of_them, PartAt}
use Rattle.facet_json_reader.specs.PlaceViews.{place_of, turn_of}
use Rattle.facet_json_reader.specs.Views.{stage_of, reader_of, IsTurn}
use Rattle.facet_json_parser.specs.PartViews.{first_span_of, Begins, IsFirst}

-- ---- turns

-- A bracket that opens a container begins a value.
pub opens-value : (kind : RustContainerKind) → begins_value (turn_of (turns.Opens kind)) ≡ true
opens-value containers.Object = refl
opens-value containers.Array = refl

-- A bracket that closes a container closes one.
pub closes-one : (kind : RustContainerKind) → closes_container (turn_of (turns.Closes kind)) ≡ true
closes-one containers.Object = refl
closes-one containers.Array = refl

-- ---- after separators

-- After separators alone the reader's tokens go on at this place and offset, whatever its containers are.
pub record Reaches (buffer : List ℕ) (language : Language) (r : RustReader) (place : Place) (position : ℕ) : Type 0 where
  pub first : Place
  pub stage : stage_of r.stage ≡ within first
  pub leads : (stack : List ContainerKind) (p : Part Reader) → PartFrom buffer (rules language) stack place (tokens_from buffer (gaps language) position) p →
      PartFrom buffer (rules language) stack first (tokens_from buffer (gaps language) (stop (span_of r.last))) p

module _ (buffer : List ℕ) (language : Language) (r : RustReader) where
  -- They begin where the reader stands.
  pub reaches-first : (place : RustPlace) (position : ℕ) → r.stage ≡ stages.Within place → position ≡ stop (span_of r.last) →
      Reaches buffer language r (place_of place) position
  reaches-first place position stage e = record {
    first = place_of place;
    stage = ap stage_of stage;
    leads = λ stack p from. rw (← e) from;
  }

  module _ (place : Place) (position : ℕ) (reached : Reaches buffer language r place position) where
    module _ (t : SpannedToken) (w : RustTurn) (is : IsTurn buffer (lenient (gaps language)) place position t w) where
      abbrev here : Token
      here = record { kind = is.kind; span = span_of t.span }

      -- A separator is passed.
      pub reaches-next : (other : Place) → turn_of w ≡ passes other → Reaches buffer language r (led (rules language) other) (stop (span_of t.span))
      reaches-next other way = record {
        first = reached.first;
        stage = reached.stage;
        leads = λ stack p from.
            let at = is.tokens in
            reached.leads stack p (rw at (separator place other here _ p (is.turns ∙ way) from));
      }

    module _ (stack : List ContainerKind) where
      -- the reader, in these containers
      abbrev reader_there : Reader
      reader_there = record (reader_of r) { stack = stack }

      -- What stands after the separators stands where the reader does.
      stands-there : (p : Part Reader) → PartFrom buffer (rules language) stack place (tokens_from buffer (gaps language) position) p → PartAt buffer language reader_there p
      stands-there p from =
          let stage = reached.stage in
          rw stage (reached.leads stack p from)

      -- Where the tokens stop, nothing stands.
      pub nothing-stands : (refusal : Refusal) → IsStuckUnread buffer place (tokens_from buffer (gaps language) position) refusal →
          PartAt buffer language reader_there (nothing refusal)
      nothing-stands refusal halts = stands-there (nothing refusal) (none_of_them place _ refusal halts)

      -- A part that begins with the next token stands first.
      pub stands-first : (t : SpannedToken) (w : RustTurn) (is : IsTurn buffer (lenient (gaps language)) place position t w) (part : RustPart) →
          first_span_of part ≡ span_of t.span → Begins place part is.kind → IsFirst buffer language reader_there part
      stands-first t w is part e begins = record {
        place = place;
        kind = is.kind;
        begins = begins;
        leads = λ p from.
            let at = is.tokens in
            stands-there p (rw at (rw e at from));
      }
