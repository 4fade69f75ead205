-- Once the container of an event that comes is open, the event is held before the same place.
use Rattle.std.proofs.Common.{◌≡◌, ℕ, false, List, Some, refl, sym, ap, ◌∙◌}
use Rattle.std.specs.Prelude.{is_some}
use Rattle.facet_format.specs.Event.{ContainerKind, EventKind, struct_start, sequence_start}
use Rattle.facet_format.specs.Views.{event_kind_of}
use Rattle.facet_json_grammar.specs.Reader.{future_at}
use Rattle.facet_json_grammar.specs.Language.{Language}
use Rattle.facet_json_reader.specs.declared.reader.Held.{Held}
use Rattle.facet_json_reader.specs.declared.reader.Reader.{Reader}
use Rattle.facet_json_reader.specs.Views.{passed_of, reader_of, with_opened, coming, GivesHeld}
use Rattle.facet_json_parser.specs.declared.lookahead.Lookahead.{Lookahead as RustLookahead}
use Rattle.facet_json_parser.specs.Lookahead.{without_opened, reader_before, spot_of, HoldsNext}
use Rattle.facet_json_parser.specs.Views.{lookahead_of}
use Rattle.facet_json_parser.proofs.UnopenedContainers.{nothing_held}

-- Without the container that was opened the others are open.
opened-around : (kind : EventKind) (stack : List ContainerKind) → without_opened kind (with_opened kind stack) ≡ stack
opened-around (struct_start kind) stack = refl
opened-around (sequence_start kind) stack = refl
opened-around _ stack = refl

module _ (r opened : Reader) (h : Held) (last : opened.last ≡ r.last) (stage : opened.stage ≡ r.stage)
    (contexts : opened.contexts ≡ with_opened (event_kind_of h.event.kind) r.contexts) where
  opened-place : reader_before (lookahead_of (record { reader = opened; held = Some h; shown = false })) ≡ reader_of r
  opened-place = rw (last, stage, contexts, opened-around (event_kind_of h.event.kind) r.contexts) refl

  -- It is the event that comes.
  pub opened-holds : (buffer : List ℕ) (language : Language) → GivesHeld (coming buffer language r) h →
      HoldsNext buffer language (lookahead_of (record { reader = opened; held = Some h; shown = false })) (passed_of h)
  opened-holds buffer language comes = record {
    rest = comes.0;
    comes = ap (future_at buffer language) opened-place ∙ comes.1;
    opened = contexts ∙ ap (with_opened (event_kind_of h.event.kind)) (sym (ap (λ s. s.stack) opened-place));
  }

  -- Where nothing was held, the spot is the same.
  pub opened-spot : (s : RustLookahead) → s.reader ≡ r → is_some s.held ≡ false →
      spot_of (lookahead_of (record { reader = opened; held = Some h; shown = false })) ≡ spot_of (lookahead_of s)
  opened-spot s same none = rw (nothing_held s.held none, same, opened-place) refl
