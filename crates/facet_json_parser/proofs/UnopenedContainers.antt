-- Where there is no memory to open the container of an event that comes, the lookahead is refused before it.
use Rattle.std.proofs.Common.{◌≡◌, ℕ, true, false, List, Option, Some, None, refl, sym, subst}
use Rattle.std.specs.Prelude.{is_some}
use Rattle.std.specs.Option.{option_map}
use Rattle.facet_format.specs.Complaint.{Refusal}
use Rattle.facet_format.specs.Cursor.{no_memory_at}
use Rattle.facet_format.specs.Event.{takes_memory}
use Rattle.facet_format.specs.Views.{span_of, event_kind_of}
use Rattle.facet_json_grammar.specs.Language.{Language}
use Rattle.facet_json_reader.specs.declared.reader.Held.{Held}
use Rattle.facet_json_parser.specs.declared.lookahead.Lookahead.{Lookahead as RustLookahead}
use Rattle.facet_json_grammar.specs.Reader.{future_at}
use Rattle.facet_json_reader.specs.Views.{passed_of, coming, GivesHeld, IsRefusedBefore, without_memory}
use Rattle.facet_json_parser.specs.Lookahead.{reader_before}
use Rattle.facet_json_parser.specs.Views.{lookahead_of}

-- What is not there is none.
pub nothing_held : (held : Option Held) → is_some held ≡ false → held ≡ None
nothing_held None e = refl
nothing_held (Some h) e = cc

-- Nothing is held, and the event comes, which allocates.
pub unopened-refused : (buffer : List ℕ) (language : Language) (s : RustLookahead) (h : Held) (refusal : Refusal) → is_some s.held ≡ false →
    GivesHeld (coming buffer language s.reader) h → takes_memory (event_kind_of h.event.kind) ≡ true →
    refusal ≡ no_memory_at (span_of s.reader.last) →
    (option_map passed_of s.held ≡ None)
    × IsRefusedBefore buffer (span_of s.reader.last) (future_at buffer language (reader_before (lookahead_of s))) refusal
unopened-refused buffer language s h refusal none comes takes is =
    let refused = subst (λ f. IsRefusedBefore buffer (span_of s.reader.last) f (no_memory_at (span_of s.reader.last))) (sym comes.1) (without_memory (passed_of h) comes.0 takes) in
    rw (nothing_held s.held none, is) (refl, refused)
