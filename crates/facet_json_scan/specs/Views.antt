-- What the types of the code stand for in the definitions.
pub use Rattle.facet_json_token.specs.Views.{mode_of, kind_of, with_span, token_answer, error_says, answer_at, fault_answer, scanned, complaint_of, scan_complaint, scan_refusal}
pub use Rattle.facet_json_token.specs.DecodeViews.{decode_refusal, IsItsText, IsFirstRefusal, TellsFirstFault, RefusesContent, whole_refused}
pub use Rattle.facet_json_token.specs.Cut.{has_backslash}
pub use Rattle.facet_json_token.specs.NumberViews.{number_of, is_made_number, number_refusal}
pub use Rattle.facet_json_scan.specs.ScannerViews.{cut_answer, token_answered, refused_answer, fault_answered, answered, span_answered, NamesWithin, IndicesWithin, stands_last}
