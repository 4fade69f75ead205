-- A decimal is there where it is told, and a lenient language allows it.
use Rattle.std.proofs.Common.{◌≡◌, ◌⊎◌, inl, inr, ℕ, List}
use Rattle.facet_json_grammar.specs.StrictTokens.{Allows}
use Rattle.facet_json_token.specs.Token.{Token}
use Rattle.facet_json_reader.specs.PlaceViews.{language_of}
use Rattle.facet_json_reader.specs.Values.{short_decimal}
use Rattle.facet_json_reader.specs.declared.place.Language.{Language}
use Rattle.facet_json_reader.specs.declared.place.Language.TheVariants as languages
use Rattle.facet_json_reader.proofs.number.pointed_len_in.Goals as goal
use Rattle.facet_json_reader.proofs.number.pointed_len_in.Goals.{in-Some, in-None}

lenient-allows : (language : Language) (buffer : List ℕ) (t : Token) → (language ≡ languages.Plain) ⊎ (language ≡ languages.Jsonc) → Allows (language_of language) buffer t
lenient-allows language buffer t (inl plain) = rw plain tt
lenient-allows language buffer t (inr jsonc) = rw jsonc tt

pub returns-after-decimal_at : goal.returns-after-decimal_at
returns-after-decimal_at c =
    elim c.match-decimal_at.branch [
      | in-Some w ↦
          rw w.result-is (
          record {
            scalar = record { value = _; there = w.in-Some.ensures.0; allowed = lenient-allows c.args.language c.args.input.now _ c.in-Plain.is };
            short = short_decimal _;
          }
          )
      | in-None w ↦ rw w.result-is tt
    ]
