-- Whole numbers from 0 to 100: the laws of a type that is read and written.
use Rattle.std.proofs.Common.{◌≡◌, ◌≤◌, ℕ, cond, Some, None, ap, ◌∙◌, arith}
use Rattle.std.specs.Option.{option_and_then}
use Rattle.std.proofs.lemmas.Bool.{le-leb}
use Rattle.facet_json_grammar.specs.Tree.{u64}
use Rattle.facet_json_core.specs.Meaning.Laws.{SameReading, ReadsBack}
use Rattle.facet_json_core.specs.Meaning.Readings.{unsigned_of}
use Rattle.facet_json_core.specs.Meaning.Shapes.{ShapeLaws}
use Rattle.facet_json_core.proofs.Meaning.Leaves.LeafLaws.{leaf-same}
use Rattle.facet_json_core.proofs.Meaning.Leaves.WholeNumbers.{u8-reads_back}
use Rattle.facet_json_row_values.specs.Percents.{percent_in, percent_of, percent}

pub percent-some : (n : ℕ) → n ≤ 100 → percent_in n ≡ Some n
percent-some n h = ap (λ b. cond b (Some n) None) (le-leb n 100 h)

percent-same : SameReading percent_of
percent-same these those n m same = ap (option_and_then percent_in) (leaf-same (unsigned_of 8) these those n m same)

percent-reads_back : ReadsBack percent_of u64 (λ (n : ℕ). Unit {0}) (λ (n : ℕ). n ≤ 100)
percent-reads_back n always h =
    let back = u8-reads_back n (omega (arith, h)) tt in
    let r = back.1 in (
      back.0,
      record {
        root = r.root;
        tree = r.tree;
        document = r.document;
        is_read = ap (option_and_then percent_in) r.is_read ∙ percent-some n h;
      },
    )

pub percent-laws : ShapeLaws percent
percent-laws = record { same_reading = percent-same; same_reading_borrowed = percent-same; reads_back = percent-reads_back }
