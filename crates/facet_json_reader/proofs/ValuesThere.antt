-- What is told of the bytes at an offset is a scalar there.
use Rattle.std.proofs.Common.{◌≡◌, ℕ, ◌+◌, ◌-◌, false, List, Some, drop, slice_get, slice_range, refl, ap}
use Rattle.std.specs.Option.{option_map}
use Rattle.facet_format.specs.Event.{Scalar, borrowed}
use Rattle.facet_format.specs.Event as event
use Rattle.facet_format.specs.Number.{Hint}
use Rattle.facet_format.specs.NumberValue.{Number, number}
use Rattle.facet_format.specs.NumberParts.{Parts, parts, parts_len, parts_hint, is_bare}
use Rattle.facet_json_token.specs.Cut.{opens_number, start_of}
use Rattle.facet_json_token.specs.Token.{Kind, string}
use Rattle.facet_json_token.specs.Token as token
use Rattle.facet_json_grammar.specs.Meaning.{tree_of_number}
use Rattle.facet_json_grammar.specs.Tree as tree
use Rattle.facet_json_grammar.specs.Walk.{scalar_by}
use Rattle.facet_json_reader.proofs.TokensThere.{number-cut}
use Rattle.facet_json_reader.specs.Values.{IsPlainText, IsScalarThere}

-- A string without an escape is a scalar.
pub text-there : (buffer : List ℕ) (at finish : ℕ) (bytes : List ℕ) → IsPlainText buffer at finish bytes →
    IsScalarThere buffer at ((finish + 1) - at) (event.text (borrowed bytes))
text-there buffer at finish bytes is = record {
  kind = string (at + 1) finish false;
  meant = tree.text bytes;
  cut = is.cut;
  scalar = refl;
  means = ap (option_map tree.text) is.means;
  read = refl;
}

-- Its token is that string.
pub text_there-kind : (buffer : List ℕ) (at finish : ℕ) (bytes : List ℕ) (is : IsPlainText buffer at finish bytes) →
    (text-there buffer at finish bytes is).kind ≡ string (at + 1) finish false
unfolding text-there
text_there-kind buffer at finish bytes is = refl

-- A number with a value is a scalar, too.
pub number-there : (buffer : List ℕ) (at b len : ℕ) (q : Parts) (hint : Hint) (n : Number) (value : Scalar) → slice_get buffer at ≡ Some b →
    start_of b ≡ opens_number → q ≡ parts (drop at buffer) → len ≡ parts_len q → hint ≡ parts_hint q → is_bare q ≡ false →
    number (slice_range buffer at (at + len)) hint ≡ Some n →
    ((kind : Kind) → value ≡ scalar_by kind (tree_of_number n)) → IsScalarThere buffer at len value
number-there buffer at b len q hint n value here begins same long what more means read =
    record {
      kind = token.number at (at + len) hint;
      meant = tree_of_number n;
      cut = λ mode. number-cut mode buffer at b len q hint here begins same long what more;
      scalar = refl;
      means = ap (option_map tree_of_number) means;
      read = read (token.number at (at + len) hint);
    }
