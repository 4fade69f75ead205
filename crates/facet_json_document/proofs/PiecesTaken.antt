-- The node of a number that is taken is that of its event.
use Rattle.std.proofs.Common.{◌≡◌, ℕ, true, List, Some, length, refl, sym, ap, ◌∙◌}
use Rattle.std.specs.Prelude.{Result, Ok, Err, OnOk, is_ok}
use Rattle.facet_format.specs.Event.{EventKind, Scalar}
use Rattle.facet_format.specs.NumberValue.{Number}
use Rattle.facet_format.specs.NumberValue as numbers
use Rattle.facet_format.specs.Span.{Span}
use Rattle.facet_json_token.specs.Token.{Kind, number}
use Rattle.facet_json_core.specs.Told.{tree_of_scalar}
use Rattle.facet_json_grammar.specs.Meaning.{tree_of_number}
use Rattle.facet_json_grammar.specs.Walk.{scalar_by}
use Rattle.facet_json_reader.specs.Pieces.{IsPiece}
use Rattle.facet_json_reader.specs.Values.{IsShortScalar, short_unsigned, short_signed, short_decimal}
use Rattle.facet_json_reader.specs.declared.takes.Piece.TheVariants as pieces
use Rattle.facet_json_document.specs.Nodes.{leaf, number_tree, small_if_any, small_number, text_at}
use Rattle.facet_json_document.specs.OwnNumber.{is_small, own_number}
use Rattle.facet_json_document.specs.Inner.Building.{also, built_view, TakesNode}
use Rattle.facet_json_document.specs.declared.document.built.Built.{Built}
use Rattle.facet_json_document.proofs.NodeBytes.{own-read}

-- What is promised where it was done, and where it was not.
pub if-done : {X E P : Type 0} (answer : Result X E) → is_ok answer ≡ true → OnOk answer P → P
if-done (Ok x) e p = p
if-done (Err x) e p = cc

-- A number whose value is no text is small, and its value is what a node has of it.
short-small : (kind : Kind) (n : Number) (value : Scalar) → value ≡ scalar_by kind (tree_of_number n) → IsShortScalar value → is_small (Some n) ≡ true
short-small kind (numbers.u64 m) value is short = refl
short-small kind (numbers.i64 m) value is short = refl
short-small kind (numbers.decimal digits) value is short = refl
short-small kind (numbers.u128 m) _ is (short_unsigned k) = cc
short-small kind (numbers.u128 m) _ is (short_signed k) = cc
short-small kind (numbers.u128 m) _ is (short_decimal k) = cc
short-small kind (numbers.i128 m) _ is (short_unsigned k) = cc
short-small kind (numbers.i128 m) _ is (short_signed k) = cc
short-small kind (numbers.i128 m) _ is (short_decimal k) = cc

small-told : (kind : Kind) (n : Number) (value : Scalar) → value ≡ scalar_by kind (tree_of_number n) → is_small (Some n) ≡ true →
    tree_of_scalar value ≡ Some (small_number n)
small-told kind (numbers.u64 m) value is small = ap tree_of_scalar is
small-told kind (numbers.i64 m) value is small = ap tree_of_scalar is
small-told kind (numbers.decimal digits) value is small = ap tree_of_scalar is
small-told kind (numbers.u128 m) value is small = cc
small-told kind (numbers.i128 m) value is small = cc

pub number-small : (bytes : List ℕ) (kind : EventKind) → IsPiece bytes pieces.Number kind → is_small (own_number bytes) ≡ true
number-small bytes kind is =
    let own = is.1 in
    ap is_small (own-read bytes own.hint own.read own.means) ∙ short-small (number 0 (length bytes) own.hint) own.read is.0 own.is own.short

pub number-taken : (input bytes : List ℕ) (span : Span) (old new : Built) (kind : EventKind) → IsPiece bytes pieces.Number kind → bytes ≡ text_at input span →
    built_view new ≡ also (leaf bytes (number_tree bytes)) (built_view old) → new.room ≡ old.room →
    TakesNode input (Some (record { kind = kind; span = span })) old new
number-taken input bytes span old new kind is here node room =
    let own = is.1 in
    let kind_there = number 0 (length bytes) own.hint in
    let told = small-told kind_there own.read is.0 own.is (short-small kind_there own.read is.0 own.is own.short)
    ∙ ap Some (sym (ap small_if_any (own-read bytes own.hint own.read own.means))) in
    λ same.
    let at : bytes ≡ text_at old.input.now span = here ∙ ap (λ l. text_at l span) (sym same) in
    let k = is.2 in
    rw k (rw told (node ∙ ap (λ l. also (leaf l (number_tree bytes)) (built_view old)) at), λ others. sym (ap others room))
