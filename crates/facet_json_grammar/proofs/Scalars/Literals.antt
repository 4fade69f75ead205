-- A literal is one scalar's token.
use Rattle.std.proofs.Common.{◌≡◌, ℕ, Bool, true, false, List, ◌++◌, length, Some, None, refl}
use Rattle.std.specs.Prelude.{codes}
use Rattle.facet_format.specs.Span.{span_at}
use Rattle.facet_json_token.specs.Shape.{IsLiteral, null_stands, true_stands, false_stands, IsShape}
use Rattle.facet_json_token.specs.Token.{Kind, Token}
use Rattle.facet_json_grammar.specs.Language.{Rules}
use Rattle.facet_json_grammar.specs.Meaning.{meaning_of}
use Rattle.facet_json_grammar.specs.Node.{is_scalar}
use Rattle.facet_json_grammar.specs.Text.{bool_text}
use Rattle.facet_json_grammar.specs.Tree.{Tree, null, bool}
use Rattle.facet_json_token.specs.Strict.{strict_fault_of}
use Rattle.facet_json_grammar.proofs.Scalars.OneToken.{IsOneScalar, token-by}
use Rattle.facet_json_grammar.proofs.Cuts.ShapesBetween.{shape-is_cut}

-- A literal is one of RFC 8259.
literal-right : (buffer : List ℕ) (t : Token) (word : List ℕ) (kind : Kind) → IsLiteral word kind → strict_fault_of buffer t kind ≡ None
literal-right buffer t _ _ null_stands = refl
literal-right buffer t _ _ true_stands = refl
literal-right buffer t _ _ false_stands = refl

-- A literal with a meaning is one scalar's token, which means this.
literal-one_scalar : (by : Rules) (word : List ℕ) (kind : Kind) (value : Tree) → IsLiteral word kind → is_scalar kind ≡ true →
    ((buffer : List ℕ) → meaning_of buffer kind ≡ Some value) → IsOneScalar by word value
literal-one_scalar by word kind value is scalar means before after ends =
    let buffer = before ++ word ++ after in
    let t : Token = record { kind = kind; span = span_at (length before) (length word) } in (
      t,
      shape-is_cut before word after kind (IsShape.literal word kind after is),
      scalar,
      means buffer,
      token-by by buffer t (literal-right buffer t word kind is),
    )

pub null-one_scalar : (by : Rules) → IsOneScalar by (codes "null") null
null-one_scalar by = literal-one_scalar by _ _ null null_stands refl (λ buffer. refl)

pub bool-one_scalar : (by : Rules) (b : Bool) → IsOneScalar by (bool_text b) (bool b)
bool-one_scalar by true = literal-one_scalar by _ _ (bool true) true_stands refl (λ buffer. refl)
bool-one_scalar by false = literal-one_scalar by _ _ (bool false) false_stands refl (λ buffer. refl)
