-- Each arm's byte stands for its token, and any other for none.
use Rattle.std.proofs.Common.{◌≢◌, ℕ, refl, arith}
use Rattle.facet_format.specs.Bytes.{left_brace, right_brace, left_bracket, right_bracket, colon, comma}
use Rattle.facet_json_token.specs.Token.{Kind}
use Rattle.facet_json_token.specs.Token as kinds
use Rattle.facet_json_token.specs.Shape.{IsStructural, object_starts, object_ends, array_starts, array_ends, colon_stands, comma_stands}
use Rattle.facet_json_token.proofs.quick.structural.Goals as goal

no_other : (b : ℕ) (kind : Kind) → b ≢ left_brace → b ≢ right_brace → b ≢ left_bracket → b ≢ right_bracket → b ≢ colon → b ≢ comma →
    IsStructural b kind → ⊥
no_other _ _ h0 h1 h2 h3 h4 h5 object_starts = h0 refl
no_other _ _ h0 h1 h2 h3 h4 h5 object_ends = h1 refl
no_other _ _ h0 h1 h2 h3 h4 h5 array_starts = h2 refl
no_other _ _ h0 h1 h2 h3 h4 h5 array_ends = h3 refl
no_other _ _ h0 h1 h2 h3 h4 h5 colon_stands = h4 refl
no_other _ _ h0 h1 h2 h3 h4 h5 comma_stands = h5 refl

pub returns-in-123 : goal.returns-in-123
returns-in-123 c = (kinds.object_start, rw c.in-123.is object_starts, c.spanned.ensures kinds.object_start refl)

pub returns-in-125 : goal.returns-in-125
returns-in-125 c = (kinds.object_end, rw c.in-125.is object_ends, c.spanned-in-125.ensures kinds.object_end refl)

pub returns-in-91 : goal.returns-in-91
returns-in-91 c = (kinds.array_start, rw c.in-91.is array_starts, c.spanned-in-91.ensures kinds.array_start refl)

pub returns-in-93 : goal.returns-in-93
returns-in-93 c = (kinds.array_end, rw c.in-93.is array_ends, c.spanned-in-93.ensures kinds.array_end refl)

pub returns-in-58 : goal.returns-in-58
returns-in-58 c = (kinds.colon, rw c.in-58.is colon_stands, c.spanned-in-58.ensures kinds.colon refl)

pub returns-in-44 : goal.returns-in-44
returns-in-44 c = (kinds.comma, rw c.in-44.is comma_stands, c.spanned-in-44.ensures kinds.comma refl)

pub returns-in_default : goal.returns-in_default
returns-in_default c =
    λ kind. no_other c.args.byte kind (omega arith) (omega arith) (omega arith) (omega arith) (omega arith) (omega arith)
