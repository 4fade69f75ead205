-- Tokens that stand before others, by lenient rules or by strict ones.
use Rattle.std.proofs.Common.{◌≡◌, ℕ, true, false, List, None, refl}
use Rattle.facet_format.specs.Bytes as bytes
use Rattle.facet_json_token.specs.Shape.{IsStructural, object_starts, object_ends, array_starts, array_ends, colon_stands, comma_stands}
use Rattle.facet_json_token.specs.Token.{Kind, Token, object_end, array_start, array_end, object_start, colon, comma}
use Rattle.facet_json_token.specs.Tokens.{Tokens, next}
use Rattle.facet_json_token.specs.Strict.{strict_fault, strict_fault_of}
use Rattle.facet_json_grammar.specs.Language.{Rules, lenient_rules, strict_rules}
use Rattle.facet_json_grammar.specs.Node.{Node, is_scalar, is_string, Spells, one_token, brackets, braces}
use Rattle.facet_json_grammar.specs.StrictDocument.{is_closing, begins_closing, one_more}
use Rattle.facet_json_grammar.proofs.WalkComes.{Fits}
use Rattle.facet_json_grammar.proofs.Scalars.OneToken.{IsTokenBy, token-by}

-- ---- what no value begins with

scalar-no_closing : (k : Kind) → is_scalar k ≡ true → is_closing k ≡ false
scalar-no_closing object_end e = cc
scalar-no_closing array_end e = cc
scalar-no_closing k e = refl

opening-no_closing : (k opening : Kind) → k ≡ opening → is_closing opening ≡ false → is_closing k ≡ false
opening-no_closing k opening e c = rw e c

-- No value begins with a closing bracket.
pub value-begins : {ts rest : Tokens} {node : Node} → Spells ts node rest → begins_closing ts ≡ false
value-begins (one_token t rest k) = scalar-no_closing t.kind k
value-begins (brackets first last _ _ _ k s) = opening-no_closing first.kind array_start k refl
value-begins (braces first last _ _ _ k s) = opening-no_closing first.kind object_start k refl

-- No key is a closing bracket.
pub string-no_closing : (k : Kind) → is_string k ≡ true → is_closing k ≡ false
string-no_closing object_end e = cc
string-no_closing array_end e = cc
string-no_closing k e = refl

-- No scalar is a comma.
pub scalar-no_comma : (k : Kind) → is_scalar k ≡ true → k ≡ comma → ⊥
scalar-no_comma comma e same = cc
scalar-no_comma k e same = cc

-- No key is one.
pub string-no_comma : (k : Kind) → is_string k ≡ true → k ≡ comma → ⊥
string-no_comma comma e same = cc
string-no_comma k e same = cc

-- ---- what may stand before tokens that may stand as they do

module _ (by : Rules) (buffer : List ℕ) where
  -- A token that the rules have may, but for a comma before a closing bracket.
  fits-before : (t : Token) (rest : Tokens) → IsTokenBy by buffer t → (t.kind ≡ comma → begins_closing rest ≡ false) →
      Fits by buffer rest → Fits by buffer (next t rest)
  fits-before t rest has parted f = of by has f
    where
      of : (r : Rules) → IsTokenBy r buffer t → Fits r buffer rest → Fits r buffer (next t rest)
      of lenient_rules has f = tt
      of strict_rules has f = one_more t rest has parted f

  -- So may a scalar's token.
  pub scalar-fits : (t : Token) (rest : Tokens) → is_scalar t.kind ≡ true → IsTokenBy by buffer t → Fits by buffer rest →
      Fits by buffer (next t rest)
  scalar-fits t rest k has f = fits-before t rest has (λ e. absurd (scalar-no_comma t.kind k e)) f

  structural-right : (t : Token) (b : ℕ) (kind : Kind) → IsStructural b kind → strict_fault_of buffer t kind ≡ None
  structural-right t _ _ object_starts = refl
  structural-right t _ _ object_ends = refl
  structural-right t _ _ array_starts = refl
  structural-right t _ _ array_ends = refl
  structural-right t _ _ colon_stands = refl
  structural-right t _ _ comma_stands = refl

  -- So may a bracket and a colon, and a comma where no closing bracket follows.
  pub structural-fits : (t : Token) (b : ℕ) (rest : Tokens) → IsStructural b t.kind → (t.kind ≡ comma → begins_closing rest ≡ false) →
      Fits by buffer rest → Fits by buffer (next t rest)
  structural-fits t b rest s parted f = fits-before t rest (token-by by buffer t (structural-right t b t.kind s)) parted f

  -- So may a key and its colon.
  pub key-fits : (key mark : Token) (rest : Tokens) → is_string key.kind ≡ true → strict_fault buffer key ≡ None → mark.kind ≡ colon →
      Fits by buffer rest → Fits by buffer (next key (next mark rest))
  key-fits key mark rest k right m f =
      let stands : IsStructural bytes.colon mark.kind = rw m colon_stands in
      let behind = structural-fits mark bytes.colon rest stands (λ e. cc) f in
      fits-before key (next mark rest) (token-by by buffer key right) (λ e. absurd (string-no_comma key.kind k e)) behind
