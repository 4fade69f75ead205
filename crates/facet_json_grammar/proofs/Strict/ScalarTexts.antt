-- Strict tokens that have a meaning are literals, numbers and strings of RFC 8259 that are readable.
use Rattle.std.proofs.Common.{◌≡◌, ℕ, suc, ◌+◌, Bool, true, false, cond, List, [], ◌∷◌, ◌++◌, length, take, drop, Option, Some, None, codes, refl, sym, ap, ◌∙◌, subst, append_assoc}
use Rattle.std.specs.Prelude.{slice_range}
use Rattle.std.specs.Option.{option_map}
use Rattle.std.specs.Str.{encode_utf8_all}
use Rattle.std.proofs.lemmas.List.{take_at}
use Rattle.facet_format.specs.Bytes.{quote, left_brace, right_brace, left_bracket, right_bracket}
use Rattle.facet_format.specs.Bytes as bytes
use Rattle.facet_format.specs.Number.{Hint}
use Rattle.facet_format.specs.NumberValue.{Number}
use Rattle.facet_format.specs.NumberValue as numbers
use Rattle.facet_json_token.specs.Token.{Kind, object_start, object_end, array_start, array_end, colon, comma, null, true_literal, false_literal, string, number, Token, Fault}
use Rattle.facet_json_token.specs.Shape.{IsStructural, object_starts, object_ends, array_starts, array_ends, colon_stands, comma_stands, IsLiteral, null_stands, true_stands, false_stands, ArePieces, IsShape}
use Rattle.facet_json_token.proofs.CutBounds.{slice_at, drop_next}
use Rattle.facet_json_token.specs.Decode.{Decodes}
use Rattle.facet_json_token.specs.Decoded.{decoded}
use Rattle.facet_json_token.proofs.DecodeLaws.{decodes-decoded}
use Rattle.facet_json_token.specs.RfcNumberTest.{is_rfc_number}
use Rattle.facet_json_token.specs.Strict.{wrong_at, strict_fault_of}
use Rattle.facet_json_token.proofs.RfcNumbers.{is_rfc-sound}
use Rattle.facet_json_grammar.specs.Meaning.{meaning_of, text_in_tree}
use Rattle.facet_json_grammar.specs.Node.{is_string, is_scalar}
use Rattle.facet_json_grammar.specs.Tree.{Tree}
use Rattle.facet_json_grammar.specs.Tree as trees
use Rattle.facet_json_grammar.specs.RfcReadable.{IsReadableNumber, IsReadableString, IsReadableValue}
use Rattle.facet_json_grammar.specs.RfcText as rfc
use Rattle.facet_json_grammar.specs.RfcText.{InUtf8, IsRfcContent, literal_false, literal_null, literal_true}
use Rattle.facet_json_grammar.proofs.Rfc.Encoded.{ascii, mapped, joined3}
use Rattle.facet_json_grammar.proofs.Rfc.Numbers.{number-ascii}
use Rattle.facet_json_grammar.proofs.Rfc.StrictStrings.{content-rfc}

-- ---- brackets, colons, commas and literals

-- the bytes of a kind that has them once and for all
abbrev pub spelling : Kind → Option (List ℕ)
spelling object_start = Some (left_brace ∷ [])
spelling object_end = Some (right_brace ∷ [])
spelling array_start = Some (left_bracket ∷ [])
spelling array_end = Some (right_bracket ∷ [])
spelling colon = Some (bytes.colon ∷ [])
spelling comma = Some (bytes.comma ∷ [])
spelling null = Some (codes "null")
spelling true_literal = Some (codes "true")
spelling false_literal = Some (codes "false")
spelling (string start finish has_escapes) = None
spelling (number start finish hint) = None

structural-spelling : (b : ℕ) (kind : Kind) → IsStructural b kind → spelling kind ≡ Some (b ∷ [])
structural-spelling _ _ object_starts = refl
structural-spelling _ _ object_ends = refl
structural-spelling _ _ array_starts = refl
structural-spelling _ _ array_ends = refl
structural-spelling _ _ colon_stands = refl
structural-spelling _ _ comma_stands = refl

literal-spelling : (word : List ℕ) (kind : Kind) → IsLiteral word kind → spelling kind ≡ Some word
literal-spelling _ _ null_stands = refl
literal-spelling _ _ true_stands = refl
literal-spelling _ _ false_stands = refl

same_word : (o : Option (List ℕ)) (a b : List ℕ) → o ≡ Some a → o ≡ Some b → a ≡ b
same_word o a b p q = cc

-- Such a token's bytes are these.
pub shape-spelling : {at : ℕ} {these rest word : List ℕ} {kind : Kind} → IsShape at these rest kind → spelling kind ≡ Some word → these ≡ word
shape-spelling (IsShape.structural b kind rest is) e = same_word _ _ _ (structural-spelling b kind is) e
shape-spelling (IsShape.literal word kind rest is) e = same_word _ _ _ (literal-spelling word kind is) e
shape-spelling (IsShape.text content rest has_escapes pieces) e = cc
shape-spelling (IsShape.numeral text rest hint is longest) e = cc

-- ---- strings

-- characters of a content that has this text
abbrev HasText : List ℕ → List ℕ → Type 0
HasText text cs = IsRfcContent cs × Decodes (encode_utf8_all cs) text

string_of : (text a content c : List ℕ) → a ≡ quote ∷ [] → HasText text content → c ≡ quote ∷ [] → IsReadableString (a ++ content ++ c)
string_of text a content c first inside last = record {
  content = content;
  text = text;
  is_content = inside.0;
  has_text = inside.1;
  quoted = rw (first, last) refl;
}

-- A content that has a text and passes the check, between quotes.
readable_string : (content text : List ℕ) {mark : Bool} → ArePieces content mark → wrong_at false content ≡ None → decoded content ≡ Some text →
    InUtf8 IsReadableString (quote ∷ content ++ quote ∷ [])
readable_string content text {mark} pieces right e =
    let decodes = decodes-decoded content text e in
    let is = content-rfc decodes (record { mark = mark; pieces = pieces; right = right }) in
    let with_text : InUtf8 (HasText text) content =
    record {
      characters = is.characters;
      are_scalars = is.are_scalars;
      encoded = is.encoded;
      such = (is.such, subst (λ b. Decodes b text) (sym is.encoded) decodes);
    } in
    let a_quote : InUtf8 (λ cs. cs ≡ quote ∷ []) (quote ∷ []) = ascii (quote ∷ []) refl refl in
    joined3 (string_of text) a_quote with_text a_quote

-- ---- tokens of a buffer

-- Nothing is wrong with a content of which no byte may not stand.
nothing_wrong : {F : Type 0} (f : ℕ → F) (o : Option ℕ) → option_map f o ≡ None → o ≡ None
nothing_wrong f None e = refl
nothing_wrong f (Some n) e = cc

mapped-some : {A B : Type 0} (f : A → B) (o : Option A) (value : B) → option_map f o ≡ Some value → (x : A) × (o ≡ Some x)
mapped-some f None value e = cc
mapped-some f (Some x) value e = (x, refl)

text-some : (o : Option (List ℕ)) (name : List ℕ) → text_in_tree (option_map trees.text o) ≡ Some name → o ≡ Some name
text-some None name e = cc
text-some (Some text) name e = cc

passes : (test : Bool) (f : Fault) → cond test None (Some f) ≡ None → test ≡ true
passes true f e = refl
passes false f e = cc

module _ (buffer : List ℕ) where
  -- The content of a string's token.
  content_there : (at : ℕ) (content rest : List ℕ) → drop at buffer ≡ (quote ∷ content ++ quote ∷ []) ++ rest →
      slice_range buffer (suc at) (suc at + length content) ≡ content
  content_there at content rest here =
      let left = content ++ quote ∷ [] ++ rest in
      slice_at buffer left (suc at) (length content) (drop_next buffer left at quote here)
      ∙ ap (take (length content)) (append_assoc content (quote ∷ []) rest)
      ∙ take_at content (quote ∷ [] ++ rest) (length content) refl

  string_there : (at : ℕ) (content rest text : List ℕ) {mark : Bool} → ArePieces content mark →
      drop at buffer ≡ (quote ∷ content ++ quote ∷ []) ++ rest → (t : Token) →
      strict_fault_of buffer t (string (suc at) (suc at + length content) mark) ≡ None →
      decoded (slice_range buffer (suc at) (suc at + length content)) ≡ Some text → InUtf8 IsReadableString (quote ∷ content ++ quote ∷ [])
  string_there at content rest text pieces here t right e =
      let there = content_there at content rest here in
      readable_string content text pieces (ap (wrong_at false) (sym there) ∙ nothing_wrong _ _ right) (ap decoded (sym there) ∙ e)

  number_there : (at : ℕ) (text rest : List ℕ) (hint : Hint) (value : Number) → drop at buffer ≡ text ++ rest → (t : Token) →
      strict_fault_of buffer t (number at (at + length text) hint) ≡ None →
      numbers.number (slice_range buffer at (at + length text)) hint ≡ Some value → InUtf8 IsReadableNumber text
  number_there at text rest hint value here t right e =
      let there : slice_range buffer at (at + length text) ≡ text =
      slice_at buffer (text ++ rest) at (length text) here ∙ take_at text rest (length text) refl in
      let is = is_rfc-sound text (ap is_rfc_number (sym there) ∙ passes _ _ right) in
      ascii text (number-ascii text is)
      record { is_number = is; hint = hint; value = value; has_value = ap (λ l. numbers.number l hint) (sym there) ∙ e }

  literal_there : (word : List ℕ) (kind : Kind) → IsLiteral word kind → InUtf8 IsReadableValue word
  literal_there _ _ null_stands = ascii _ refl literal_null
  literal_there _ _ true_stands = ascii _ refl literal_true
  literal_there _ _ false_stands = ascii _ refl literal_false

  no_scalar : {P : Type 0} (b : ℕ) (kind : Kind) → IsStructural b kind → is_scalar kind ≡ true → P
  no_scalar _ _ object_starts e = cc
  no_scalar _ _ object_ends e = cc
  no_scalar _ _ array_starts e = cc
  no_scalar _ _ array_ends e = cc
  no_scalar _ _ colon_stands e = cc
  no_scalar _ _ comma_stands e = cc

  -- The bytes of a scalar's token that is strict and has a meaning are a value.
  pub scalar-readable : {at : ℕ} {these rest : List ℕ} {kind : Kind} → IsShape at these rest kind → drop at buffer ≡ these ++ rest → (t : Token) →
      is_scalar kind ≡ true → strict_fault_of buffer t kind ≡ None → (value : Tree) → meaning_of buffer kind ≡ Some value →
      InUtf8 IsReadableValue these
  scalar-readable (IsShape.structural b kind rest is) here t scalar right value e = no_scalar b kind is scalar
  scalar-readable (IsShape.literal word kind rest is) here t scalar right value e = literal_there word kind is
  scalar-readable {at} (IsShape.text content rest has_escapes pieces) here t scalar right value e =
      let meant = mapped-some trees.text (decoded (slice_range buffer (suc at) (suc at + length content))) value e in
      mapped rfc.string (string_there at content rest meant.0 pieces here t right meant.1)
  scalar-readable {at} (IsShape.numeral text rest hint is longest) here t scalar right value e =
      let meant = mapped-some _ (numbers.number (slice_range buffer at (at + length text)) hint) value e in
      mapped rfc.number (number_there at text rest hint meant.0 here t right meant.1)

  literal_no_key : {P : Type 0} (word : List ℕ) (kind : Kind) → IsLiteral word kind → is_string kind ≡ true → P
  literal_no_key _ _ null_stands e = cc
  literal_no_key _ _ true_stands e = cc
  literal_no_key _ _ false_stands e = cc

  structural_no_key : {P : Type 0} (b : ℕ) (kind : Kind) → IsStructural b kind → is_string kind ≡ true → P
  structural_no_key _ _ object_starts e = cc
  structural_no_key _ _ object_ends e = cc
  structural_no_key _ _ array_starts e = cc
  structural_no_key _ _ array_ends e = cc
  structural_no_key _ _ colon_stands e = cc
  structural_no_key _ _ comma_stands e = cc

  -- Those of a key's token are a string.
  pub key-readable : {at : ℕ} {these rest : List ℕ} {kind : Kind} → IsShape at these rest kind → drop at buffer ≡ these ++ rest → (t : Token) →
      is_string kind ≡ true → strict_fault_of buffer t kind ≡ None → (name : List ℕ) → text_in_tree (meaning_of buffer kind) ≡ Some name →
      InUtf8 IsReadableString these
  key-readable (IsShape.structural b kind rest is) here t key right name e = structural_no_key b kind is key
  key-readable (IsShape.literal word kind rest is) here t key right name e = literal_no_key word kind is key
  key-readable {at} (IsShape.text content rest has_escapes pieces) here t key right name e =
      let meant = text-some (decoded (slice_range buffer (suc at) (suc at + length content))) name e in
      string_there at content rest name pieces here t right meant
  key-readable (IsShape.numeral text rest hint is longest) here t key right name e = cc
