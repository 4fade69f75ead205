-- Along the names of a pointer, one after the other.
use Rattle.std.proofs.Common.{◌≡◌, ℕ, ◌+◌, ◌<◌, ◌==◌, Bool, true, false, ◌≤◌, if◌then◌else◌, List, [], ◌∷◌, ◌++◌, length, get_or, drop, length-drop, Some, None, refl, sym, ap, ◌∙◌, subst, arith}
use Rattle.std.specs.Prelude.{option_and_then}
use Rattle.std.proofs.lemmas.List.{drop_more, drop-drop, drop_at}
use Rattle.facet_format.specs.Bytes.{slash}
use Rattle.facet_json_grammar.specs.Tree.{Tree}
use Rattle.facet_json_tree.specs.Inner.PointerParts.{unescaped, before_slash}
use Rattle.facet_json_tree.specs.Pointer.{IsToken, IsPointer, child, named}
use Rattle.facet_json_tree.proofs.PointerTokens.{token-unescaped, before_slash-token}

-- The value in which the rest of a pointer names what the whole pointer names.
pub record Reached (rest : List ℕ) (found : Tree) (names : List (List ℕ)) (whole : Tree) : Type 0 where
  pub others : List (List ℕ)
  pub pointer : IsPointer rest others
  pub same : named names whole ≡ named others found

-- With nothing left it is what the pointer names.
pub only-whole : (text : List ℕ) (names : List (List ℕ)) → IsPointer text names → text ≡ [] → names ≡ []
only-whole _ _ IsPointer.whole e = refl
only-whole _ _ (IsPointer.within token name pointer names is others) e = cc

pub reached-all : (rest : List ℕ) (found : Tree) (names : List (List ℕ)) (whole : Tree) → Reached rest found names whole → rest ≡ []
    → Some found ≡ named names whole
reached-all rest found names whole at none =
    sym (at.same ∙ ap (λ ns. named ns found) (only-whole rest at.others at.pointer none))

-- a first token, and a pointer behind it
record Begun (behind : List ℕ) (names : List (List ℕ)) : Type 0 where
  token : List ℕ
  name : List ℕ
  pointer : List ℕ
  others : List (List ℕ)
  is_token : IsToken token name
  is_pointer : IsPointer pointer others
  text_is : behind ≡ token ++ pointer
  names_are : names ≡ name ∷ others

begun : (text : List ℕ) (names : List (List ℕ)) (b : ℕ) (behind : List ℕ) → IsPointer text names → text ≡ b ∷ behind → Begun behind names
begun _ _ b behind IsPointer.whole e = absurd (cc)
begun _ _ b behind (IsPointer.within token name pointer names is others) e = record {
  token = token;
  name = name;
  pointer = pointer;
  others = names;
  is_token = is;
  is_pointer = others;
  text_is = let parts : slash ∷ (token ++ pointer) ≡ b ∷ behind = e in cc;
  names_are = refl;
}

-- The first token that is left of a pointer, and the pointer behind it.
pub record FirstLeft (text : List ℕ) (start : ℕ) (names : List (List ℕ)) : Type 0 where
  pub others : List (List ℕ)
  pub are : names ≡ unescaped (before_slash (drop (start + 1) text)) ∷ others
  pub pointer : IsPointer (drop (start + (1 + length (before_slash (drop (start + 1) text)))) text) others

pub first-left : (text : List ℕ) (start : ℕ) (names : List (List ℕ)) → start < length text → IsPointer (drop start text) names →
    FirstLeft text start names
first-left text start names h pointer =
    let behind = drop (start + 1) text in
    let first = begun (drop start text) names (get_or text start 0) behind pointer (drop_more text start 0 h) in
    let is : before_slash behind ≡ first.token = ap before_slash first.text_is
    ∙ before_slash-token first.token first.name first.pointer first.others first.is_token first.is_pointer in
    let stands : unescaped (before_slash behind) ≡ first.name = ap unescaped is ∙ token-unescaped first.token first.name first.is_token in
    let left : drop (start + (1 + length (before_slash behind))) text ≡ first.pointer =
    let k = length (before_slash behind) in
    let same_start : start + (1 + k) ≡ start + 1 + k = omega arith in
    ap (λ n. drop n text) same_start ∙ sym (drop-drop k (start + 1) text) ∙ ap (drop k) first.text_is
    ∙ drop_at first.token first.pointer k (sym (ap length is)) in
    record {
      others = first.others;
      are = first.names_are ∙ ap (λ n. n ∷ first.others) (sym stands);
      pointer = subst (λ (xs : List ℕ). IsPointer xs first.others) (sym left) first.is_pointer;
    }

-- What the next token names, or nothing; and the rest behind it.
pub record Next (text : List ℕ) (start : ℕ) (found : Tree) (names : List (List ℕ)) (whole : Tree) : Type 0 where
  pub none : child (unescaped (before_slash (drop (start + 1) text))) found ≡ None → named names whole ≡ None
  pub some : (t : Tree) → child (unescaped (before_slash (drop (start + 1) text))) found ≡ Some t
      → Reached (drop (start + (1 + length (before_slash (drop (start + 1) text)))) text) t names whole

pub next : (text : List ℕ) (start : ℕ) (found : Tree) (names : List (List ℕ)) (whole : Tree) → start < length text
    → Reached (drop start text) found names whole → Next text start found names whole
next text start found names whole h at =
    let first = first-left text start at.others h at.pointer in
    let same = at.same ∙ ap (λ ns. named ns found) first.are in
    record {
      none = λ e. same ∙ ap (option_and_then (named first.others)) e;
      some = λ t e. record { others = first.others; pointer = first.pointer; same = same ∙ ap (option_and_then (named first.others)) e };
    }

by_stop : (b : ℕ) (text : List ℕ) (stops : Bool) → length (before_slash text) ≤ length text
    → length (if stops then [] else b ∷ before_slash text) ≤ length (b ∷ text)
by_stop b text true h = omega arith
by_stop b text false h = omega arith

-- The bytes before the first slash are no more than all.
before_slash-length : (text : List ℕ) → length (before_slash text) ≤ length text
before_slash-length [] = omega arith
before_slash-length (b ∷ text) = by_stop b text (b == slash) (before_slash-length text)

pub next-within : (text : List ℕ) (start : ℕ) → start < length text
    → start + (1 + length (before_slash (drop (start + 1) text))) ≤ length text
next-within text start h = omega (arith, before_slash-length (drop (start + 1) text), length-drop (start + 1) text)

-- the same, by a token that is the first one, and what it names
pub next-none : (pointer token : List ℕ) (start : ℕ) (found : Tree) (names : List (List ℕ)) (whole : Tree) → start < length pointer
    → token ≡ before_slash (drop (start + 1) pointer) → child (unescaped token) found ≡ None
    → Reached (drop start pointer) found names whole → None ≡ named names whole
next-none pointer token start found names whole h is nothing at =
    sym ((next pointer start found names whole h at).none (ap (λ t. child (unescaped t) found) (sym is) ∙ nothing))

pub next-some : (pointer token : List ℕ) (start : ℕ) (found t : Tree) (names : List (List ℕ)) (whole : Tree) → start < length pointer
    → token ≡ before_slash (drop (start + 1) pointer) → child (unescaped token) found ≡ Some t
    → Reached (drop start pointer) found names whole → Reached (drop (start + (1 + length token)) pointer) t names whole
next-some pointer token start found t names whole h is here at =
    subst (λ (n : ℕ). Reached (drop (start + (1 + n)) pointer) t names whole) (sym (ap length is))
    ((next pointer start found names whole h at).some t (ap (λ k. child (unescaped k) found) (sym is) ∙ here))

pub next-ends : (pointer token : List ℕ) (start : ℕ) → start < length pointer → token ≡ before_slash (drop (start + 1) pointer)
    → start + (1 + length token) ≤ length pointer
next-ends pointer token start h is =
    subst (λ (n : ℕ). start + (1 + n) ≤ length pointer) (sym (ap length is)) (next-within pointer start h)
