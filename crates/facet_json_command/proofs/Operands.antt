-- The words after a command: each option once at most, and other words, read from the first on.
use Rattle.std.proofs.Common.{◌≡◌, ◌≢◌, ◌⊎◌, ℕ, zero, suc, ◌<◌, ◌≤◌, Bool, true, false, List, [], ◌∷◌, ◌++◌, length, get_or, take, drop, codes, Option, None, Some, MatchOption, String, Global, string_bytes, subst, refl, sym, ap, ◌∙◌, inl, inr, arith}
use Rattle.facet_json_token.specs.Gap.{Mode, plain, jsonc}
use Rattle.facet_json_grammar.specs.Language.{Language, lenient, strict}
use Rattle.facet_format.specs.Cursor.{Call}
use Rattle.facet_json_command.specs.Script.{IsScript}
use Rattle.facet_json_command.specs.Arguments.{fmt, events, tokens, drive, comments, strictly, indented, AreWords, no_words, operand, with_comments, with_strict, with_indent, AreArguments, AskForNothing}
use Rattle.facet_json_command.specs.OutcomeViews.{words_of}
use Rattle.facet_json_command.proofs.Cuts.{same_tail}

-- ---- the options

-- the options are different words
options_differ : comments ≡ indented → ⊥
options_differ same = let third : 106 ≡ 112 = ap (λ l. get_or l 2 0) same in absurd (omega (arith, third))

strict_differs : strictly ≡ indented → ⊥
strict_differs same = let third : 115 ≡ 112 = ap (λ l. get_or l 2 0) same in absurd (omega (arith, third))

comments_differ : comments ≡ strictly → ⊥
comments_differ same = let third : 106 ≡ 115 = ap (λ l. get_or l 2 0) same in absurd (omega (arith, third))

-- the language that no option asks for
abbrev unasked : Language
unasked = lenient plain

-- The word is the option that asks for the language.
pub data Asks : Language → List ℕ → Type 0 where
  by_comments : (word : List ℕ) → word ≡ comments → Asks (lenient jsonc) word
  by_strict : (word : List ℕ) → word ≡ strictly → Asks (strict plain) word

with_asked : (language : Language) (pretty : Bool) (word : List ℕ) (operands words : List (List ℕ)) → Asks language word →
    AreWords unasked pretty operands words → AreWords language pretty operands (word ∷ words)
with_asked _ pretty _ operands words (by_comments word is) more = with_comments pretty word operands words is more
with_asked _ pretty _ operands words (by_strict word is) more = with_strict pretty word operands words is more

-- such a word is no other one
asks_not_indent : (language : Language) (word : List ℕ) → Asks language word → word ≢ indented
asks_not_indent _ _ (by_comments word is) other = options_differ (sym is ∙ other)
asks_not_indent _ _ (by_strict word is) other = strict_differs (sym is ∙ other)

asks_is_option : (language : Language) (word : List ℕ) → Asks language word → word ≢ comments → word ≢ strictly → ⊥
asks_is_option _ _ (by_comments word is) c s = c is
asks_is_option _ _ (by_strict word is) c s = s is

-- ---- one more word

-- what one word more is, or why it can't be
pub taken_or : {X : Type 0} (o : Option X) (P R : Type 0) (Q S : X → Type 0) → (P → R) → ((x : X) → Q x → S x) → MatchOption o P Q → MatchOption o R S
taken_or None P R Q S none some is = none is
taken_or (Some x) P R Q S none some is = some x is

-- A word that is no option is one operand more.
pub one_more_operand : (language : Language) (pretty : Bool) (operands front : List (List ℕ)) (word : List ℕ) → word ≢ comments →
    word ≢ strictly → word ≢ indented → AreWords language pretty operands front →
    AreWords language pretty (operands ++ (word ∷ [])) (front ++ (word ∷ []))
one_more_operand _ _ _ _ word c s i no_words = operand (lenient plain) false word [] [] c s i no_words
one_more_operand _ _ _ _ word c s i (operand language pretty first operands words is is' is'' more) =
    operand language pretty first (operands ++ (word ∷ [])) (words ++ (word ∷ [])) is is' is''
    (one_more_operand language pretty operands words word c s i more)
one_more_operand _ _ _ _ word c s i (with_comments pretty first operands words is more) =
    with_comments pretty first (operands ++ (word ∷ [])) (words ++ (word ∷ [])) is (one_more_operand unasked pretty operands words word c s i more)
one_more_operand _ _ _ _ word c s i (with_strict pretty first operands words is more) =
    with_strict pretty first (operands ++ (word ∷ [])) (words ++ (word ∷ [])) is (one_more_operand unasked pretty operands words word c s i more)
one_more_operand _ _ _ _ word c s i (with_indent language first operands words is more) =
    with_indent language first (operands ++ (word ∷ [])) (words ++ (word ∷ [])) is
    (one_more_operand language false operands words word c s i more)

-- An option asks for a language behind words that ask for none.
pub one_more_asked : (asked language : Language) (pretty : Bool) (operands front : List (List ℕ)) (word : List ℕ) → Asks asked word →
    language ≡ lenient plain → AreWords language pretty operands front → AreWords asked pretty operands (front ++ (word ∷ []))
one_more_asked asked _ _ _ _ word asks free no_words = with_asked asked false word [] [] asks no_words
one_more_asked asked _ _ _ _ word asks free (operand language pretty first operands words c s i more) =
    operand asked pretty first operands (words ++ (word ∷ [])) c s i (one_more_asked asked language pretty operands words word asks free more)
one_more_asked asked _ _ _ _ word asks free (with_comments pretty first operands words is more) = cc
one_more_asked asked _ _ _ _ word asks free (with_strict pretty first operands words is more) = cc
one_more_asked asked _ _ _ _ word asks free (with_indent language first operands words is more) =
    with_indent asked first operands (words ++ (word ∷ [])) is (one_more_asked asked language false operands words word asks free more)

-- The option of the layout stands behind words without it.
pub one_more_indent : (language : Language) (pretty : Bool) (operands front : List (List ℕ)) (word : List ℕ) → word ≡ indented → pretty ≡ false →
    AreWords language pretty operands front → AreWords language true operands (front ++ (word ∷ []))
one_more_indent _ _ _ _ word same free no_words = with_indent (lenient plain) word [] [] same no_words
one_more_indent _ _ _ _ word same free (operand language pretty first operands words c s i more) =
    operand language true first operands (words ++ (word ∷ [])) c s i (one_more_indent language pretty operands words word same free more)
one_more_indent _ _ _ _ word same free (with_comments pretty first operands words is more) =
    with_comments true first operands (words ++ (word ∷ [])) is (one_more_indent unasked pretty operands words word same free more)
one_more_indent _ _ _ _ word same free (with_strict pretty first operands words is more) =
    with_strict true first operands (words ++ (word ∷ [])) is (one_more_indent unasked pretty operands words word same free more)
one_more_indent _ _ _ _ word same free (with_indent language first operands words is more) = cc

-- ---- words are read in one way

-- The words tell the language, the layout and the operands.
pub one_reading : (language language' : Language) (pretty pretty' : Bool) (operands operands' words : List (List ℕ)) →
    AreWords language pretty operands words → AreWords language' pretty' operands' words →
    (language ≡ language') × (pretty ≡ pretty') × (operands ≡ operands')
one_reading _ _ _ _ _ _ _ no_words no_words = (refl, refl, refl)
one_reading _ _ _ _ _ _ _ (operand l p word ops words c s i more) (operand l' p' word' ops' words' c' s' i' more') =
    let rest = one_reading l l' p p' ops ops' words more more' in (rest.0, rest.1, ap (λ r. word ∷ r) rest.2)
one_reading _ _ _ _ _ _ _ (operand l p word ops words c s i more) (with_comments p' word' ops' words' is' more') = absurd (c is')
one_reading _ _ _ _ _ _ _ (operand l p word ops words c s i more) (with_strict p' word' ops' words' is' more') = absurd (s is')
one_reading _ _ _ _ _ _ _ (operand l p word ops words c s i more) (with_indent l' word' ops' words' is' more') = absurd (i is')
one_reading _ _ _ _ _ _ _ (with_comments p word ops words is more) (operand l' p' word' ops' words' c' s' i' more') = absurd (c' is)
one_reading _ _ _ _ _ _ _ (with_comments p word ops words is more) (with_comments p' word' ops' words' is' more') =
    let rest = one_reading unasked unasked p p' ops ops' words more more' in (refl, rest.1, rest.2)
one_reading _ _ _ _ _ _ _ (with_comments p word ops words is more) (with_strict p' word' ops' words' is' more') =
    absurd (comments_differ (sym is ∙ is'))
one_reading _ _ _ _ _ _ _ (with_comments p word ops words is more) (with_indent l' word' ops' words' is' more') =
    absurd (options_differ (sym is ∙ is'))
one_reading _ _ _ _ _ _ _ (with_strict p word ops words is more) (operand l' p' word' ops' words' c' s' i' more') = absurd (s' is)
one_reading _ _ _ _ _ _ _ (with_strict p word ops words is more) (with_comments p' word' ops' words' is' more') =
    absurd (comments_differ (sym is' ∙ is))
one_reading _ _ _ _ _ _ _ (with_strict p word ops words is more) (with_strict p' word' ops' words' is' more') =
    let rest = one_reading unasked unasked p p' ops ops' words more more' in (refl, rest.1, rest.2)
one_reading _ _ _ _ _ _ _ (with_strict p word ops words is more) (with_indent l' word' ops' words' is' more') =
    absurd (strict_differs (sym is ∙ is'))
one_reading _ _ _ _ _ _ _ (with_indent l word ops words is more) (operand l' p' word' ops' words' c' s' i' more') = absurd (i' is)
one_reading _ _ _ _ _ _ _ (with_indent l word ops words is more) (with_comments p' word' ops' words' is' more') =
    absurd (options_differ (sym is' ∙ is))
one_reading _ _ _ _ _ _ _ (with_indent l word ops words is more) (with_strict p' word' ops' words' is' more') =
    absurd (strict_differs (sym is' ∙ is))
one_reading _ _ _ _ _ _ _ (with_indent l word ops words is more) (with_indent l' word' ops' words' is' more') =
    let rest = one_reading l l' false false ops ops' words more more' in (rest.0, refl, rest.2)

-- ---- one word too many

-- the language of words, where it is that of the first ones and of the others: an option asks for it in one of both at most
abbrev JoinLanguages : Language → Language → Language → Type 0
JoinLanguages first others all = ((first ≡ unasked) × (all ≡ others)) ⊎ ((others ≡ unasked) × (all ≡ first))

-- the layout alike
abbrev JoinLayouts : Bool → Bool → Bool → Type 0
JoinLayouts false others all = all ≡ others
JoinLayouts true false all = all ≡ true
JoinLayouts true true all = ⊥

-- words are the first ones and the others
record Split (language : Language) (pretty : Bool) (operands front others : List (List ℕ)) : Type 0 where
  first_language : Language
  other_language : Language
  first_pretty : Bool
  other_pretty : Bool
  first_operands : List (List ℕ)
  other_operands : List (List ℕ)
  first : AreWords first_language first_pretty first_operands front
  other : AreWords other_language other_pretty other_operands others
  languages : JoinLanguages first_language other_language language
  layouts : JoinLayouts first_pretty other_pretty pretty
  operands_are : operands ≡ first_operands ++ other_operands

unasked_parts : (a b : Language) → JoinLanguages a b unasked → (a ≡ unasked) × (b ≡ unasked)
unasked_parts a b (inl join) = (join.0, sym join.1)
unasked_parts a b (inr join) = (sym join.1, join.0)

compact_parts : (a b : Bool) → JoinLayouts a b false → (a ≡ false) × (b ≡ false)
compact_parts false b join = (refl, sym join)
compact_parts true false join = cc
compact_parts true true join = absurd join

-- an option that asks for a language, before words that are split
asked_split : (language : Language) (pretty : Bool) (operands front others : List (List ℕ)) (word : List ℕ) → Asks language word →
    Split unasked pretty operands front others → Split language pretty operands (word ∷ front) others
asked_split language pretty operands front others word asks s =
    let parts = unasked_parts s.first_language s.other_language s.languages in
    record {
      first_language = language;
      other_language = unasked;
      first_pretty = s.first_pretty;
      other_pretty = s.other_pretty;
      first_operands = s.first_operands;
      other_operands = s.other_operands;
      first = with_asked language s.first_pretty word s.first_operands front asks
          (subst (λ l. AreWords l s.first_pretty s.first_operands front) parts.0 s.first);
      other = subst (λ l. AreWords l s.other_pretty s.other_operands others) parts.1 s.other;
      languages = inr (refl, refl);
      layouts = s.layouts;
      operands_are = s.operands_are;
    }

split : (language : Language) (pretty : Bool) (operands front others : List (List ℕ)) → AreWords language pretty operands (front ++ others) →
    Split language pretty operands front others
split language pretty operands [] others all = record {
  first_language = unasked;
  other_language = language;
  first_pretty = false;
  other_pretty = pretty;
  first_operands = [];
  other_operands = operands;
  first = no_words;
  other = all;
  languages = inl (refl, refl);
  layouts = refl;
  operands_are = refl;
}
split _ _ _ (w ∷ front) others (operand language pretty word operands words c s i more) =
    let p = split language pretty operands front others more in
    record {
      first_language = p.first_language;
      other_language = p.other_language;
      first_pretty = p.first_pretty;
      other_pretty = p.other_pretty;
      first_operands = word ∷ p.first_operands;
      other_operands = p.other_operands;
      first = operand p.first_language p.first_pretty word p.first_operands front c s i p.first;
      other = p.other;
      languages = p.languages;
      layouts = p.layouts;
      operands_are = ap (λ l. word ∷ l) p.operands_are;
    }
split _ _ _ (w ∷ front) others (with_comments pretty word operands words is more) =
    asked_split (lenient jsonc) pretty operands front others word (by_comments word is) (split unasked pretty operands front others more)
split _ _ _ (w ∷ front) others (with_strict pretty word operands words is more) =
    asked_split (strict plain) pretty operands front others word (by_strict word is) (split unasked pretty operands front others more)
split _ _ _ (w ∷ front) others (with_indent language word operands words is more) =
    let p = split language false operands front others more in
    let parts = compact_parts p.first_pretty p.other_pretty p.layouts in
    record {
      first_language = p.first_language;
      other_language = p.other_language;
      first_pretty = true;
      other_pretty = false;
      first_operands = p.first_operands;
      other_operands = p.other_operands;
      first = with_indent p.first_language word p.first_operands front is
          (subst (λ l. AreWords p.first_language l p.first_operands front) parts.0 p.first);
      other = subst (λ l. AreWords p.other_language l p.other_operands others) parts.1 p.other;
      languages = p.languages;
      layouts = refl;
      operands_are = p.operands_are;
    }

-- words that begin with an option, or with an operand
asked_first : (asked language : Language) (pretty : Bool) (operands rest : List (List ℕ)) (word : List ℕ) → Asks asked word →
    AreWords language pretty operands (word ∷ rest) → language ≢ unasked
asked_first asked _ _ _ _ word asks (operand l p _ ops words c s i more) = absurd (asks_is_option asked word asks c s)
asked_first asked _ _ _ _ word asks (with_comments p _ ops words is more) = λ none. cc
asked_first asked _ _ _ _ word asks (with_strict p _ ops words is more) = λ none. cc
asked_first asked _ _ _ _ word asks (with_indent l _ ops words is more) = absurd (asks_not_indent asked word asks is)

indent_first : (language : Language) (pretty : Bool) (operands rest : List (List ℕ)) (word : List ℕ) → word ≡ indented →
    AreWords language pretty operands (word ∷ rest) → pretty ≡ true
indent_first _ _ _ _ word is (operand l p _ ops words c s i more) = absurd (i is)
indent_first _ _ _ _ word is (with_comments p _ ops words is' more) = absurd (options_differ (sym is' ∙ is))
indent_first _ _ _ _ word is (with_strict p _ ops words is' more) = absurd (strict_differs (sym is' ∙ is))
indent_first _ _ _ _ word is (with_indent l _ ops words is' more) = refl

operand_first : (language : Language) (pretty : Bool) (operands rest : List (List ℕ)) (word : List ℕ) → word ≢ comments → word ≢ strictly →
    word ≢ indented → AreWords language pretty operands (word ∷ rest) → (others : List (List ℕ)) × (operands ≡ word ∷ others)
operand_first _ _ _ _ word c s i (operand l p _ ops words c' s' i' more) = (ops, refl)
operand_first _ _ _ _ word c s i (with_comments p _ ops words is more) = absurd (c is)
operand_first _ _ _ _ word c s i (with_strict p _ ops words is more) = absurd (s is)
operand_first _ _ _ _ word c s i (with_indent l _ ops words is more) = absurd (i is)

both_asked : (a b all : Language) → a ≢ unasked → b ≢ unasked → JoinLanguages a b all → ⊥
both_asked a b all is is' (inl join) = is join.0
both_asked a b all is is' (inr join) = is' join.0

both_indented : (a b all : Bool) → a ≡ true → b ≡ true → JoinLayouts a b all → ⊥
both_indented false b all is is' join = cc
both_indented true false all is is' join = cc
both_indented true true all is is' join = join

module _ (taken_language : Language) (taken_pretty : Bool) (taken front : List (List ℕ))
    (so_far : AreWords taken_language taken_pretty taken front)
    (language : Language) (pretty : Bool) (operands rest : List (List ℕ)) (word : List ℕ)
    (all : AreWords language pretty operands (front ++ (word ∷ rest))) where
  -- one option asks for a language at most
  pub no_second_language : (asked : Language) → Asks asked word → taken_language ≢ lenient plain → ⊥
  no_second_language asked asks there =
      let s = split language pretty operands front (word ∷ rest) all in
      let one = one_reading s.first_language taken_language s.first_pretty taken_pretty s.first_operands taken front s.first so_far in
      both_asked s.first_language s.other_language language (λ none. there (sym one.0 ∙ none))
      (asked_first asked s.other_language s.other_pretty s.other_operands rest word asks s.other) s.languages

  -- the option of the layout stands there once
  pub no_second_indent : word ≡ indented → taken_pretty ≡ true → ⊥
  no_second_indent same there =
      let s = split language pretty operands front (word ∷ rest) all in
      let one = one_reading s.first_language taken_language s.first_pretty taken_pretty s.first_operands taken front s.first so_far in
      both_indented s.first_pretty s.other_pretty pretty (one.1 ∙ there)
      (indent_first s.other_language s.other_pretty s.other_operands rest word same s.other) s.layouts

  -- one operand stands there at most
  pub no_second_operand : word ≢ comments → word ≢ strictly → word ≢ indented → (operand_taken : List ℕ) → taken ≡ operand_taken ∷ [] →
      length operands ≤ 1 → ⊥
  no_second_operand c s i one_taken there few =
      let p = split language pretty operands front (word ∷ rest) all in
      let one = one_reading p.first_language taken_language p.first_pretty taken_pretty p.first_operands taken front p.first so_far in
      let second = operand_first p.other_language p.other_pretty p.other_operands rest word c s i p.other in
      let are : operands ≡ one_taken ∷ word ∷ second.0 =
      p.operands_are ∙ ap (λ l. l ++ p.other_operands) (one.2 ∙ there) ∙ ap (λ l. one_taken ∷ l) second.1 in
      let long : suc (suc (length second.0)) ≤ 1 = subst (λ l. length l ≤ 1) are few in
      absurd (omega (arith, long))

-- ---- what a name and its words ask for

-- The same arguments begin with the same name.
pub name_is : (name other : List ℕ) (words others : List (List ℕ)) → name ∷ words ≡ other ∷ others → name ≡ other
name_is name other words others same = ap (λ l. get_or l 0 []) same

-- the words of the arguments are read so
pub words_are : (name asked : List ℕ) (rest : List (List ℕ)) (language other : Language) (pretty layout : Bool) (operands others : List (List ℕ)) →
    AreWords language pretty operands rest → AreArguments (name ∷ rest) asked other layout others →
    (language ≡ other) × (pretty ≡ layout) × (operands ≡ others)
words_are name asked rest language other pretty layout operands others words args =
    let same = same_tail name asked rest args.0 args.1 in
    one_reading language other pretty layout operands others args.0 (subst (AreWords language pretty operands) same words) args.2

one_is_none : (word : List ℕ) → word ∷ [] ≡ [] → ⊥
one_is_none word same = let lengths : 1 ≡ 0 = ap length same in absurd (omega (arith, lengths))

none_is_one : (word : List ℕ) → [] ≡ word ∷ [] → ⊥
none_is_one word same = one_is_none word (sym same)

-- without an operand only three names ask for something, two of them not where the option of the layout stands there, and one of these
-- not where RFC 8259 alone is asked for
pub bare_asks_nothing : (name : List ℕ) (rest : List (List ℕ)) (language : Language) (pretty : Bool) → AreWords language pretty [] rest →
    name ≢ codes "fmt" → (name ≡ codes "events" → pretty ≡ true) →
    ((mode : Mode) → name ≡ codes "tokens" → language ≡ lenient mode → pretty ≡ true) → AskForNothing (name ∷ rest)
bare_asks_nothing name rest language pretty words f e t (fmt other layout) args = f (name_is name (codes "fmt") rest args.0 args.1)
bare_asks_nothing name rest language pretty words f e t (events other) args =
    let there = e (name_is name (codes "events") rest args.0 args.1) in
    let none = (words_are name (codes "events") rest language other pretty false [] [] words args).1 in
    cc
bare_asks_nothing name rest language pretty words f e t (tokens mode) args =
    let same = words_are name (codes "tokens") rest language (lenient mode) pretty false [] [] words args in
    let there = t mode (name_is name (codes "tokens") rest args.0 args.1) same.0 in
    let none = same.1 in
    cc
bare_asks_nothing name rest language pretty words f e t (drive other calls) args =
    none_is_one args.0 (words_are name (codes "drive") rest language other pretty false [] (args.0 ∷ []) words args.1).2

strict_is_not_lenient : (mode other : Mode) → strict mode ≡ lenient other → ⊥
strict_is_not_lenient mode other same = cc

-- `tokens` has no strict form
pub strict_tokens_ask_nothing : (rest : List (List ℕ)) (language : Language) → AreWords language false [] rest → language ≡ strict plain →
    AskForNothing (codes "tokens" ∷ rest)
strict_tokens_ask_nothing rest language words is =
    bare_asks_nothing (codes "tokens") rest language false words
    (λ same. let first : 116 ≡ 102 = ap (λ l. get_or l 0 0) same in absurd (omega (arith, first)))
    (λ same. let first : 116 ≡ 101 = ap (λ l. get_or l 0 0) same in absurd (omega (arith, first)))
    (λ mode name same. absurd (strict_is_not_lenient plain mode (sym is ∙ same)))

-- with an operand only a script of that name asks for something, without the option of the layout
pub operand_asks_nothing : (name script : List ℕ) (rest : List (List ℕ)) (language : Language) (pretty : Bool) →
    AreWords language pretty (script ∷ []) rest →
    (name ≡ codes "drive" → pretty ≡ false → (calls : List Call) → ¬ IsScript script calls) → AskForNothing (name ∷ rest)
operand_asks_nothing name script rest language pretty words none (fmt other layout) args =
    one_is_none script (words_are name (codes "fmt") rest language other pretty layout (script ∷ []) [] words args).2
operand_asks_nothing name script rest language pretty words none (events other) args =
    one_is_none script (words_are name (codes "events") rest language other pretty false (script ∷ []) [] words args).2
operand_asks_nothing name script rest language pretty words none (tokens mode) args =
    one_is_none script (words_are name (codes "tokens") rest language (lenient mode) pretty false (script ∷ []) [] words args).2
operand_asks_nothing name script rest language pretty words none (drive other calls) args =
    let same = words_are name (codes "drive") rest language other pretty false (script ∷ []) (args.0 ∷ []) words args.1 in
    none (name_is name (codes "drive") rest args.1.0 args.1.1) same.1 calls
    (subst (λ t. IsScript t calls) (sym (name_is script args.0 [] [] same.2)) args.2)

-- ---- the loop over the arguments: the words so far, one more, and what is left

-- The words up to one of them, that one, and those behind it
pub words_split : (args : List (String Global)) (i : ℕ) (arg : String Global) → i < length args → arg ≡ get_or args i arg →
    words_of args ≡ words_of (take i args) ++ (string_bytes arg ∷ words_of (drop (suc i) args))
words_split [] i arg within is = absurd (omega (arith, within))
words_split (a ∷ args) zero arg within is = ap (λ x. string_bytes x ∷ words_of args) (sym is)
words_split (a ∷ args) (suc i) arg within is =
    ap (λ l. string_bytes a ∷ l) (words_split args i arg (omega (arith, within)) is)
