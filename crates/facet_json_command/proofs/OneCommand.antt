-- Arguments ask for one thing at most.
use Rattle.std.proofs.Common.{◌≡◌, ◌≢◌, ℕ, ◌+◌, ◌*◌, ◌==◌, Bool, false, cond, List, [], ◌∷◌, get_or, drop, codes, refl, sym, ap, subst, ◌∙◌, arith}
use Rattle.std.specs.Str.Parse.{digits_value}
use Rattle.facet_format.specs.Cursor.{Call, next, peek, events, skip, capture, save, restore, span}
use Rattle.facet_json_token.specs.Gap.{Mode}
use Rattle.facet_json_grammar.specs.Language.{Language, lenient}
use Rattle.facet_format.specs.Bytes.{comma}
use Rattle.facet_json_command.specs.Script.{IsWordOf, IsScript, one_word, word_first}
use Rattle.facet_json_command.specs.Arguments.{Command, fmt, events as list, tokens, drive, AreWords, AreArguments, AskFor}
use Rattle.facet_json_command.proofs.Cuts.{same_tail, one_cut, has_byte}
use Rattle.facet_json_command.proofs.Calls.{word_lacks}
use Rattle.facet_json_command.proofs.Operands.{name_is, one_reading}

-- ---- a script

-- the call whose word this is, by its first two bytes
abbrev read_word : List ℕ → Call
read_word word =
    let mark = get_or word 0 0 * 256 + get_or word 1 0 in
    cond (mark == 110 * 256 + 101) next
    (cond (mark == 112 * 256 + 101) peek
    (cond (mark == 101 * 256 + 118) (events (digits_value 10 (drop 7 word)))
    (cond (mark == 115 * 256 + 107) skip
    (cond (mark == 99 * 256 + 97) capture
    (cond (mark == 115 * 256 + 97) save
    (cond (mark == 114 * 256 + 101) (restore (digits_value 10 (drop 8 word))) span))))))

word_read : (call : Call) (word : List ℕ) → IsWordOf call word → read_word word ≡ call
word_read next word is = rw is refl
word_read peek word is = rw is refl
word_read (events limit) word is = rw is.1 (ap events is.2.value)
word_read skip word is = rw is refl
word_read capture word is = rw is refl
word_read save word is = rw is refl
word_read (restore point) word is = rw is.1 (ap restore is.2.value)
word_read span word is = rw is refl

one_call_of : (call other : Call) (word : List ℕ) → IsWordOf call word → IsWordOf other word → call ≡ other
one_call_of call other word is is' = sym (word_read call word is) ∙ word_read other word is'

one_script : (text : List ℕ) (calls others : List Call) → IsScript text calls → IsScript text others → calls ≡ others
one_script _ _ _ (one_word text call is) (one_word text' other is') = ap (λ c. c ∷ []) (one_call_of call other text is is')
one_script _ _ _ (one_word text call is) (word_first text' word rest other others cut is' more) =
    absurd (has_byte comma word rest (rw cut at (word_lacks call text is)))
one_script _ _ _ (word_first text word rest call calls cut is more) (one_word text' other is') =
    absurd (has_byte comma word rest (rw cut at (word_lacks other text is')))
one_script _ _ _ (word_first text word rest call calls cut is more) (word_first text' word' rest' other others cut' is' more') =
    let same = one_cut comma word rest word' rest' (word_lacks call word is) (word_lacks other word' is') (sym cut ∙ cut') in
    let first = one_call_of call other word' (subst (IsWordOf call) same.0 is) is' in
    let others_are = one_script rest' calls others (subst (λ t. IsScript t calls) same.1 more) more' in
    ap (λ c. c ∷ calls) first ∙ ap (λ l. other ∷ l) others_are

-- ---- arguments

arguments_once : (args : List (List ℕ)) (name other : List ℕ) (language language' : Language) (pretty pretty' : Bool)
    (operands operands' : List (List ℕ)) → AreArguments args name language pretty operands → AreArguments args other language' pretty' operands' →
    (name ≡ other) × (language ≡ language') × (pretty ≡ pretty') × (operands ≡ operands')
arguments_once args name other language language' pretty pretty' operands operands' first second =
    let same = sym first.1 ∙ second.1 in
    let words = subst (AreWords language pretty operands) (same_tail name other first.0 second.0 same) first.2 in
    let reading = one_reading language language' pretty pretty' operands operands' second.0 words second.2 in
    (name_is name other first.0 second.0 same, reading.0, reading.1, reading.2)

differ : (xs ys : List ℕ) → get_or xs 0 0 ≢ get_or ys 0 0 → xs ≡ ys → ⊥
differ xs ys other same = other (ap (λ l. get_or l 0 0) same)

fmt_once : (args : List (List ℕ)) (language other : Language) (pretty layout : Bool) → AskFor (fmt language pretty) args →
    AskFor (fmt other layout) args → (language ≡ other) × (pretty ≡ layout)
fmt_once args language other pretty layout first second =
    let same = arguments_once args (codes "fmt") (codes "fmt") language other pretty layout [] [] first second in (same.1, same.2)

events_once : (args : List (List ℕ)) (language other : Language) → AskFor (list language) args → AskFor (list other) args → language ≡ other
events_once args language other first second =
    (arguments_once args (codes "events") (codes "events") language other false false [] [] first second).1

tokens_once : (args : List (List ℕ)) (mode other : Mode) → AskFor (tokens mode) args → AskFor (tokens other) args → mode ≡ other
tokens_once args mode other first second =
    let same = (arguments_once args (codes "tokens") (codes "tokens") (lenient mode) (lenient other) false false [] [] first second).1 in cc

drive_once : (args : List (List ℕ)) (language other : Language) (calls others : List Call) → AskFor (drive language calls) args →
    AskFor (drive other others) args → (language ≡ other) × (calls ≡ others)
drive_once args language other calls others first second =
    let same = arguments_once args (codes "drive") (codes "drive") language other false false (first.0 ∷ []) (second.0 ∷ []) first.1 second.1 in
    let script = name_is first.0 second.0 [] [] same.3 in
    (same.1, one_script second.0 calls others (subst (λ t. IsScript t calls) script first.2) second.2)

fmt_is_not_events : (args : List (List ℕ)) (language other : Language) (pretty : Bool) → AskFor (fmt language pretty) args →
    AskFor (list other) args → ⊥
fmt_is_not_events args language other pretty first second =
    differ (codes "fmt") (codes "events") (λ e. absurd (omega (arith, e)))
    (arguments_once args (codes "fmt") (codes "events") language other pretty false [] [] first second).0

fmt_is_not_drive : (args : List (List ℕ)) (language other : Language) (pretty : Bool) (calls : List Call) → AskFor (fmt language pretty) args →
    AskFor (drive other calls) args → ⊥
fmt_is_not_drive args language other pretty calls first second =
    differ (codes "fmt") (codes "drive") (λ e. absurd (omega (arith, e)))
    (arguments_once args (codes "fmt") (codes "drive") language other pretty false [] (second.0 ∷ []) first second.1).0

events_is_not_drive : (args : List (List ℕ)) (language other : Language) (calls : List Call) → AskFor (list language) args →
    AskFor (drive other calls) args → ⊥
events_is_not_drive args language other calls first second =
    differ (codes "events") (codes "drive") (λ e. absurd (omega (arith, e)))
    (arguments_once args (codes "events") (codes "drive") language other false false [] (second.0 ∷ []) first second.1).0

fmt_is_not_tokens : (args : List (List ℕ)) (language : Language) (mode : Mode) (pretty : Bool) → AskFor (fmt language pretty) args →
    AskFor (tokens mode) args → ⊥
fmt_is_not_tokens args language mode pretty first second =
    differ (codes "fmt") (codes "tokens") (λ e. absurd (omega (arith, e)))
    (arguments_once args (codes "fmt") (codes "tokens") language (lenient mode) pretty false [] [] first second).0

events_is_not_tokens : (args : List (List ℕ)) (language : Language) (mode : Mode) → AskFor (list language) args → AskFor (tokens mode) args → ⊥
events_is_not_tokens args language mode first second =
    differ (codes "events") (codes "tokens") (λ e. absurd (omega (arith, e)))
    (arguments_once args (codes "events") (codes "tokens") language (lenient mode) false false [] [] first second).0

tokens_is_not_drive : (args : List (List ℕ)) (mode : Mode) (language : Language) (calls : List Call) → AskFor (tokens mode) args →
    AskFor (drive language calls) args → ⊥
tokens_is_not_drive args mode language calls first second =
    differ (codes "tokens") (codes "drive") (λ e. absurd (omega (arith, e)))
    (arguments_once args (codes "tokens") (codes "drive") (lenient mode) language false false [] (second.0 ∷ []) first second.1).0

-- Two commands that the same arguments ask for are one.
pub one_command : (args : List (List ℕ)) (command other : Command) → AskFor command args → AskFor other args → command ≡ other
one_command args (fmt language pretty) (fmt other layout) first second =
    let same = fmt_once args language other pretty layout first second in ap (λ l. fmt l pretty) same.0 ∙ ap (fmt other) same.1
one_command args (fmt language pretty) (list other) first second = absurd (fmt_is_not_events args language other pretty first second)
one_command args (fmt language pretty) (tokens mode) first second = absurd (fmt_is_not_tokens args language mode pretty first second)
one_command args (fmt language pretty) (drive other calls) first second = absurd (fmt_is_not_drive args language other pretty calls first second)
one_command args (list language) (fmt other layout) first second = absurd (fmt_is_not_events args other language layout second first)
one_command args (list language) (list other) first second = ap list (events_once args language other first second)
one_command args (list language) (tokens mode) first second = absurd (events_is_not_tokens args language mode first second)
one_command args (list language) (drive other calls) first second = absurd (events_is_not_drive args language other calls first second)
one_command args (tokens mode) (fmt other layout) first second = absurd (fmt_is_not_tokens args other mode layout second first)
one_command args (tokens mode) (list other) first second = absurd (events_is_not_tokens args other mode second first)
one_command args (tokens mode) (tokens other) first second = ap tokens (tokens_once args mode other first second)
one_command args (tokens mode) (drive language calls) first second = absurd (tokens_is_not_drive args mode language calls first second)
one_command args (drive language calls) (fmt other layout) first second = absurd (fmt_is_not_drive args other language layout calls second first)
one_command args (drive language calls) (list other) first second = absurd (events_is_not_drive args other language calls second first)
one_command args (drive language calls) (tokens mode) first second = absurd (tokens_is_not_drive args mode language calls second first)
one_command args (drive language calls) (drive other others) first second =
    let same = drive_once args language other calls others first second in
    ap (λ l. drive l calls) same.0 ∙ ap (drive other) same.1
