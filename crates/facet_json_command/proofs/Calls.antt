-- The words of calls: none has a comma, and which call stands before a script.
use Rattle.std.proofs.Common.{◌≡◌, ◌≢◌, ℕ, ◌<◌, ◌⊎◌, List, [], ◌∷◌, ◌++◌, map, codes, sym, subst, ◌∙◌, arith, rules, inl, inr, Option, Some, None, MatchOption}
use Rattle.std.proofs.lemmas.List.{map-append, append_assoc}
use Rattle.std.specs.Char.{digit_value}
use Rattle.std.specs.Str.Parse.{AllDigits}
use Rattle.facet_format.specs.Cursor.{Call, next, peek, events, skip, capture, save, restore, span}
use Rattle.facet_json_core.specs.declared.script.Call.{Call as RustCall}
use Rattle.facet_json_core.specs.ScriptViews.{call_of}
use Rattle.facet_format.specs.Bytes.{comma}
use Rattle.facet_json_command.specs.Script.{IsNumbered, IsWordOf, IsScript, one_word, word_first}
use Rattle.facet_json_command.proofs.Cuts.{Lacks, one_cut, has_byte, lacks_both}

-- ---- commas

no_digit : (b : ℕ) → digit_value b < 10 → b ≢ comma
no_digit b digit is = absurd (omega (arith, (subst (λ x. digit_value x < 10) is digit)))

digits_lack : (text : List ℕ) → AllDigits 10 text → Lacks comma text
digits_lack [] all = tt
digits_lack (b ∷ text) all = (no_digit b all.0, digits_lack text all.1)

numbered_lacks : (name word : List ℕ) (number : ℕ) → Lacks comma name → IsNumbered name word number → Lacks comma word
numbered_lacks name word number lacks is =
    rw is.1 (lacks_both comma name is.0 lacks (digits_lack is.0 is.2.numeral.1))

pub word_lacks : (call : Call) (word : List ℕ) → IsWordOf call word → Lacks comma word
word_lacks next word is = rw is (search rules)
word_lacks peek word is = rw is (search rules)
word_lacks (events limit) word is = numbered_lacks (codes "events:") word limit (search rules) is
word_lacks skip word is = rw is (search rules)
word_lacks capture word is = rw is (search rules)
word_lacks save word is = rw is (search rules)
word_lacks (restore point) word is = numbered_lacks (codes "restore:") word point (search rules) is
word_lacks span word is = rw is (search rules)

-- ---- scripts

-- A text without a comma is a script of one call.
pub script_word : (text : List ℕ) (calls : List Call) → Lacks comma text → IsScript text calls → (call : Call) × IsWordOf call text
script_word _ _ lacks (one_word text call is) = (call, is)
script_word _ _ lacks (word_first text word rest call calls cut is more) =
    absurd (has_byte comma word rest (rw cut at lacks))

-- After the first comma of a script stands a script, and before it the word of a call.
pub script_behind : (text word behind : List ℕ) (calls : List Call) → text ≡ word ++ (comma ∷ behind) → Lacks comma word →
    IsScript text calls → (call : Call) × (more : List Call) × IsWordOf call word × IsScript behind more
script_behind _ word behind _ cut lacks (one_word text call is) =
    absurd (has_byte comma word behind (rw cut at (word_lacks call text is)))
script_behind _ word behind _ cut lacks (word_first text first rest call calls cut' is more) =
    let same = one_cut comma word behind first rest lacks (word_lacks call first is) (sym cut ∙ cut') in
    (call, calls, subst (IsWordOf call) (sym same.0) is, subst (λ t. IsScript t calls) (sym same.1) more)

-- What a word is that numbers no events
pub restore_or_none : (word : List ℕ) (answer : Option RustCall) → ((number : ℕ) → ¬ IsNumbered (codes "events:") word number) →
    MatchOption answer ((number : ℕ) → ¬ IsNumbered (codes "restore:") word number) (λ c. IsWordOf (call_of c) word) →
    MatchOption answer
    ((number : ℕ) → ¬ (IsNumbered (codes "events:") word number ⊎ IsNumbered (codes "restore:") word number))
    (λ c. IsWordOf (call_of c) word)
restore_or_none word None no_events no_restore = λ number either.
    elim either [
      | inl is ↦ no_events number is
      | inr is ↦ no_restore number is
    ]
restore_or_none word (Some c) no_events is = is

-- A word of no call
no_call : (word : List ℕ) → word ≢ codes "next" → word ≢ codes "peek" → word ≢ codes "skip" → word ≢ codes "capture" → word ≢ codes "save" → word ≢ codes "span" →
    ((number : ℕ) → ¬ (IsNumbered (codes "events:") word number ⊎ IsNumbered (codes "restore:") word number)) →
    (call : Call) → ¬ IsWordOf call word
no_call word n p sk ca sa sp numbered next is = n is
no_call word n p sk ca sa sp numbered peek is = p is
no_call word n p sk ca sa sp numbered (events limit) is = numbered limit (inl is)
no_call word n p sk ca sa sp numbered skip is = sk is
no_call word n p sk ca sa sp numbered capture is = ca is
no_call word n p sk ca sa sp numbered save is = sa is
no_call word n p sk ca sa sp numbered (restore point) is = numbered point (inr is)
no_call word n p sk ca sa sp numbered span is = sp is

-- What the word with a number is, where it is none of the other words
pub call_or_none : (word : List ℕ) (answer : Option RustCall) → word ≢ codes "next" → word ≢ codes "peek" →
    word ≢ codes "skip" → word ≢ codes "capture" → word ≢ codes "save" → word ≢ codes "span" →
    MatchOption answer
    ((number : ℕ) → ¬ (IsNumbered (codes "events:") word number ⊎ IsNumbered (codes "restore:") word number))
    (λ c. IsWordOf (call_of c) word) →
    MatchOption answer ((call : Call) → ¬ IsWordOf call word) (λ c. IsWordOf (call_of c) word)
call_or_none word None n p sk ca sa sp numbered = no_call word n p sk ca sa sp numbered
call_or_none word (Some c) n p sk ca sa sp is = is

-- ---- the loop over the words: the calls so far, and what is left of the script

-- One more call was read, with a comma after its word.
pub one_more_call : (script rest word behind : List ℕ) (calls more : List RustCall) (call : RustCall) →
    rest ≡ word ++ (comma ∷ behind) → more ≡ calls ++ (call ∷ []) → IsWordOf (call_of call) word →
    ((others : List Call) → IsScript rest others → IsScript script (map call_of calls ++ others)) →
    (others : List Call) → IsScript behind others → IsScript script (map call_of more ++ others)
one_more_call script rest word behind calls more call cut added is whole others left =
    rw (added, map-append call_of calls (call ∷ []), append_assoc (map call_of calls) (call_of call ∷ []) others)
    (whole (call_of call ∷ others) (word_first rest word behind (call_of call) others cut is left))

-- The last call was read.
pub last_call : (script rest : List ℕ) (calls more : List RustCall) (call : RustCall) → more ≡ calls ++ (call ∷ []) →
    IsWordOf (call_of call) rest →
    ((others : List Call) → IsScript rest others → IsScript script (map call_of calls ++ others)) →
    IsScript script (map call_of more)
last_call script rest calls more call added is whole =
    rw (added, map-append call_of calls (call ∷ [])) (whole (call_of call ∷ []) (one_word rest (call_of call) is))
