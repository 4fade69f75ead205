-- What a value is, apart from the variant that holds it (RFC 8259, section 3).
use Rattle.std.specs.Prelude.{◌≡◌, ℕ, ℤ, pos, Bool, true, false, List, Option, Some, None, MatchOption, SomeIff, FitsSigned, unsigned_abs}
use Rattle.std.specs.Int.{Width, FitsUnsigned}
use Rattle.facet_json_grammar.specs.Tree.{Tree, null, unit, bool, char, i64, u64, i128, u128, decimal, text, raw, list, pairs, Trees, Pairs}

-- what JSON has as `null`
abbrev pub is_null : Tree → Bool
is_null null = true
is_null unit = true
is_null _ = false

abbrev pub as_bool : Tree → Option Bool
as_bool (bool b) = Some b
as_bool _ = None

abbrev pub as_str : Tree → Option (List ℕ)
as_str (text t) = Some t
as_str _ = None

-- a number's text, where it has a fraction or an exponent
abbrev pub as_decimal : Tree → Option (List ℕ)
as_decimal (decimal t) = Some t
as_decimal _ = None

-- JSON text that is written as it stands
abbrev pub as_raw : Tree → Option (List ℕ)
as_raw (raw t) = Some t
as_raw _ = None

abbrev pub as_list : Tree → Option Trees
as_list (list items) = Some items
as_list _ = None

abbrev pub as_pairs : Tree → Option Pairs
as_pairs (pairs members) = Some members
as_pairs _ = None

-- a whole number, whichever variant holds it
abbrev pub as_whole : Tree → Option ℤ
as_whole (i64 n) = Some n
as_whole (u64 n) = Some (pos n)
as_whole (i128 n) = Some n
as_whole (u128 n) = Some (pos n)
as_whole _ = None

-- the answer is the value's whole number, exactly where it has one and a type of this width, without a sign or with one, has it
abbrev pub TellsUnsigned : Width → Tree → Option ℕ → Type 0
TellsUnsigned w t answer =
    MatchOption (as_whole t) (answer ≡ None) (λ n. SomeIff answer (FitsUnsigned w n) (unsigned_abs n))

abbrev pub TellsSigned : Width → Tree → Option ℤ → Type 0
TellsSigned w t answer = MatchOption (as_whole t) (answer ≡ None) (λ n. SomeIff answer (FitsSigned w n) n)

-- values whose copies may allocate: all but `null`, truth values, characters and whole numbers
abbrev pub may_allocate : Tree → Bool
may_allocate null = false
may_allocate unit = false
may_allocate (bool b) = false
may_allocate (char c) = false
may_allocate (i64 n) = false
may_allocate (u64 n) = false
may_allocate (i128 n) = false
may_allocate (u128 n) = false
may_allocate _ = true
