-- Lists of values or of members, from their first to the closing character.
use Rattle.std.proofs.Common.{◌≡◌, ℕ, List, [], ◌++◌, refl, append_assoc, append-nil}
use Rattle.facet_format.specs.Bytes.{comma}
use Rattle.facet_json_grammar.specs.RfcText.{AreSpaces, Spaced, IsRfcStructural, IsEnclosed}
use Rattle.facet_json_grammar.proofs.Scalars.Spaces.{spaces-append}

-- Such characters, with no white space around them.
pub unspaced : {P : List ℕ → Type 0} (cs : List ℕ) → P cs → Spaced P cs
unspaced cs is = record {
  before = [];
  inside = cs;
  after = [];
  spaces_before = refl;
  such = is;
  spaces_after = refl;
  whole = simp append-nil;
}

-- White space before such characters is white space around them.
pub spaced_before : {P : List ℕ → Type 0} (spaces cs : List ℕ) → AreSpaces spaces → Spaced P cs → Spaced P (spaces ++ cs)
spaced_before spaces cs blank s = record {
  before = spaces ++ s.before;
  inside = s.inside;
  after = s.after;
  spaces_before = spaces-append spaces s.before blank s.spaces_before;
  such = s.such;
  spaces_after = s.spaces_after;
  whole = rw s.whole (simp append_assoc);
}

-- And after them.
pub spaced_after : {P : List ℕ → Type 0} (cs spaces : List ℕ) → Spaced P cs → AreSpaces spaces → Spaced P (cs ++ spaces)
spaced_after cs spaces s blank = record {
  before = s.before;
  inside = s.inside;
  after = s.after ++ spaces;
  spaces_before = s.spaces_before;
  such = s.such;
  spaces_after = spaces-append s.after spaces s.spaces_after blank;
  whole = rw s.whole (simp append_assoc);
}

-- One such, or more, separated by commas: lists M of single ones P, between these two characters.
module _ (P M : List ℕ → Type 0) (open_character close_character : ℕ) (one : (cs : List ℕ) → P cs → M cs)
    (more : (first separator others cs : List ℕ) → P first → IsRfcStructural comma separator → M others → cs ≡ first ++ separator ++ others → M cs) where
  -- a list of them and the closing character
  pub record IsClosed (characters : List ℕ) : Type 0 where
    pub inside : List ℕ
    pub finish : List ℕ
    pub such : M inside
    pub closes : IsRfcStructural close_character finish
    pub whole : characters ≡ inside ++ finish

  -- After one of them and white space these characters are the rest of the list.
  abbrev pub GoesOn : List ℕ → Type 0
  GoesOn rest = (first spaces : List ℕ) → P first → AreSpaces spaces → IsClosed (first ++ (spaces ++ rest))

  -- The closing character ends the list.
  pub ends : (finish : List ℕ) → IsRfcStructural close_character finish → GoesOn finish
  ends finish closes first spaces p blank = record {
    inside = first;
    finish = spaces ++ finish;
    such = one first p;
    closes = spaced_before spaces finish blank closes;
    whole = refl;
  }

  -- A comma and another of them go on with it.
  pub goes_on : (separator cs rest : List ℕ) → IsRfcStructural comma separator → Spaced P cs → GoesOn rest → GoesOn (separator ++ cs ++ rest)
  goes_on separator cs rest separates s others first spaces p blank =
      let next = others s.inside s.after s.such s.spaces_after in
      let comma_between = spaces ++ (separator ++ s.before) in
      let between = spaced_before spaces (separator ++ s.before) blank (spaced_after separator s.before separates s.spaces_before) in
      record {
        inside = first ++ comma_between ++ next.inside;
        finish = next.finish;
        such = more first comma_between next.inside _ p between next.such refl;
        closes = next.closes;
        whole = rw s.whole (simp (append_assoc, next.whole));
      }

  -- The opening character and the first of them begin it.
  pub begins : (start cs rest : List ℕ) → IsRfcStructural open_character start → Spaced P cs → GoesOn rest →
      (inside : List ℕ) × M inside × IsEnclosed open_character close_character inside (start ++ cs ++ rest)
  begins start cs rest opens s others =
      let next = others s.inside s.after s.such s.spaces_after in (
        next.inside,
        next.such,
        record {
          start = start ++ s.before;
          finish = next.finish;
          opens = spaced_after start s.before opens s.spaces_before;
          closes = next.closes;
          whole = rw s.whole (simp (append_assoc, next.whole));
        },
      )
