-- Each arm cuts what its byte begins.
use Rattle.std.proofs.Common.{◌<◌, ◌⊎◌, inl, inr, Some, ap, ◌∙◌, refl, arith}
use Rattle.facet_json_token.specs.Token.{null, true_literal, false_literal}
use Rattle.facet_json_token.specs.Cut.{start_of, punctuation, opens_text, opens_comment, opens_nothing}
use Rattle.facet_json_token.proofs.FirstBytes.{cut_here-by, cut_here-word, cut_here-number, start_of-number_range, start_of-nothing}
use Rattle.facet_json_token.proofs.InSight.{cut_of-told}
use Rattle.facet_json_token.proofs.Starts.{start_of-structural}
use Rattle.facet_json_token.proofs.cutting.cut_token.Goals as goal
use Rattle.facet_json_token.proofs.cutting.cut_token.Goals.{in_default-via-then-first-lt47, in_default-via-else-first-lt47+else-first-lt58}

pub returns-in-110 : goal.returns-in-110
unfolding start_of
returns-in-110 c =
    c.cut_word.ensures null refl
    ∙ ap Some (cut_here-word _ c.args.buffer.now c.args.at c.args.first _ _ c.requires (ap start_of c.in-110.is))

pub returns-in-116 : goal.returns-in-116
unfolding start_of
returns-in-116 c =
    c.cut_word-in-116.ensures true_literal refl
    ∙ ap Some (cut_here-word _ c.args.buffer.now c.args.at c.args.first _ _ c.requires (ap start_of c.in-116.is))

pub returns-in-102 : goal.returns-in-102
unfolding start_of
returns-in-102 c =
    c.cut_word-in-102.ensures false_literal refl
    ∙ ap Some (cut_here-word _ c.args.buffer.now c.args.at c.args.first _ _ c.requires (ap start_of c.in-102.is))

pub returns-in-34 : goal.returns-in-34
unfolding start_of
returns-in-34 c =
    c.cut_text.ensures
    ∙ ap Some (cut_here-by _ c.args.buffer.now c.args.at c.args.first opens_text c.requires (ap start_of c.in-34.is))

pub returns-in-47 : goal.returns-in-47
unfolding start_of
returns-in-47 c =
    c.cut_slash.ensures
    ∙ ap Some (cut_here-by _ c.args.buffer.now c.args.at c.args.first opens_comment c.requires (ap start_of c.in-47.is))

pub returns-in-45 : goal.returns-in-45
returns-in-45 c =
    let begins = start_of-number_range c.args.first (grind arith) (grind arith) (grind arith) (grind arith) in
    c.cut_number.ensures ∙ ap Some (cut_here-number _ c.args.buffer.now c.args.at c.args.first c.requires begins)

pub returns-in-Some : goal.returns-in-Some
returns-in-Some c =
    let is = c.in-Some.ensures in
    let begins = start_of-structural c.args.first is.0 is.1 in
    cut_of-told c.in-Some.token _ is.2
    ∙ ap Some (cut_here-by _ c.args.buffer.now c.args.at c.args.first (punctuation is.0) c.requires begins)

pub returns-in-None : goal.returns-in-None
returns-in-None c =
    let b = c.args.first in
    let no_digit : (b < 0x30) ⊎ (0x39 < b) =
    elim c.in_default.branch [
      | in_default-via-then-first-lt47 w ↦ inl (omega arith)
      | in_default-via-else-first-lt47+else-first-lt58 w ↦ inr (omega arith)
    ] in
    let begins =
    start_of-nothing b c.in-None.ensures (omega arith) (omega arith) (omega arith) (omega arith) (omega arith) (omega arith) no_digit in
    c.unexpected_char.ensures ∙ ap Some (cut_here-by _ c.args.buffer.now c.args.at b opens_nothing c.requires begins)
