-- Each first byte begins what its arm measures.
use Rattle.std.proofs.Common.{refl, arith}
use Rattle.std.proofs.lemmas.Option.{slice_get_within}
use Rattle.facet_format.specs.Bytes as byte
use Rattle.facet_json_token.proofs.FirstBytes.{start_of-number_range}
use Rattle.facet_json_token.proofs.Offsets.{slice_get-from_read}
use Rattle.facet_json_reader.specs.Inner.InSight.{not_told}
use Rattle.facet_json_reader.specs.Inner.Quick.{null_stands, true_stands, false_stands}
use Rattle.facet_json_reader.specs.declared.takes.Piece.TheVariants as pieces
use Rattle.facet_json_reader.proofs.Fronts.{scalar-fits, untold}
use Rattle.facet_json_reader.proofs.TakenPieces.{number-text, told-taken}
use Rattle.facet_json_reader.proofs.in_sight.take_scalar.Goals as goal

pub returns-in_err-first-clause-left : goal.returns-in_err-first-clause-left
returns-in_err-first-clause-left g c = untold _ _ c.from_residual.result

pub returns-in_default-clause-left : goal.returns-in_default-clause-left
returns-in_default-clause-left g c = not_told

pub returns-in_default-2-clause-left : goal.returns-in_default-2-clause-left
returns-in_default-2-clause-left g c = not_told

-- ---- texts and literals

pub take_text-requires : goal.take_text-requires
take_text-requires g c =
    let w = c.in_ok-first in
    λ k. ((refl, tt), slice_get-from_read c.args.input.now c.args.at w.field-0.now byte.quote w.ensures.lookup.3 c.in-34.is)

pub take_word-requires : goal.take_word-requires
take_word-requires g c =
    let w = c.in_ok-first in
    let here = slice_get_within c.args.input.now c.args.at w.field-0.now (slice_get-from_read c.args.input.now c.args.at w.field-0.now w.field-0.now w.ensures.lookup.3 refl) in
    λ k. ((refl, tt), (omega (arith, here), (_, λ bytes. refl)))

pub take_word-requires-in-102 : goal.take_word-requires-in-102
take_word-requires-in-102 g c =
    let w = c.in_ok-first in
    let here = slice_get_within c.args.input.now c.args.at w.field-0.now (slice_get-from_read c.args.input.now c.args.at w.field-0.now w.field-0.now w.ensures.lookup.3 refl) in
    λ k. ((refl, tt), (omega (arith, here), (_, λ bytes. refl)))

pub take_word-requires-in-110 : goal.take_word-requires-in-110
take_word-requires-in-110 g c =
    let w = c.in_ok-first in
    let here = slice_get_within c.args.input.now c.args.at w.field-0.now (slice_get-from_read c.args.input.now c.args.at w.field-0.now w.field-0.now w.ensures.lookup.3 refl) in
    λ k. ((refl, tt), (omega (arith, here), (_, λ bytes. refl)))

pub returns-in-116-clause-scalar : goal.returns-in-116-clause-scalar
returns-in-116-clause-scalar g c =
    let w = c.in_ok-first in
    c.take_word.ensures.scalar g.L.InLanguage.language byte.lower_t _ true_stands (λ bytes. refl)
    (slice_get-from_read c.args.input.now c.args.at w.field-0.now byte.lower_t w.ensures.lookup.3 c.in-116.is)

pub returns-in-102-clause-scalar : goal.returns-in-102-clause-scalar
returns-in-102-clause-scalar g c =
    let w = c.in_ok-first in
    c.take_word-in-102.ensures.scalar g.L.InLanguage.language byte.lower_f _ false_stands (λ bytes. refl)
    (slice_get-from_read c.args.input.now c.args.at w.field-0.now byte.lower_f w.ensures.lookup.3 c.in-102.is)

pub returns-in-110-clause-scalar : goal.returns-in-110-clause-scalar
returns-in-110-clause-scalar g c =
    let w = c.in_ok-first in
    c.take_word-in-110.ensures.scalar g.L.InLanguage.language byte.lower_n _ null_stands (λ bytes. refl)
    (slice_get-from_read c.args.input.now c.args.at w.field-0.now byte.lower_n w.ensures.lookup.3 c.in-110.is)

-- ---- numbers

pub number_len-requires-clause-here : goal.number_len-requires-clause-here
number_len-requires-clause-here g c =
    let w = c.in_ok-first in
    slice_get-from_read c.args.input.now c.args.at w.field-0.now w.field-0.now w.ensures.lookup.3 refl

pub number_len-requires-clause-number : goal.number_len-requires-clause-number
number_len-requires-clause-number g c =
    start_of-number_range c.in_ok-first.field-0.now (grind arith) (grind arith) (grind arith) (grind arith)

pub returns-in_err-len-in-45-clause-left : goal.returns-in_err-len-in-45-clause-left
returns-in_err-len-in-45-clause-left g c = untold _ _ c.from_residual-in_err-len-in-45.result

pub take_piece-requires : goal.take_piece-requires
take_piece-requires g c =
    let w = c.in_ok-first in
    let buffer = c.args.input.now in
    let is = c.in_ok-len-in-45.ensures in
    let len = c.in_ok-len-in-45.len in
    let here = slice_get-from_read buffer c.args.at w.field-0.now w.field-0.now w.ensures.lookup.3 refl in
    let begins = start_of-number_range w.field-0.now (grind arith) (grind arith) (grind arith) (grind arith) in
    let within = (scalar-fits buffer c.args.at len is.scalar.value is.scalar.there).1 in
    λ k. ((refl, tt), (within, (_, (is.scalar.value, number-text _ buffer c.args.at len w.field-0.now is here begins, refl))))

pub returns-in_ok-len-in-45-clause-scalar : goal.returns-in_ok-len-in-45-clause-scalar
returns-in_ok-len-in-45-clause-scalar g c =
    let w = c.in_ok-first in
    let buffer = c.args.input.now in
    let language = g.L.InLanguage.language in
    let spoken = c.language.ensures in
    let is = rw spoken at c.in_ok-len-in-45.ensures in
    let len = c.in_ok-len-in-45.len in
    let here = slice_get-from_read buffer c.args.at w.field-0.now w.field-0.now w.ensures.lookup.3 refl in
    let begins = start_of-number_range w.field-0.now (grind arith) (grind arith) (grind arith) (grind arith) in
    told-taken (g.T.Takes.takes buffer) buffer language c.args.at len _ _ pieces.Number c.take_piece.result is.scalar c.take_piece.ensures.len c.take_piece.ensures.taken
    (is.scalar.value, number-text language buffer c.args.at len w.field-0.now is here begins, refl)
