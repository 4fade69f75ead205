use Rattle.std.proofs.Common.{refl, arith, take_all, sym, subst, ◌∙◌}
use Rattle.std.proofs.lemmas.Grind.{common_steps}
use Rattle.facet_format.specs.Number.{none, AreDigits}
use Rattle.facet_json_token.proofs.ShortNumbers.{digits-more, digits-number, some-bytes}
use Rattle.facet_json_token.proofs.number.short_number.Goals as goal

pub loop-byte-init : goal.loop-byte-init
loop-byte-init c = record { digits = none; same = refl; fits = omega arith }

pub loop-byte-preserved : goal.loop-byte-preserved
loop-byte-preserved c = record {
  digits = digits-more c.args.text.now c.loop-byte.byte-index c.loop-byte-test.true c.loop-byte.invariant.digits (sym c.is_ascii_digit.ensures.value ∙ c.if-not-is_ascii_digit.false);
  same = grind (arith, common_steps);
  fits = grind (arith, common_steps);
}

pub returns : goal.returns
returns c = (digits-number c.args.text.now (subst AreDigits (take_all c.loop-byte.byte-index c.args.text.now c.loop-byte-test.false) c.loop-byte.invariant.digits) (some-bytes c.args.text.now c.if-is_empty.ensures), grind (arith, common_steps), c.loop-byte.invariant.fits)
