-- Each first byte begins what its arm passes.
use Rattle.std.proofs.Common.{Some, ap, ◌∙◌, arith}
use Rattle.facet_format.specs.Bytes as byte
use Rattle.facet_json_token.proofs.FirstBytes.{start_of-number_range}
use Rattle.facet_json_reader.specs.PlaceViews.{language_of}
use Rattle.facet_json_reader.specs.Inner.Quick.{null_stands, true_stands, false_stands}
use Rattle.facet_json_reader.proofs.step.scalar_event.Goals as goal

pub number_event-requires-clause-number : goal.number_event-requires-clause-number
number_event-requires-clause-number c = start_of-number_range c.args.first (grind arith) (grind arith) (grind arith) (grind arith)

pub returns-in_ok-span-in-116 : goal.returns-in_ok-span-in-116
returns-in_ok-span-in-116 c =
    λ place may reached.
    c.in_ok-span-in-116.ensures.passes (language_of c.args.language) place byte.lower_t _ true_stands
    (c.requires ∙ ap Some c.in-116.is) may reached

pub returns-in_ok-span-in-102 : goal.returns-in_ok-span-in-102
returns-in_ok-span-in-102 c =
    λ place may reached.
    c.in_ok-span-in-102.ensures.passes (language_of c.args.language) place byte.lower_f _ false_stands
    (c.requires ∙ ap Some c.in-102.is) may reached

pub returns-in_ok-span-in-110 : goal.returns-in_ok-span-in-110
returns-in_ok-span-in-110 c =
    λ place may reached.
    c.in_ok-span-in-110.ensures.passes (language_of c.args.language) place byte.lower_n _ null_stands
    (c.requires ∙ ap Some c.in-110.is) may reached

pub returns-in-45 : goal.returns-in-45
returns-in-45 c = c.number_event.ensures
