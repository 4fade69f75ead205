use Rattle.std.proofs.Common.{◌≡◌, ◌<◌, ◌++◌, ◌∷◌, [], length, get_or, refl, rules, arith, append_assoc}
use Rattle.std.proofs.Output.{has_written_append, has_written_of_eq}
use Rattle.std.proofs.lemmas.Grind.{common_steps}
use Rattle.std.proofs.lemmas.Str.{IsCharBoundary-start, IsCharBoundary-after_ascii, IsCharBoundary-before_ascii}
use Rattle.std.specs.List.{slice_range}
use Rattle.facet_json_grammar.specs.Quoted.{escaped}
use Rattle.facet_json_tree.proofs.ShownTexts.{IsLeft-escape, IsLeft-plain, IsLeft-end}
use Rattle.facet_json_tree.proofs.display.show_content.Goals as goal
use Rattle.facet_json_tree.proofs.display.show_content.Goals.{then-needs_escape+in_ok-write_str+in_ok-show_escaped, else-needs_escape}

pub range-requires-clause-end_boundary : goal.range-requires-clause-end_boundary
range-requires-clause-end_boundary g c =
    let ascii : get_or c.args.text.now c.loop-at.at 0 < 128 = grind (arith, common_steps) in
    IsCharBoundary-before_ascii c.args.text.now c.loop-at.at (omega (arith, c.as_bytes-bytes.ensures.len)) ascii

pub show_escaped-requires : goal.show_escaped-requires
show_escaped-requires g c = grind (arith, common_steps)

pub loop-at-init : goal.loop-at-init
loop-at-init g c = (omega arith, IsCharBoundary-start c.args.text.now c.utf8.text, [], refl, search rules)

pub loop-at-preserved : goal.loop-at-preserved
loop-at-preserved g c =
    let l = c.loop-at in
    let text = c.args.text.now in
    let (low, bound, done, left, wrote) = l.invariant in
    let within : l.at < length text = omega (arith, c.as_bytes-bytes.ensures.len) in
    elim c.if-needs_escape.branch [
      | then-needs_escape+in_ok-write_str+in_ok-show_escaped w ↦
          let ascii : get_or text l.at 0 < 128 = grind (arith, common_steps) in
          rw (w.start-is, w.f-is) (
            omega arith,
            IsCharBoundary-after_ascii text l.at c.utf8.text within ascii,
            done ++ (slice_range text l.start l.at ++ escaped (get_or text l.at 0)),
            IsLeft-escape text done l.start l.at _ within left,
            λ plain.
                let sofar = wrote plain in
                let one = w.write_str.ensures.writes sofar.plain (search rules) in
                let two = w.show_escaped.ensures one.plain (search rules) in
                has_written_of_eq _ _ _ _ _ (grind (arith, common_steps, append_assoc)) (has_written_append _ _ _ _ _ _ (has_written_append _ _ _ _ _ _ sofar one) two),
          )
      | else-needs_escape w ↦
          let plain : escaped (get_or text l.at 0) ≡ get_or text l.at 0 ∷ [] = grind (arith, common_steps) in
          rw (w.start-is, w.f-is) (omega arith, bound, done, IsLeft-plain text done l.start l.at _ low within plain left, wrote)
    ]

pub returns : goal.returns
returns g c plain ok =
    let l = c.loop-at in
    let text = c.args.text.now in
    let (low, bound, done, left, wrote) = l.invariant in
    let end : l.at ≡ length text = omega (arith, c.as_bytes-bytes.ensures.len) in
    let whole = IsLeft-end text done l.start l.at _ low end left in
    has_written_of_eq _ _ _ _ _ whole (has_written_append _ _ _ _ _ _ (wrote plain) (search rules))
