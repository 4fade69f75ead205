use Rattle.std.proofs.Common.{◌+◌, ◌++◌, get_or, drop, ap, sym, ◌∙◌, rules}
use Rattle.std.proofs.Output.{has_written_append, has_written_of_eq}
use Rattle.std.proofs.lemmas.List.{drop_more}
use Rattle.std.specs.Fmt.{decimal}
use Rattle.facet_json_tree.proofs.Shown.{numbers_after, numbers-next}
use Rattle.facet_json_tree.proofs.display.show_bytes.Goals as goal

pub loop-byte-preserved : goal.loop-byte-preserved
loop-byte-preserved g c =
    let l = c.loop-byte in
    let bytes = c.args.bytes.now in
    let (done, left, wrote) = l.invariant in
    let b = get_or bytes l.byte-index 0 in
    let here = ap (λ t. done ++ numbers_after l.is_first t) (sym (drop_more bytes l.byte-index 0 c.loop-byte-test.true)) ∙ left in (
      _,
      numbers-next done l.is_first b (drop (l.byte-index + 1) bytes) _ here,
      λ plain.
          let one = c.write_str.ensures.writes (wrote plain).plain (search rules) in
          let two = c.show_number.ensures one.plain (search rules) in
          has_written_of_eq _ _ _ _ _ (ap (λ s. (done ++ s) ++ decimal b) c.separator.ensures) (has_written_append _ _ _ _ _ _ (has_written_append _ _ _ _ _ _ (wrote plain) one) two),
    )
