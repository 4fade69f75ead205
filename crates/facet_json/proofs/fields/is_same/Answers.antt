use Rattle.std.proofs.Common.{◌==◌, length, ap, ◌∙◌}
use Rattle.facet_json.proofs.NamesCompared.{same-letters}
use Rattle.facet_json.proofs.fields.is_same.Goals as goal

pub returns : goal.returns
returns c =
    let there = rw (c.as_bytes.ensures.value, c.as_bytes-2.ensures.value) at c.common_len.ensures.len in
    ap (λ n. n == length c.args.name.now) there ∙ same-letters c.args.name.now c.args.key.now c.if-name-key.false
