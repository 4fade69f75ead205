-- The length of each kind of comment, from the offset where it ends.
use Rattle.std.proofs.Common.{◌+◌, arith, rules}
use Rattle.std.proofs.lemmas.Option.{slice_get_within}
use Rattle.facet_format.specs.Bytes.{slash, star}
use Rattle.facet_json_token.proofs.Offsets.{slice_get-from_read}
use Rattle.facet_json_token.proofs.GapSteps.{comment_len-block, comment_len-open_block, comment_len-line, comment_len-last_line}
use Rattle.facet_json_token.proofs.cutting.comment_len.Goals as goal

pub returns-in-Some-clause-len : goal.returns-in-Some-clause-len
returns-in-Some-clause-len c =
    let second =
    slice_get-from_read c.args.buffer.now (c.args.at + 1) c.in-Some-eq42.field-0.now star
    c.in-Some-eq42.ensures.lookup.3 c.in-Some-eq42.field-0-test in
    comment_len-block c.args.buffer.now c.args.at c.in-Some.end c.requires second c.in-Some.ensures.end

pub returns-in-None-clause-len : goal.returns-in-None-clause-len
returns-in-None-clause-len c =
    let second =
    slice_get-from_read c.args.buffer.now (c.args.at + 1) c.in-Some-eq42.field-0.now star
    c.in-Some-eq42.ensures.lookup.3 c.in-Some-eq42.field-0-test in
    comment_len-open_block c.args.buffer.now c.args.at c.requires second c.in-None.ensures.end

pub returns-in-Some-line_end-clause-len : goal.returns-in-Some-line_end-clause-len
returns-in-Some-line_end-clause-len c =
    let second =
    slice_get-from_read c.args.buffer.now (c.args.at + 1) c.in-Some-eq47.field-0.now slash
    c.in-Some-eq47.ensures.lookup.3 c.in-Some-eq47.field-0-test in
    comment_len-line c.args.buffer.now c.args.at c.in-Some-line_end.end c.requires second c.in-Some-line_end.ensures.end

pub returns-in-None-line_end-clause-len : goal.returns-in-None-line_end-clause-len
returns-in-None-line_end-clause-len c =
    let second =
    slice_get-from_read c.args.buffer.now (c.args.at + 1) c.in-Some-eq47.field-0.now slash
    c.in-Some-eq47.ensures.lookup.3 c.in-Some-eq47.field-0-test in
    comment_len-last_line c.args.buffer.now c.args.at c.requires second c.in-None-line_end.ensures.end

pub returns-in_default-2-clause-within : goal.returns-in_default-2-clause-within
returns-in_default-2-clause-within c = omega (arith, slice_get_within c.args.buffer.now c.args.at slash c.requires)

pub returns-in_default-clause-within : goal.returns-in_default-clause-within
returns-in_default-clause-within c = search rules
