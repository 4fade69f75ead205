-- Where the bytes stop being text.
use Rattle.std.proofs.Common.{◌≡◌, ◌+◌, arith}
use Rattle.facet_format.specs.Complaint.{invalid_utf8}
use Rattle.facet_json_token.proofs.EscapeSteps.{told-over}
use Rattle.facet_json_token.proofs.decode.run_at.Goals as goal

pub returns-in-Err-clause-refused : goal.returns-in-Err-clause-refused
returns-in-Err-clause-refused c =
    let n = c.in-Err.error.valid_up_to in
    let place : c.new.result.offset ≡ c.args.at + n = omega arith in
    record {
      text_len = n;
      stops = c.in-Err.ensures.cases.1;
      told = told-over invalid_utf8 c.new.result (c.args.at + n) 1 place c.new.ensures.len;
    }
