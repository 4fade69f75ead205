-- A backslash and a byte other than `u`, or a backslash alone.
use Rattle.std.proofs.Common.{◌≡◌, ◌+◌, codes, refl, arith}
use Rattle.facet_format.specs.Complaint.{unexpected_eof}
use Rattle.facet_json_token.specs.Decode.{short_escape}
use Rattle.facet_json_token.specs.Decoded.{short_of}
use Rattle.facet_json_token.specs.Fault.{decode_fault_at, no_character}
use Rattle.facet_json_token.proofs.EscapeSteps.{Finds, told-over, escape-lone, escape-short}
use Rattle.facet_json_token.proofs.Offsets.{slice_get-from_read}
use Rattle.facet_json_token.proofs.decode.escape.escape_at.Goals as goal

short : (c : goal.After-short_at) →
    let byte = c.in-Some.byte.now in Finds c.args.rest.now (short_of byte (short_escape byte)) (decode_fault_at no_character 1 1)
short c =
    let byte = c.in-Some.byte.now in
    escape-short c.args.rest.now byte c.requires.backslash
    (slice_get-from_read c.args.rest.now 1 byte byte c.in-Some.ensures.lookup.3 refl) c.in-Some.byte-test.1

pub returns-in-Some-clause-found : goal.returns-in-Some-clause-found
returns-in-Some-clause-found c = simp (short c).0 c.short_at.ensures.found

pub returns-in-Some-clause-none : goal.returns-in-Some-clause-none
returns-in-Some-clause-none c = simp (short c).0 c.short_at.ensures.none

pub returns-in-Some-clause-refused : goal.returns-in-Some-clause-refused
returns-in-Some-clause-refused c = simp (short c).1 c.short_at.ensures.refused

pub returns-in-None-clause-none : goal.returns-in-None-clause-none
returns-in-None-clause-none c = (escape-lone c.args.rest.now c.requires.backslash c.in-None.ensures.lookup.3).0

pub returns-in-None-clause-refused : goal.returns-in-None-clause-refused
returns-in-None-clause-refused c =
    let fault = (escape-lone c.args.rest.now c.requires.backslash c.in-None.ensures.lookup.3).1 in
    let place : c.new.result.offset ≡ c.args.at + 0 = omega (arith, c.new.ensures.offset) in
    rw fault (told-over (unexpected_eof (codes "in escape sequence")) c.new.result (c.args.at + 0) 1 place c.new.ensures.len)
