use Rattle.std.proofs.Common.{sym, ap, subst, rules}
use Rattle.facet_format.specs.Event.{bytes_of, is_owned}
use Rattle.facet_json_core.specs.Meaning.Reading.{IsRead}
use Rattle.facet_json_core.specs.Meaning.Readings.{raw_of}
use Rattle.facet_json_facet.proofs.raw.RawJsonFacet.read.Goals as goal

pub returns-clause-read : goal.returns-clause-read
returns-clause-read c =
    subst (λ raw. IsRead raw_of c.args.parser.now (bytes_of raw) c.captured.new.parser) (sym c.new.ensures) c.in_ok-captured.ensures.read

pub returns-in_err-captured-clause-read : goal.returns-in_err-captured-clause-read
returns-in_err-captured-clause-read c = search rules

pub returns-in_err-captured-clause-keeps : goal.returns-in_err-captured-clause-keeps
returns-in_err-captured-clause-keeps c = search rules

pub returns-clause-lent : goal.returns-clause-lent
returns-clause-lent c = ap is_owned c.new.ensures

pub returns-in_err-captured-clause-lent : goal.returns-in_err-captured-clause-lent
returns-in_err-captured-clause-lent c = search rules

pub returns-in_err-captured-clause-document : goal.returns-in_err-captured-clause-document
returns-in_err-captured-clause-document c = search rules

pub returns-in_err-captured-clause-strict : goal.returns-in_err-captured-clause-strict
returns-in_err-captured-clause-strict c = search rules
