use Rattle.std.proofs.Common.{sym, ap, subst}
use Rattle.std.proofs.lemmas.Result.{IfErr-weaker, IfOk-weaker}
use Rattle.facet_format.specs.Event.{bytes_of, is_owned}
use Rattle.facet_json_core.specs.Meaning.Reading.{IsRead}
use Rattle.facet_json_core.specs.Meaning.Readings.{raw_of}
use Rattle.facet_json_core.specs.Refusing.{without_memory}
use Rattle.facet_json_facet.proofs.raw.RawJsonFacet.read_owned.Goals as goal

pub returns-clause-read : goal.returns-clause-read
returns-clause-read c =
    IfOk-weaker c.copied.result _ _
    (λ v is. subst (λ raw. IsRead raw_of c.args.parser.now (bytes_of raw) c.captured.new.parser) (sym is) c.in_ok-captured.ensures.read)
    c.copied.ensures.copied

pub returns-clause-owned : goal.returns-clause-owned
returns-clause-owned c = IfOk-weaker c.copied.result _ _ (λ v is. ap is_owned is) c.copied.ensures.copied

pub returns-clause-tells : goal.returns-clause-tells
returns-clause-tells c =
    IfErr-weaker c.copied.result _ _ (λ e lacks. without_memory c.in_ok-captured.ensures.free lacks) c.copied.ensures.lacks

pub returns-clause-free : goal.returns-clause-free
returns-clause-free c = IfOk-weaker c.copied.result _ _ (λ v is. c.in_ok-captured.ensures.free) c.copied.ensures.copied
