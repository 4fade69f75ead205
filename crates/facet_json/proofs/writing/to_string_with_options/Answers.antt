use Rattle.std.proofs.lemmas.Result.{err_from_is_err_and}
use Rattle.std.proofs.lemmas.Str.{IsUtf8-from_is_utf8}
use Rattle.facet_json.proofs.writing.to_string_with_options.Goals as goal

pub from_utf8_unchecked-requires : goal.from_utf8_unchecked-requires
from_utf8_unchecked-requires g c = IsUtf8-from_is_utf8 _ c.in_ok-bytes.ensures.utf8

pub returns-clause-comes_back : goal.returns-clause-comes_back
returns-clause-comes_back g c default can_be = rw (c.from_utf8_unchecked.ensures.value) (c.in_ok-bytes.ensures.comes_back default can_be)

pub returns-in_err-bytes-clause-comes_back : goal.returns-in_err-bytes-clause-comes_back
returns-in_err-bytes-clause-comes_back g c default =
    let p = err_from_is_err_and c.from_residual.result c.from_residual.ensures.1 in rw (p.1) tt
