use Rattle.facet_json_reader.proofs.TokenMeanings.{read-named}
use Rattle.facet_json_reader.proofs.reader.name.Goals as goal

pub returns-in_ok-read_other-in_default : goal.returns-in_ok-read_other-in_default
returns-in_ok-read_other-in_default c = record {
  named = read-named c.args.input.now _ _ c.name.result c.in_ok-read_other-in_default.ensures.read c.name.ensures;
  refused = tt;
}
