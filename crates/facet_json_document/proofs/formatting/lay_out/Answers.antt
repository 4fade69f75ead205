-- What is laid out has the same document.
use Rattle.facet_json_token.specs.Views.{mode_of}
use Rattle.facet_json_document.proofs.SameTrees.{same-document}
use Rattle.facet_json_document.proofs.formatting.lay_out.Goals as goal

pub returns-in-Ok-clause-tree : goal.returns-in-Ok-clause-tree
returns-in-Ok-clause-tree c root tree d =
    same-document (mode_of c.args.mode) c.args.text.now c.in-Ok.laid_out.items c.in-Ok.ensures root tree d
