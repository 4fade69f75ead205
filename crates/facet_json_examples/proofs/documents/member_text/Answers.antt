use Rattle.std.proofs.Common.{Some, ap, ◌∙◌}
use Rattle.std.specs.Prelude.{option_map}
use Rattle.facet_json.specs.DocumentNodes.{member_nodes, raw_text}
use Rattle.facet_json_examples.proofs.documents.member_text.Goals as goal

pub returns-in-Some : goal.returns-in-Some
returns-in-Some c root value d =
    let nodes = c.root.ensures.nodes ∙ c.in_ok-document.ensures.nodes root value d in
    ap Some c.raw.ensures ∙ ap (option_map raw_text) (c.in-Some.ensures.nodes ∙ ap (member_nodes c.args.name.now) nodes)

pub returns : goal.returns
returns c root value d =
    let nodes = c.root.ensures.nodes ∙ c.in_ok-document.ensures.nodes root value d in
    ap (option_map raw_text) (c.in-None.ensures.nodes ∙ ap (member_nodes c.args.name.now) nodes)
