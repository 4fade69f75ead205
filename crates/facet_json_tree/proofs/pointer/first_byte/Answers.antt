use Rattle.std.proofs.Common.{◌∷◌, sym, ap, ◌∙◌, arith}
use Rattle.std.proofs.lemmas.List.{take_rest}
use Rattle.facet_format.specs.Bytes.{slash}
use Rattle.facet_json_tree.specs.Inner.PointerParts.{unescaped}
use Rattle.facet_json_tree.proofs.PointerTokens.{unescaped-one}
use Rattle.facet_json_tree.proofs.pointer.first_byte.Goals as goal

pub returns-in-126-2 : goal.returns-in-126-2
returns-in-126-2 c =
    let token = c.args.token.now in
    unescaped-one token c.in-126-2.len_at_least (omega arith) (omega arith) ∙ ap (λ xs. slash ∷ unescaped xs) (sym (take_rest token 2))
