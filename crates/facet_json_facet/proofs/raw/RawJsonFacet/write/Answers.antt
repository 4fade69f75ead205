use Rattle.std.proofs.Common.{◌≡◌, true, subst}
use Rattle.std.specs.Str.{is_utf8}
use Rattle.std.proofs.lemmas.Str.{is_utf8-from_IsUtf8}
use Rattle.facet_format.specs.Event.{bytes_of}
use Rattle.facet_json_grammar.specs.Text.{text}
use Rattle.facet_json_grammar.specs.Tree.{raw}
use Rattle.facet_json_tree.proofs.ScalarCalls.{raw-called}
use Rattle.facet_json_facet.proofs.ScalarsOfRust.{on-ok, raw-of_rust}
use Rattle.facet_json_facet.proofs.raw.RawJsonFacet.write.Goals as goal

pub returns-clause-written : goal.returns-clause-written
unfolding text
returns-clause-written c = (raw-called _ _ _ (raw (bytes_of c.args.self.now)) c.raw_scalar.result (λ o depth. c.as_str.ensures) c.raw_scalar.ensures.appends).written

pub returns-clause-of_rust : goal.returns-clause-of_rust
returns-clause-of_rust c =
    on-ok _ c.raw_scalar.result (raw-of_rust _ (subst (λ t. is_utf8 t ≡ true) c.as_str.ensures (is_utf8-from_IsUtf8 _ c.as_str.utf8)))

pub returns-clause-always : goal.returns-clause-always
returns-clause-always c =
    on-ok (is_utf8 (bytes_of c.args.self.now) ≡ true) c.raw_scalar.result
    (subst (λ t. is_utf8 t ≡ true) c.as_str.ensures (is_utf8-from_IsUtf8 _ c.as_str.utf8))
