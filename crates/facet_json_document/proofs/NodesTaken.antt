-- Events that are passed one after another and taken leave their nodes.
use Rattle.std.proofs.Common.{◌≡◌, ℕ, true, List, [], reverse, Option, refl, sym, ap, ◌∙◌, subst}
use Rattle.facet_json_grammar.specs.Now.{Now, future_of}
use Rattle.facet_json_parser.specs.Inner.Wanted.{PassesMore, none_passed, one_passed, none_taken}
use Rattle.facet_json_reader.specs.Inner.InSight.{not_told, not_taken}
use Rattle.facet_json_tree.specs.Depth.{beyond}
use Rattle.facet_json_tree.specs.Inner.Beyond.{SameBeyond}
use Rattle.facet_json_document.specs.Nodes.{nodes_view}
use Rattle.facet_json_document.specs.Inner.Building.{NodesSoFar, AddsNext, AddsSome, AddsSoFar, built_view, Kept, TakesNode}
use Rattle.facet_json_document.specs.declared.document.built.Built.{Built}
use Rattle.facet_json_document.proofs.NodesRead.{adds-input, adds-more}

-- At first there are none.
pub none-added : (old : Now) (limit : Option ℕ) (input : List ℕ) (b : Built) → old.buffer ≡ input → b.input.now ≡ input → b.nodes.items ≡ [] →
    b.unclosed.items ≡ [] → b.room ≡ limit → AddsSoFar old limit input old b
none-added old limit input b buffer here empty closed room =
    let own = nodes_view b.held.items in
    record {
      passed = record {
        events = [];
        comes = refl;
        nodes =
            ap (λ i. record { input = i; nodes = own b.nodes.items; unclosed = reverse b.unclosed.items }) (here ∙ sym buffer)
            ∙ ap (λ l. record { input = old.buffer; nodes = own l; unclosed = reverse b.unclosed.items }) empty
            ∙ ap (λ l. record { input = old.buffer; nodes = []; unclosed = reverse l }) closed;
      };
      buffer = refl;
      input = here;
      level = record { same = ap (beyond (future_of old)) (sym room) };
      free = λ free. free;
    }

module _ (old : Now) (limit : Option ℕ) (input buffer : List ℕ) (same : input ≡ buffer) where
  -- Where none is taken, nothing changes.
  kept-more : (now : Now) (x y : Built) → AddsSoFar old limit input now x → Kept x y → AddsSoFar old limit input now y
  kept-more now x y so_far kept = record {
    passed = subst (AddsSome old now) (sym kept.0) so_far.passed;
    buffer = so_far.buffer;
    input = ap (λ (s : NodesSoFar). s.input) kept.0 ∙ so_far.input;
    level = subst (SameBeyond (future_of old) limit (future_of now)) (sym kept.1) so_far.level;
    free = so_far.free;
  }

  pub taken-more : (now : Now) (x : Built) (new : Now) (y : Built) → AddsSoFar old limit input now x → PassesMore (TakesNode buffer) now x new y →
      AddsSoFar old limit input new y
  taken-more now x _ _ so_far none_passed = so_far
  taken-more now x new y so_far (one_passed r _ z _ e more one taken) =
      let before = taken-more now x r z so_far more in
      let adds = taken (before.input ∙ same) in
      let told : AddsNext true r new (built_view z) (built_view y) = (e, one.moves, adds.0) in
      record {
        passed = adds-more old r new (built_view z) (built_view y) before.passed told;
        buffer = one.moves.input.buffer ∙ before.buffer;
        input = adds-input true r new (built_view z) (built_view y) told ∙ before.input;
        level = record { same = before.level.same ∙ ap (λ f. beyond f z.room) one.next.comes ∙ adds.1 (beyond (future_of new)) };
        free = λ _. one.next.free;
      }
  taken-more now x new y so_far (none_taken _ _ _ more not_told) = taken-more now x new y so_far more
  taken-more now x new y so_far (none_taken _ z _ more (not_taken _ kept)) = kept-more new z y (taken-more now x new z so_far more) kept
