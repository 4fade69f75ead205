-- What a document holds beside its nodes: a further value changes no node's view.
use Rattle.std.proofs.Common.{◌≡◌, ℕ, ◌<◌, ◌≤◌, ◌+◌, ◌-◌, List, [], ◌∷◌, ◌++◌, length, take, drop, reverse, set, get_or, Some, refl, sym, ap, ap₂, ◌∙◌, arith}
use Rattle.std.specs.Prelude.{All, slice_get, slice_range}
use Rattle.std.proofs.lemmas.List.{length-map, length_push, set_past, get_or_append_left, get_or_push, map-set, reverse-append}
use Rattle.std.proofs.lemmas.List.Elements.{All-head, All-tail}
use Rattle.std.proofs.lemmas.Option.{slice_get-get_or}
use Rattle.facet_format.specs.Span.{span_at}
use Rattle.facet_format.specs.declared.event.ScalarValue.{ScalarValue}
use Rattle.facet_json_document.specs.Nodes.{Node, leaf, key, text_at, held_leaf, held_name, node_of, node_view, nodes_view}
use Rattle.facet_json_document.specs.Inner.Building.{closed_in}
use Rattle.facet_json_document.specs.Inner.Held.{FindsHeld, needed}
use Rattle.facet_json_document.specs.declared.document.built.Opened.{Opened}
use Rattle.facet_json_document.specs.declared.document.node.Node.{Node as RustNode}
use Rattle.facet_json_document.specs.declared.document.node.NodeKind.{NodeKind}
use Rattle.facet_json_document.specs.declared.document.node.NodeKind.TheVariants as kind

-- the same value stands there
still-there : (held : List ScalarValue) (more : ScalarValue) (at : ℕ) → at < length held → slice_get (held ++ more ∷ []) at ≡ slice_get held at
still-there held more at h =
    slice_get-get_or (held ++ more ∷ []) at more (omega (arith, h, length_push held more)) ∙ ap Some (get_or_append_left held (more ∷ []) more at h)
    ∙ sym (slice_get-get_or held at more h)

one-view : (held : List ScalarValue) (more : ScalarValue) (k : NodeKind) (at : ℕ) (text : List ℕ) → needed k at ≤ length held →
    node_of k (held ++ more ∷ []) at text ≡ node_of k held at text
one-view held more kind.Held at text h = ap (λ o. leaf text (held_leaf o)) (still-there held more at (omega (arith, h)))
one-view held more kind.HeldKey at text h = ap (λ o. key (held_name o)) (still-there held more at (omega (arith, h)))
one-view held more _ at text h = refl

pub same-views : (held : List ScalarValue) (more : ScalarValue) (nodes : List RustNode) → All (FindsHeld held) nodes →
    nodes_view (held ++ more ∷ []) nodes ≡ nodes_view held nodes
same-views held more [] h = refl
same-views held more (n ∷ nodes) h =
    ap₂ (λ m l. m ∷ l) (one-view held more n.kind n.more n.text.now (All-head (FindsHeld held) n nodes h))
    (same-views held more nodes (All-tail (FindsHeld held) n nodes h))

-- A value that is pushed stands at the end.
pub pushed-there : (held new : List ScalarValue) (x : ScalarValue) (at : ℕ) → at ≡ length held → new ≡ held ++ x ∷ [] →
    (at < length new) × (slice_get new at ≡ Some x)
pushed-there held new x at e p =
    let long : at < length new = omega (arith, e, ap length p, length_push held x) in
    (long, slice_get-get_or new at x long ∙ ap Some (ap (λ l. get_or l at x) p ∙ get_or_push held x x at (sym e)))

-- What lies between two offsets lies in the span from the one to the other.
between : (input : List ℕ) (offset end : ℕ) → text_at input (span_at offset (end - offset)) ≡ slice_range input offset end
between input offset end =
    let long : offset + (end - offset) - offset ≡ end - offset = omega arith in ap (λ n. take n (drop offset input)) long

-- The innermost container is closed.
pub container-closed : (input : List ℕ) (held : List ScalarValue) (nodes put : List RustNode) (unclosed rest : List Opened) (o : Opened) (n : RustNode)
    (c : List ℕ → ℕ → Node) (end : ℕ) → unclosed ≡ rest ++ o ∷ [] → put ≡ set nodes o.index n →
    node_view held n ≡ c (text_at input (span_at o.offset (end - o.offset))) (length nodes - o.index) →
    record { input = input; nodes = nodes_view held put; unclosed = reverse rest } ≡ closed_in c end input (nodes_view held nodes) (reverse unclosed)
container-closed input held nodes put unclosed rest o n c end e p v =
    let backwards : reverse unclosed ≡ o ∷ reverse rest = ap reverse e ∙ reverse-append rest (o ∷ []) in
    let own = v ∙ ap (λ t. c t (length nodes - o.index)) (between input o.offset end) in
    let one = ap (nodes_view held) p ∙ map-set (node_view held) nodes o.index n ∙ ap (set (nodes_view held nodes) o.index) own in
    let all = one ∙ ap (λ k. set (nodes_view held nodes) o.index (c (slice_range input o.offset end) (k - o.index))) (sym (length-map nodes (node_view held))) in
    ap (λ l. record { input = input; nodes = l; unclosed = reverse rest }) all ∙ sym (ap (closed_in c end input (nodes_view held nodes)) backwards)

-- A container that has no node is none.
pub none-closed : (input : List ℕ) (held : List ScalarValue) (nodes : List RustNode) (unclosed rest : List Opened) (o : Opened)
    (c : List ℕ → ℕ → Node) (end : ℕ) → unclosed ≡ rest ++ o ∷ [] → length nodes ≤ o.index →
    record { input = input; nodes = nodes_view held nodes; unclosed = reverse rest } ≡ closed_in c end input (nodes_view held nodes) (reverse unclosed)
none-closed input held nodes unclosed rest o c end e h =
    let backwards : reverse unclosed ≡ o ∷ reverse rest = ap reverse e ∙ reverse-append rest (o ∷ []) in
    let out = set_past (nodes_view held nodes) o.index (c (slice_range input o.offset end) (length (nodes_view held nodes) - o.index))
    (omega (arith, h, length-map nodes (node_view held))) in
    ap (λ l. record { input = input; nodes = l; unclosed = reverse rest }) (sym out) ∙ sym (ap (closed_in c end input (nodes_view held nodes)) backwards)
