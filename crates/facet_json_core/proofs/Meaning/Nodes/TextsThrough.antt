-- Nodes of the text of a third node are nodes of the same text.
use Rattle.std.proofs.Common.{◌≡◌, ℕ, Bool, List, sym, ap, ◌∙◌, true≢false}
use Rattle.std.specs.Prelude.{slice_range}
use Rattle.facet_json_token.specs.Token.{Token, string, number}
use Rattle.facet_json_grammar.specs.Node.{Node, Nodes, Members}
use Rattle.facet_json_grammar.specs.Refusal.{needs_meaning}
use Rattle.facet_json_core.specs.Meaning.Nodes.{SameToken, same_mark, same_string, same_number, SameText, same_scalars, same_arrays, same_objects, SameItems, same_none, same_first, SameMembers, same_no_members, same_member}

module _ (raw these those : List ℕ) where
  -- Strings of one kind hold the bytes of the third one's range.
  strings-through : (t u w : Token) (start finish begin end from to low high : ℕ) (has_escapes marked : Bool) →
      t.kind ≡ string start finish has_escapes → u.kind ≡ string begin end has_escapes → slice_range raw start finish ≡ slice_range these begin end →
      t.kind ≡ string from to marked → w.kind ≡ string low high marked → slice_range raw from to ≡ slice_range those low high →
      SameToken these those u w
  strings-through t u w start finish begin end from to low high has_escapes marked k l e i j f =
      let one : string start finish has_escapes ≡ string from to marked = sym k ∙ i in
      let s : start ≡ from = ap (λ x. elim x [ string s f h ↦ s | _ ↦ start ]) one in
      let g : finish ≡ to = ap (λ x. elim x [ string s f h ↦ f | _ ↦ finish ]) one in
      let h : has_escapes ≡ marked = ap (λ x. elim x [ string s f h ↦ h | _ ↦ has_escapes ]) one in
      same_string u w begin end low high marked (rw h at l) j (rw (s, g) at (sym e) ∙ f)

  token-through : (t u w : Token) → SameToken raw these t u → SameToken raw those t w → SameToken these those u w
  token-through t u w (same_mark _ _ m e) (same_mark _ _ _ f) = same_mark u w (ap needs_meaning (sym e) ∙ m) (sym e ∙ f)
  token-through t u w (same_mark _ _ m e) (same_string _ _ start finish begin end has_escapes k l f) =
      absurd (true≢false (ap needs_meaning (sym k) ∙ m))
  token-through t u w (same_mark _ _ m e) (same_number _ _ start finish begin end hint k l f) =
      absurd (true≢false (ap needs_meaning (sym k) ∙ m))
  token-through t u w (same_string _ _ start finish begin end has_escapes k l e) (same_mark _ _ m f) =
      absurd (true≢false (ap needs_meaning (sym k) ∙ m))
  token-through t u w (same_string _ _ start finish begin end has_escapes k l e) (same_string _ _ from to low high marked i j f) =
      strings-through t u w start finish begin end from to low high has_escapes marked k l e i j f
  token-through t u w (same_string _ _ start finish begin end has_escapes k l e) (same_number _ _ from to low high hint i j f) = cc
  token-through t u w (same_number _ _ start finish begin end hint k l e) (same_mark _ _ m f) =
      absurd (true≢false (ap needs_meaning (sym k) ∙ m))
  token-through t u w (same_number _ _ start finish begin end hint k l e) (same_string _ _ from to low high marked i j f) = cc
  token-through t u w (same_number _ _ start finish begin end hint k l e) (same_number _ _ from to low high other i j f) =
      let one : number start finish hint ≡ number from to other = sym k ∙ i in
      let s : start ≡ from = ap (λ x. elim x [ number s f h ↦ s | _ ↦ start ]) one in
      let g : finish ≡ to = ap (λ x. elim x [ number s f h ↦ f | _ ↦ finish ]) one in
      let h : hint ≡ other = ap (λ x. elim x [ number s f h ↦ h | _ ↦ hint ]) one in
      same_number u w begin end low high other (rw h at l) j (rw (s, g) at (sym e) ∙ f)

  mutual
    pub text-through : (x n m : Node) → SameText raw these x n → SameText raw those x m → SameText these those n m
    text-through _ _ _ (same_scalars t u a p) (same_scalars _ w b q) = same_scalars u w (token-through t u w a b) (sym p ∙ q)
    text-through _ _ _ (same_arrays first last begin end nodes others p a) (same_arrays _ _ low high _ more q b) =
        same_arrays begin end low high others more (sym p ∙ q) (items-through nodes others more a b)
    text-through _ _ _ (same_objects first last begin end members others p a) (same_objects _ _ low high _ more q b) =
        same_objects begin end low high others more (sym p ∙ q) (members-through members others more a b)

    items-through : (xs ns ms : Nodes) → SameItems raw these xs ns → SameItems raw those xs ms → SameItems these those ns ms
    items-through _ _ _ same_none same_none = same_none
    items-through _ _ _ (same_first x n xs ns a more) (same_first _ m _ ms b others) =
        same_first n m ns ms (text-through x n m a b) (items-through xs ns ms more others)

    members-through : (xs ns ms : Members) → SameMembers raw these xs ns → SameMembers raw those xs ms → SameMembers these those ns ms
    members-through _ _ _ same_no_members same_no_members = same_no_members
    members-through _ _ _ (same_member key mark name colon x n xs ns k a more) (same_member _ _ other dots _ m _ ms l b others) =
        same_member name colon other dots n m ns ms (token-through key name other k l) (text-through x n m a b) (members-through xs ns ms more others)
