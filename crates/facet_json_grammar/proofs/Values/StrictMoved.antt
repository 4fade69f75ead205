-- The tokens of a strict document may stand as they do before others, wherever the document stands.
use Rattle.std.proofs.Common.{◌≡◌, ℕ, Bool, true, false, List, None, refl, ◌∙◌}
use Rattle.facet_json_token.specs.Token.{Kind, Token, string, number, comma}
use Rattle.facet_json_token.specs.Tokens.{Tokens, ended, refused, next}
use Rattle.facet_json_token.specs.Strict.{strict_fault}
use Rattle.facet_json_grammar.specs.Node.{Node, Nodes, Members, Spells, one_token, brackets, braces, SpellsItems, closed, item_and_comma, last_item, SpellsMembers, ended_members, member_and_comma, last_member}
use Rattle.facet_json_grammar.specs.StrictDocument.{is_closing, begins_closing, AreStrict, none_left, one_more}
use Rattle.facet_json_grammar.proofs.Cuts.MovedTokens.{moved_kind, moved, onto}
use Rattle.facet_json_grammar.proofs.Values.FitBefore.{scalar-no_comma, string-no_comma}

-- ---- what a node spells does not end with a comma

abbrev begins_token : Tokens → Bool
begins_token ended = false
begins_token (refused f) = false
begins_token (next t rest) = true

-- After each comma a token stands.
abbrev CommasLead : Tokens → Type 0
CommasLead ended = Unit {0}
CommasLead (refused f) = Unit {0}
CommasLead (next t rest) = (t.kind ≡ comma → begins_token rest ≡ true) × CommasLead rest

value-some : {ts rest : Tokens} {node : Node} → Spells ts node rest → begins_token ts ≡ true
value-some (one_token t rest k) = refl
value-some (brackets _ _ _ _ _ k s) = refl
value-some (braces _ _ _ _ _ k s) = refl

items-some : {ts rest : Tokens} {nodes : Nodes} {last : Token} → SpellsItems ts nodes last rest → begins_token ts ≡ true
items-some (closed _ _ k) = refl
items-some (item_and_comma _ _ _ _ _ _ _ s k more) = value-some s
items-some (last_item _ _ _ _ s k) = value-some s

members-some : {ts rest : Tokens} {inside : Members} {last : Token} → SpellsMembers ts inside last rest → begins_token ts ≡ true
members-some (ended_members _ _ k) = refl
members-some (member_and_comma _ _ _ _ _ _ _ _ _ i c s k more) = refl
members-some (last_member _ _ _ _ _ _ i c s k) = refl

mutual
  -- In a value's tokens after each comma a token stands, where it does in what follows.
  pub value-commas : {ts rest : Tokens} {node : Node} → Spells ts node rest → CommasLead rest → CommasLead ts
  value-commas (one_token t rest k) c = (λ e. absurd (scalar-no_comma t.kind k e), c)
  value-commas (brackets first last inner rest nodes k s) c = (λ e. cc, items-commas s c)
  value-commas (braces first last inner rest inside k s) c = (λ e. cc, members-commas s c)

  items-commas : {ts rest : Tokens} {nodes : Nodes} {last : Token} → SpellsItems ts nodes last rest → CommasLead rest → CommasLead ts
  items-commas (closed last rest k) c = (λ e. cc, c)
  items-commas (item_and_comma _ _ _ _ _ separator last s k more) c = value-commas s (λ e. items-some more, items-commas more c)
  items-commas (last_item _ _ _ last s k) c = value-commas s (λ e. cc, c)

  members-commas : {ts rest : Tokens} {inside : Members} {last : Token} → SpellsMembers ts inside last rest → CommasLead rest → CommasLead ts
  members-commas (ended_members last rest k) c = (λ e. cc, c)
  members-commas (member_and_comma _ _ _ key mark _ _ separator last i m s k more) c =
      (λ e. absurd (string-no_comma key.kind i e), (λ e. cc, value-commas s (λ e. members-some more, members-commas more c)))
  members-commas (last_member _ _ key mark _ last i m s k) c =
      (λ e. absurd (string-no_comma key.kind i e), (λ e. cc, value-commas s (λ e. cc, c)))

-- ---- a token that is moved

moved-is_closing : (n : ℕ) (k : Kind) → is_closing (moved_kind n k) ≡ is_closing k
moved-is_closing n (string start finish has_escapes) = refl
moved-is_closing n (number start finish hint) = refl
moved-is_closing n k = refl

moved-is_comma : (n : ℕ) (k : Kind) → moved_kind n k ≡ comma → k ≡ comma
moved-is_comma n (string start finish has_escapes) e = cc
moved-is_comma n (number start finish hint) e = cc
moved-is_comma n k e = e

-- Each token that RFC 8259 has in the text it has in the buffer, moved.
abbrev pub StayRight : List ℕ → List ℕ → ℕ → Tokens → Type 0
StayRight buffer text n ended = Unit {0}
StayRight buffer text n (refused f) = Unit {0}
StayRight buffer text n (next t ts) = (strict_fault text t ≡ None → strict_fault buffer (moved n t) ≡ None) × StayRight buffer text n ts

-- What does not begin with a closing bracket does not when it is moved, where it begins with a token.
begins-moved : (n : ℕ) (others ts : Tokens) → begins_token ts ≡ true → begins_closing ts ≡ false → begins_closing (onto n others ts) ≡ false
begins-moved n others ended some e = cc
begins-moved n others (refused f) some e = refl
begins-moved n others (next t rest) some e = moved-is_closing n t.kind ∙ e

-- Strict tokens are strict, moved, before strict tokens.
pub strict-moved : (buffer text : List ℕ) (n : ℕ) (others : Tokens) {ts : Tokens} → AreStrict text ts → CommasLead ts → StayRight buffer text n ts →
    AreStrict buffer others → AreStrict buffer (onto n others ts)
strict-moved buffer text n others none_left c r f = f
strict-moved buffer text n others (one_more t rest a parted more) c r f =
    let behind : (moved n t).kind ≡ comma → begins_closing (onto n others rest) ≡ false =
    λ k. let is = moved-is_comma n t.kind k in begins-moved n others rest (c.0 is) (parted is) in
    one_more (moved n t) (onto n others rest) (r.0 a) behind (strict-moved buffer text n others more c.1 r.1 f)
