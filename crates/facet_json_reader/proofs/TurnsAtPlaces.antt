-- Which turns need no meaning.
use Rattle.std.proofs.Common.{◌≡◌, Bool, true, false, refl}
use Rattle.facet_json_token.specs.Token.{Kind}
use Rattle.facet_json_token.specs.Token as token
use Rattle.facet_json_grammar.specs.Place.{Place, before_key, Turn, passes, says, place_turn}
use Rattle.facet_json_grammar.specs.Refusal.{needs_meaning}

-- a separator, or what opens or closes a container
abbrev pub is_mark : Turn → Bool
is_mark (passes other) = true
is_mark (says kind) = true
is_mark _ = false

-- It needs no meaning.
pub mark-plain : (place : Place) (k : Kind) → is_mark (place_turn place k) ≡ true → needs_meaning k ≡ false
mark-plain before_key (token.string a b h) e = cc
mark-plain _ (token.string a b h) e = cc
mark-plain before_key (token.number a b h) e = cc
mark-plain _ (token.number a b h) e = cc
mark-plain _ _ e = refl
