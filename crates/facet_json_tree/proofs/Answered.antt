-- What an answer says, by what was read or refused.
use Rattle.std.proofs.Common.{Result}
use Rattle.std.specs.Prelude.{IfOk, IfErr, MatchResult}
use Rattle.std.proofs.lemmas.Result.{IfOk-weaker, IfErr-weaker, MatchResult-from_both}

-- Each value that is read has what its reading says, and each refusal what its own says.
pub either_way : {T E : Type 0} (answer : Result T E) {IsRead Says : T → Type 0} {IsUnread Tells : E → Type 0} → IfOk answer IsRead → IfErr answer IsUnread →
    ((t : T) → IsRead t → Says t) → ((e : E) → IsUnread e → Tells e) → MatchResult answer Says Tells
either_way answer read unread says tells =
    MatchResult-from_both answer _ _ (IfOk-weaker answer _ _ says read) (IfErr-weaker answer _ _ tells unread)
