-- A text that the code holds, borrowed or owned, has the bytes that std says.
use Rattle.std.proofs.Common.{◌≡◌, refl}
use Rattle.std.specs.Cow.{cow_str_bytes}
use Rattle.std.specs.declared.borrow.CowStr.{CowStr}
use Rattle.std.specs.declared.borrow.CowStr.TheVariants as cow
use Rattle.facet_format.specs.Event.{bytes_of}
use Rattle.facet_format.specs.HeldText.{text_of}

pub held-bytes : {A : Type 0} (s : CowStr A) → cow_str_bytes s ≡ bytes_of (text_of s)
held-bytes (cow.Borrowed t) = refl
held-bytes (cow.Owned t) = refl
