-- How the code holds a text: borrowed or owned.
use Rattle.std.specs.String.{string_bytes}
use Rattle.std.specs.declared.borrow.CowStr.{CowStr}
use Rattle.std.specs.declared.borrow.CowStr.TheVariants as cow
use Rattle.facet_format.specs.Event.{Text, borrowed, owned}

abbrev pub text_of : {A : Type 0} → CowStr A → Text
text_of (cow.Borrowed t) = borrowed t.now
text_of (cow.Owned t) = owned (string_bytes t)
