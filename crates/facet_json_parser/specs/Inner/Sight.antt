-- A parser that is as far as a front that its reader handed out.
use Rattle.std.specs.Prelude.{◌≡◌, None}
use Rattle.facet_format.specs.Cursor.{unpeeked}
use Rattle.facet_json_token.specs.Gap.{plain}
use Rattle.facet_json_grammar.specs.Language.{lenient}
use Rattle.facet_json_grammar.specs.Now.{Now}
use Rattle.facet_json_grammar.specs.Within.{NowWithin}
use Rattle.facet_json_reader.specs.declared.in_sight.Front.{Front}
use Rattle.facet_json_reader.specs.Inner.InSight.{reader_at, IsFront}
use Rattle.facet_json_reader.specs.Views.{reader_of}

-- the parser as far as this, within the same containers
abbrev pub standing : Now → Front → Now
standing now f = record now { cursor = record now.cursor { spot = unpeeked (reader_of (reader_at now.cursor.spot.place.stack f)) } }

-- The parser is as far as this, before the next token, and not refused. It is lenient, and reads no comments.
pub record StandsThere (now : Now) (f : Front) : Type 0 where
  pub spoken : now.language ≡ lenient plain
  pub there : standing now f ≡ now
  pub front : IsFront now.buffer (lenient plain) now.cursor.spot.place.stack f
  pub free : now.cursor.refusal ≡ None
  pub within : NowWithin now
