-- Between two quotes of a text stands text.
use Rattle.facet_json_token.proofs.Utf8Runs.{quoted-IsUtf8}
use Rattle.facet_json_token.proofs.quick.quoted_text.Goals as goal

pub plain_text_unchecked-requires-clause-utf8 : goal.plain_text_unchecked-requires-clause-utf8
plain_text_unchecked-requires-clause-utf8 c = quoted-IsUtf8 c.args.buf.now c.args.start c.args.end c.requires.quoted c.requires.utf8
