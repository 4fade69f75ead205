-- What a token that a look tells is in the definitions.
use Rattle.std.specs.Prelude.{Option}
use Rattle.facet_format.specs.Views.{span_of}
use Rattle.facet_json_token.specs.declared.token.SpannedToken.{SpannedToken}
use Rattle.facet_json_token.specs.Cut.{Cut}
use Rattle.facet_json_token.specs.Views.{kind_of, with_span}

-- the end, and a call for more bytes, are none
abbrev pub told : SpannedToken → Option Cut
told t = with_span (span_of t.span) (kind_of t.token)
