-- What a parser takes as a document: more than what may stand between its tokens.
use Rattle.facet_json_token.specs.Gap.{Mode}

pub data Language : Type 0 where
  -- RFC 8259 with the lenient readings of docs/LANGUAGE.md, and these gaps between tokens
  lenient : Mode → Language
  -- RFC 8259 alone, but for these gaps between tokens: `strict plain` is RFC 8259 alone
  strict : Mode → Language

-- what may stand between tokens
abbrev pub gaps : Language → Mode
gaps (lenient mode) = mode
gaps (strict mode) = mode

-- whether a comma may stand before a closing bracket, and anything behind the root
pub data Rules : Type 0 where
  lenient_rules : Rules
  strict_rules : Rules

abbrev pub rules : Language → Rules
rules (lenient mode) = lenient_rules
rules (strict mode) = strict_rules
