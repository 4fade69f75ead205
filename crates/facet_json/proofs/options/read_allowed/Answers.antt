-- What is read from the start of a new parser is refused within its input.
use Rattle.std.proofs.Common.{◌≡◌, ◌⊎◌, inl, inr, ap, ◌∙◌}
use Rattle.std.specs.Prelude.{IfErr}
use Rattle.facet_format.specs.Views.{refusal_of}
use Rattle.facet_json_token.specs.Gap.{plain, jsonc}
use Rattle.facet_json_grammar.specs.Now.{fresh_in}
use Rattle.facet_json_grammar.specs.UnreadLaws.{RefusalWithin}
use Rattle.facet_json_reader.specs.LanguageViews.{language_of}
use Rattle.facet_json_reader.specs.declared.place.Language.TheVariants.{Plain, Jsonc}
use Rattle.facet_json.proofs.options.read_allowed.Goals as goal

pub returns-in-Plain-clause-within : goal.returns-in-Plain-clause-within
returns-in-Plain-clause-within g c = by c.in-Plain.is
  where
    by : (c.args.options.language ≡ Plain) ⊎ (c.args.options.language ≡ Jsonc) →
        IfErr c.first_value.result (λ e. RefusalWithin c.args.input.now (refusal_of e))
    by (inl is) =
        (c.first_value.ensures.value c.args.input.now plain
        (c.in_language-parser.ensures ∙ ap (λ l. fresh_in c.args.input.now (language_of l)) is)).within
    by (inr is) =
        (c.first_value.ensures.value c.args.input.now jsonc
        (c.in_language-parser.ensures ∙ ap (λ l. fresh_in c.args.input.now (language_of l)) is)).within

pub returns-clause-within : goal.returns-clause-within
returns-clause-within g c =
    (c.whole_value.ensures.value c.args.input.now
    (c.in_language-parser.ensures ∙ ap (λ l. fresh_in c.args.input.now (language_of l)) c.in-Strict.is)).within
