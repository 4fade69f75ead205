-- What a new parser reads is the first value of its input; what a new strict one reads, up to the end, is the input's value.
use Rattle.std.proofs.Common.{◌≡◌, ℕ, Bool, true, List, Option}
use Rattle.std.specs.Prelude.{Result, Err, IfOk, IfErr, OnOk}
use Rattle.std.proofs.lemmas.Result.{IfOk-weaker, IfErr-weaker}
use Rattle.facet_format.specs.Views.{refusal_of}
use Rattle.facet_format.specs.declared.error.DeserializeError.{DeserializeError}
use Rattle.facet_json_token.specs.Gap.{Mode, plain}
use Rattle.facet_json_grammar.specs.Language.{lenient, strict}
use Rattle.facet_json_grammar.specs.Node.{Node}
use Rattle.facet_json_grammar.specs.Now.{Now, fresh, fresh_in}
use Rattle.facet_json_grammar.specs.UnreadLaws.{RefusalWithin}
use Rattle.facet_json_core.specs.Refusing.{TellsRefusal}
use Rattle.facet_json_core.specs.Meaning.Nodes.{KeepsOn}
use Rattle.facet_json_core.specs.Meaning.OneValue.{PassesValue}
use Rattle.facet_json_core.specs.Meaning.Reading.{IsRead, IsUnread, HasDocument}
use Rattle.facet_json_facet.specs.Inputs.{FirstValue, StrictValue, IsUnreadStrictly}
use Rattle.facet_json_facet.proofs.RootComes.{read-from, told-of, unread-from, within-from}
use Rattle.facet_json_facet.proofs.RunBegins.{begins-from}
use Rattle.facet_json_facet.proofs.StrictRootComes.{within-strictly}

module _ {V A : Type 0} (reading : List ℕ → Node → Option V) (whole : Bool) (view : A → V) (old new : Now) (keeps : KeepsOn old new) where
  pub first-value : (input : List ℕ) (mode : Mode) → old ≡ fresh input mode → (result : Result A DeserializeError) →
      IfOk result (λ v. IsRead reading old (view v) new) → IfErr result (λ e. IsUnread reading old (refusal_of e)) →
      (whole ≡ true → OnOk result (HasDocument old)) → OnOk result (PassesValue old new) →
      IfErr result (λ e. RefusalWithin new.buffer (refusal_of e)) → IfErr result (λ e. TellsRefusal old new (refusal_of e)) →
      FirstValue reading whole view input mode result
  first-value input mode is_new result read unread document one within tells = record {
    read = IfOk-weaker result _ _ (λ v. read-from reading input mode old is_new (view v) new) read;
    unread = IfErr-weaker result _ _ (λ e. unread-from reading input mode old is_new (refusal_of e)) unread;
    document = λ is. IfOk-weaker result _ _ (λ v has. has input mode is_new) (document is);
    one_value = IfOk-weaker result _ _ (λ v. begins-from input mode old new is_new) one;
    within = IfErr-weaker result _ _ (λ e. within-from input mode old new is_new keeps.input.buffer (refusal_of e)) within;
    tells = IfErr-weaker result _ _ (λ e. told-of input (lenient mode) old new is_new keeps (refusal_of e)) tells;
  }

  -- A refusal in between or at the end is one of no value.
  pub strictly-refused : (input : List ℕ) → old ≡ fresh_in input (strict plain) → (e : DeserializeError) →
      IsUnreadStrictly reading input (refusal_of e) → RefusalWithin new.buffer (refusal_of e) → TellsRefusal old new (refusal_of e) →
      StrictValue reading whole view input (Err e)
  strictly-refused input is_new e unread within tells = record {
    read = tt;
    unread = unread;
    document = λ is. tt;
    one_run = tt;
    within = within-strictly input old is_new new keeps.input.buffer (refusal_of e) within;
    tells = told-of input (strict plain) old new is_new keeps (refusal_of e) tells;
  }
