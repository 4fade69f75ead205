-- Why a line is refused: for a lack of memory, or because it is no strict document.
use Rattle.std.proofs.Common.{◌≡◌, ◌⊎◌, inl, inr, ℕ, List, refl, ap, ◌∙◌}
use Rattle.facet_json.specs.Complaint as complaint
use Rattle.facet_json.specs.Complaint.{Complaint, out_of_memory}
use Rattle.facet_json.specs.StrictDocument.{IsStrict}
use Rattle.facet_json_programs.specs.Faults.{or_memory}
use Rattle.facet_json_programs.specs.declared.fault.RpcFault.{RpcFault}
use Rattle.facet_json_programs.specs.declared.fault.RpcFault.TheVariants.{Parse, Memory}

or_memory-is : (c : Complaint) (f : RpcFault) → (or_memory c f ≡ Memory) ⊎ (or_memory c f ≡ f)
or_memory-is (complaint.unexpected_char character expected) f = inr refl
or_memory-is (complaint.unexpected_eof expected) f = inr refl
or_memory-is (complaint.unexpected_token got expected) f = inr refl
or_memory-is complaint.invalid_utf8 f = inr refl
or_memory-is (complaint.invalid_value message) f = inr refl
or_memory-is (complaint.type_mismatch expected got) f = inr refl
or_memory-is (complaint.number_out_of_range target_type) f = inr refl
or_memory-is (complaint.missing_field field) f = inr refl
or_memory-is complaint.out_of_memory f = inl refl
or_memory-is complaint.save_limit f = inr refl

pub line-fault : (input : List ℕ) (c : Complaint) (fault : RpcFault) → (IsStrict input → c ≡ out_of_memory) → fault ≡ or_memory c Parse →
    (fault ≡ Memory) ⊎ ((fault ≡ Parse) × (IsStrict input → ⊥))
line-fault input c fault only is =
    elim (or_memory-is c Parse) [
      | inl e ↦ inl (is ∙ e)
      | inr e ↦ inr (is ∙ e, λ strict. let lacks : or_memory c Parse ≡ Memory = ap (λ x. or_memory x Parse) (only strict) in cc)
    ]
