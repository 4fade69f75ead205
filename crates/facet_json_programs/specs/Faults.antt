-- Which fault a refusal is.
use Rattle.std.specs.Prelude.{◌≡◌, ◌⊎◌}
use Rattle.facet_json.specs.Complaint.{Complaint, out_of_memory}
use Rattle.facet_json_programs.specs.declared.fault.RpcFault.{RpcFault}
use Rattle.facet_json_programs.specs.declared.fault.RpcFault.TheVariants.{Params, Memory}

-- a lack of memory, or else this fault
abbrev pub or_memory : Complaint → RpcFault → RpcFault
or_memory out_of_memory fault = Memory
or_memory _ fault = fault

-- A method that is known fails so: it doesn't take its parameters, or memory ran out.
abbrev pub IsOfMethod : RpcFault → Type 0
IsOfMethod fault = (fault ≡ Params) ⊎ (fault ≡ Memory)
