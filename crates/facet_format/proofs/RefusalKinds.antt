-- Which kind a refusal has, from what is wrong.
use Rattle.std.proofs.Common.{◌≡◌, refl}
use Rattle.facet_format.specs.declared.error.DeserializeErrorKind.{DeserializeErrorKind}
use Rattle.facet_format.specs.declared.error.DeserializeErrorKind.TheVariants as error
use Rattle.facet_format.specs.Complaint.{out_of_memory}
use Rattle.facet_format.specs.Views.{complaint_of}

pub memory-kind : (kind : DeserializeErrorKind) → complaint_of kind ≡ out_of_memory → kind ≡ error.OutOfMemory
memory-kind (error.UnexpectedChar ch expected) e = cc
memory-kind (error.UnexpectedEof expected) e = cc
memory-kind (error.UnexpectedToken got expected) e = cc
memory-kind error.InvalidUtf8 e = cc
memory-kind (error.InvalidValue message) e = cc
memory-kind (error.TypeMismatch expected got) e = cc
memory-kind (error.NumberOutOfRange target_type) e = cc
memory-kind (error.MissingField field) e = cc
memory-kind error.OutOfMemory e = refl
memory-kind error.SaveLimit e = cc
