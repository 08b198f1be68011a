-- What the check of a program answers.
use Rattle.std.specs.Prelude.{◌≡◌, ℕ, List, Option, Some, map}
use Rattle.src_model.specs.declared.program.Stmt.{Stmt}
use Rattle.src_model.specs.declared.program.Var.{Var as Declared}
use Rattle.src_model.specs.declared.fault.SrcFault.{SrcFault}
use Rattle.src_model.specs.declared.fault.SrcFault.TheVariants.{Unknown, Width, Index, Counter}
use Rattle.src_model.specs.declared.typed.SrcFault2.{SrcFault2}
use Rattle.src_model.specs.declared.typed.SrcFault2.TheVariants.{Fault, Memory}
use Rattle.src_model.specs.Written.{ProgramModel, model_of_stmt}
use Rattle.src_model.specs.Rules.{unknown_names, bad_widths, bad_indexes, bad_counters, limits}
use Rattle.rec_bits.specs.Faults.{fault_at}
use Rattle.rec_bits.specs.Faults.{or_else}
use Rattle.rec_bits.specs.Faults.{least}

abbrev pub program_with : List Declared → List Stmt → ProgramModel
program_with vars body = record { vars = vars; body = map model_of_stmt body }

-- the first fault behind S1
abbrev pub behind_duplicates : ℕ → ProgramModel → Option SrcFault
behind_duplicates word l =
    or_else (fault_at Unknown (least (unknown_names l)))
    (or_else (fault_at Width (least (bad_widths word l)))
    (or_else (fault_at Index (least (bad_indexes l)))
    (or_else (fault_at Counter (least (bad_counters word l)))
    (limits l))))

-- a refusal names the first fault, or says that memory is wanting
abbrev pub IsCheckFault : Option SrcFault → SrcFault2 → Type 0
IsCheckFault found (Fault fault) = found ≡ Some fault
IsCheckFault found Memory = Unit {0}
