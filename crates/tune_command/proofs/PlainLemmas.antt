-- The flow and the jobs of a program that was read are its own.
use Rattle.std.proofs.Common.{ℕ, refl}
use Rattle.net_model.specs.declared.hardware.Netlist.{Netlist}
use Rattle.src_model.specs.Rules.{temp_count}
use Rattle.src_model.specs.Written.{ProgramModel}
use Rattle.src_trees.proofs.Following.{own_does}
use Rattle.right_code.specs.Tasks.{IsChecked, row_memory, row_task}
use Rattle.code_gen.specs.Spelled.{IsPlain}

pub row_plain : (netlist : Netlist) (width : ℕ) (l : ProgramModel) → IsChecked (row_task netlist width l) → IsPlain (row_task netlist width l)
row_plain netlist width l checked = record {
  flow = refl;
  meant = own_does (row_memory netlist width l) (temp_count width l) l checked.jobs.held;
}
