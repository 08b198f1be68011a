-- A netlist and a program that were read are checked.
use Rattle.std.proofs.Common.{ℕ, ◌<◌, ◌^◌, List, length, arith}
use Rattle.net_model.specs.ModeRules.{Moded}
use Rattle.net_model.proofs.ModeFaults.{modes_keep}
use Rattle.src_model.specs.declared.typed.Typed.{Typed}
use Rattle.src_model.specs.Written.{model_of_program}
use Rattle.src_front.proofs.Lengths.{few_variables}
use Rattle.src_front.proofs.SourceNames.{source_names}
use Rattle.compile_command.specs.Read.{AreChecked, IsRead}

module _ (net src : List ℕ) (modes : Moded) (typed : Typed) (read : IsRead net src modes typed) where
  pub read_checked : length src < 2 ^ 32 → AreChecked modes typed
  read_checked short = record {
    rules = modes_keep modes.netlist modes.bases read.net_file.routed.netlist.rules;
    width = read.width;
    program = read.src_file.kept;
    few = let k = few_variables src (model_of_program typed.program) read.src_file.says.text in omega (arith, k, short);
    named = source_names src (model_of_program typed.program) read.src_file.says.text;
  }
