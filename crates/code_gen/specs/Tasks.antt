-- The task of a program whose variables stand at given places, and whose flow and jobs were made.
use Rattle.std.specs.Prelude.{List}
use Rattle.net_model.specs.declared.hardware.Netlist.{Netlist}
use Rattle.src_model.specs.declared.typed.Typed.{Typed}
use Rattle.src_model.specs.Written.{model_of_program}
use Rattle.code_model.specs.declared.image.Place.{Place as VariablePlace}
use Rattle.form_model.specs.declared.flow.Blocks.{Blocks}
use Rattle.src_trees.specs.Jobs.{models_of_jobs}
use Rattle.right_code.specs.Tasks.{Task}

abbrev pub coded_task : Netlist → Typed → List VariablePlace → Blocks → Task
coded_task netlist typed places blocks = record {
  netlist = netlist;
  width = typed.width;
  program = model_of_program typed.program;
  places = places;
  flow = blocks.flow;
  jobs = models_of_jobs blocks.jobs.items;
}
