-- The summary of a number.
use Rattle.std.specs.Prelude.{ℕ, List}
use Rattle.code_model.specs.declared.image.Image.{Image}
use Rattle.right_code.specs.Tasks.{Task}
use Rattle.compile_command.specs.Code.{IsRightFor}
use Rattle.compile_command.specs.Tasks.{TaskHolds}
use Rattle.job_gen.specs.NetText.{net_text}
use Rattle.job_gen.specs.SrcText.{src_text}
use Rattle.make_command.specs.Summing.{ShowsSummary}

-- what is told of a task, for some right code of it
pub record IsSummaryOf (number : ℕ) (text : List ℕ) (task : Task) : Type 0 where
  pub image : Image
  pub right : IsRightFor image task
  pub shown : ShowsSummary number task image text

-- what is told of the netlist and the program of a number
abbrev pub IsSummary : ℕ → List ℕ → Type 0
IsSummary number text = TaskHolds (net_text number) (src_text number) (IsSummaryOf number text)
