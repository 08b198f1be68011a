-- What is told of a task that was compiled, and of what its image does.
use Rattle.std.specs.Prelude.{ℕ, ◌≡◌, List, length}
use Rattle.net_model.specs.declared.states.State.{State}
use Rattle.net_model.specs.MemoryText.{blank}
use Rattle.src_model.specs.Trace.{strace}
use Rattle.code_model.specs.declared.image.Image.{Image}
use Rattle.code_model.specs.Places.{words_of}
use Rattle.right_code.specs.Tasks.{Task}
use Rattle.make_command.specs.Stops.{IsAtEnd, StopsAt}
use Rattle.make_command.specs.Summary.{summary_text}
use Rattle.src_model.specs.Meaning.{zeros}

-- The netlist is clocked on the image's words, from nothing but zeros, up to the end mark, or
-- 1,000,000 times where it doesn't come to it. Told are the number, how many words there are, how
-- many clocks that took, how many checkpoints the program passes from zeros, 1,000,000 at most, and
-- what the memory holds then.
pub record ShowsSummary (number : ℕ) (task : Task) (image : Image) (text : List ℕ) : Type 0 where
  pub cycles : ℕ
  pub last : State
  pub stops : StopsAt task.netlist (words_of image) (IsAtEnd task.netlist image)
      (blank task.netlist.storages) 1000000 cycles last
  pub text_is : text
      ≡ summary_text number (length image.words) cycles
      (length (strace task.width task.program (zeros task.program.vars) 1000000)) image.places last.cells
