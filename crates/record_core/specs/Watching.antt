-- What `go` shows of a task.
use Rattle.std.specs.Prelude.{ℕ, List}
use Rattle.net_model.specs.MemoryText.{IsMemoryFault, IsMemoryText}
use Rattle.net_model.specs.declared.states.State.{State}
use Rattle.src_model.specs.Trace.{strace}
use Rattle.code_model.specs.declared.image.Image.{Image}
use Rattle.right_code.specs.Tasks.{Task}
use Rattle.compile_command.specs.Code.{IsRightFor}
use Rattle.checkpoint_watch.specs.Watched.{IsTraceText}

-- the bytes are no memory text for its netlist that leaves its mode alone, which shows at this offset
pub record LacksMemory (memory : List ℕ) (at : ℕ) (task : Task) : Type 0 where
  pub none : IsMemoryFault task.netlist task.netlist.special memory at

-- these are the checkpoints that the netlist shows over so many clocks on the words of an image
-- that is right code and that it holds, from the state that the memory text says
pub record IsWatched (memory : List ℕ) (clocks : ℕ) (out : List ℕ) (task : Task) : Type 0 where
  pub start : State
  pub said : IsMemoryText task.netlist task.netlist.special memory start
  pub image : Image
  pub right : IsRightFor image task
  pub trace : IsTraceText task.netlist image task.program.vars (strace task.width task.program) start clocks out
