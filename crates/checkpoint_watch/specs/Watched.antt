-- The text of what a netlist shows of a program that it runs.
use Rattle.std.specs.Prelude.{ℕ, ◌≡◌, List, length}
use Rattle.net_model.specs.declared.hardware.Netlist.{Netlist}
use Rattle.net_model.specs.declared.states.State.{State}
use Rattle.src_model.specs.declared.program.Var.{Var as Declared}
use Rattle.src_model.specs.Ways.{Passed}
use Rattle.code_model.specs.declared.image.Image.{Image}
use Rattle.code_model.specs.Machine.{TraceEntry, Shows, mtrace, store_in}
use Rattle.code_model.specs.Right.{passed_of}
use Rattle.checkpoint_watch.specs.Texts.{checkpoint_text}

-- this is the text of the checkpoints that the netlist shows on the image's words over so many
-- clocks, from this state; without their cycles these are the source's first, of which so many are
-- given from a store, and no clock before the end mark clashes
pub record IsTraceText (netlist : Netlist) (image : Image) (vars : List Declared)
    (trace : List ℕ → ℕ → List Passed) (start : State) (clocks : ℕ) (text : List ℕ) : Type 0 where
  pub entries : List TraceEntry
  pub traced : mtrace netlist image start 0 clocks ≡ Shows entries
  pub passed : passed_of entries ≡ trace (store_in image start) (length entries)
  pub text_is : text ≡ checkpoint_text vars entries
