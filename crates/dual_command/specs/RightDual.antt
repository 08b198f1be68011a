-- When an image is right code for a program on a netlist of two data memories. A task of two
-- memories is a netlist with a bank, a program, the width of its words, and for each variable
-- whether it is in the bank. *Right code* for it (`IsRightDual`) is an image that is made for the
-- task on the view, with the layout and the jobs of both memories, and whose trace on *the netlist
-- itself*, clocked with both its memories, is the source's. The store is what the places hold of
-- the memory's cells with the bank's behind them (`both_in`). There is no mode, so the netlist is
-- looked at as one in which nothing is special (`unmoded`).
use Rattle.std.specs.Prelude.{ℕ, ◌++◌, ◌^◌, ◌≤◌, Bool, List, None}
use Rattle.net_model.specs.declared.hardware.Netlist.{Netlist}
use Rattle.net_model.specs.declared.states.State.{State}
use Rattle.src_model.specs.Trace.{strace}
use Rattle.src_model.specs.Written.{ProgramModel}
use Rattle.code_model.specs.declared.image.Image.{Image}
use Rattle.code_model.specs.Places.{cells_at}
use Rattle.code_model.specs.Right.{TracesBy}
use Rattle.src_trees.specs.Flows.{program_flow}
use Rattle.bank_view.specs.Banks.{addr_bits, bank_port}
use Rattle.bank_view.specs.Views.{view_of}
use Rattle.dual_bank.specs.Banked.{jobs_of_banked, joined_memory}
use Rattle.dual_bank.specs.Layouts.{bank_cells, bank_layout, memory_need}
use Rattle.right_code.specs.Images.{IsMadeFor}
use Rattle.right_code.specs.Tasks.{Task}

-- a netlist of two data memories, a program for words of so many bits, and for each of its
-- variables whether it is in the bank
pub record DualTask : Type 0 where
  pub netlist : Netlist
  pub width : ℕ
  pub program : ProgramModel
  pub in_bank : List Bool

-- the task on the view: its variables stand in two memories, and its jobs have their addresses
abbrev pub dual_task : DualTask → Task
dual_task task =
    let k : ℕ = addr_bits task.netlist in
    let places = (bank_layout task.width k task.in_bank task.program).list in
    record {
      netlist = view_of task.netlist;
      width = task.width;
      program = task.program;
      places = places;
      flow = program_flow task.program;
      jobs = jobs_of_banked k (joined_memory task.width k places) task.program;
    }

-- the cells that the program needs in the memory, the temporary ones among them, and in the bank,
-- and those that there are
abbrev pub need_in_memory : DualTask → ℕ
need_in_memory task = memory_need task.width task.in_bank task.program

abbrev pub need_in_bank : DualTask → ℕ
need_in_bank task = bank_cells task.in_bank task.program.vars

abbrev pub memory_room : DualTask → ℕ
memory_room task = 2 ^ addr_bits task.netlist

abbrev pub bank_room : DualTask → ℕ
bank_room task = (bank_port task.netlist).size

pub record HasBothRoom (task : DualTask) : Type 0 where
  pub memory : need_in_memory task ≤ memory_room task
  pub bank : need_in_bank task ≤ bank_room task

-- the store: what the places hold of the cells of both memories, those of the bank behind the
-- memory's
abbrev pub both_in : Image → State → List ℕ
both_in image s = cells_at image.places (s.cells ++ s.file)

-- the netlist as its clocks see it: what is special in it is the bank, and no mode register
abbrev pub unmoded : Netlist → Netlist
unmoded n = record n { special = None }

-- right code: an image made of the view's forms for these jobs, whose trace on the netlist itself is
-- the program's
pub record IsRightDual (task : DualTask) (image : Image) : Type 0 where
  pub made : IsMadeFor (dual_task task) image
  pub traces : TracesBy (both_in image) (unmoded task.netlist) image (strace task.width task.program)
