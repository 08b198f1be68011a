-- What a clock of a simulator answers and leaves, and what is read from it.
use Rattle.std.specs.Prelude.{ℕ, ◌≡◌, ◌&&◌, nat_lt, if◌then◌else◌, List, Option, Some, None, length, slice_get, slice_index}
use Rattle.net_model.specs.declared.hardware.Netlist.{Netlist}
use Rattle.net_model.specs.declared.hardware.Storage.{Storage}
use Rattle.net_model.specs.declared.hardware.Storage.TheVariants.{Register}
use Rattle.net_model.specs.declared.hardware.Cells.{Cells}
use Rattle.net_model.specs.declared.hardware.Space.TheVariants.{Memory as InMemory}
use Rattle.net_model.specs.Nets.{array_in}
use Rattle.net_model.specs.declared.states.State.{State}
use Rattle.net_model.specs.Value.{value_of}
use Rattle.net_model.specs.Clock.{clock, is_enabled, word_at, Next, Clash}
use Rattle.cycle_sim.specs.declared.sim.Clocked.{Clocked}
use Rattle.cycle_sim.specs.declared.sim.Clocked.TheVariants.{Stepped}
use Rattle.cycle_sim.specs.declared.sim.Clocked.TheVariants as answer
use Rattle.cycle_sim.specs.Shown.{Shown}

-- the cell of the data memory that is written, where v gives the values of the nets: there is one
-- where the memory has no `when` or a `when` of value 1, and its address lies below the size
abbrev pub cell_net : (ℕ → ℕ) → Option Cells → ℕ → Option ℕ
cell_net v None size = None
cell_net v (Some cells) size =
    if is_enabled v cells.when && nat_lt (v cells.addr) size then Some (v cells.addr) else None

-- the cell that a clock without clash writes
abbrev pub written_cell : Netlist → List ℕ → State → Option ℕ
written_cell netlist words s =
    cell_net (value_of netlist s (word_at netlist words s)) (array_in InMemory netlist.storages) (length s.cells)

-- a clock that answers `Stepped` leaves the next state and has written that cell; one that answers
-- `Clash` clashed at that bus, left the state as it was and wrote nothing
abbrev pub Clocks : Shown → Shown → Clocked → Type 0
Clocks old new Stepped =
    (clock old.netlist old.words old.state ≡ Next new.state)
    × (new.last_write ≡ written_cell old.netlist old.words old.state)
Clocks old new (answer.Clash bus) =
    (clock old.netlist old.words old.state ≡ Clash bus) × (new.state ≡ old.state) × (new.last_write ≡ None)

-- the value of a register: of a memory or of nothing there is none
abbrev pub register_value : Option Storage → ℕ → Option ℕ
register_value (Some (Register name width input when)) value = Some value
register_value _ value = None

abbrev pub register_in : Netlist → State → ℕ → Option ℕ
register_in netlist s id = register_value (slice_get netlist.storages id) (slice_index s.regs id)
