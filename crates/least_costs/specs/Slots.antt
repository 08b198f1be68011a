-- Entries of a row: for each register, and behind them for the file and for a temporary cell.
use Rattle.std.specs.Prelude.{ℕ, ◌<◌, ◌≡◌, Bool, false, Option, Some, None, if◌then◌else◌}
use Rattle.form_model.specs.Forms.{DestinationModel, into, filed, temporary, GoalModel, into_reg, into_memory, into_file, jumps, branches}
use Rattle.form_model.specs.Matches.{HomeModel, in_register, in_file}
use Rattle.least_costs.specs.declared.slots.Slot.{Slot}
use Rattle.least_costs.specs.declared.slots.Slot.TheVariants.{Register, File, Temporary}

-- where the entry stands in its row
abbrev pub place : Slot → ℕ
place (Register r) = r
place File = 16
place Temporary = 17

-- a row has an entry for each register below 16
abbrev pub IsEntry : Slot → Type 0
IsEntry (Register r) = r < 16
IsEntry File = Unit {0}
IsEntry Temporary = Unit {0}

-- an entry of a row of a tree; a whole tree isn't put into a temporary cell
abbrev pub IsSlot : Bool → Slot → Type 0
IsSlot whole (Register r) = r < 16
IsSlot whole File = Unit {0}
IsSlot whole Temporary = whole ≡ false

-- where the tree of a row's entry goes
abbrev pub entry_destination : Slot → DestinationModel
entry_destination (Register r) = into r
entry_destination File = filed
entry_destination Temporary = temporary

-- the entry of a row to which a form goes
abbrev pub goal_slot : GoalModel → Bool → Option Slot
goal_slot (into_reg id) whole = Some (Register id)
goal_slot into_file whole = Some File
goal_slot into_memory whole = if whole then None else Some Temporary
goal_slot (jumps reach) whole = None
goal_slot (branches when_one to) whole = None

-- the entry for an operand with this home
abbrev pub home_slot : HomeModel → Slot
home_slot (in_register id) = Register id
home_slot (in_file shape) = File

-- the number of its register, and 0 where it is in the file
abbrev pub home_number : HomeModel → ℕ
home_number (in_register id) = id
home_number (in_file shape) = 0

-- a set of registers has a bit for a home that is a register
abbrev pub IsLowHome : HomeModel → Type 0
IsLowHome home = home_number home < 16
