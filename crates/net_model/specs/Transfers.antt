-- What each storage does under one instruction word: keep (no enable, or a register that would
-- take its own value), write, write at an address. A word steps where the program counter gets
-- itself plus 1. It is clean where it fits the code and no bus clashes under it (`clash_at` is the
-- first that does). A clean word keeps a storage whose transfer is to keep.
use Rattle.std.specs.Prelude.{ℕ, ◌==◌, ◌≡◌, if◌then◌else◌, List, Option, Some, None, slice_get, slice_index, slice_set, Bool, false}
use Rattle.net_model.specs.declared.hardware.Netlist.{Netlist}
use Rattle.net_model.specs.declared.hardware.Storage.{Storage}
use Rattle.net_model.specs.declared.hardware.Storage.TheVariants.{Register, Memory, File}
use Rattle.net_model.specs.declared.hardware.Cells.{Cells}
use Rattle.net_model.specs.declared.hardware.Space.{Space}
use Rattle.net_model.specs.declared.hardware.Space.TheVariants.{Memory as InMemory}
use Rattle.net_model.specs.declared.states.State.{State}
use Rattle.net_model.specs.Exprs.{ExprModel, reg, TransferModel, keep, write, write_at, EitherNext}
use Rattle.net_model.specs.Nets.{IsRegister, place_in, held, counter_of, counter_width}
use Rattle.net_model.specs.Value.{value_of}
use Rattle.net_model.specs.Widths.{IsState, WordFits}
use Rattle.net_model.specs.Clock.{clock, clash_in, Next, is_enabled}
use Rattle.net_model.specs.Symbolic.{no_state, sym_of}
use Rattle.net_model.specs.Meaning.{mean}

-- ---- words without clash

-- the first bus that clashes under the word; enables are static, so they are read in the blank
-- state
abbrev pub clash_at : Netlist → ℕ → Option ℕ
clash_at netlist i = clash_in (value_of netlist no_state i) netlist.nets

-- a word of the code under which no bus clashes
pub record IsClean (netlist : Netlist) (i : ℕ) : Type 0 where
  pub fits : WordFits netlist i
  pub clean : clash_at netlist i ≡ None

-- under each word of the code some bus clashes
abbrev pub ClashesAlways : Netlist → Type 0
ClashesAlways netlist = (i : ℕ) → IsClean netlist i → ⊥

-- ---- transfers

-- whether an expression is a register as it stands
abbrev pub same_reg : ExprModel → ℕ → Bool
same_reg (reg r w) id = r == id
same_reg _ id = false

-- cells whose `when` is 0 keep, and otherwise one of them is written
abbrev pub array_transfer : (ℕ → ExprModel) → (ℕ → ℕ) → Cells → TransferModel
array_transfer t u cells = if is_enabled u cells.when then write_at (t cells.addr) (t cells.value) else keep

-- a storage whose `when` is 0 keeps, and so does a register that would take its own value
abbrev pub storage_transfer : (ℕ → ExprModel) → (ℕ → ℕ) → ℕ → Storage → TransferModel
storage_transfer t u id (Register name width input when) =
    if is_enabled u when then (if same_reg (t input) id then keep else write (t input)) else keep
storage_transfer t u id (Memory cells) = array_transfer t u cells
storage_transfer t u id (File cells) = array_transfer t u cells

abbrev pub transfer_of : Netlist → ℕ → ℕ → Option Storage → TransferModel
transfer_of netlist i id None = keep
transfer_of netlist i id (Some storage) = storage_transfer (sym_of netlist i) (value_of netlist no_state i) id storage

-- what the storage of this number does under the word i
abbrev pub transfer_at : Netlist → ℕ → ℕ → TransferModel
transfer_at netlist i id = transfer_of netlist i id (slice_get netlist.storages id)

-- what the program counter does, the storage with the cells of a space, and the data memory
abbrev pub counter_transfer : Netlist → ℕ → TransferModel
counter_transfer netlist i = transfer_at netlist i (counter_of netlist.codes)

abbrev pub space_transfer : Netlist → Space → ℕ → TransferModel
space_transfer netlist space i = transfer_at netlist i (place_in space netlist.storages)

abbrev pub memory_transfer : Netlist → ℕ → TransferModel
memory_transfer netlist i = space_transfer netlist InMemory i

-- the word steps: the program counter becomes itself plus 1
pub record Steps (netlist : Netlist) (i : ℕ) : Type 0 where
  pub step : EitherNext (counter_of netlist.codes) (counter_width netlist) (λ next. counter_transfer netlist i ≡ write next)

-- the word doesn't clash, and the storage keeps what it holds
pub record Keeps (netlist : Netlist) (storage i : ℕ) : Type 0 where
  pub clean : IsClean netlist i
  pub keeps : transfer_at netlist i storage ≡ keep

-- the word doesn't clash, and it steps
pub record StepsOn (netlist : Netlist) (i : ℕ) : Type 0 where
  pub clean : IsClean netlist i
  pub steps : Steps netlist i

-- ---- what transfers do

-- what a register holds after a transfer
abbrev pub reg_moved : TransferModel → State → ℕ → ℕ → ℕ
reg_moved keep s i id = slice_index s.regs id
reg_moved (write e) s i id = mean e s i
reg_moved (write_at a e) s i id = slice_index s.regs id

-- what cells are after a transfer
abbrev pub cells_moved : TransferModel → State → ℕ → List ℕ → List ℕ
cells_moved keep s i olds = olds
cells_moved (write e) s i olds = olds
cells_moved (write_at a e) s i olds = slice_set olds (mean a s i) (mean e s i)

-- the next state is what the transfers of the word say
pub record Moved (netlist : Netlist) (words : List ℕ) (i : ℕ) (s : State) : Type 0 where
  pub next : State
  pub clocked : clock netlist words s ≡ Next next
  pub state : IsState netlist next
  pub regs : (id : ℕ) → IsRegister (slice_get netlist.storages id) →
      slice_index next.regs id ≡ reg_moved (transfer_at netlist i id) s i id
  pub cells : (space : Space) → held next space ≡ cells_moved (space_transfer netlist space i) s i (held s space)
