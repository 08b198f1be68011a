-- What steps do to a state, one after the other and several at one clock edge. A step is a pattern
-- with the values of its field bits, and the meaning of its expressions is read under those bits,
-- since they have no others.
use Rattle.std.specs.Prelude.{ℕ, Bool, true, false, ◌==◌, ◌||◌, ◌&&◌, not, if◌then◌else◌, List, [], ◌∷◌, Option, Some, None, slice_get, slice_set}
use Rattle.net_model.specs.declared.hardware.Space.{Space}
use Rattle.net_model.specs.declared.hardware.Space.TheVariants.{Memory as InMemory, File as InFile}
use Rattle.net_model.specs.declared.states.State.{State}
use Rattle.net_model.specs.Exprs.{ExprModel, word, reg, const, read, un, bin, slice, cat, zext, sext, select, TransferModel, keep, write, write_at}
use Rattle.net_model.specs.Symbolic.{no_state}
use Rattle.net_model.specs.Meaning.{mean}
use Rattle.net_model.specs.MemoryText.{with_cell}
use Rattle.net_model.specs.Patterns.{Pattern}
use Rattle.form_model.specs.declared.forms.Step.{Step}
use Rattle.form_model.specs.Shapes.{is_shape}

-- ---- what a step does

-- a transfer of a storage under the field bits of a setting, and the cells that a write of cells is
-- of
pub record Operation : Type 0 where
  pub storage : ℕ
  pub space : Space
  pub move : TransferModel
  pub setting : ℕ

-- those of the storage of this number, where the file, if there is one, has that one
abbrev pub space_in : Option ℕ → ℕ → Space
space_in None storage = InMemory
space_in (Some file) storage = if file == storage then InFile else InMemory

abbrev pub operation_or_none : Option ℕ → Option Pattern → ℕ → Operation
operation_or_none file None setting = record { storage = 0; space = InMemory; move = keep; setting = setting }
operation_or_none file (Some p) setting =
    record { storage = p.storage; space = space_in file p.storage; move = p.move; setting = setting }

-- the transfer of a step, where the file has this number among the storages; a pattern's number is
-- its place
abbrev pub operation_of : Option ℕ → List Pattern → Step → Operation
operation_of file patterns step = operation_or_none file (slice_get patterns step.pattern) step.setting

-- the new state with the transfer done from the old state
abbrev pub apply_transfer : ℕ → Space → TransferModel → ℕ → State → State → State
apply_transfer storage space keep setting old new = new
apply_transfer storage space (write e) setting old new =
    record new { regs = slice_set new.regs storage (mean e old setting) }
apply_transfer storage space (write_at a e) setting old new =
    with_cell new space (mean a old setting) (mean e old setting)

abbrev pub apply_operation : Operation → State → State → State
apply_operation d old new = apply_transfer d.storage d.space d.move d.setting old new

-- m says what each step does
abbrev pub apply_all : {A : Type 0} → (A → Operation) → List A → State → State → State
apply_all m [] old new = new
apply_all m (x ∷ xs) old new = apply_all m xs old (apply_operation (m x) old new)

-- all steps of a group at one clock edge
abbrev pub group_effect : {A : Type 0} → (A → Operation) → List A → State → State
group_effect m g s = apply_all m g s s

-- groups one after the other
abbrev pub groups_effect : {A : Type 0} → (A → Operation) → List (List A) → State → State
groups_effect m [] s = s
groups_effect m (g ∷ gs) s = groups_effect m gs (group_effect m g s)

-- steps one after the other
abbrev pub steps_effect : {A : Type 0} → (A → Operation) → List A → State → State
steps_effect m [] s = s
steps_effect m (x ∷ xs) s = steps_effect m xs (apply_operation (m x) s s)

-- ---- what a step reads and writes

-- a location that is written: a register, a cell of the memory or of the file whose address the
-- step settles, or some cell of it
pub data LocationModel : Type 0 where
  register : (id : ℕ) → LocationModel
  cell_at : (space : Space) → (address : ℕ) → LocationModel
  some_cell : (space : Space) → LocationModel

-- an address that is a field shape is settled by the setting, a constant's too; any other may be
-- every address
abbrev pub location_at : Space → ℕ → ExprModel → LocationModel
location_at space setting a = if is_shape a then cell_at space (mean a no_state setting) else some_cell space

abbrev pub transfer_location : ℕ → Space → ℕ → TransferModel → LocationModel
transfer_location storage space setting keep = register storage
transfer_location storage space setting (write e) = register storage
transfer_location storage space setting (write_at a e) = location_at space setting a

-- the location that a step writes
abbrev pub location_of : Operation → LocationModel
location_of d = transfer_location d.storage d.space d.setting d.move

abbrev pub same_space : Space → Space → Bool
same_space InMemory InMemory = true
same_space InFile InFile = true
same_space _ _ = false

-- a read at the first location may see a write at the second
abbrev pub may_see : LocationModel → LocationModel → Bool
may_see x (register r) = false
may_see (register r) y = false
may_see (cell_at space v) (cell_at other w) = same_space space other && (v == w)
may_see (cell_at space v) (some_cell other) = same_space space other
may_see (some_cell space) (cell_at other w) = same_space space other
may_see (some_cell space) (some_cell other) = same_space space other

abbrev pub names_register : LocationModel → ℕ → Bool
names_register (register q) r = q == r
names_register _ r = false

abbrev pub expr_reads : ℕ → ExprModel → LocationModel → Bool
expr_reads setting (word w) p = false
expr_reads setting (reg r w) p = names_register p r
expr_reads setting (const w v) p = false
expr_reads setting (read space a w) p = may_see (location_at space setting a) p || expr_reads setting a p
expr_reads setting (un o a) p = expr_reads setting a p
expr_reads setting (bin o a b) p = expr_reads setting a p || expr_reads setting b p
expr_reads setting (slice a hi lo) p = expr_reads setting a p
expr_reads setting (cat a b) p = expr_reads setting a p || expr_reads setting b p
expr_reads setting (zext a w) p = expr_reads setting a p
expr_reads setting (sext a w) p = expr_reads setting a p
expr_reads setting (select c a b) p = expr_reads setting c p || (expr_reads setting a p || expr_reads setting b p)

abbrev pub transfer_reads : ℕ → TransferModel → LocationModel → Bool
transfer_reads setting keep p = false
transfer_reads setting (write e) p = expr_reads setting e p
transfer_reads setting (write_at a e) p = expr_reads setting a p || expr_reads setting e p

-- a step reads a location
abbrev pub reads : Operation → LocationModel → Bool
reads d p = transfer_reads d.setting d.move p

-- a register that a step writes
abbrev pub transfer_writes : ℕ → TransferModel → ℕ → Bool
transfer_writes storage keep r = false
transfer_writes storage (write e) r = storage == r
transfer_writes storage (write_at a e) r = false

abbrev pub writes : Operation → ℕ → Bool
writes d r = transfer_writes d.storage d.move r

abbrev pub is_store : TransferModel → Bool
is_store (write_at a e) = true
is_store _ = false

-- of two steps that write cells: the memory is one destination, and each cell of the file is one
abbrev pub same_cells : Space → Operation → Operation → Bool
same_cells InMemory c d = same_space InMemory d.space
same_cells InFile c d = may_see (location_of c) (location_of d)

-- two steps have one destination: a register, the memory, or a cell of the file
abbrev pub same_destination : Operation → Operation → Bool
same_destination c d =
    if is_store c.move then is_store d.move && same_cells c.space c d
    else not (is_store d.move) && (c.storage == d.storage)
