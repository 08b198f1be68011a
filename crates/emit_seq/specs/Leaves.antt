-- What the steps of a cover leave. From which states steps are looked at: no read of the tree, nor
-- of a store's address, below the temporary cells, the aim and these cells in the memory, and a
-- file that has the cells. And what they leave there: the tree's value at the aim, or in a test's
-- condition under its setting, and all other cells of the memory from the temporary ones on as
-- they were.
use Rattle.std.specs.Prelude.{ℕ, ◌≤◌, ◌<◌, ◌≡◌, List, Option, length, slice_index, slice_set}
use Rattle.net_model.specs.declared.hardware.Space.TheVariants.{Memory as InMemory, File as InFile}
use Rattle.net_model.specs.declared.states.State.{State}
use Rattle.net_model.specs.Exprs.{ExprModel, word, reg, const, read, un, bin, slice, cat, zext, sext, select}
use Rattle.net_model.specs.Meaning.{mean}
use Rattle.net_model.specs.Patterns.{Pattern}
use Rattle.form_model.specs.CoverModels.{CoverModel, use_form}
use Rattle.form_model.specs.Covers.{StockModel}
use Rattle.form_model.specs.Effects.{operation_of, steps_effect}
use Rattle.form_model.specs.Steps.{form_at, cell_or, cover_steps, branch_setting}
use Rattle.form_model.specs.Forms.{DestinationModel, into, filed, cell, stored, temporary, tested}

-- no read of the tree has an address below this one, and it doesn't read the file
abbrev pub ReadsFrom : ℕ → State → ExprModel → Type 0
ReadsFrom low s (word w) = Unit {0}
ReadsFrom low s (reg r w) = Unit {0}
ReadsFrom low s (const w v) = Unit {0}
ReadsFrom low s (read InMemory a w) = (low ≤ mean a s 0) × ReadsFrom low s a
ReadsFrom low s (read InFile a w) = ⊥
ReadsFrom low s (un o a) = ReadsFrom low s a
ReadsFrom low s (bin o a b) = ReadsFrom low s a × ReadsFrom low s b
ReadsFrom low s (slice a hi lo) = ReadsFrom low s a
ReadsFrom low s (cat a b) = ReadsFrom low s a × ReadsFrom low s b
ReadsFrom low s (zext a w) = ReadsFrom low s a
ReadsFrom low s (sext a w) = ReadsFrom low s a
ReadsFrom low s (select c a b) = ReadsFrom low s c × ReadsFrom low s a × ReadsFrom low s b

-- ---- what the form's own step does

-- the address of a destination in the memory, where `own` is the temporary cell
abbrev pub address_of : State → DestinationModel → ℕ → ℕ
address_of before (cell address) own = address
address_of before (stored address) own = mean address before 0
address_of before temporary own = own
address_of before destination own = 0

-- the state with a value put where it goes, where `home` is the cell of the file
abbrev pub placed : State → State → DestinationModel → ℕ → Option ℕ → ℕ → State
placed before now (into id) own home v = record now { regs = slice_set now.regs id v }
placed before now filed own home v = record now { file = slice_set now.file (cell_or home 0) v }
placed before now tested own home v = now
placed before now destination own home v =
    record now { cells = slice_set now.cells (address_of before destination own) v }

-- the address tree of a store reads nothing below, too
abbrev pub DestinationReads : ℕ → State → DestinationModel → Type 0
DestinationReads low before (stored address) = ReadsFrom low before address
DestinationReads low before destination = Unit {0}

-- ---- what the steps of a job's cover leave

-- the aim lies in the memory
abbrev pub IsAimWithin : DestinationModel → State → Type 0
IsAimWithin (cell address) s = address < length s.cells
IsAimWithin (stored address) s = mean address s 0 < length s.cells
IsAimWithin destination s = Unit {0}

-- a state from which the steps do their work: so many registers, no read of the tree and of a
-- store's address below the temporary cells, both the aim and the temporary cells in the memory, and
-- the file as long as the forms have it
pub record IsCoverStart (stock : StockModel) (count : ℕ) (destination : DestinationModel) (tree : ExprModel) (s : State) : Type 0 where
  pub regs : length s.regs ≡ count
  pub reads : ReadsFrom stock.temps s tree
  pub aim_reads : DestinationReads stock.temps s destination
  pub aim : IsAimWithin destination s
  pub temps : stock.temps ≤ length s.cells
  pub file : stock.file ≤ length s.file

-- where a job's tree goes: not into a register or the file, and not into a temporary cell
abbrev pub IsOfJob : DestinationModel → Type 0
IsOfJob (into id) = ⊥
IsOfJob filed = ⊥
IsOfJob temporary = ⊥
IsOfJob destination = Unit {0}

-- the cell of the aim
abbrev pub IsAim : DestinationModel → State → ℕ → Type 0
IsAim (cell address) s c = c ≡ address
IsAim (stored address) s c = c ≡ mean address s 0
IsAim destination s c = ⊥

-- the condition of the branch at the root of a test's cover
abbrev pub condition_of : StockModel → CoverModel → ExprModel
condition_of stock (use_form k ps cs) = (form_at stock k).value

-- after the steps from s, in the state t, the aim has the value
abbrev pub HasValue : StockModel → DestinationModel → ExprModel → CoverModel → State → State → Type 0
HasValue stock (cell address) tree cover s t = slice_index t.cells address ≡ mean tree s 0
HasValue stock (stored address) tree cover s t = slice_index t.cells (mean address s 0) ≡ mean tree s 0
HasValue stock tested tree cover s t = mean (condition_of stock cover) t (branch_setting stock tree cover) ≡ mean tree s 0
HasValue stock destination tree cover s t = Unit {0}

-- the steps, done one after the other from s, leave the tree's value at its aim, and change no
-- other cell from the temporary ones on
pub record LeaveValue (stock : StockModel) (file_storage : Option ℕ) (patterns : List Pattern) (destination : DestinationModel)
    (tree : ExprModel) (cover : CoverModel) (s : State) : Type 0 where
  pub value : HasValue stock destination tree cover s
      (steps_effect (operation_of file_storage patterns) (cover_steps stock destination tree cover) s)
  pub others : (c : ℕ) → stock.temps ≤ c → (IsAim destination s c → ⊥)
      → slice_index (steps_effect (operation_of file_storage patterns) (cover_steps stock destination tree cover) s).cells c
      ≡ slice_index s.cells c
  pub regs : length (steps_effect (operation_of file_storage patterns) (cover_steps stock destination tree cover) s).regs
      ≡ length s.regs
  pub cells : length (steps_effect (operation_of file_storage patterns) (cover_steps stock destination tree cover) s).cells
      ≡ length s.cells
  pub file : length (steps_effect (operation_of file_storage patterns) (cover_steps stock destination tree cover) s).file
      ≡ length s.file
