-- What is known of a job's addresses where the program runs it. All of them lie in the memory and
-- behind the temporary cells; and each address that isn't a literal is that of an element of the
-- array to whose first cell the index is added. So no such address is that of a plain variable.
use Rattle.std.specs.Prelude.{ℕ, ◌+◌, ◌≡◌, ◌≤◌, ◌<◌, true, List, [], ◌∷◌, Option, Some, None, slice_get}
use Rattle.net_model.specs.Exprs.{ExprModel, word, reg, const, read, un, bin, slice, cat, zext, sext, select}
use Rattle.src_model.specs.declared.checkpoint.Checkpoint.{Checkpoint}
use Rattle.src_model.specs.declared.checkpoint.Checkpoint.TheVariants.{At, End}
use Rattle.src_model.specs.declared.program.Var.{Var as Declared}
use Rattle.src_model.specs.Names.{declared, is_array}
use Rattle.src_model.specs.Indexes.{length_of}
use Rattle.form_model.specs.Forms.{DestinationModel, into, cell, filed, stored, temporary, tested}
use Rattle.src_trees.specs.Lowered.{MemoryMap, JobModel, base_of}
use Rattle.src_trees.specs.Seen.{tree_value}
use Rattle.src_trees.specs.Doing.{Lies, done}

-- the number that the tree of an address adds last: the address of an array's first cell
abbrev pub base_in : ExprModel → ℕ
base_in (word w) = 0
base_in (reg r w) = 0
base_in (const w v) = v
base_in (read space a w) = 0
base_in (un o a) = 0
base_in (bin o a b) = base_in b
base_in (slice a hi lo) = base_in a
base_in (cat a b) = 0
base_in (zext a w) = 0
base_in (sext a w) = 0
base_in (select c a b) = 0

-- the address of an element of the array whose first cell has this address
pub record IsElement (m : MemoryMap) (vars : List Declared) (base address : ℕ) : Type 0 where
  pub name : List ℕ
  pub array : is_array (declared vars name) ≡ true
  pub first : base_of m.places name ≡ base
  pub behind : base ≤ address
  pub within : address < base + length_of (declared vars name)

-- an address that is no literal is that of an element
abbrev pub IsLiteralOrElement : MemoryMap → List Declared → List ℕ → ExprModel → Type 0
IsLiteralOrElement m vars cells (const w v) = Unit {0}
IsLiteralOrElement m vars cells (word w) = IsElement m vars 0 0
IsLiteralOrElement m vars cells (reg r w) = IsElement m vars 0 (tree_value cells (reg r w))
IsLiteralOrElement m vars cells (read space a w) = IsElement m vars 0 (tree_value cells (read space a w))
IsLiteralOrElement m vars cells (un o a) = IsElement m vars 0 (tree_value cells (un o a))
IsLiteralOrElement m vars cells (bin o a b) = IsElement m vars (base_in b) (tree_value cells (bin o a b))
IsLiteralOrElement m vars cells (slice a hi lo) = IsElement m vars (base_in a) (tree_value cells (slice a hi lo))
IsLiteralOrElement m vars cells (cat a b) = IsElement m vars 0 (tree_value cells (cat a b))
IsLiteralOrElement m vars cells (zext a w) = IsElement m vars 0 (tree_value cells (zext a w))
IsLiteralOrElement m vars cells (sext a w) = IsElement m vars 0 (tree_value cells (sext a w))
IsLiteralOrElement m vars cells (select c a b) = IsElement m vars 0 (tree_value cells (select c a b))

-- the tree reads literal addresses and elements alone
abbrev pub ReadsElements : MemoryMap → List Declared → List ℕ → ExprModel → Type 0
ReadsElements m vars cells (word w) = Unit {0}
ReadsElements m vars cells (reg r w) = Unit {0}
ReadsElements m vars cells (const w v) = Unit {0}
ReadsElements m vars cells (read space a w) = ReadsElements m vars cells a × IsLiteralOrElement m vars cells a
ReadsElements m vars cells (un o a) = ReadsElements m vars cells a
ReadsElements m vars cells (bin o a b) = ReadsElements m vars cells a × ReadsElements m vars cells b
ReadsElements m vars cells (slice a hi lo) = ReadsElements m vars cells a
ReadsElements m vars cells (cat a b) = ReadsElements m vars cells a × ReadsElements m vars cells b
ReadsElements m vars cells (zext a w) = ReadsElements m vars cells a
ReadsElements m vars cells (sext a w) = ReadsElements m vars cells a
ReadsElements m vars cells (select c a b) =
    ReadsElements m vars cells c × ReadsElements m vars cells a × ReadsElements m vars cells b

abbrev pub AllReadElements : MemoryMap → List Declared → List ℕ → List ExprModel → Type 0
AllReadElements m vars cells [] = Unit {0}
AllReadElements m vars cells (t ∷ trees) = ReadsElements m vars cells t × AllReadElements m vars cells trees

-- a destination whose address isn't a literal is an element
abbrev pub GoesToElement : MemoryMap → List Declared → List ℕ → DestinationModel → Type 0
GoesToElement m vars cells (cell address) = Unit {0}
GoesToElement m vars cells (stored address) =
    ReadsElements m vars cells address × IsLiteralOrElement m vars cells address
GoesToElement m vars cells (into id) = Unit {0}
GoesToElement m vars cells temporary = Unit {0}
GoesToElement m vars cells filed = Unit {0}
GoesToElement m vars cells tested = Unit {0}

-- a job whose addresses lie where they should
pub record IsSafe (m : MemoryMap) (temps : ℕ) (vars : List Declared) (cells : List ℕ) (job : JobModel) : Type 0 where
  pub lies : Lies temps cells job
  pub reads : AllReadElements m vars cells job.trees
  pub writes : GoesToElement m vars cells job.destination

-- jobs one after the other
abbrev pub AreSafe : MemoryMap → ℕ → List Declared → List ℕ → List JobModel → Type 0
AreSafe m temps vars cells [] = Unit {0}
AreSafe m temps vars cells (job ∷ later) =
    IsSafe m temps vars cells job × AreSafe m temps vars (done job cells) later

-- where a checkpoint is a test's, the job of the test is safe
abbrev pub IsTestSafe : MemoryMap → ℕ → List Declared → List JobModel → Option Checkpoint → List ℕ → Type 0
IsTestSafe m temps vars jobs None cells = Unit {0}
IsTestSafe m temps vars jobs (Some End) cells = Unit {0}
IsTestSafe m temps vars jobs (Some (At tree)) cells =
    (job : JobModel) → slice_get jobs tree ≡ Some job → IsSafe m temps vars cells job
