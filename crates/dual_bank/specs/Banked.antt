-- The jobs of a program over two memories: the address of an element at a computed index is within
-- its own memory, and that of an element in the bank 2^k above.
use Rattle.std.specs.Prelude.{ℕ, ◌+◌, ◌-◌, ◌%◌, ◌^◌, ◌≡◌, ◌<◌, ◌≤◌, nat_lt, if◌then◌else◌, List, [], ◌∷◌, map}
use Rattle.rec_bits.specs.declared.operator.Op2.TheVariants.{Add}
use Rattle.net_model.specs.declared.hardware.Space.TheVariants.{Memory as InMemory, File as InFile}
use Rattle.net_model.specs.Exprs.{ExprModel, word, reg, const, read, un, bin, slice, cat, zext, sext, select, expr_width}
use Rattle.form_model.specs.Forms.{DestinationModel, stored}
use Rattle.src_model.specs.Written.{ProgramModel}
use Rattle.code_model.specs.declared.image.Place.{Place as VariablePlace}
use Rattle.src_trees.specs.Flows.{program_jobs}
use Rattle.src_trees.specs.Lowered.{MemoryMap, JobModel}
use Rattle.src_trees.specs.Seen.{tree_value}

-- an address of k bits within the memory that has the cell `base`
abbrev pub in_memory : ℕ → ℕ → ExprModel → ExprModel
in_memory k base t = if nat_lt base (2 ^ k) then zext t (k + 1) else bin Add (zext t (k + 1)) (const (k + 1) (2 ^ k))

-- the sum of an index and the cell `base` at which its array begins
abbrev pub summed : ℕ → ℕ → ExprModel → ℕ → ExprModel
summed k width index base = in_memory k base (slice (bin Add index (const width (base % 2 ^ k))) (k - 1) 0)

-- an address of k + 1 bits of the joined memory; one that is a number stays
abbrev pub banked_address : ℕ → ExprModel → ExprModel
banked_address k (slice (bin Add index (const width base)) hi lo) = summed k width index base
banked_address k t = t

abbrev pub banked_tree : ℕ → ExprModel → ExprModel
banked_tree k (word w) = word w
banked_tree k (reg r w) = reg r w
banked_tree k (const w v) = const w v
banked_tree k (read InMemory a w) = read InMemory (banked_address k (banked_tree k a)) w
banked_tree k (read InFile a w) = read InFile (banked_tree k a) w
banked_tree k (un o a) = un o (banked_tree k a)
banked_tree k (bin o a b) = bin o (banked_tree k a) (banked_tree k b)
banked_tree k (slice a hi lo) = slice (banked_tree k a) hi lo
banked_tree k (cat a b) = cat (banked_tree k a) (banked_tree k b)
banked_tree k (zext a w) = zext (banked_tree k a) w
banked_tree k (sext a w) = sext (banked_tree k a) w
banked_tree k (select c a b) = select (banked_tree k c) (banked_tree k a) (banked_tree k b)

abbrev pub banked_destination : ℕ → DestinationModel → DestinationModel
banked_destination k (stored address) = stored (banked_address k (banked_tree k address))
banked_destination k destination = destination

abbrev pub job_of_banked : ℕ → JobModel → JobModel
job_of_banked k job = record {
  destination = banked_destination k job.destination;
  trees = map (banked_tree k) job.trees;
}

-- the joined memory, whose addresses have one bit more than the memory's
abbrev pub joined_memory : ℕ → ℕ → List VariablePlace → MemoryMap
joined_memory bits k places = record { word = bits; addr = k + 1; places = places }

-- the jobs of a program over both memories
abbrev pub jobs_of_banked : ℕ → MemoryMap → ProgramModel → List JobModel
jobs_of_banked k m l = map (job_of_banked k) (program_jobs m l)

-- ---- when each index lies in its array

-- an index stays in the memory in which its array begins: with the array's offset there it is below
-- 2^k; the address has k + 1 bits of a sum of wider words
pub record IndexLies (k : ℕ) (cells : List ℕ) (index : ExprModel) (width base hi lo : ℕ) : Type 0 where
  pub some : 1 ≤ k
  pub inside : tree_value cells index + base % 2 ^ k < 2 ^ k
  pub base_fits : base < 2 ^ (k + 1)
  pub wide : expr_width index ≡ width
  pub room : k + 2 ≤ width
  pub high : hi ≡ k
  pub low : lo ≡ 0

abbrev pub AddressLies : ℕ → List ℕ → ExprModel → Type 0
AddressLies k cells (slice (bin Add index (const width base)) hi lo) = IndexLies k cells index width base hi lo
AddressLies k cells t = Unit {0}

abbrev pub IndexesLie : ℕ → List ℕ → ExprModel → Type 0
IndexesLie k cells (read InMemory a w) = IndexesLie k cells a × AddressLies k cells a
IndexesLie k cells (read InFile a w) = IndexesLie k cells a
IndexesLie k cells (un o a) = IndexesLie k cells a
IndexesLie k cells (bin o a b) = IndexesLie k cells a × IndexesLie k cells b
IndexesLie k cells (slice a hi lo) = IndexesLie k cells a
IndexesLie k cells (cat a b) = IndexesLie k cells a × IndexesLie k cells b
IndexesLie k cells (zext a w) = IndexesLie k cells a
IndexesLie k cells (sext a w) = IndexesLie k cells a
IndexesLie k cells (select c a b) = IndexesLie k cells c × IndexesLie k cells a × IndexesLie k cells b
IndexesLie k cells _ = Unit {0}

abbrev pub AllIndexesLie : ℕ → List ℕ → List ExprModel → Type 0
AllIndexesLie k cells [] = Unit {0}
AllIndexesLie k cells (t ∷ trees) = IndexesLie k cells t × AllIndexesLie k cells trees

abbrev pub DestinationIndexesLie : ℕ → List ℕ → DestinationModel → Type 0
DestinationIndexesLie k cells (stored address) = IndexesLie k cells address × AddressLies k cells address
DestinationIndexesLie k cells destination = Unit {0}

pub record JobIndexesLie (k : ℕ) (cells : List ℕ) (job : JobModel) : Type 0 where
  pub trees : AllIndexesLie k cells job.trees
  pub destination : DestinationIndexesLie k cells job.destination
