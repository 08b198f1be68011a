-- The trees of a program, over the places of its variables in memory. The trees of a program over
-- a memory map, which is the width of a cell, that of an address, and the variables' places. A
-- literal is as wide as its place asks. An element at a number alone is a read at a literal
-- address; any other is read at the sum of the index and the array's address, in a cell's width,
-- of which the low bits are taken where addresses are narrower. A `JobModel` is a job as a plain
-- value: a destination and its trees. A test for equality has two trees, of the two sides and of
-- their difference with 0.
use Rattle.std.specs.Prelude.{ℕ, ◌+◌, ◌-◌, nat_lt, if◌then◌else◌, Bool, true, false, not, List, [], ◌∷◌, ◌++◌, Option, Some, None}
use Rattle.rec_bits.specs.declared.operator.Op2.TheVariants.{Add, Sub, Eq as Equal, Ltu, Lts}
use Rattle.net_model.specs.declared.hardware.Space.TheVariants.{Memory as InMemory}
use Rattle.net_model.specs.Exprs.{ExprModel, const, read, un, bin, slice, zext, sext}
use Rattle.src_model.specs.declared.program.Cmp.{Cmp}
use Rattle.src_model.specs.declared.program.Cmp.TheVariants.{Eq, Ne, Lt, Le, Gt, Ge, Slt, Sle, Sgt, Sge}
use Rattle.src_model.specs.Written.{SrcNodeModel, num, plain, element, un as un_of, bin as bin_of, zext as zext_of, sext as sext_of, low, SrcExprModel, SpotModel, SrcTestModel, StmtModel, assign, choice, while, count, StmtsModel, no_acts, act, ElseModel, without, otherwise}
use Rattle.rec_bits.specs.Faults.{same_name}
use Rattle.src_model.specs.Indexes.{number_of}
use Rattle.src_model.specs.Meaning.{operand_width}
use Rattle.code_model.specs.declared.image.Place.{Place as VariablePlace}
use Rattle.form_model.specs.Forms.{DestinationModel, cell, stored, tested}

-- what trees know of the data memory: the bits of a cell and of an address, and the places of the
-- variables
pub record MemoryMap : Type 0 where
  pub word : ℕ
  pub addr : ℕ
  pub places : List VariablePlace

-- the address of the first cell of a variable
abbrev pub base_of : List VariablePlace → List ℕ → ℕ
base_of [] name = 0
base_of (p ∷ rest) name = if same_name name p.name then p.address else base_of rest name

-- ---- expressions

-- a value of a word's width as an address: its low bits, where addresses are narrower
abbrev pub narrowed : MemoryMap → ExprModel → ExprModel
narrowed m t = if nat_lt m.addr m.word then slice t (m.addr - 1) 0 else t

-- the address of an array's element at a computed index
abbrev pub computed_address : MemoryMap → List ℕ → ExprModel → ExprModel
computed_address m name index = narrowed m (bin Add index (const m.word (base_of m.places name)))

-- the address of an array's element: a literal where the index is one
abbrev pub element_address : MemoryMap → List ℕ → Option ℕ → ExprModel → ExprModel
element_address m name (Some n) index = const m.addr (base_of m.places name + n)
element_address m name None index = computed_address m name index

-- the tree of an expression, given the width asked of a literal
abbrev pub tree_of : MemoryMap → ℕ → SrcNodeModel → ExprModel
tree_of m asked (num n) = const asked n
tree_of m asked (plain name at) = read InMemory (const m.addr (base_of m.places name)) m.word
tree_of m asked (element name at to x) = read InMemory (element_address m name (number_of x) (tree_of m m.word x)) m.word
tree_of m asked (un_of op at x) = un op (tree_of m asked x)
tree_of m asked (bin_of op at x to y) =
    bin op (tree_of m (operand_width m.word x y) x) (tree_of m (operand_width m.word x y) y)
tree_of m asked (zext_of at x width) = zext (tree_of m m.word x) width
tree_of m asked (sext_of at x width) = sext (tree_of m m.word x) width
tree_of m asked (low at x width) = slice (tree_of m m.word x) (width - 1) 0

-- ---- jobs

-- a job: its trees, and where their value goes
pub record JobModel : Type 0 where
  pub destination : DestinationModel
  pub trees : List ExprModel

-- where an assignment puts its value
abbrev pub element_destination : MemoryMap → List ℕ → Option ℕ → ExprModel → DestinationModel
element_destination m name (Some n) index = cell (base_of m.places name + n)
element_destination m name None index = stored (computed_address m name index)

abbrev pub assigned_destination : MemoryMap → List ℕ → Option SrcExprModel → DestinationModel
assigned_destination m name None = cell (base_of m.places name)
assigned_destination m name (Some x) = element_destination m name (number_of x.shape) (tree_of m m.word x.shape)

abbrev pub job_of_assign : MemoryMap → SpotModel → SrcExprModel → JobModel
job_of_assign m place e = record {
  destination = assigned_destination m place.name place.index;
  trees = tree_of m m.word e.shape ∷ [];
}

-- the trees of a comparison of two values of this width; one for equality has a second, which
-- compares their difference with 0
abbrev pub compared_trees : Cmp → ℕ → ExprModel → ExprModel → List ExprModel
compared_trees Eq width x y = bin Equal x y ∷ bin Equal (bin Sub x y) (const width 0) ∷ []
compared_trees Ne width x y = bin Equal x y ∷ bin Equal (bin Sub x y) (const width 0) ∷ []
compared_trees Lt width x y = bin Ltu x y ∷ []
compared_trees Ge width x y = bin Ltu x y ∷ []
compared_trees Gt width x y = bin Ltu y x ∷ []
compared_trees Le width x y = bin Ltu y x ∷ []
compared_trees Slt width x y = bin Lts x y ∷ []
compared_trees Sge width x y = bin Lts x y ∷ []
compared_trees Sgt width x y = bin Lts y x ∷ []
compared_trees Sle width x y = bin Lts y x ∷ []

-- whether a test holds where its tree is 1, or where it is 0
abbrev pub holds_at_one : Cmp → Bool
holds_at_one Eq = true
holds_at_one Ne = false
holds_at_one Lt = true
holds_at_one Ge = false
holds_at_one Gt = true
holds_at_one Le = false
holds_at_one Slt = true
holds_at_one Sge = false
holds_at_one Sgt = true
holds_at_one Sle = false

-- whether the tree of a test is 1, given whether the test holds
abbrev pub answer : Cmp → Bool → Bool
answer cmp holds = if holds_at_one cmp then holds else not holds

abbrev pub job_of_compare : MemoryMap → Cmp → SrcNodeModel → SrcNodeModel → JobModel
job_of_compare m cmp x y = record {
  destination = tested;
  trees = compared_trees cmp (operand_width m.word x y) (tree_of m (operand_width m.word x y) x)
      (tree_of m (operand_width m.word x y) y);
}

abbrev pub job_of_test : MemoryMap → SrcTestModel → JobModel
job_of_test m test = job_of_compare m test.cmp test.left.shape test.right.shape

-- the three jobs of a `for`: the counter is set, compared with the number past the last one, and 1
-- is added to it
abbrev pub job_of_start : MemoryMap → List ℕ → ℕ → JobModel
job_of_start m counter from = record { destination = cell (base_of m.places counter); trees = const m.word from ∷ [] }

abbrev pub job_of_counting : MemoryMap → List ℕ → ℕ → ℕ → JobModel
job_of_counting m counter at to = job_of_compare m Ne (plain counter at) (num (to + 1))

abbrev pub job_of_step : MemoryMap → List ℕ → JobModel
job_of_step m counter = record {
  destination = cell (base_of m.places counter);
  trees = bin Add (read InMemory (const m.addr (base_of m.places counter)) m.word) (const m.word 1) ∷ [];
}

abbrev mutual
  -- the jobs of a statement, in the order of the text
  pub stmt_jobs : MemoryMap → StmtModel → List JobModel
  stmt_jobs m (assign place e) = job_of_assign m place e ∷ []
  stmt_jobs m (choice test taken other) = job_of_test m test ∷ (jobs_in m taken ++ jobs_else m other)
  stmt_jobs m (while test body) = job_of_test m test ∷ jobs_in m body
  stmt_jobs m (count counter at from to body) =
      job_of_start m counter from
      ∷ (job_of_counting m counter at to ∷ (jobs_in m body ++ job_of_step m counter ∷ []))

  pub jobs_in : MemoryMap → StmtsModel → List JobModel
  jobs_in m no_acts = []
  jobs_in m (act a rest) = stmt_jobs m a ++ jobs_in m rest

  pub jobs_else : MemoryMap → ElseModel → List JobModel
  jobs_else m without = []
  jobs_else m (otherwise body) = jobs_in m body
