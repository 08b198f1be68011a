-- Orderly covers of a tree, and the one that is chosen. Covers as plain values, orderly ones,
-- which of two comes first, and the first of least cost. The *need* of a cover is the greatest
-- number of cells of the register file that are taken at one time: 1 for a form that writes the
-- file, and while an operand is computed one for each operand in the file before it in the order.
-- Cuts are stored before any operand, so a cut's need is its own. A job is covered where neither
-- the cover nor one of its cuts needs more cells than the file has (`enough`); without a file the
-- need is 0.
use Rattle.std.specs.Prelude.{ℕ, ◌+◌, ◌<◌, ◌≤◌, ◌≡◌, max, ◌⊎◌, Bool, true, false, List, [], ◌∷◌, Option, Some, None, slice_get, remove, bit_or, bit_and, ◌^◌}
use Rattle.net_model.specs.Exprs.{ExprModel}
use Rattle.form_model.specs.declared.forms.Form.{Form}
use Rattle.form_model.specs.Forms.{FormModel, models_of_forms, GoalModel, into_reg, into_memory, into_file, jumps, branches, DestinationModel, into, filed, temporary, tested}
use Rattle.form_model.specs.Matches.{HomeModel, in_register, in_file, LeafModel, operand, cut, MatchModel, taken}
use Rattle.form_model.specs.CoverModels.{CoverModel, use_form, CoverOperandsModel, no_operands, operand_then, CoverCutsModel, no_cuts, cut_then, cost, operands_cost, cuts_cost}

-- ---- leaves: operands and cuts apart, each from left to right

-- an operand: its home, its tree, and whether it is whole
pub record Operand : Type 0 where
  pub home : HomeModel
  pub tree : ExprModel
  pub whole : Bool

abbrev pub operands_of : List LeafModel → List Operand
operands_of [] = []
operands_of (operand home tree whole ∷ leaves) = record { home = home; tree = tree; whole = whole } ∷ operands_of leaves
operands_of (cut shape tree ∷ leaves) = operands_of leaves

abbrev pub cuts_of : List LeafModel → List ExprModel
cuts_of [] = []
cuts_of (operand home tree whole ∷ leaves) = cuts_of leaves
cuts_of (cut shape tree ∷ leaves) = tree ∷ cuts_of leaves

-- where an operand's cover goes
abbrev pub home_destination : HomeModel → DestinationModel
home_destination (in_register id) = into id
home_destination (in_file shape) = filed

-- the set of its register; a cell of the file is in no set of registers
abbrev pub home_set : HomeModel → ℕ
home_set (in_register id) = 2 ^ id
home_set (in_file shape) = 0

-- how many cells of the file it takes
abbrev pub home_cells : HomeModel → ℕ
home_cells (in_register id) = 0
home_cells (in_file shape) = 1

-- ---- the registers that a cover writes

abbrev pub form_clobbers : Option FormModel → ℕ
form_clobbers None = 0
form_clobbers (Some form) = form.clobbers

-- the clobbers of the form and of the operands' covers; cuts are stored before, so what they write
-- doesn't count
abbrev mutual
  pub written : List FormModel → CoverModel → ℕ
  written forms (use_form k ps cs) = bit_or (form_clobbers (slice_get forms k)) (all_written forms ps)

  pub all_written : List FormModel → CoverOperandsModel → ℕ
  all_written forms no_operands = 0
  all_written forms (operand_then i p ps) = bit_or (written forms p) (all_written forms ps)

-- ---- the cells of the file that a cover needs

-- 1 for a form that writes the file
abbrev pub cells_of_goal : GoalModel → ℕ
cells_of_goal (into_reg id) = 0
cells_of_goal into_memory = 0
cells_of_goal into_file = 1
cells_of_goal (jumps reach) = 0
cells_of_goal (branches when_one to) = 0

abbrev pub form_cells : Option FormModel → ℕ
form_cells None = 0
form_cells (Some form) = cells_of_goal form.goal

-- the cells of the file in which the cover leaves its value: an operand's cover leaves it in the
-- operand's home
abbrev pub left_cells : List FormModel → CoverModel → ℕ
left_cells forms (use_form k ps cs) = form_cells (slice_get forms k)

-- the greatest number of cells of the file that are taken at one time: while an operand is
-- computed, those before it in the order stay in theirs. Cuts are stored before
abbrev mutual
  pub need : List FormModel → CoverModel → ℕ
  need forms (use_form k ps cs) = max (form_cells (slice_get forms k)) (operands_need forms ps)

  pub operands_need : List FormModel → CoverOperandsModel → ℕ
  operands_need forms no_operands = 0
  operands_need forms (operand_then i p ps) =
      max (need forms p) (left_cells forms p + operands_need forms ps)

-- ---- orderly covers

-- what a netlist and a program give: the forms in order, the number of temporary cells, and that of
-- the file's cells, 0 where there is no file
pub record StockModel : Type 0 where
  pub forms : List FormModel
  pub temps : ℕ
  pub file : ℕ

-- what the code's forms, so many temporary cells and a file of so many cells give
abbrev pub stock_with : List Form → ℕ → ℕ → StockModel
stock_with forms temps file = record { forms = models_of_forms forms; temps = temps; file = file }

abbrev mutual
  -- the cover is an orderly one of a tree that goes to a destination
  pub IsOrderly : StockModel → DestinationModel → ExprModel → Bool → CoverModel → Type 0
  IsOrderly stock destination tree whole (use_form k ps cs) =
      (form : FormModel) × (slice_get stock.forms k ≡ Some form)
      × (found : MatchModel) × (taken stock.temps form destination tree whole ≡ Some found)
      × AreOrderly stock (operands_of found.leaves) ps × AreCut stock (cuts_of found.leaves) cs

  -- each operand has an orderly cover into its home, and no later one writes an earlier one's
  -- register
  pub AreOrderly : StockModel → List Operand → CoverOperandsModel → Type 0
  AreOrderly stock left no_operands = left ≡ []
  AreOrderly stock left (operand_then i p ps) =
      (o : Operand) × (slice_get left i ≡ Some o) × IsOrderly stock (home_destination o.home) o.tree o.whole p
      × (bit_and (all_written stock.forms ps) (home_set o.home) ≡ 0) × AreOrderly stock (remove left i) ps

  -- each cut has an orderly cover into a temporary cell, for which the file is large enough
  pub AreCut : StockModel → List ExprModel → CoverCutsModel → Type 0
  AreCut stock cuts no_cuts = cuts ≡ []
  AreCut stock cuts (cut_then p cs) =
      (tree : ExprModel) × (later : List ExprModel) × (cuts ≡ tree ∷ later)
      × IsOrderly stock temporary tree false p × (need stock.forms p ≤ stock.file) × AreCut stock later cs

-- ---- which of two covers comes first

-- by the form's place, then the order of the operands, then their covers in that order, then the
-- cuts'

abbrev mutual
  pub IsBefore : CoverModel → CoverModel → Type 0
  IsBefore (use_form k ps cs) (use_form l qs ds) =
      (k < l) ⊎ ((k ≡ l) × (IsSooner ps qs ⊎ ((SamePlaces ps qs) × (AreBefore ps qs ⊎ ((ps ≡ qs) × CutsBefore cs ds)))))

  pub AreBefore : CoverOperandsModel → CoverOperandsModel → Type 0
  AreBefore (operand_then i p ps) (operand_then j q qs) = IsBefore p q ⊎ ((p ≡ q) × AreBefore ps qs)
  AreBefore _ _ = ⊥

  pub CutsBefore : CoverCutsModel → CoverCutsModel → Type 0
  CutsBefore (cut_then p cs) (cut_then q ds) = IsBefore p q ⊎ ((p ≡ q) × CutsBefore cs ds)
  CutsBefore _ _ = ⊥

  -- the order as a list of places; the place among those that are left compares as the place from
  -- the left does
  pub IsSooner : CoverOperandsModel → CoverOperandsModel → Type 0
  IsSooner (operand_then i p ps) (operand_then j q qs) = (i < j) ⊎ ((i ≡ j) × IsSooner ps qs)
  IsSooner _ _ = ⊥

  pub SamePlaces : CoverOperandsModel → CoverOperandsModel → Type 0
  SamePlaces no_operands no_operands = Unit {0}
  SamePlaces (operand_then i p ps) (operand_then j q qs) = (i ≡ j) × SamePlaces ps qs
  SamePlaces _ _ = ⊥

-- ---- jobs: a tree, or one of two, that goes to a destination

-- a cover of a job: which tree is used, and its cover
pub record JobCoverModel : Type 0 where
  pub which : ℕ
  pub cover : CoverModel

pub record Covers (stock : StockModel) (destination : DestinationModel) (trees : List ExprModel) (choice : JobCoverModel) : Type 0 where
  pub tree : ExprModel
  pub used : slice_get trees choice.which ≡ Some tree
  pub orderly : IsOrderly stock destination tree true choice.cover
  pub enough : need stock.forms choice.cover ≤ stock.file

abbrev pub ChoiceBefore : JobCoverModel → JobCoverModel → Type 0
ChoiceBefore a b = (a.which < b.which) ⊎ ((a.which ≡ b.which) × IsBefore a.cover b.cover)

-- the cost without the form's own 1
abbrev pub parts_cost : CoverModel → ℕ
parts_cost (use_form k ps cs) = operands_cost ps + cuts_cost cs

-- the cost of a job's cover; a test's leaves out its branch word
abbrev pub job_cost : DestinationModel → CoverModel → ℕ
job_cost tested cover = parts_cost cover
job_cost destination cover = cost cover

-- the first of the orderly covers of least cost
pub record IsChosen (stock : StockModel) (destination : DestinationModel) (trees : List ExprModel) (choice : JobCoverModel) : Type 0 where
  pub covers : Covers stock destination trees choice
  pub first : (other : JobCoverModel) → Covers stock destination trees other →
      (cost choice.cover < cost other.cover)
      ⊎ ((cost choice.cover ≡ cost other.cover) × ((choice ≡ other) ⊎ ChoiceBefore choice other))

-- no tree of the job has an orderly cover
pub record HasNoCover (stock : StockModel) (destination : DestinationModel) (trees : List ExprModel) : Type 0 where
  pub none : (choice : JobCoverModel) → Covers stock destination trees choice → ⊥
