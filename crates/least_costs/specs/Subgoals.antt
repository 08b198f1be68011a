-- What is asked for, and covers that keep to limits.
use Rattle.std.specs.Prelude.{ℕ, ◌+◌, ◌-◌, ◌*◌, ◌^◌, ◌<◌, ◌≤◌, ◌≡◌, ◌==◌, ◌&&◌, Bool, false, if◌then◌else◌, List, [], ◌∷◌, Option, Some, None, slice_get, remove, bit_or, bit_and}
use Rattle.net_model.specs.Exprs.{ExprModel, size_of}
use Rattle.form_model.specs.Forms.{FormModel, DestinationModel, temporary}
use Rattle.form_model.specs.Matches.{HomeModel, LeafModel, operand, cut, MatchModel, taken}
use Rattle.form_model.specs.CoverModels.{CoverModel, use_form, CoverOperandsModel, no_operands, operand_then, CoverCutsModel, no_cuts, cut_then}
use Rattle.form_model.specs.Covers.{StockModel, Operand, operands_of, cuts_of, home_destination, home_set, home_cells, cells_of_goal}
use Rattle.least_costs.specs.declared.limits.Limits.{Limits}
use Rattle.least_costs.specs.declared.slots.Slot.{Slot}
use Rattle.least_costs.specs.declared.slots.Slot.TheVariants.{Register, File, Temporary}
use Rattle.least_costs.specs.Slots.{home_slot}

-- a tree that goes to a destination, and whether it is whole
pub record SubgoalModel : Type 0 where
  pub destination : DestinationModel
  pub tree : ExprModel
  pub whole : Bool

abbrev pub operand_subgoal : Operand → SubgoalModel
operand_subgoal o = record { destination = home_destination o.home; tree = o.tree; whole = o.whole }

abbrev pub cut_subgoal : ExprModel → SubgoalModel
cut_subgoal tree = record { destination = temporary; tree = tree; whole = false }

-- nothing to avoid, and the whole file to use
abbrev pub free : StockModel → Limits
free stock = record { avoid = 0; allowed = stock.file }

-- what the operands behind one with this home have to keep to: they don't write its register, or
-- have one cell of the file less
abbrev pub after : Limits → HomeModel → Limits
after limits home = record { avoid = bit_or limits.avoid (home_set home); allowed = limits.allowed - home_cells home }

-- a form with these clobbers that leaves its value in so many cells of the file keeps to the limits
abbrev pub KeepsTo : Limits → ℕ → ℕ → Type 0
KeepsTo limits clobbers cells = (bit_and clobbers limits.avoid ≡ 0) × (cells ≤ limits.allowed)

-- what a form takes of what is asked for
abbrev pub takes : StockModel → FormModel → SubgoalModel → Option MatchModel
takes stock form ask = taken stock.temps form ask.destination ask.tree ask.whole

abbrev mutual
  -- the cover is an orderly one that keeps to the limits
  pub IsSparing : StockModel → Limits → SubgoalModel → CoverModel → Type 0
  IsSparing stock limits ask (use_form k ps cs) =
      (form : FormModel) × (slice_get stock.forms k ≡ Some form) × KeepsTo limits form.clobbers (cells_of_goal form.goal)
      × (found : MatchModel) × (takes stock form ask ≡ Some found)
      × AreSparing stock limits (operands_of found.leaves) ps × AreStored stock (cuts_of found.leaves) cs

  -- each operand has such a cover, and those behind it spare its home too
  pub AreSparing : StockModel → Limits → List Operand → CoverOperandsModel → Type 0
  AreSparing stock limits left no_operands = left ≡ []
  AreSparing stock limits left (operand_then i p ps) =
      (o : Operand) × (slice_get left i ≡ Some o) × IsSparing stock limits (operand_subgoal o) p
      × AreSparing stock (after limits o.home) (remove left i) ps

  -- each cut has a cover into a temporary cell, which has nothing to avoid and the whole file
  pub AreStored : StockModel → List ExprModel → CoverCutsModel → Type 0
  AreStored stock cuts no_cuts = cuts ≡ []
  AreStored stock cuts (cut_then p cs) =
      (tree : ExprModel) × (later : List ExprModel) × (cuts ≡ tree ∷ later)
      × IsSparing stock (free stock) (cut_subgoal tree) p × AreStored stock later cs

-- ---- sizes

abbrev pub operands_size : List Operand → ℕ
operands_size [] = 0
operands_size (o ∷ os) = size_of o.tree + operands_size os

abbrev pub exprs_size : List ExprModel → ℕ
exprs_size [] = 0
exprs_size (t ∷ ts) = size_of t + exprs_size ts

-- so few trees that no least cost passes 64 bits: a tree of n subtrees that has a cover has one of at
-- most 36 n forms
abbrev pub AreFew : ℕ → Type 0
AreFew n = 36 * n + 18 < 2 ^ 64

-- nothing is to be avoided, and the whole of a file with so many cells may be used
abbrev pub is_free : ℕ → Limits → Bool
is_free file limits = (limits.avoid == 0) && (limits.allowed == file)

-- 0 there
abbrev pub rank : ℕ → Limits → ℕ
rank file limits = if is_free file limits then 0 else 1

-- the entry of the same tree, of this size, from which a match goes on: that of an operand's home,
-- or of a temporary cell, where all is free
abbrev pub rest : ℕ → Bool → List LeafModel → Option Slot
rest size free (operand home tree whole ∷ []) = if size_of tree == size then Some (home_slot home) else None
rest size free (cut shape tree ∷ []) = if free && (size_of tree == size) then Some Temporary else None
rest size free _ = None

-- the same from that where all is free: a home stays
abbrev pub start_under : Option Slot → Bool → Option Slot
start_under None free = None
start_under (Some (Register r)) free = Some (Register r)
start_under (Some File) free = Some File
start_under (Some Temporary) free = if free then Some Temporary else None
