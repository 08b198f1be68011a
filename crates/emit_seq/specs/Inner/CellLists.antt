-- The cells of a match's leaves, told leaf by leaf from the left.
use Rattle.std.specs.Prelude.{◌≡◌, ◌<◌, ◌≤◌, ℕ, List, ◌++◌, length, drop, map}
use Rattle.net_model.specs.Exprs.{ExprModel}
use Rattle.form_model.specs.Covers.{StockModel, Operand}
use Rattle.form_model.specs.CoverModels.{CoverModel, use_form, CoverOperandsModel, no_operands, operand_then}
use Rattle.form_model.specs.Matches.{LeafModel}
use Rattle.form_model.specs.Steps.{OperandCellsModel, CutCellsModel, operand_cells, operand_counts, cut_cells}
use Rattle.emit_seq.specs.declared.cells.MatchCells.{MatchCells}
use Rattle.emit_seq.specs.Models.{models_of_operand_cells, models_of_cut_cells}

-- the operands and cuts of the first leaves have their cells, and n is the first cell of the rest
pub record HaveCells (leaves : List LeafModel) (ks ls : List ℕ) (first : ℕ) (operands : List OperandCellsModel)
    (cuts : List CutCellsModel) (rest : List LeafModel) (n : ℕ) : Type 0 where
  pub operands_are : operand_cells leaves ks ls first
      ≡ operands ++ operand_cells rest (drop (length operands) ks) (drop (length cuts) ls) n
  pub cuts_are : cut_cells leaves ks ls first
      ≡ cuts ++ cut_cells rest (drop (length operands) ks) (drop (length cuts) ls) n

-- the operands and the trees of the cuts, without their cells
abbrev pub operands_in : List OperandCellsModel → List Operand
operands_in left = map (λ (cells : OperandCellsModel). cells.operand) left

abbrev pub trees_in : List CutCellsModel → List ExprModel
trees_in cuts = map (λ (cells : CutCellsModel). cells.tree) cuts

-- each operand has its place among those that are left
abbrev pub ArePlaces : CoverOperandsModel → Type 0
ArePlaces no_operands = Unit {0}
ArePlaces (operand_then i p ps) = (i ≤ length (operand_counts ps)) × ArePlaces ps

-- the forms of a cover and of its operands' covers are listed, and each operand has its place among
-- those that are left
abbrev mutual
  pub IsListed : StockModel → CoverModel → Type 0
  IsListed stock (use_form k ps cs) = (k < length stock.forms) × AreListed stock ps

  pub AreListed : StockModel → CoverOperandsModel → Type 0
  AreListed stock no_operands = Unit {0}
  AreListed stock (operand_then i p ps) = (i ≤ length (operand_counts ps)) × IsListed stock p × AreListed stock ps

-- the cells of all operands and cuts
pub record AreMatchCells (leaves : List LeafModel) (ks ls : List ℕ) (first : ℕ) (cells : MatchCells) : Type 0 where
  pub operands : models_of_operand_cells cells.operands.items ≡ operand_cells leaves ks ls first
  pub cuts : models_of_cut_cells cells.cuts.items ≡ cut_cells leaves ks ls first
