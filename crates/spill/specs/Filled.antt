-- The cells that the steps of a cover fill, in the order in which they are filled: where the steps
-- put a cut into its cell, its cell stands.
use Rattle.std.specs.Prelude.{ℕ, Bool, false, List, [], ◌∷◌, ◌++◌, slice_get, remove, insert, drop}
use Rattle.net_model.specs.Exprs.{ExprModel}
use Rattle.form_model.specs.Forms.{DestinationModel, temporary}
use Rattle.form_model.specs.Matches.{LeafModel, operand, cut}
use Rattle.form_model.specs.CoverModels.{CoverModel, use_form, CoverOperandsModel, no_operands, operand_then, CoverCutsModel, no_cuts, cut_then}
use Rattle.form_model.specs.Covers.{StockModel, home_destination}
use Rattle.form_model.specs.Steps.{OperandCellsModel, CutCellsModel, cover_operand_cells, cover_cut_cells, operand_cells_or_none, cut_cells_or_none, match_at}

abbrev pub first_cells : List (List ℕ) → List ℕ
first_cells [] = []
first_cells (cells ∷ rest) = cells

-- the cells inside the operands and those of the form's own cuts, joined in the order of the leaves
abbrev pub woven_cells : List LeafModel → List (List ℕ) → List (List ℕ) → List ℕ
woven_cells [] of_operands of_cuts = []
woven_cells (operand home tree whole ∷ leaves) of_operands of_cuts =
    first_cells of_operands ++ woven_cells leaves (drop 1 of_operands) of_cuts
woven_cells (cut shape tree ∷ leaves) of_operands of_cuts =
    first_cells of_cuts ++ woven_cells leaves of_operands (drop 1 of_cuts)

abbrev mutual
  -- those of a cover of a tree that goes to a destination, where n is the first cell
  pub filled_cells : StockModel → CoverModel → ℕ → DestinationModel → ExprModel → Bool → List ℕ
  filled_cells stock (use_form k ps cs) n destination tree whole =
      woven_cells (match_at stock k destination tree whole).leaves
      (filled_in_operands stock ps (cover_operand_cells (match_at stock k destination tree whole).leaves ps cs n))
      (filled_by_cuts stock cs (cover_cut_cells (match_at stock k destination tree whole).leaves ps cs n))

  -- for each operand, from left to right, those inside it
  pub filled_in_operands : StockModel → CoverOperandsModel → List OperandCellsModel → List (List ℕ)
  filled_in_operands stock no_operands left = []
  filled_in_operands stock (operand_then i p ps) left =
      insert (filled_in_operands stock ps (remove left i)) i
      (filled_cells stock p (operand_cells_or_none (slice_get left i)).first
      (home_destination (operand_cells_or_none (slice_get left i)).operand.home)
      (operand_cells_or_none (slice_get left i)).operand.tree
      (operand_cells_or_none (slice_get left i)).operand.whole)

  -- for each of the form's own cuts, those inside it, and then its own
  pub filled_by_cuts : StockModel → CoverCutsModel → List CutCellsModel → List (List ℕ)
  filled_by_cuts stock no_cuts cuts = []
  filled_by_cuts stock (cut_then p cs) cuts =
      (filled_cells stock p (cut_cells_or_none (slice_get cuts 0)).first temporary
      (cut_cells_or_none (slice_get cuts 0)).tree false
      ++ ((cut_cells_or_none (slice_get cuts 0)).cell ∷ []))
      ∷ filled_by_cuts stock cs (drop 1 cuts)
