-- Covers as plain values: which form covers a tree, and how its operands and cuts are covered.
use Rattle.std.specs.Prelude.{ℕ, ◌+◌}
use Rattle.form_model.specs.declared.covers.Cover.{Cover}
use Rattle.form_model.specs.declared.covers.CoverOperands.{CoverOperands}
use Rattle.form_model.specs.declared.covers.CoverOperands.TheVariants.{Empty as EndOfOperands, Then' as OperandThen}
use Rattle.form_model.specs.declared.covers.CoverCuts.{CoverCuts}
use Rattle.form_model.specs.declared.covers.CoverCuts.TheVariants.{Empty as EndOfCuts, Then' as CutThen}

-- the form's place in the list, its operands in the order of their evaluation, each with its place
-- from the left among those that are left, and its cuts from left to right
mutual
  pub data CoverModel : Type 0 where
    use_form : (form : ℕ) → CoverOperandsModel → CoverCutsModel → CoverModel

  pub data CoverOperandsModel : Type 0 where
    no_operands : CoverOperandsModel
    operand_then : (place : ℕ) → CoverModel → CoverOperandsModel → CoverOperandsModel

  pub data CoverCutsModel : Type 0 where
    no_cuts : CoverCutsModel
    cut_then : CoverModel → CoverCutsModel → CoverCutsModel

-- the model of the code's cover
abbrev mutual
  pub model_of_cover_operands : CoverOperands → CoverOperandsModel
  model_of_cover_operands EndOfOperands = no_operands
  model_of_cover_operands (OperandThen place p form operands cuts q rest) =
      operand_then place (use_form form (model_of_cover_operands operands) (model_of_cover_cuts cuts)) (model_of_cover_operands rest)

  pub model_of_cover_cuts : CoverCuts → CoverCutsModel
  model_of_cover_cuts EndOfCuts = no_cuts
  model_of_cover_cuts (CutThen p form operands cuts q rest) =
      cut_then (use_form form (model_of_cover_operands operands) (model_of_cover_cuts cuts)) (model_of_cover_cuts rest)

abbrev pub model_of_cover : Cover → CoverModel
model_of_cover cover = use_form cover.form (model_of_cover_operands cover.operands) (model_of_cover_cuts cover.cuts)

-- the cost: 1 for each form
abbrev mutual
  pub cost : CoverModel → ℕ
  cost (use_form k ps cs) = 1 + operands_cost ps + cuts_cost cs

  pub operands_cost : CoverOperandsModel → ℕ
  operands_cost no_operands = 0
  operands_cost (operand_then i p ps) = cost p + operands_cost ps

  pub cuts_cost : CoverCutsModel → ℕ
  cuts_cost no_cuts = 0
  cuts_cost (cut_then p cs) = cost p + cuts_cost cs
