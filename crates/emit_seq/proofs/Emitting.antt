-- The code's lists of operands and cuts against the definition's.
use Rattle.std.proofs.Common.{◌≡◌, ℕ, ◌+◌, ◌<◌, List, length, drop, bit_or, get_or, Some, sym, ap, ◌∙◌}
use Rattle.std.specs.Prelude.{remove}
use Rattle.std.specs.Option.{option_map}
use Rattle.std.proofs.lemmas.Option.{slice_get-map, slice_get-get_or}
use Rattle.net_model.specs.Exprs.{model_of_expr}
use Rattle.form_model.specs.Shapes.{shape_setting}
use Rattle.form_model.specs.Steps.{bits_or_none, cells_setting}
use Rattle.emit_seq.specs.declared.cells.CutCells.{CutCells}
use Rattle.emit_seq.specs.declared.cells.OperandCells.{OperandCells}
use Rattle.emit_seq.specs.Models.{models_of_cut_cells, model_of_operand_cells, models_of_operand_cells}
use Rattle.emit_seq.specs.Emits.{IsTakenOut}
use Rattle.emit_seq.proofs.BitUnions.{or_assoc}
use Rattle.emit_seq.proofs.Places.{drop_item}
use Rattle.form_model.proofs.Zips.{map-remove}

-- an operand that is taken out of the list
pub taken_out : (xs ys : List OperandCells) (i : ℕ) (x : OperandCells) → x ≡ get_or xs i x → ys ≡ remove xs i → i < length xs
    → IsTakenOut (models_of_operand_cells xs) i (model_of_operand_cells x) (models_of_operand_cells ys)
taken_out xs ys i x e h l = record {
  at = slice_get-map model_of_operand_cells xs i ∙ ap (λ z. option_map model_of_operand_cells z) (slice_get-get_or xs i x l ∙ ap (λ (z : OperandCells). Some z) (sym e));
  rest = ap (λ z. models_of_operand_cells z) h ∙ map-remove model_of_operand_cells xs i;
}

-- the bits of one cut more
pub cut_joined : (cuts : List CutCells) (k : ℕ) (cut : CutCells) (before bits all : ℕ) → cut ≡ get_or cuts k cut → k < length cuts
    → bits ≡ bits_or_none (shape_setting (model_of_expr cut.shape.now) cut.cell) → bit_or before (cells_setting (models_of_cut_cells (drop k cuts))) ≡ all
    → bit_or (bit_or before bits) (cells_setting (models_of_cut_cells (drop (k + 1) cuts))) ≡ all
cut_joined cuts k cut before bits all e l b h =
    or_assoc before bits (cells_setting (models_of_cut_cells (drop (k + 1) cuts)))
    ∙ ap (λ n. bit_or before (bit_or n (cells_setting (models_of_cut_cells (drop (k + 1) cuts))))) b
    ∙ ap (λ z. bit_or before (cells_setting (models_of_cut_cells z))) (sym (drop_item cuts k cut e l))
    ∙ h
