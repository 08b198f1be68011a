-- What the code's parts of a cover stand for.
use Rattle.std.specs.Prelude.{List, map}
use Rattle.net_model.specs.Exprs.{model_of_expr}
use Rattle.form_model.specs.Covers.{StockModel, stock_with}
use Rattle.form_model.specs.Steps.{OperandCellsModel, CutCellsModel}
use Rattle.form_model.specs.Trees.{model_of_tree}
use Rattle.tree_grammar.specs.Leaves.{model_of_home}
use Rattle.emit_seq.specs.declared.cells.CutCells.{CutCells}
use Rattle.emit_seq.specs.declared.cells.OperandCells.{OperandCells}
use Rattle.emit_seq.specs.declared.roots.Stock.{Stock}

-- what covers are made of
abbrev pub model_of_stock : Stock → StockModel
model_of_stock stock = stock_with stock.forms.now stock.temps stock.file

-- an operand and a cut with their cells
abbrev pub model_of_operand_cells : OperandCells → OperandCellsModel
model_of_operand_cells c = record {
  operand = record { home = model_of_home c.home; tree = model_of_tree c.tree.now; whole = c.whole };
  first = c.first;
  past = c.past;
}

abbrev pub models_of_operand_cells : List OperandCells → List OperandCellsModel
models_of_operand_cells list = map model_of_operand_cells list

abbrev pub model_of_cut_cells : CutCells → CutCellsModel
model_of_cut_cells c = record { shape = model_of_expr c.shape.now; tree = model_of_tree c.tree.now; first = c.first; cell = c.cell }

abbrev pub models_of_cut_cells : List CutCells → List CutCellsModel
models_of_cut_cells list = map model_of_cut_cells list
