use Rattle.std.proofs.Common.{drop}
use Rattle.tree_grammar.specs.Leaves.{models_of_leaves}
use Rattle.emit_seq.specs.Inner.CellLists.{HaveCells}
use Rattle.emit_seq.specs.Models.{models_of_cut_cells, models_of_operand_cells}
use Rattle.emit_seq.proofs.cells.match_cells.Given as goal

abbrev pub invariant-loop-part : goal.invariant-loop-part
invariant-loop-part l =
    HaveCells (models_of_leaves l.parts) l.inside l.own l.first (models_of_operand_cells l.cells.operands.items) (models_of_cut_cells l.cells.cuts.items)
    (models_of_leaves (drop l.part-index l.parts)) l.next
