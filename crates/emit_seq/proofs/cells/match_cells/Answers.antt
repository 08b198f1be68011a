use Rattle.std.proofs.Common.{◌+◌, drop, subst, arith}
use Rattle.tree_grammar.specs.Leaves.{models_of_leaves}
use Rattle.emit_seq.specs.Inner.CellLists.{HaveCells}
use Rattle.emit_seq.specs.Models.{models_of_cut_cells, models_of_operand_cells}
use Rattle.emit_seq.proofs.Places.{drop_item}
use Rattle.emit_seq.proofs.cells.match_cells.Goals as goal

pub loop-part-preserved : goal.loop-part-preserved
loop-part-preserved c =
    let k = c.loop-part.part-index in
    c.in_ok-next.ensures (models_of_leaves c.args.parts.now) (models_of_leaves (drop (k + 1) c.args.parts.now)) c.args.first
    (subst (λ z. HaveCells (models_of_leaves c.args.parts.now) c.args.inside.now c.args.own.now c.args.first (models_of_operand_cells c.loop-part.cells.operands.items)
    (models_of_cut_cells c.loop-part.cells.cuts.items) (models_of_leaves z) c.loop-part.next) (drop_item c.args.parts.now k _ c.part-item.is (omega arith)) c.loop-part.invariant)
