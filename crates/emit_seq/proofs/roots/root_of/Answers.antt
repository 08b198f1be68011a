use Rattle.std.proofs.lemmas.Result.{IfOk-from_err}
use Rattle.form_model.specs.CoverModels.{model_of_cover_cuts, model_of_cover_operands, model_of_cover}
use Rattle.form_model.specs.Trees.{model_of_tree}
use Rattle.tree_grammar.specs.Leaves.{model_of_destination}
use Rattle.emit_seq.specs.Models.{model_of_stock}
use Rattle.emit_seq.proofs.Orderly.{operand_places, cover_listed}
use Rattle.emit_seq.proofs.roots.root_of.Goals as goal

pub returns-in_err-own : goal.returns-in_err-own
returns-in_err-own c = IfOk-from_err c.from_residual.result _ c.from_residual.ensures.0

pub returns-in_err-found : goal.returns-in_err-found
returns-in_err-found c = IfOk-from_err c.from_residual-in_err-found.result _ c.from_residual-in_err-found.ensures.0

pub returns-in_err-cells : goal.returns-in_err-cells
returns-in_err-cells c = IfOk-from_err c.from_residual-in_err-cells.result _ c.from_residual-in_err-cells.ensures.0

pub returns-in_err-open : goal.returns-in_err-open
returns-in_err-open c = IfOk-from_err c.from_residual-in_err-open.result _ c.from_residual-in_err-open.ensures.0

pub cells_from-requires : goal.cells_from-requires
cells_from-requires c =
    operand_places (model_of_stock c.args.stock) c.args.cover.now.form (model_of_cover_operands c.args.cover.now.operands) (model_of_cover_cuts c.args.cover.now.cuts) (model_of_destination c.args.covered.destination) (model_of_tree c.args.covered.tree.now) c.args.covered.whole c.requires

pub open_bits-requires : goal.open_bits-requires
open_bits-requires c = cover_listed (model_of_stock c.args.stock) (model_of_cover c.args.cover.now) (model_of_destination c.args.covered.destination) (model_of_tree c.args.covered.tree.now) c.args.covered.whole c.requires

pub own_bits-requires : goal.own_bits-requires
own_bits-requires c = cover_listed (model_of_stock c.args.stock) (model_of_cover c.args.cover.now) (model_of_destination c.args.covered.destination) (model_of_tree c.args.covered.tree.now) c.args.covered.whole c.requires
