use Rattle.std.proofs.Common.{ap, arith, subst, sym}
use Rattle.std.proofs.lemmas.Result.{IfOk-from_err}
use Rattle.form_model.specs.declared.covers.Cover.{Cover}
use Rattle.form_model.specs.declared.covers.CoverOperands.{CoverOperands}
use Rattle.form_model.specs.Covers.{AreOrderly}
use Rattle.form_model.specs.CoverModels.{model_of_cover_cuts, operands_cost, model_of_cover_operands, model_of_cover}
use Rattle.form_model.specs.Trees.{model_of_tree}
use Rattle.tree_grammar.specs.Leaves.{model_of_destination}
use Rattle.emit_seq.specs.Inner.CellLists.{IsListed, operands_in}
use Rattle.emit_seq.specs.Models.{model_of_operand_cells, models_of_operand_cells, model_of_stock}
use Rattle.emit_seq.proofs.Orderly.{left_orderly, cover_listed, root_operands}
use Rattle.emit_seq.proofs.operands.+evaluating.Goals as goal

pub put_own_steps-returns-in_err-root : goal.put_own_steps-returns-in_err-root
put_own_steps-returns-in_err-root t c = IfOk-from_err c.from_residual.result _ c.from_residual.ensures.0

pub put_operands-returns-in_err-put_own_steps-in-Then : goal.put_operands-returns-in_err-put_own_steps-in-Then
put_operands-returns-in_err-put_own_steps-in-Then t c = IfOk-from_err c.from_residual.result _ c.from_residual.ensures.0

pub put_own_steps-put_operands-requires : goal.put_own_steps-put_operands-requires
put_own_steps-put_operands-requires t c =
    (omega arith, root_operands (model_of_stock c.args.stock) c.args.cover.now.form (model_of_cover_operands c.args.cover.now.operands) (model_of_cover_cuts c.args.cover.now.cuts) (model_of_destination c.args.covered.destination) (model_of_tree c.args.covered.tree.now) c.args.covered.whole c.requires c.args.covered.first c.args.covered.held c.in_ok-root.root c.in_ok-root.ensures)

pub put_operands-put_operands-requires : goal.put_operands-put_operands-requires
put_operands-put_operands-requires t c =
    let stock = model_of_stock c.args.stock in
    let left = models_of_operand_cells c.args.left.now.items in
    let orderly = subst (λ (o : CoverOperands). AreOrderly stock (operands_in left) (model_of_cover_operands o)) c.in-Then.is c.requires in (
      (let e = ap (λ (o : CoverOperands). operands_cost (model_of_cover_operands o)) c.in-Then.is in let f = ap (λ (o : CoverOperands). operands_cost (model_of_cover_operands o)) c.deref-in-Then-2.ensures in omega (arith, e, f, c.decreases)),
      subst (λ (o : CoverOperands). AreOrderly stock (operands_in (models_of_operand_cells c.take_out.new.left.items)) (model_of_cover_operands o)) (sym c.deref-in-Then-2.ensures)
          (left_orderly stock left c.in-Then.place (model_of_cover c.in-Then.cover.value) (model_of_cover_operands c.in-Then.rest.value) orderly (model_of_operand_cells c.take_out.result) (models_of_operand_cells c.take_out.new.left.items) c.take_out.ensures),
    )

pub put_operands-cell_of-requires : goal.put_operands-cell_of-requires
put_operands-cell_of-requires t c =
    let stock = model_of_stock c.args.stock in
    let left = models_of_operand_cells c.args.left.now.items in
    let orderly = subst (λ (o : CoverOperands). AreOrderly stock (operands_in left) (model_of_cover_operands o)) c.in-Then.is c.requires in
    subst (λ (p : Cover). IsListed stock (model_of_cover p)) (sym c.deref-in-Then.ensures) (cover_listed stock (model_of_cover c.in-Then.cover.value) _ _ _ orderly.2)
