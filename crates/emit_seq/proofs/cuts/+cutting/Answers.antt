use Rattle.std.proofs.Common.{◌≡◌, ◌∙◌, List, ap, arith, length, subst, sym}
use Rattle.std.proofs.lemmas.Grind.{common_steps}
use Rattle.std.proofs.lemmas.Result.{IfOk-from_err, IfOk-weaker}
use Rattle.form_model.specs.declared.covers.CoverOperands.{CoverOperands}
use Rattle.form_model.specs.Covers.{AreOrderly, AreCut}
use Rattle.form_model.specs.CoverModels.{model_of_cover_cuts, operands_cost, model_of_cover_operands, model_of_cover, operand_then}
use Rattle.form_model.specs.Trees.{model_of_tree}
use Rattle.form_model.specs.Steps.{inside_operands, operand_counts}
use Rattle.tree_grammar.specs.Leaves.{model_of_destination}
use Rattle.emit_seq.specs.Inner.CellLists.{operands_in, trees_in}
use Rattle.emit_seq.specs.Models.{model_of_operand_cells, models_of_operand_cells, models_of_cut_cells, model_of_stock}
use Rattle.emit_seq.proofs.Orderly.{left_orderly, root_operands, inside_long, places_of, root_cuts}
use Rattle.emit_seq.specs.declared.cells.CutCells.{CutCells}
use Rattle.emit_seq.proofs.cuts.+cutting.Goals as goal

pub cut_steps-returns : goal.cut_steps-returns
cut_steps-returns t c = IfOk-weaker c.woven.result _ _ (λ steps made. grind (arith, common_steps, made)) c.woven.ensures

pub cut_steps-returns-in_err-root : goal.cut_steps-returns-in_err-root
cut_steps-returns-in_err-root t c = IfOk-from_err c.from_residual.result _ c.from_residual.ensures.0

pub cut_steps-returns-in_err-inside : goal.cut_steps-returns-in_err-inside
cut_steps-returns-in_err-inside t c = IfOk-from_err c.from_residual-in_err-inside.result _ c.from_residual-in_err-inside.ensures.0

pub cut_steps-returns-in_err-own : goal.cut_steps-returns-in_err-own
cut_steps-returns-in_err-own t c = IfOk-from_err c.from_residual-in_err-own.result _ c.from_residual-in_err-own.ensures.0

pub all_steps-returns-in_err-steps : goal.all_steps-returns-in_err-steps
all_steps-returns-in_err-steps t c = IfOk-from_err c.from_residual.result _ c.from_residual.ensures.0

pub all_steps-returns-in_err-put_own_steps : goal.all_steps-returns-in_err-put_own_steps
all_steps-returns-in_err-put_own_steps t c = IfOk-from_err c.from_residual-in_err-put_own_steps.result _ c.from_residual-in_err-put_own_steps.ensures.0

pub inside_operands-returns-in_err-steps-in-Then : goal.inside_operands-returns-in_err-steps-in-Then
inside_operands-returns-in_err-steps-in-Then t c = IfOk-from_err c.from_residual.result _ c.from_residual.ensures.0

pub inside_operands-returns-in_err-others-in-Then : goal.inside_operands-returns-in_err-others-in-Then
inside_operands-returns-in_err-others-in-Then t c = IfOk-from_err c.from_residual-in_err-others-in-Then.result _ c.from_residual-in_err-others-in-Then.ensures.0

pub inside_operands-returns-in_err-lists-in-Then : goal.inside_operands-returns-in_err-lists-in-Then
inside_operands-returns-in_err-lists-in-Then t c = IfOk-from_err c.from_residual-in_err-lists-in-Then.result _ c.from_residual-in_err-lists-in-Then.ensures.0

pub into_cells-returns-in_err-steps-in-len1-up : goal.into_cells-returns-in_err-steps-in-len1-up
into_cells-returns-in_err-steps-in-len1-up t c = IfOk-from_err c.from_residual.result _ c.from_residual.ensures.0

pub into_cells-returns-in_err-others-in-len1-up : goal.into_cells-returns-in_err-others-in-len1-up
into_cells-returns-in_err-others-in-len1-up t c = IfOk-from_err c.from_residual-in_err-others-in-len1-up.result _ c.from_residual-in_err-others-in-len1-up.ensures.0

pub into_cells-returns-in_err-lists-in-len1-up : goal.into_cells-returns-in_err-lists-in-len1-up
into_cells-returns-in_err-lists-in-len1-up t c = IfOk-from_err c.from_residual-in_err-lists-in-len1-up.result _ c.from_residual-in_err-lists-in-len1-up.ensures.0

pub cut_steps-inside_operands-requires : goal.cut_steps-inside_operands-requires
cut_steps-inside_operands-requires t c =
    (omega arith, root_operands (model_of_stock c.args.stock) c.args.cover.now.form (model_of_cover_operands c.args.cover.now.operands) (model_of_cover_cuts c.args.cover.now.cuts) (model_of_destination c.args.covered.destination) (model_of_tree c.args.covered.tree.now) c.args.covered.whole c.requires c.args.covered.first c.args.covered.held c.in_ok-root.root c.in_ok-root.ensures)

pub cut_steps-into_cells-requires : goal.cut_steps-into_cells-requires
cut_steps-into_cells-requires t c = (
  omega arith,
  subst (λ (l : List CutCells). AreCut (model_of_stock c.args.stock) (trees_in (models_of_cut_cells l)) (model_of_cover_cuts c.args.cover.now.cuts)) (sym c.as_slice.ensures.value)
      (root_cuts (model_of_stock c.args.stock) c.args.cover.now.form (model_of_cover_operands c.args.cover.now.operands) (model_of_cover_cuts c.args.cover.now.cuts) (model_of_destination c.args.covered.destination) (model_of_tree c.args.covered.tree.now) c.args.covered.whole c.requires c.args.covered.first c.args.covered.held c.in_ok-root.root c.in_ok-root.ensures),
)

pub inside_operands-inside_operands-requires : goal.inside_operands-inside_operands-requires
inside_operands-inside_operands-requires t c =
    let stock = model_of_stock c.args.stock in
    let left = models_of_operand_cells c.args.left.now.items in
    let orderly = subst (λ (o : CoverOperands). AreOrderly stock (operands_in left) (model_of_cover_operands o)) c.in-Then.is c.requires in (
      (let e = ap (λ (o : CoverOperands). operands_cost (model_of_cover_operands o)) c.in-Then.is in let f = ap (λ (o : CoverOperands). operands_cost (model_of_cover_operands o)) c.deref-in-Then.ensures in omega (arith, e, f, c.decreases)),
      subst (λ (o : CoverOperands). AreOrderly stock (operands_in (models_of_operand_cells c.take_out.new.left.items)) (model_of_cover_operands o)) (sym c.deref-in-Then.ensures)
          (left_orderly stock left c.in-Then.place (model_of_cover c.in-Then.cover.value) (model_of_cover_operands c.in-Then.rest.value) orderly (model_of_operand_cells c.take_out.result) (models_of_operand_cells c.take_out.new.left.items) c.take_out.ensures),
    )

pub inside_operands-inserted-requires : goal.inside_operands-inserted-requires
inside_operands-inserted-requires t c =
    let stock = model_of_stock c.args.stock in
    let left = models_of_operand_cells c.args.left.now.items in
    let ps = model_of_cover_operands c.in-Then.rest.value in
    let others = c.in_ok-others-in-Then.others in
    let new = models_of_operand_cells c.take_out.new.left.items in
    let orderly = subst (λ (o : CoverOperands). AreOrderly stock (operands_in left) (model_of_cover_operands o)) c.in-Then.is c.requires in
    let places = places_of stock (operand_then c.in-Then.place (model_of_cover c.in-Then.cover.value) ps) (operands_in left) orderly in
    let long : length others.items ≡ length (operand_counts ps) =
    ap length c.in_ok-others-in-Then.ensures ∙ ap (λ (o : CoverOperands). length (inside_operands stock (model_of_cover_operands o) new)) c.deref-in-Then.ensures ∙ inside_long stock ps new in
    omega (arith, places.0, long, others.ok.0)
