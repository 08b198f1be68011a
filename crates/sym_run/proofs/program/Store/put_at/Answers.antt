use Rattle.std.proofs.Common.{List}
use Rattle.form_model.specs.Trees.{model_of_tree}
use Rattle.sym_run.specs.declared.known.Put.{Put}
use Rattle.sym_run.specs.Known.{Evaluates}
use Rattle.class_values.specs.Values.{IsNumber}
use Rattle.net_model.specs.Exprs.{ExprModel, const}
use Rattle.sym_run.proofs.Evaluated.{const_evaluated}
use Rattle.class_values.proofs.Made.{some_of}
use Rattle.sym_run.proofs.Writing.{element_written, if_puts}
use Rattle.sym_run.proofs.program.Store.put_at.Goals as goal

pub returns-clause-is : goal.returns-clause-is
returns-clause-is c =
    let t0 = c.args.table.now in
    let t1 = c.number.new.table in
    let t2 = c.tree.new.table in
    let facts = c.args.self.now.facts.now in
    let known = c.args.self.now.known.now in
    let a : ExprModel = const c.args.width c.args.address in
    let v = model_of_tree c.args.value.now in
    let at = c.in-Some.at in
    let value = c.in-Some-value.value in
    let first : Evaluates t0 t1 facts known 0 a at = const_evaluated facts known 0 t0 t1 c.args.width c.args.address at (some_of (IsNumber t1 c.args.width c.args.address) c.in_ok-at.at at c.in-Some.is c.in_ok-at.ensures.is) in
    let second : Evaluates t1 t2 facts known 0 v value = some_of (Evaluates t1 t2 facts known 0 v) c.in_ok-value.value value c.in-Some-value.is c.in_ok-value.ensures.is in
    if_puts c.one_more.result _ _ (λ (puts : List Put) w. element_written facts known 0 t0 t1 t2 c.number.ensures.grows c.tree.ensures.grows a v at value puts first second w) c.one_more.ensures
