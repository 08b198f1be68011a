use Rattle.std.proofs.Common.{ℕ, List, sym, ap, subst, ◌∙◌, arith}
use Rattle.std.proofs.lemmas.Result.{IfOk-from_err}
use Rattle.src_model.specs.declared.program.Program.{Program}
use Rattle.src_model.specs.declared.program.Stmt.{Stmt}
use Rattle.src_model.specs.Written.{model_of_program}
use Rattle.src_model.specs.Inner.Fitting.{FitsStmts}
use Rattle.src_model.proofs.Bounds.{rules_hold}
use Rattle.src_model.proofs.FittingLemmas.{program_fits}
use Rattle.src_eval.proofs.BuildLemmas.{block_stmts}
use Rattle.src_eval.proofs.BlockLemmas.{new_ahead}
use Rattle.src_eval.proofs.run.Runner.new.Goals as goal

pub build_block-requires-clause-fits : goal.build_block-requires-clause-fits
build_block-requires-clause-fits c =
    let typed = c.args.typed.now in
    let block = c.deref.ensures.value ∙ ap (λ (p : Program). p.body.items) c.program-program.ensures.value in
    subst (λ (l : List Stmt). FitsStmts c.width-word.result (block_stmts l)) (sym block)
    (subst (λ (w : ℕ). FitsStmts w (block_stmts typed.program.body.items)) (sym c.width-word.ensures.value) (program_fits typed.width (model_of_program typed.program) typed.kept))

pub returns-clause-ahead : goal.returns-clause-ahead
returns-clause-ahead c = λ m.
    let typed = c.args.typed.now in
    let block = c.deref.ensures.value ∙ ap (λ (p : Program). p.body.items) c.program-program.ensures.value in
    let vars = c.in_ok-table.ensures ∙ c.as_slice.ensures ∙ ap (λ (p : Program). p.vars) c.program-program.ensures.value in
    let few = (rules_hold typed.width (model_of_program typed.program) typed.kept).few_statements in
    new_ahead c.width-word.result typed.width c.in_ok-table.table typed.program.vars c.new-steps.result c.build_block.new.steps c.deref.result.now typed.program.body.items 18446744073709551615
    c.width-word.ensures.value vars c.new-steps.ensures block c.in_ok-build_block.ensures (omega (arith, few)) m c.args.store.cells

pub returns-in_err-table-clause-cells : goal.returns-in_err-table-clause-cells
returns-in_err-table-clause-cells c = IfOk-from_err c.from_residual.result _ c.from_residual.ensures.0

pub returns-in_err-table-clause-ahead : goal.returns-in_err-table-clause-ahead
returns-in_err-table-clause-ahead c = IfOk-from_err c.from_residual.result _ c.from_residual.ensures.0

pub returns-in_err-build_block-clause-cells : goal.returns-in_err-build_block-clause-cells
returns-in_err-build_block-clause-cells c = IfOk-from_err c.from_residual-in_err-build_block.result _ c.from_residual-in_err-build_block.ensures.0

pub returns-in_err-build_block-clause-ahead : goal.returns-in_err-build_block-clause-ahead
returns-in_err-build_block-clause-ahead c = IfOk-from_err c.from_residual-in_err-build_block.result _ c.from_residual-in_err-build_block.ensures.0
