use Rattle.std.proofs.lemmas.Result.{IfOk-from_err}
use Rattle.std.proofs.Common.{◌^◌, ◌<◌, ap, refl, sym, subst, if◌then◌else◌, [], ◌∷◌, ◌∙◌}
use Rattle.bit_bdd.proofs.CallerLemmas.{same_words}
use Rattle.net_model.specs.Exprs.{const}
use Rattle.route_trace.proofs.Exact.{all_wide}
use Rattle.route_trace.proofs.tracer.Tracer.row_routes.Goals as goal

pub returns-in_ok-out-in-None-clause-wide : goal.returns-in_ok-out-in-None-clause-wide
returns-in_ok-out-in-None-clause-wide c =
    let e = c.in_ok-out-in-None.ensures.book in
    all_wide c.leaf_routes.new.book c.leaf_routes.new.pool c.args.self.now.controls.now.legal (λ word. const c.args.width 0) c.args.width (λ word fits. refl) c.in_ok-out-in-None.out c.in_ok-out-in-None.ensures.table.right.sets
    (λ word fits. c.in_ok-out-in-None.ensures.exprs word (subst (λ b. word < 2 ^ b) e.bits fits) ∙ ap (λ b. if b then const c.args.width 0 ∷ [] else []) (sym (same_words c.args.book.now c.leaf_routes.new.book e c.args.self.now.controls.now.legal c.requires.legal word)))

pub returns-in_err-out-in-None-clause-table : goal.returns-in_err-out-in-None-clause-table
returns-in_err-out-in-None-clause-table c = IfOk-from_err c.from_residual-in_err-out-in-None.result _ c.from_residual-in_err-out-in-None.ensures.0

pub returns-in_err-out-in-None-clause-one : goal.returns-in_err-out-in-None-clause-one
returns-in_err-out-in-None-clause-one c = IfOk-from_err c.from_residual-in_err-out-in-None.result _ c.from_residual-in_err-out-in-None.ensures.0

pub returns-in_err-out-in-None-clause-wide : goal.returns-in_err-out-in-None-clause-wide
returns-in_err-out-in-None-clause-wide c = IfOk-from_err c.from_residual-in_err-out-in-None.result _ c.from_residual-in_err-out-in-None.ensures.0

pub returns-in_err-out-in-None-clause-exprs : goal.returns-in_err-out-in-None-clause-exprs
returns-in_err-out-in-None-clause-exprs c = IfOk-from_err c.from_residual-in_err-out-in-None.result _ c.from_residual-in_err-out-in-None.ensures.0

pub returns-in_err-out-in-Some-clause-table : goal.returns-in_err-out-in-Some-clause-table
returns-in_err-out-in-Some-clause-table c = IfOk-from_err c.from_residual.result _ c.from_residual.ensures.0

pub returns-in_err-out-in-Some-clause-one : goal.returns-in_err-out-in-Some-clause-one
returns-in_err-out-in-Some-clause-one c = IfOk-from_err c.from_residual.result _ c.from_residual.ensures.0

pub returns-in_err-out-in-Some-clause-wide : goal.returns-in_err-out-in-Some-clause-wide
returns-in_err-out-in-Some-clause-wide c = IfOk-from_err c.from_residual.result _ c.from_residual.ensures.0

pub returns-in_err-out-in-Some-clause-exprs : goal.returns-in_err-out-in-Some-clause-exprs
returns-in_err-out-in-Some-clause-exprs c = IfOk-from_err c.from_residual.result _ c.from_residual.ensures.0
