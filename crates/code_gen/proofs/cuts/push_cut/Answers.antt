use Rattle.std.proofs.Common.{◌≡◌, ◌∙◌, arith, sym}
use Rattle.std.proofs.lemmas.Result.{IfOk-from_err}
use Rattle.code_gen.proofs.Running.{alone_cut, run_some, zeros_cut}
use Rattle.code_gen.proofs.cuts.push_cut.Goals as goal

pub returns-clause-cut : goal.returns-clause-cut
returns-clause-cut c =
    let count = c.run_of_zero-count.result in
    let h = c.run_of_zero-count.ensures in
    zeros_cut c.args.program.now.modes c.args.program.now c.args.at count c.args.end c.args.block.now c.push_zeros.new.block h.within h.zero h.last c.in_ok-push_zeros.ensures.run

pub returns-in_err-push_alone-clause-cut : goal.returns-in_err-push_alone-clause-cut
returns-in_err-push_alone-clause-cut c = IfOk-from_err c.from_residual.result _ c.from_residual.ensures.0

pub returns-in_err-push_zeros-clause-cut : goal.returns-in_err-push_zeros-clause-cut
returns-in_err-push_zeros-clause-cut c = IfOk-from_err c.from_residual-in_err-push_zeros.result _ c.from_residual-in_err-push_zeros.ensures.0

-- one job of another mode
pub returns-then-mode-ne0-clause-cut : goal.returns-then-mode-ne0-clause-cut
returns-then-mode-ne0-clause-cut c =
    alone_cut c.args.program.now.modes c.args.program.now c.mode_at-mode.result c.args.at c.args.end c.args.block.now c.push_alone.new.block (omega arith) (let below = c.requires.below in omega (arith, below))
    (sym c.mode_at-mode.ensures) c.in_ok-push_alone.ensures.run

-- jobs of mode 0, the first of which stands at this place
pub returns-clause-some : goal.returns-clause-some
returns-clause-some c =
    run_some c.args.program.now.modes c.args.program.now c.args.at c.run_of_zero-count.result c.args.end c.requires.below
    (sym c.mode_at-mode.ensures ∙ (let zero : c.mode_at-mode.result ≡ 0 = omega arith in zero)) c.run_of_zero-count.ensures.last
