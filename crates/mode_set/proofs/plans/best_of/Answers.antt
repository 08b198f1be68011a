use Rattle.std.proofs.Common.{◌≡◌, subst, sym, ◌+◌, length, arith}
use Rattle.form_model.specs.Forms.{aim_destination}
use Rattle.cover.specs.Jobs.{trees_of}
use Rattle.mode_set.specs.Inner.Best.{IsBestBelow}
use Rattle.mode_set.specs.Plans.{UsableAt, stock_at}
use Rattle.mode_set.proofs.Best.{best_more}
use Rattle.mode_set.proofs.plans.best_of.Goals as goal

pub loop-mode-preserved : goal.loop-mode-preserved
loop-mode-preserved c =
    subst (λ o. IsBestBelow (stock_at c.args.forms.now c.args.temps) (UsableAt c.args.usable.now) (aim_destination c.args.job.now.aim) (trees_of c.args.job.now.trees.items) (c.loop-mode.mode + 1) o) (sym c.better-best.ensures)
    (best_more (stock_at c.args.forms.now c.args.temps) (UsableAt c.args.usable.now) (aim_destination c.args.job.now.aim) (trees_of c.args.job.now.trees.items) c.loop-mode.mode c.loop-mode.best c.in_ok-next.next c.loop-mode.invariant c.in_ok-next.ensures)

pub returns : goal.returns
returns c =
    let all : c.loop-mode.mode ≡ length c.args.forms.now = omega arith in
    subst (λ n. IsBestBelow (stock_at c.args.forms.now c.args.temps) (UsableAt c.args.usable.now) (aim_destination c.args.job.now.aim) (trees_of c.args.job.now.trees.items) n c.loop-mode.best) all c.loop-mode.invariant
