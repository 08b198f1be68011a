use Rattle.std.proofs.Common.{length, subst, true, ◌<◌}
use Rattle.rec_bits.proofs.Lists.{slice_get_within}
use Rattle.cover.specs.Jobs.{trees_of}
use Rattle.form_model.specs.Forms.{aim_destination}
use Rattle.mode_set.specs.Inner.Best.{IsBestBelow}
use Rattle.mode_set.specs.Plans.{UsableAt, stock_at}
use Rattle.mode_set.proofs.Best.{best_planned, none_planned}
use Rattle.mode_set.proofs.plans.plan_job.Goals as goal

pub returns-in-Ok-Some-clause-planned : goal.returns-in-Ok-Some-clause-planned
returns-in-Ok-Some-clause-planned c =
    let stock = stock_at c.args.forms.now c.args.temps in
    let destination = aim_destination c.args.job.now.aim in
    let trees = trees_of c.args.job.now.trees.items in
    best_planned stock (UsableAt c.args.usable.now) destination trees (length c.args.forms.now) c.in-Ok-Some.best
    (λ v h. subst (λ n. v < n) c.requires (slice_get_within c.args.usable.now v true h))
    (subst (IsBestBelow stock (UsableAt c.args.usable.now) destination trees (length c.args.forms.now)) c.in-Ok-Some.field-0-is c.in-Ok-Some.ensures)

pub returns-in-Ok-None-clause-none : goal.returns-in-Ok-None-clause-none
returns-in-Ok-None-clause-none c = λ e.
    (let stock = stock_at c.args.forms.now c.args.temps in
    let destination = aim_destination c.args.job.now.aim in
    let trees = trees_of c.args.job.now.trees.items in
    none_planned stock (UsableAt c.args.usable.now) destination trees (length c.args.forms.now)
    (λ v h. subst (λ n. v < n) c.requires (slice_get_within c.args.usable.now v true h))
    (subst (IsBestBelow stock (UsableAt c.args.usable.now) destination trees (length c.args.forms.now)) c.in-Ok-None.field-0-is c.in-Ok-None.ensures))
