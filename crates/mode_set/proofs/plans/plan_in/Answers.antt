use Rattle.std.proofs.Common.{ap, refl, length}
use Rattle.std.proofs.lemmas.Option.{slice_get_read}
use Rattle.std.proofs.lemmas.Result.{IfOk-weaker}
use Rattle.cover.specs.Jobs.{trees_of}
use Rattle.form_model.specs.Covers.{stock_with}
use Rattle.form_model.specs.Forms.{aim_destination}
use Rattle.mode_set.specs.Inner.Best.{IsPlanIn, IsPriceBy}
use Rattle.mode_set.specs.Plans.{UsableAt, forms_stock, stock_at}
use Rattle.mode_set.proofs.Best.{plan_of_mode}
use Rattle.mode_set.proofs.plans.plan_in.Goals as goal

pub returns : goal.returns
returns c =
    let forms = c.args.forms.now in
    let own = c.index-forms-mode.result in
    let destination = aim_destination c.args.job.now.aim in
    let trees = trees_of c.args.job.now.trees.items in
    let stock = stock_with own.list.items c.args.temps own.file in
    let told = ap (forms_stock c.args.temps) (slice_get_read forms (length forms) c.args.mode own refl c.requires c.index-forms-mode.is) in
    IfOk-weaker c.priced_in.result (IsPriceBy stock destination trees c.args.mode) (IsPlanIn (stock_at forms c.args.temps) (UsableAt c.args.usable.now) destination trees c.args.mode)
    (plan_of_mode (stock_at forms c.args.temps) (UsableAt c.args.usable.now) destination trees c.args.mode stock told (c.is_usable.ensures.0 c.if-not-is_usable.false) (c.may_run.ensures.0 c.if-not-may_run.false))
    c.priced_in.ensures
