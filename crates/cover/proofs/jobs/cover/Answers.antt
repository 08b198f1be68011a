use Rattle.std.proofs.Common.{subst, length}
use Rattle.form_model.specs.Forms.{aim_destination}
use Rattle.cover.specs.Jobs.{trees_of}
use Rattle.form_model.specs.Covers.{stock_with}
use Rattle.cover.specs.Inner.Best.{IsBest}
use Rattle.cover.proofs.BestLemmas.{is_chosen, is_none, chosen_again}
use Rattle.cover.proofs.jobs.cover.Goals as goal

pub returns-in-Ok-Some-clause-chosen : goal.returns-in-Ok-Some-clause-chosen
returns-in-Ok-Some-clause-chosen c =
    let chosen = is_chosen (stock_with c.args.forms.now.list.items c.args.temps c.args.forms.now.file) (aim_destination c.args.job.now.aim) c.args.job.now.trees.items c.in-Ok-Some.field-0 c.in-Ok-Some.c
    (subst (λ fs. IsBest (stock_with fs c.args.temps c.args.forms.now.file) (aim_destination c.args.job.now.aim) (trees_of c.args.job.now.trees.items) (length c.args.job.now.trees.items) c.in-Ok-Some.field-0) c.deref.ensures.value c.in-Ok-Some.ensures)
    c.in-Ok-Some.field-0-is in
    chosen_again _ _ _ c.in-Ok-Some.c c.without_branch.result c.without_branch.ensures.choice chosen

pub returns-in-Ok-None-clause-none : goal.returns-in-Ok-None-clause-none
returns-in-Ok-None-clause-none c = λ e.
    is_none (stock_with c.args.forms.now.list.items c.args.temps c.args.forms.now.file) (aim_destination c.args.job.now.aim) c.args.job.now.trees.items c.in-Ok-None.field-0
    (subst (λ fs. IsBest (stock_with fs c.args.temps c.args.forms.now.file) (aim_destination c.args.job.now.aim) (trees_of c.args.job.now.trees.items) (length c.args.job.now.trees.items) c.in-Ok-None.field-0) c.deref.ensures.value c.in-Ok-None.ensures)
    c.in-Ok-None.field-0-is
