use Rattle.std.proofs.Common.{◌∙◌, sym, subst, List, ℕ}
use Rattle.src_trees.specs.Jobs.{models_of_jobs}
use Rattle.followed.proofs.Leads.{SomeJobs, led}
use Rattle.followed.proofs.front.Front.way.Goals as goal

pub returns : goal.returns
returns c =
    let self = c.args.self.now in
    let same = c.as_slice.ensures ∙ sym c.as_slice-2.ensures in
    led self c.args.from c.args.test c.args.answer c.as_slice-2.result c.in-Some-label_of.label c.args.at c.in-Some.trail (sym c.in-Some.is ∙ c.in_ok-trail.ensures) c.as_slice-2.ensures
    (subst (λ (ts : List ℕ). SomeJobs (models_of_jobs self.jobs.now) ts) same (c.are_jobs.ensures c.if-not-are_jobs.false)) c.in-Some-label_of.ensures
    c.in_ok-way.field-0 c.in_ok-way.ensures
