use Rattle.std.proofs.Common.{IfSome, Option, subst}
use Rattle.mode_set.specs.Plans.{UsableAt, stock_at}
use Rattle.src_trees.specs.Jobs.{model_of_job}
use Rattle.respell.specs.Inner.Choosing.{IsFound}
use Rattle.respell.specs.declared.jobs.Spelled.{Spelled}
use Rattle.respell.proofs.Gains.{gain}
use Rattle.respell.proofs.jobs.Speller.respell.Goals as goal

pub returns-in-Some : goal.returns-in-Some
returns-in-Some c =
    let speller = c.args.self.now in
    let stock = stock_at speller.forms.now speller.limits.temps in
    let Usable = UsableAt speller.usable.now in
    let own = c.in_ok-own.own in
    let other = c.in-Some.other in
    gain stock Usable speller.limits.cell speller.limits.temps speller.limits.nodes own other.turned (model_of_job c.args.job.now) (model_of_job other.job) c.in_ok-own.ensures
    (subst (λ (found : Option Spelled). IfSome found (λ (s : Spelled). IsFound stock Usable speller.limits.cell speller.limits.temps speller.limits.nodes own s.turned (model_of_job c.args.job.now) (model_of_job s.job))) c.in-Some.is
    c.in_ok-other.ensures)
