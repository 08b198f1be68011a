use Rattle.followed.proofs.Leads.{more_jobs}
use Rattle.followed.proofs.front.+are_jobs.Goals as goal

pub returns : goal.returns
returns t c e = more_jobs c.args.jobs.now c.in-Some.number.now c.in-Some.rest.now c.args.numbers.now c.in-Some.ensures.cases.0 (c.is_job.ensures c.if-not-is_job.false) (c.are_jobs.ensures e)
