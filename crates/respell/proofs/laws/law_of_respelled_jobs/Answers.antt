use Rattle.respell.proofs.EqualJobs.{told_are, told_done, told_lies}
use Rattle.respell.proofs.laws.law_of_respelled_jobs.Goals as goal

pub returns-clause-done : goal.returns-clause-done
returns-clause-done c = λ width turned old new cells fit r. told_done width cells fit old new turned r

pub returns-clause-lies : goal.returns-clause-lies
returns-clause-lies c = λ width temps turned old new cells fit r h. told_lies width cells fit old new temps turned r h

pub returns-clause-tells : goal.returns-clause-tells
returns-clause-tells c = λ width v turned old new cells fit r less h. told_are width cells fit old new v turned r less h
