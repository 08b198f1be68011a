use Rattle.branch_fix.proofs.Settings.{jumps_lead, absolute_leads, relative_leads, long_leads}
use Rattle.branch_fix.proofs.laws.law_of_targets.Goals as goal

pub returns-clause-jumps : goal.returns-clause-jumps
returns-clause-jumps c = jumps_lead

pub returns-clause-absolute : goal.returns-clause-absolute
returns-clause-absolute c = absolute_leads

pub returns-clause-relative : goal.returns-clause-relative
returns-clause-relative c = relative_leads

pub returns-clause-long : goal.returns-clause-long
returns-clause-long c = long_leads
