use Rattle.right_code.proofs.Rows.{row_laid, task_checked}
use Rattle.right_code.proofs.laws.law_of_tasks.Goals as goal

pub returns-clause-checked : goal.returns-clause-checked
returns-clause-checked c = task_checked

pub returns-clause-laid : goal.returns-clause-laid
returns-clause-laid c = row_laid
