use Rattle.view_lines.proofs.Giving.{giving_only, giving_read}
use Rattle.view_lines.proofs.reading.read.Goals as goal

pub returns-clause-read : goal.returns-clause-read
returns-clause-read c = giving_read c.args.line.now c.remark_of.result c.remark_of.ensures

pub returns-clause-only : goal.returns-clause-only
returns-clause-only c = giving_only c.args.line.now c.remark_of.result c.remark_of.ensures
