use Rattle.view_lines.proofs.Giving.{gives_of}
use Rattle.viewed_text.proofs.behind.remark_of.Goals as goal

pub returns : goal.returns
returns c = gives_of c.args.line.now c.read.result c.read.ensures.read c.read.ensures.only
