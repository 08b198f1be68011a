use Rattle.view_terms.proofs.Giving.{gives_of}
use Rattle.view_lines.proofs.reading.term_of.Goals as goal

pub returns : goal.returns
returns c = gives_of c.args.text.now c.read.result c.read.ensures.read c.read.ensures.only
