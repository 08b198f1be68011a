use Rattle.view_terms.proofs.Giving.{giving_only, giving_read}
use Rattle.view_terms.proofs.reading.read.Goals as goal

pub returns-clause-read : goal.returns-clause-read
returns-clause-read c = giving_read c.args.text.now c.whole.result c.whole.ensures

pub returns-clause-only : goal.returns-clause-only
returns-clause-only c = giving_only c.args.text.now c.whole.result c.whole.ensures
