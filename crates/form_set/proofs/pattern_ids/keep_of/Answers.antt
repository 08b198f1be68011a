use Rattle.form_set.proofs.Registers.{index_none}
use Rattle.form_set.proofs.pattern_ids.keep_of.Goals as goal

pub returns-in-None : goal.returns-in-None
returns-in-None c = index_none c.args.patterns.now.keeps c.args.storage c.in-None.ensures
