use Rattle.branch_fix.proofs.Entries.{was_some, was_none}
use Rattle.branch_fix.proofs.begun.was_entered.Goals as goal

pub returns-in-Some : goal.returns-in-Some
returns-in-Some c = was_some c.args.flow.now c.args.entered.now c.args.at c.in-Some.entered.now c.requires.at c.requires.entered c.in-Some.ensures.lookup.3.1

pub returns-in-None : goal.returns-in-None
returns-in-None c = was_none c.args.flow.now c.args.entered.now c.args.at c.requires.at c.requires.entered c.in-None.ensures.lookup.3
