use Rattle.std.proofs.Common.{sym}
use Rattle.tree_laws.proofs.classes.Classes.listed.Goals as goal

pub returns : goal.returns
returns c = λ cells regs m. m.nodes c.args.node c.in_ok-class.class.now (sym c.in_ok-class.ensures.value)
