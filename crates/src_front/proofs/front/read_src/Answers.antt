use Rattle.std.proofs.Common.{rules}
use Rattle.src_front.proofs.front.read_src.Goals as goal

pub returns-in_err-program-clause-refused : goal.returns-in_err-program-clause-refused
returns-in_err-program-clause-refused c = let h = c.in_err-program.ensures.refused c.args.width in search rules
