use Rattle.std.proofs.Common.{arith}
use Rattle.emit_seq.proofs.Emitting.{taken_out}
use Rattle.emit_seq.proofs.roots.take_out.Goals as goal

pub returns : goal.returns
returns c = taken_out c.args.left.now.items c.remove.new.self.items c.args.place c.remove.result c.remove.ensures.value c.remove.ensures.items (omega arith)
