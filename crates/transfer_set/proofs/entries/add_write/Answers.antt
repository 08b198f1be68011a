use Rattle.std.proofs.Common.{length, sym, ◌∙◌}
use Rattle.std.proofs.lemmas.Result.{on_ok_weaker}
use Rattle.transfer_set.proofs.entries.add_write.Goals as goal

pub returns-clause-whole : goal.returns-clause-whole
returns-clause-whole c = on_ok_weaker c.add_entry.result (λ whole netlist w h. whole netlist c.args.pool.now w (h (sym c.is_own.ensures ∙ c.if-is_own.false))) c.add_entry.ensures.whole

pub returns-clause-known : goal.returns-clause-known
returns-clause-known c = on_ok_weaker c.add_entry.result (λ known h. known (length c.args.pool.now) h tt c.requires.expr) c.add_entry.ensures.known
