use Rattle.std.proofs.lemmas.Result.{on_ok_weaker}
use Rattle.mark_start.proofs.Learning.{nothing_on}
use Rattle.mark_start.proofs.run.Start.+symbols.Goals as goal

pub returns : goal.returns
returns t c =
    on_ok_weaker c.symbols.result
    (nothing_on c.args.self.now c.args.table.now c.symbol.new.table c.symbols.new.table c.args.run.now c.symbol.new.run c.symbols.new.run c.in_ok-symbol.ensures) c.symbols.ensures
