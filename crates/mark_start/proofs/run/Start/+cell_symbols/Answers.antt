use Rattle.std.proofs.lemmas.Result.{on_ok_weaker}
use Rattle.mark_start.proofs.Learning.{nothing_on}
use Rattle.mark_start.proofs.run.Start.+cell_symbols.Goals as goal

pub returns : goal.returns
returns t c =
    on_ok_weaker c.cell_symbols.result
    (nothing_on c.args.self.now c.args.table.now c.cell_symbol.new.table c.cell_symbols.new.table c.args.run.now c.cell_symbol.new.run c.cell_symbols.new.run c.in_ok-cell_symbol.ensures) c.cell_symbols.ensures
