use Rattle.std.proofs.Common.{List, subst}
use Rattle.sym_run.specs.declared.known.Put.{Put}
use Rattle.sym_run.specs.Known.{ArePutsSame}
use Rattle.sym_run.proofs.SamePuts.{same_puts}
use Rattle.sym_run.proofs.writes.leave_same.Goals as goal

pub returns-then-are_puts_same-clause-same : goal.returns-then-are_puts_same-clause-same
returns-then-are_puts_same-clause-same c e =
    let t0 = c.args.table.now in
    let near = c.args.near.now in
    let far = c.args.far.now in
    same_puts c.args.facts.now near far t0
    (subst (λ (ps : List Put). ArePutsSame t0 ps far.puts) c.as_slice.ensures (subst (λ (ps : List Put). ArePutsSame t0 c.as_slice.result.now ps) c.as_slice-2.ensures (c.are_puts_same.ensures c.if-are_puts_same.true)))
