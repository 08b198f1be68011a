use Rattle.std.proofs.lemmas.Result.{IfOk-from_err}
use Rattle.std.proofs.Common.{add-one, arith}
use Rattle.bit_bdd.proofs.CallerLemmas.{extends_trans}
use Rattle.transfer_set.specs.Rows.{row_patterns}
use Rattle.transfer_set.proofs.ReadyLaws.{ready_later}
use Rattle.form_set.proofs.RuleLists.{greatest_more, told_some}
use Rattle.form_set.proofs.listing.reach_of.Goals as goal

pub number_reach-requires : goal.number_reach-requires
number_reach-requires c = record {
  ready = ready_later c.args.machine.now.checked.now.netlist c.args.book.now c.loop-number.book c.args.machine.now.pool.now c.args.machine.now.patterns.now c.loop-number.invariant.grows c.requires.ready;
}

pub loop-number-preserved : goal.loop-number-preserved
loop-number-preserved c =
    let n = c.loop-number.number in
    let some = told_some c.args.machine.now.pool.now c.args.machine.now.patterns.now.rows n (omega arith) in
    record {
      grows = extends_trans c.args.book.now c.loop-number.book c.number_reach.new.book c.loop-number.invariant.grows c.number_reach.ensures.grows;
      reach = rw (add-one n, c.larger-reach.ensures)
          (greatest_more c.args.machine.now.checked.now.netlist (row_patterns c.args.machine.now.pool.now c.args.machine.now.patterns.now.rows) n some.0 some.1
          c.loop-number.reach c.in_ok-here.here c.loop-number.invariant.reach (c.in_ok-here.ensures.reach some.0 some.1));
    }

pub returns-in_err-here-clause-reach : goal.returns-in_err-here-clause-reach
returns-in_err-here-clause-reach c = IfOk-from_err c.from_residual.result _ c.from_residual.ensures.0
