use Rattle.std.proofs.Common.{add-one, arith}
use Rattle.bit_bdd.proofs.CallerLemmas.{extends_trans}
use Rattle.form_model.specs.Forms.{models_of_forms}
use Rattle.transfer_set.specs.Rows.{row_patterns}
use Rattle.transfer_set.proofs.ReadyLaws.{ready_later}
use Rattle.form_set.proofs.RuleLists.{forms_next, told_some}
use Rattle.form_set.proofs.listing.list_of.Goals as goal

pub add_number-requires : goal.add_number-requires
add_number-requires c = record {
  ready = ready_later c.args.machine.now.checked.now.netlist c.args.book.now c.loop-number.book c.args.machine.now.pool.now c.args.machine.now.patterns.now c.loop-number.invariant.grows c.requires.ready;
}

pub loop-number-preserved : goal.loop-number-preserved
loop-number-preserved c =
    let n = c.loop-number.number in
    let some = told_some c.args.machine.now.pool.now c.args.machine.now.patterns.now.rows n (omega arith) in
    record {
      grows = extends_trans c.args.book.now c.loop-number.book c.add_number.new.book c.loop-number.invariant.grows c.add_number.ensures.grows;
      list = rw (add-one n)
          (forms_next c.args.machine.now.checked.now.netlist c.args.reach (row_patterns c.args.machine.now.pool.now c.args.machine.now.patterns.now.rows) n some.0 some.1
          (models_of_forms c.loop-number.list.items) (models_of_forms c.add_number.new.list.items) c.loop-number.invariant.list (c.in_ok-add_number.ensures.added some.0 some.1));
    }
