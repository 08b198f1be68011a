use Rattle.bit_bdd.proofs.CallerLemmas.{extends_trans}
use Rattle.form_model.specs.Forms.{models_of_forms}
use Rattle.transfer_set.specs.Rows.{row_patterns}
use Rattle.transfer_set.proofs.ReadyLaws.{ready_later}
use Rattle.form_set.proofs.LowForms.{forms_low}
use Rattle.form_set.proofs.RuleLists.{greatest_is}
use Rattle.form_set.proofs.listing.forms.Goals as goal

pub list_of-requires : goal.list_of-requires
list_of-requires c = record { ready = ready_later c.args.machine.now.checked.now.netlist c.args.book.now c.reach_of.new.book c.args.machine.now.pool.now c.args.machine.now.patterns.now c.reach_of.ensures.grows c.requires.ready }

pub returns-clause-forms : goal.returns-clause-forms
returns-clause-forms c = record {
  list = c.in_ok-list.ensures.list;
  greatest_is = greatest_is c.args.machine.now.checked.now.netlist c.in_ok-reach.reach 0 (row_patterns c.args.machine.now.pool.now c.args.machine.now.patterns.now.rows) (models_of_forms c.in_ok-list.list.items)
      c.in_ok-reach.reach c.in_ok-list.ensures.list c.in_ok-reach.ensures.reach;
}

pub returns-clause-ready : goal.returns-clause-ready
returns-clause-ready c =
    ready_later c.args.machine.now.checked.now.netlist c.args.book.now c.list_of.new.book c.args.machine.now.pool.now c.args.machine.now.patterns.now
    (extends_trans c.args.book.now c.reach_of.new.book c.list_of.new.book c.reach_of.ensures.grows c.list_of.ensures.grows) c.requires.ready

pub returns-in_err-reach-clause-ready : goal.returns-in_err-reach-clause-ready
returns-in_err-reach-clause-ready c =
    ready_later c.args.machine.now.checked.now.netlist c.args.book.now c.reach_of.new.book c.args.machine.now.pool.now c.args.machine.now.patterns.now c.reach_of.ensures.grows c.requires.ready

pub returns-in_err-list-clause-ready : goal.returns-in_err-list-clause-ready
returns-in_err-list-clause-ready c =
    ready_later c.args.machine.now.checked.now.netlist c.args.book.now c.list_of.new.book c.args.machine.now.pool.now c.args.machine.now.patterns.now
    (extends_trans c.args.book.now c.reach_of.new.book c.list_of.new.book c.reach_of.ensures.grows c.list_of.ensures.grows) c.requires.ready

pub invariant_of-result : goal.invariant_of-result
invariant_of-result c = record {
  low = forms_low c.args.machine.now.checked.now.netlist c.args.machine.now.checked.now.order c.netlist-netlist.ensures.kept c.in_ok-reach.reach (row_patterns c.args.machine.now.pool.now c.args.machine.now.patterns.now.rows)
      (models_of_forms c.in_ok-list.list.items) c.requires.ready.patterns.each c.in_ok-list.ensures.list;
}
