use Rattle.std.proofs.lemmas.Result.{IfOk-from_err}
use Rattle.std.proofs.Common.{◌≡◌, nat_eq, true, ◌∙◌}
use Rattle.std.specs.List.{list_any}
use Rattle.net_model.specs.Flags.{flag_at}
use Rattle.ctl_bdd.proofs.Placed.{static_inside, static_control, static_any}
use Rattle.ctl_bdd.proofs.control.control_table.Goals as goal

pub needed_flags-requires-clause-inside : goal.needed_flags-requires-clause-inside
needed_flags-requires-clause-inside c = rw c.requires.places (static_inside c.args.checked.now.netlist c.netlist.ensures.sound.typed)

pub needed_flags-requires-clause-control : goal.needed_flags-requires-clause-control
needed_flags-requires-clause-control c = rw c.requires.places (static_control c.args.checked.now.netlist c.netlist.ensures.kept.control)

pub returns-clause-table : goal.returns-clause-table
returns-clause-table c = record {
  sets = c.in_ok-table.ensures.table;
  bits = λ n lt s.
      let any : list_any (nat_eq n) c.args.places.now ≡ true = rw c.requires.places (static_any c.args.checked.now.netlist n ∙ s) in
      let flag : flag_at c.as_slice.result.now n ≡ true = rw c.as_slice.ensures (c.in_ok-needed.ensures.those n any) in
      c.in_ok-table.ensures.bits n lt flag;
}

pub returns-in_err-needed-clause-table : goal.returns-in_err-needed-clause-table
returns-in_err-needed-clause-table c = IfOk-from_err c.from_residual.result _ c.from_residual.ensures.0

pub returns-in_err-table-clause-table : goal.returns-in_err-table-clause-table
returns-in_err-table-clause-table c = IfOk-from_err c.from_residual-in_err-table.result _ c.from_residual-in_err-table.ensures.0
