use Rattle.std.proofs.Common.{◌≡◌, ℕ, arith, map, subst}
use Rattle.std.proofs.lemmas.Result.{err_from_is_err_and}
use Rattle.net_model.specs.declared.hardware.Netlist.{Netlist}
use Rattle.net_model.specs.CheckedRules.{Ordered}
use Rattle.net_model.specs.ModeRules.{base_at, bases_below, modes_in}
use Rattle.net_model.specs.NetFaults.{Accepts, Refuses}
use Rattle.net_model.proofs.ByEdition.{mode_of_special}
use Rattle.net_model.proofs.Fixes.{base_formed}
use Rattle.net_check.proofs.InModes.{base_refused, more_are, more_rules}
use Rattle.net_check.proofs.modes.bases.Goals as goal

pub modes_in-value-end-requires : goal.modes_in-value-end-requires
modes_in-value-end-requires c = mode_of_special c.args.netlist.now c.requires.plain c.requires.formed.special

pub check-requires : goal.check-requires
check-requires c =
    rw c.in_ok-base.ensures
    (base_formed c.args.netlist.now c.requires.plain c.requires.formed c.loop-value.value (omega (arith, c.loop-value-test.true, c.modes_in-value-end.ensures)))

pub returns-in_err-check : goal.returns-in_err-check
returns-in_err-check c =
    let cause = c.in_err-check.field-0.0 in
    let refused : Refuses (base_at c.args.netlist.now c.loop-value.value) cause = subst (λ (n : Netlist). Refuses n cause) c.in_ok-base.ensures c.in_err-check.ensures.found in
    let p = err_from_is_err_and c.from_residual-in_err-check.result c.from_residual-in_err-check.ensures.1 in
    rw (p.1, p.2)
    (base_refused c.args.netlist.now c.loop-value.bases c.loop-value.value c.loop-value.invariant.are c.loop-value.invariant.rules
    (omega (arith, c.loop-value-test.true, c.modes_in-value-end.ensures)) cause refused)

pub loop-value-preserved : goal.loop-value-preserved
loop-value-preserved c =
    let checked = c.in_ok-check.field-0 in
    let accepted : Accepts (base_at c.args.netlist.now c.loop-value.value) checked = subst (λ (n : Netlist). Accepts n checked) c.in_ok-base.ensures c.in_ok-check.ensures.found in
    record {
      are =
          rw c.in_ok-push.ensures.pushed
          (more_are c.args.netlist.now c.loop-value.bases c.loop-value.value c.loop-value.invariant.are c.loop-value.invariant.rules checked accepted);
      rules =
          rw c.in_ok-push.ensures.pushed
          (more_rules c.args.netlist.now c.loop-value.bases c.loop-value.value c.loop-value.invariant.are c.loop-value.invariant.rules checked accepted);
    }

pub returns : goal.returns
returns c =
    let netlist = c.args.netlist.now in
    let all : c.loop-value.value ≡ modes_in netlist = omega (arith, c.modes_in-value-end.ensures) in
    record {
      special = mode_of_special netlist c.requires.plain c.requires.formed.special;
      are = subst (λ (n : ℕ). map (λ (base : Ordered). base.netlist) c.loop-value.bases ≡ bases_below netlist n) all c.loop-value.invariant.are;
      rules = c.loop-value.invariant.rules;
    }
