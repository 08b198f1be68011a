use Rattle.std.proofs.Common.{◌≡◌, ◌≤◌, ◌<◌, ℕ, List, arith, length}
use Rattle.std.proofs.lemmas.Result.{err_from_is_err_and}
use Rattle.net_model.specs.declared.hardware.Netlist.{Netlist}
use Rattle.net_model.proofs.ModeFaults.{some_modes}
use Rattle.compaction.specs.declared.machine.KnownMachine.{KnownMachine}
use Rattle.code_gen.specs.declared.modes.FormsByMode.{FormsByMode}
use Rattle.code_gen.specs.Inner.Planning.{AreFormsBelow, AreMachinesOf}
use Rattle.code_gen.proofs.Held.{read}
use Rattle.code_gen.proofs.NeededForms.{formless, some_jump, some_step}
use Rattle.code_gen.proofs.Told.{first_told}
use Rattle.code_gen.proofs.modes.forms_by_mode.Goals as goal

whole : (machines : List KnownMachine) (n : ℕ) → length machines ≤ n → n ≤ length machines → n ≡ length machines
whole machines n past within = omega (arith, past, within)

-- mode 0 has its forms
some : (netlist : Netlist) (machines : List KnownMachine) (list : FormsByMode) → AreMachinesOf machines netlist → (n : ℕ) → AreFormsBelow netlist machines n list → n ≡ length machines → 0 < length list.kept.items
some netlist machines list are n forms all =
    let long = are.long in
    let kept = forms.kept in
    let modes = some_modes netlist in
    omega (arith, long, kept, modes, all)

pub returns-in_err-check_kinds-clause-refused : goal.returns-in_err-check_kinds-clause-refused
returns-in_err-check_kinds-clause-refused c =
    let p = err_from_is_err_and c.from_residual-in_err-check_kinds.result c.from_residual-in_err-check_kinds.ensures.1 in
    let own = (first_told c.args.netlist.now c.args.machines.now c.loop-mode.list c.requires.machines c.loop-mode.mode c.loop-mode.invariant.forms (whole c.args.machines.now c.loop-mode.mode c.loop-mode-test.false c.loop-mode.auto.mode-end) c.index.result.now
    (read c.loop-mode.list.kept.items 0 c.index.result.now (some c.args.netlist.now c.args.machines.now c.loop-mode.list c.requires.machines c.loop-mode.mode c.loop-mode.invariant.forms (whole c.args.machines.now c.loop-mode.mode c.loop-mode-test.false c.loop-mode.auto.mode-end)) c.index.ensures)) in
    rw (p.1, p.2) (formless c.args.netlist.now own.0 c.index.result.now.list.items own.1 _ (rw c.deref.ensures.value at c.in_err-check_kinds.ensures.refused))

pub returns-clause-steps : goal.returns-clause-steps
returns-clause-steps c =
    let own = (first_told c.args.netlist.now c.args.machines.now c.loop-mode.list c.requires.machines c.loop-mode.mode c.loop-mode.invariant.forms (whole c.args.machines.now c.loop-mode.mode c.loop-mode-test.false c.loop-mode.auto.mode-end) c.index.result.now
    (read c.loop-mode.list.kept.items 0 c.index.result.now (some c.args.netlist.now c.args.machines.now c.loop-mode.list c.requires.machines c.loop-mode.mode c.loop-mode.invariant.forms (whole c.args.machines.now c.loop-mode.mode c.loop-mode-test.false c.loop-mode.auto.mode-end)) c.index.ensures)) in
    some_step c.args.netlist.now own.0 c.index.result.now.list.items own.1 (rw c.deref.ensures.value at c.in_ok-check_kinds.ensures.steps)

pub returns-clause-jumps : goal.returns-clause-jumps
returns-clause-jumps c =
    let own = (first_told c.args.netlist.now c.args.machines.now c.loop-mode.list c.requires.machines c.loop-mode.mode c.loop-mode.invariant.forms (whole c.args.machines.now c.loop-mode.mode c.loop-mode-test.false c.loop-mode.auto.mode-end) c.index.result.now
    (read c.loop-mode.list.kept.items 0 c.index.result.now (some c.args.netlist.now c.args.machines.now c.loop-mode.list c.requires.machines c.loop-mode.mode c.loop-mode.invariant.forms (whole c.args.machines.now c.loop-mode.mode c.loop-mode-test.false c.loop-mode.auto.mode-end)) c.index.ensures)) in
    some_jump c.args.netlist.now own.0 c.index.result.now.list.items own.1 (rw c.deref.ensures.value at c.in_ok-check_kinds.ensures.jumps)
