use Rattle.std.proofs.Common.{◌≡◌, List, subst, sym}
use Rattle.std.proofs.lemmas.Result.{IfOk-from_err, on_ok_weaker}
use Rattle.form_model.specs.declared.forms.Step.{Step}
use Rattle.net_model.proofs.ModeFaults.{some_modes}
use Rattle.code_gen.specs.Inner.Coded.{AddsPacked, HaveWordsIn}
use Rattle.code_gen.specs.Inner.Planning.{plans_in}
use Rattle.code_gen.specs.Inner.Views.{HasModeBit}
use Rattle.code_gen.proofs.Cutting.{places_mode}
use Rattle.code_gen.proofs.Frames.{machine_within}
use Rattle.code_gen.proofs.ModeRegs.{mode_bit}
use Rattle.code_gen.proofs.Running.{place_steps, run_words, zeros_run}
use Rattle.code_gen.proofs.cuts.push_zeros.Goals as goal

pub push_packed-requires-clause-special : goal.push_packed-requires-clause-special
push_packed-requires-clause-special c =
    let p = c.requires.planned in
    subst HasModeBit (sym p.planning.modes.special) (mode_bit p.task.netlist p.planning.checked.netlist)

pub push_packed-requires-clause-mode : goal.push_packed-requires-clause-mode
push_packed-requires-clause-mode c =
    let p = c.requires.planned in
    machine_within c.args.program.now.modes c.args.program.now p.task p.isas p.planning 0 (some_modes p.task.netlist)

pub push_packed-requires-clause-words : goal.push_packed-requires-clause-words
push_packed-requires-clause-words c =
    let steps : c.in_ok-steps.steps ≡ place_steps c.args.program.now.modes c.args.program.now c.args.at c.args.count = c.in_ok-steps.ensures in
    let modes = c.args.program.now.modes in
    let program = c.args.program.now in
    let p = c.requires.planned in
    subst (λ (list : List Step). HaveWordsIn modes 0 list) (sym c.as_slice.ensures)
    (subst (λ (list : List Step). HaveWordsIn modes 0 list) (sym steps)
    (run_words modes program p.task p.isas p.planning 0 c.args.at c.args.count (some_modes p.task.netlist)
    (places_mode 0 (plans_in program) program.flow.now c.args.at c.args.count c.requires.zero)))

pub returns-clause-run : goal.returns-clause-run
returns-clause-run c =
    let steps : c.in_ok-steps.steps ≡ place_steps c.args.program.now.modes c.args.program.now c.args.at c.args.count = c.in_ok-steps.ensures in
    on_ok_weaker c.push_packed.result
    (λ a. zeros_run c.args.program.now.modes c.args.program.now c.args.at c.args.count c.args.block.now c.push_packed.new.block c.requires.zero
    (subst (λ (list : List Step). AddsPacked c.args.program.now.modes 0 list c.args.block.now c.push_packed.new.block) steps
    (subst (λ (list : List Step). AddsPacked c.args.program.now.modes 0 list c.args.block.now c.push_packed.new.block) c.as_slice.ensures a)))
    c.push_packed.ensures.packed

pub returns-in_err-steps-clause-run : goal.returns-in_err-steps-clause-run
returns-in_err-steps-clause-run c = IfOk-from_err c.from_residual.result _ c.from_residual.ensures.0
