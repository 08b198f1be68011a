use Rattle.std.proofs.Common.{◌≤◌, List, length, sym, ap, ◌∙◌, subst, arith}
use Rattle.src_model.specs.declared.program.Program.{Program}
use Rattle.src_model.specs.declared.program.Var.{Var as Declared}
use Rattle.src_model.specs.Written.{model_of_program}
use Rattle.src_model.specs.Sizes.{longest}
use Rattle.src_model.proofs.Bounds.{rules_hold, few_temps}
use Rattle.dual_bank.proofs.Cells.{counts_le}
use Rattle.dual_bank.proofs.layout.bind_banks.Goals as goal

pub overflow_add-from : goal.overflow_add-from
overflow_add-from c =
    let typed = c.args.typed.now in
    let rules = rules_hold typed.width (model_of_program typed.program) typed.kept in
    let temps = few_temps typed.width (model_of_program typed.program) typed.kept in
    let same = c.as_slice-vars.ensures ∙ ap (λ (p : Program). p.vars) c.program.ensures.value in
    let few = subst (λ (l : List Declared). longest l ≤ 65536) (sym same) rules.few_cells in
    let cells = counts_le c.as_slice-flags.result.now c.as_slice-vars.result.now few in
    let long = ap (λ (l : List Declared). length l) same in
    omega (arith, cells, temps, long, c.temps-temps.ensures, c.requires.few)
