use Rattle.std.proofs.Common.{◌+◌, ◌≤◌, sym, ap, ◌∙◌, subst, arith}
use Rattle.src_model.specs.declared.program.Program.{Program}
use Rattle.src_model.specs.Written.{model_of_program}
use Rattle.src_model.specs.Meaning.{cell_count}
use Rattle.code_model.specs.Places.{Apart}
use Rattle.src_model.proofs.Bounds.{rules_hold, few_temps}
use Rattle.binding.proofs.Cells.{count_le, apart}
use Rattle.binding.proofs.layout.bind.Goals as goal

pub overflow_add-need : goal.overflow_add-need
overflow_add-need c =
    let typed = c.args.typed.now in
    let rules = rules_hold typed.width (model_of_program typed.program) typed.kept in
    let cells = count_le typed.program.vars rules.few_cells in
    let temps = few_temps typed.width (model_of_program typed.program) typed.kept in
    let same = ap cell_count (c.as_slice-vars.ensures ∙ ap (λ (p : Program). p.vars) c.program.ensures.value) in
    omega (arith, cells, temps, same, c.cell_count.ensures, c.temps-temps.ensures, c.from.ensures, c.requires.few)

pub returns-clause-apart : goal.returns-clause-apart
returns-clause-apart c =
    let typed = c.args.typed.now in
    let enough : c.temps-temps.result + cell_count c.as_slice-vars.result.now ≤ c.args.words =
    omega (arith, c.if-need-have.false, c.cell_count.ensures, c.from.ensures, c.from-have.ensures) in
    subst (λ list. Apart c.temps-temps.result list c.args.words) (sym c.in_ok-list.ensures)
    (apart c.temps-temps.result c.args.words c.as_slice-vars.result.now enough)
