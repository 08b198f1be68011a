use Rattle.std.proofs.Common.{ℕ, ◌≡◌, ◌∙◌, None, subst, sym, arith}
use Rattle.std.proofs.lemmas.Result.{err_from_is_err_and}
use Rattle.net_model.specs.Elaborated.{netlist_of}
use Rattle.net_model.specs.Nets.{memory_width}
use Rattle.src_model.specs.Rules.{first_fault}
use Rattle.src_model.specs.Written.{model_of_program}
use Rattle.src_front.proofs.Lengths.{few_variables}
use Rattle.src_front.proofs.SourceNames.{source_names}
use Rattle.src_front.specs.Fronts.{IsSrcFile}
use Rattle.compile_command.proofs.FittingLemmas.{of_first}
use Rattle.dual_command.specs.Code.{IsDualCode}
use Rattle.dual_command.proofs.DualLemmas.{dual_of_read, fault_of_code, fault_of_told, fault_of_view, seen_of_text, viewed_width}
use Rattle.dual_command.proofs.PartLaws.{part_long}
use Rattle.dual_command.proofs.compiler.dual.Goals as goal

pub text_for-requires-clause-seen : goal.text_for-requires-clause-seen
text_for-requires-clause-seen c =
    let read = c.in_ok-modes.ensures.found in
    record { netlist = netlist_of read.routed.entries; is = seen_of_text c.args.net.now c.in_ok-modes.modes read }

pub text_for-requires-clause-isas : goal.text_for-requires-clause-isas
text_for-requires-clause-isas c = c.in_ok-modes.ensures.isas

pub text_for-requires-clause-width : goal.text_for-requires-clause-width
text_for-requires-clause-width c =
    c.in_ok-typed.ensures.width
    ∙ of_first memory_width c.in_ok-modes.modes.netlist c.first.result.now.netlist c.memory_width.result c.first.ensures.base c.memory_width.ensures.width

pub text_for-requires-clause-program : goal.text_for-requires-clause-program
text_for-requires-clause-program c =
    subst (λ (n : ℕ). first_fault n (model_of_program c.in_ok-typed.typed.program) ≡ None) (sym c.in_ok-typed.ensures.width) c.in_ok-typed.ensures.found.kept

pub text_for-requires-clause-few : goal.text_for-requires-clause-few
text_for-requires-clause-few c =
    let k = few_variables c.args.src.now (model_of_program c.in_ok-typed.typed.program) c.in_ok-typed.ensures.found.says.text in
    omega (arith, k, c.requires.src)

pub text_for-requires-clause-named : goal.text_for-requires-clause-named
text_for-requires-clause-named c = source_names c.args.src.now (model_of_program c.in_ok-typed.typed.program) c.in_ok-typed.ensures.found.says.text

pub text_for-requires-clause-flags : goal.text_for-requires-clause-flags
text_for-requires-clause-flags c = part_long c.in_ok-typed.typed.program.vars c.args.named.now c.in_ok-typed.in_bank.items c.in_ok-typed.ensures.part

pub returns-in_err-modes-clause-refused : goal.returns-in_err-modes-clause-refused
returns-in_err-modes-clause-refused c =
    let p = err_from_is_err_and c.from_residual.result c.from_residual.ensures.1 in
    rw (p.1, p.2) (fault_of_view c.args.net.now c.args.src.now c.args.named.now _ c.in_err-modes.ensures.refused)

pub returns-in_err-typed-clause-refused : goal.returns-in_err-typed-clause-refused
returns-in_err-typed-clause-refused c =
    let p = err_from_is_err_and c.from_residual-in_err-typed.result c.from_residual-in_err-typed.ensures.1 in
    let wide = of_first memory_width c.in_ok-modes.modes.netlist c.first.result.now.netlist c.memory_width.result c.first.ensures.base c.memory_width.ensures.width in
    rw (p.1, p.2)
    (fault_of_told c.args.net.now c.args.src.now c.args.named.now c.in_ok-modes.modes c.in_ok-modes.ensures.found _
    (wide ∙ viewed_width c.args.net.now c.in_ok-modes.modes c.in_ok-modes.ensures.found) _ c.in_err-typed.ensures.refused)

pub returns-in_err-text-clause-refused : goal.returns-in_err-text-clause-refused
returns-in_err-text-clause-refused c =
    let typed = c.in_ok-typed.typed in
    let read = c.in_ok-modes.ensures.found in
    let p = err_from_is_err_and c.from_residual-in_err-text.result c.from_residual-in_err-text.ensures.1 in
    let wide = of_first memory_width c.in_ok-modes.modes.netlist c.first.result.now.netlist c.memory_width.result c.first.ensures.base c.memory_width.ensures.width in
    rw (p.1, p.2)
    (fault_of_code c.args.net.now c.args.src.now c.args.named.now c.in_ok-modes.modes typed c.in_ok-typed.in_bank.items read
    (c.in_ok-typed.ensures.width ∙ wide ∙ viewed_width c.args.net.now c.in_ok-modes.modes read)
    (subst (λ (n : ℕ). IsSrcFile c.args.src.now n (model_of_program typed.program)) (sym c.in_ok-typed.ensures.width) c.in_ok-typed.ensures.found)
    c.in_ok-typed.ensures.part _
    (c.in_err-text.ensures.refused (netlist_of read.routed.entries) (seen_of_text c.args.net.now c.in_ok-modes.modes read)))

pub returns-clause-right : goal.returns-clause-right
returns-clause-right c =
    let typed = c.in_ok-typed.typed in
    let read = c.in_ok-modes.ensures.found in
    let wide = of_first memory_width c.in_ok-modes.modes.netlist c.first.result.now.netlist c.memory_width.result c.first.ensures.base c.memory_width.ensures.width in
    dual_of_read c.args.net.now c.args.src.now c.args.named.now c.in_ok-modes.modes typed c.in_ok-typed.in_bank.items read
    (c.in_ok-typed.ensures.width ∙ wide ∙ viewed_width c.args.net.now c.in_ok-modes.modes read)
    (subst (λ (n : ℕ). IsSrcFile c.args.src.now n (model_of_program typed.program)) (sym c.in_ok-typed.ensures.width) c.in_ok-typed.ensures.found)
    c.in_ok-typed.ensures.part (IsDualCode c.in_ok-text.text.items)
    (c.in_ok-text.ensures.text (netlist_of read.routed.entries) (seen_of_text c.args.net.now c.in_ok-modes.modes read))
