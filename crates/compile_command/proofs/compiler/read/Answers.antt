use Rattle.std.proofs.Common.{ℕ, ◌≡◌, ◌∙◌, sym, subst}
use Rattle.std.proofs.lemmas.Result.{err_from_is_err_and}
use Rattle.src_model.specs.Written.{model_of_program}
use Rattle.src_front.specs.Fronts.{IsSrcFile}
use Rattle.net_model.specs.Nets.{memory_width}
use Rattle.compile_command.proofs.FittingLemmas.{of_first}
use Rattle.compile_command.proofs.ReadLemmas.{read_checked}
use Rattle.compile_command.proofs.TaskLemmas.{fault_of_program}
use Rattle.compile_command.proofs.compiler.read.Goals as goal

pub returns-in_err-typed-clause-refused : goal.returns-in_err-typed-clause-refused
returns-in_err-typed-clause-refused c =
    let p = err_from_is_err_and c.from_residual-in_err-typed.result c.from_residual-in_err-typed.ensures.1 in
    let wide = of_first memory_width c.in_ok-modes.modes.netlist c.first.result.now.netlist c.memory_width.result c.first.ensures.base c.memory_width.ensures.width in
    rw (p.1, p.2)
    (fault_of_program c.args.net.now c.args.src.now c.in_ok-modes.modes _ c.in_ok-modes.ensures.found wide _ c.in_err-typed.ensures.refused)

pub returns-clause-read : goal.returns-clause-read
returns-clause-read c =
    let typed = c.in_ok-typed.typed in
    let wide = of_first memory_width c.in_ok-modes.modes.netlist c.first.result.now.netlist c.memory_width.result c.first.ensures.base c.memory_width.ensures.width in
    record {
      net_file = c.in_ok-modes.ensures.found;
      src_file = subst (λ (n : ℕ). IsSrcFile c.args.src.now n (model_of_program typed.program)) (sym c.in_ok-typed.ensures.width) c.in_ok-typed.ensures.found;
      width = c.in_ok-typed.ensures.width ∙ wide;
    }

pub returns-clause-checked : goal.returns-clause-checked
returns-clause-checked c = read_checked c.args.net.now c.args.src.now c.in_ok-modes.modes c.in_ok-typed.typed (returns-clause-read c) c.requires.src
