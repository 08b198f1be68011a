use Rattle.std.proofs.Common.{ℕ, ◌∙◌, sym, subst}
use Rattle.std.proofs.lemmas.Result.{err_from_is_err_and}
use Rattle.src_front.specs.Fronts.{IsSrcFile}
use Rattle.src_model.specs.Written.{model_of_program}
use Rattle.check_command.proofs.ReadLemmas.{image_refused, net_refused, read_task, src_refused}
use Rattle.check_command.proofs.checking.read_all.Goals as goal

pub returns-in_err-checked-clause-refused : goal.returns-in_err-checked-clause-refused
returns-in_err-checked-clause-refused c =
    let p = err_from_is_err_and c.from_residual.result c.from_residual.ensures.1 in
    rw (p.1, p.2) (net_refused c.args.net.now c.args.src.now c.args.img.now _ c.in_err-checked.ensures.refused)

pub returns-in_err-typed-clause-refused : goal.returns-in_err-typed-clause-refused
returns-in_err-typed-clause-refused c =
    let p = err_from_is_err_and c.from_residual-in_err-typed.result c.from_residual-in_err-typed.ensures.1 in
    rw (p.1, p.2)
    (src_refused c.args.net.now c.args.src.now c.args.img.now c.in_ok-checked.checked.netlist c.in_ok-checked.ensures.found c.memory_width.result c.memory_width.ensures.width _ c.in_err-typed.ensures.refused)

pub returns-in_err-found-clause-refused : goal.returns-in_err-found-clause-refused
returns-in_err-found-clause-refused c =
    let p = err_from_is_err_and c.from_residual-in_err-found.result c.from_residual-in_err-found.ensures.1 in
    rw (p.1, p.2)
    (image_refused c.args.net.now c.args.src.now c.args.img.now c.in_ok-checked.checked.netlist c.in_ok-checked.ensures.found c.memory_width.result c.memory_width.ensures.width
    (model_of_program c.in_ok-typed.typed.program) c.in_ok-typed.ensures.found _ c.in_err-found.ensures.refused)

pub returns-clause-read : goal.returns-clause-read
returns-clause-read c =
    let typed = c.in_ok-typed.typed in
    read_task c.args.net.now c.args.src.now c.args.img.now c.in_ok-checked.checked.netlist c.in_ok-checked.ensures.found typed
    (c.in_ok-typed.ensures.width ∙ c.memory_width.ensures.width)
    (subst (λ (n : ℕ). IsSrcFile c.args.src.now n (model_of_program typed.program)) (sym c.in_ok-typed.ensures.width) c.in_ok-typed.ensures.found)
    c.in_ok-found.found.viewed c.in_ok-found.ensures.found
