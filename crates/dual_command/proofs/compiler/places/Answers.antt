use Rattle.std.proofs.Common.{◌≡◌, ◌≤◌, ◌^◌, ℕ, subst}
use Rattle.std.specs.Prelude.{IfErr, IfOk}
use Rattle.src_model.specs.Written.{model_of_program}
use Rattle.code_model.specs.declared.image.Places.{Places}
use Rattle.dual_bank.specs.Layouts.{IsBankFault, bank_cells, bank_layout, memory_need}
use Rattle.dual_command.specs.Inner.Viewed.{view_bits}
use Rattle.dual_command.proofs.compiler.places.Goals as goal

pub returns-clause-places : goal.returns-clause-places
returns-clause-places c =
    let typed = c.args.typed.now in
    let flags = c.args.in_bank.now.items in
    subst (λ (k : ℕ). IfOk c.bind_banks.result (λ (places : Places). places ≡ bank_layout typed.width k flags (model_of_program typed.program))) c.sizes_of-sizes.ensures.addr_width c.bind_banks.ensures.places

pub returns-clause-memory : goal.returns-clause-memory
returns-clause-memory c =
    let typed = c.args.typed.now in
    let flags = c.args.in_bank.now.items in
    subst (λ (k : ℕ). IfOk c.bind_banks.result (λ (places : Places). memory_need typed.width flags (model_of_program typed.program) ≤ 2 ^ k)) c.sizes_of-sizes.ensures.addr_width c.bind_banks.ensures.memory

pub returns-clause-enough : goal.returns-clause-enough
returns-clause-enough c =
    let typed = c.args.typed.now in
    let flags = c.args.in_bank.now.items in
    subst (λ (size : ℕ). IfOk c.bind_banks.result (λ (places : Places). bank_cells flags typed.program.vars ≤ size)) c.sizes_of-sizes.ensures.bank c.bind_banks.ensures.enough

pub returns-clause-refused : goal.returns-clause-refused
returns-clause-refused c =
    let typed = c.args.typed.now in
    let flags = c.args.in_bank.now.items in
    let need = memory_need typed.width flags (model_of_program typed.program) in
    let own = c.sizes_of-sizes.result in
    subst (λ (size : ℕ). IfErr c.bind_banks.result (IsBankFault need (2 ^ view_bits c.args.modes.now.netlist) (bank_cells flags typed.program.vars) size)) c.sizes_of-sizes.ensures.bank
    (subst (λ (k : ℕ). IfErr c.bind_banks.result (IsBankFault need (2 ^ k) (bank_cells flags typed.program.vars) own.bank)) c.sizes_of-sizes.ensures.addr_width c.bind_banks.ensures.refused)
