use Rattle.std.proofs.Common.{◌∙◌, ◌<◌, ◌+◌, ◌≤◌, ap, arith, get_or, length, refl, subst, sym}
use Rattle.std.specs.List.{AllByRecursion}
use Rattle.std.proofs.lemmas.Option.{slice_get-get_or}
use Rattle.branch_fix.specs.Bounds.{bound_of, control_words, sum_of}
use Rattle.branch_fix.specs.Laid.{IsLaid, outline}
use Rattle.form_model.specs.Live.{regs_of}
use Rattle.net_model.specs.Nets.{word_width}
use Rattle.net_model.proofs.ModeFaults.{some_modes}
use Rattle.right_code.specs.Covered.{numbered}
use Rattle.code_gen.specs.Inner.Coded.{AreItemWords, HasWord}
use Rattle.code_gen.specs.Inner.Planning.{costs_in}
use Rattle.code_gen.specs.Inner.Views.{HasModeBit, mode_bits}
use Rattle.code_gen.specs.Machines.{known_netlist, known_patterns}
use Rattle.code_gen.proofs.ByMode.{books_long, ready_at}
use Rattle.code_gen.proofs.Built.{is_made, items_have, within}
use Rattle.code_gen.proofs.Frames.{forms_within, machine_within}
use Rattle.code_gen.proofs.Held.{reach_read}
use Rattle.code_gen.proofs.Making.{sizes}
use Rattle.code_gen.proofs.ModeRegs.{mode_bit}
use Rattle.code_gen.proofs.image.laid_image.Goals as goal

-- mode 0 has its machine and its forms
pub bounds-modes-0 : goal.bounds-modes-0
bounds-modes-0 c =
    let t = c.requires.task in
    forms_within c.args.program.now.modes c.args.program.now t.task t.isas t.planning 0 (some_modes t.task.netlist)

pub bounds-modes-0-2 : goal.bounds-modes-0-2
bounds-modes-0-2 c =
    let t = c.requires.task in
    machine_within c.args.program.now.modes c.args.program.now t.task t.isas t.planning 0 (some_modes t.task.netlist)

-- and its book
pub bounds-books-0 : goal.bounds-books-0
bounds-books-0 c =
    let t = c.requires.task in
    let within = machine_within c.args.program.now.modes c.args.program.now t.task t.isas t.planning 0 (some_modes t.task.netlist) in
    let many = books_long c.args.program.now.modes.machines.now c.block_code.new.books c.block_code.ensures.ready in
    let some : 0 < length c.block_code.new.books = omega (arith, within, many) in
    some

pub words_of_items-requires-clause-ready : goal.words_of_items-requires-clause-ready
words_of_items-requires-clause-ready c =
    let t = c.requires.task in
    let within = machine_within c.args.program.now.modes c.args.program.now t.task t.isas t.planning 0 (some_modes t.task.netlist) in
    let many = books_long c.args.program.now.modes.machines.now c.block_code.new.books c.block_code.ensures.ready in
    (ready_at c.args.program.now.modes.machines.now c.block_code.new.books 0 _ _ c.block_code.ensures.ready (slice_get-get_or c.args.program.now.modes.machines.now 0 c.index-modes-0-2.result within)
    (slice_get-get_or c.block_code.new.books 0 c.index-books-0.result (omega (arith, within, many)))).ready

pub mode_set-requires : goal.mode_set-requires
mode_set-requires c =
    let t = c.requires.task in
    subst HasModeBit (sym t.planning.modes.special) (mode_bit t.task.netlist t.planning.checked.netlist)

pub laid-requires-clause-reach : goal.laid-requires-clause-reach
laid-requires-clause-reach c =
    let t = c.requires.task in
    let far = reach_read c.args.program.now.modes c.index-modes-0.result (forms_within c.args.program.now.modes c.args.program.now t.task t.isas t.planning 0 (some_modes t.task.netlist)) in
    let reach = c.requires.reach in
    omega (arith, far, reach)

pub laid-requires-clause-within : goal.laid-requires-clause-within
laid-requires-clause-within c =
    let program = c.args.program.now in
    let t = c.requires.task in
    let w = within c.args.program.now.modes program t.task t.isas t.planning c.in_ok-code.code.blocks.items c.in_ok-code.code.branches.items (c.in_ok-code.ensures.code t.task t.isas t.planning) in
    let are = c.as_slice.ensures ∙ c.in_ok-sizes.ensures ∙ ap sizes c.deref.ensures.value in
    let bound = c.requires.bound ∙ ap (bound_of program.flow.now) c.requires.costs in
    subst (λ n. sum_of c.as_slice.result.now + control_words program.flow.now ≤ n) (sym bound)
    (subst (λ xs. sum_of xs + control_words program.flow.now ≤ bound_of program.flow.now (costs_in program)) (sym are) w)

pub words_of_items-requires-clause-words : goal.words_of_items-requires-clause-words
words_of_items-requires-clause-words c =
    let modes = c.args.program.now.modes in
    let program = c.args.program.now in
    let forms = get_or modes.forms.now 0 c.index-modes-0.result in
    let machine = get_or modes.machines.now 0 c.index-modes-0-2.result in
    let t = c.requires.task in
    let are = c.as_slice.ensures ∙ c.in_ok-sizes.ensures ∙ ap sizes c.deref.ensures.value in
    let laid : IsLaid (outline program.flow.now (sizes c.in_ok-code.code.blocks.items) c.in_ok-code.code.branches.items forms 18446744073709551615 c.args.bound) c.in_ok-laid.laid =
    subst (λ xs. IsLaid (outline program.flow.now xs c.in_ok-code.code.branches.items forms 18446744073709551615 c.args.bound) c.in_ok-laid.laid) are
    (subst (λ bs. IsLaid (outline program.flow.now c.as_slice.result.now bs forms 18446744073709551615 c.args.bound) c.in_ok-laid.laid) c.deref-2.ensures.value c.in_ok-laid.ensures) in
    let first = slice_get-get_or modes.forms.now 0 c.index-modes-0.result (forms_within modes program t.task t.isas t.planning 0 (some_modes t.task.netlist)) in
    let own = slice_get-get_or modes.machines.now 0 c.index-modes-0-2.result (machine_within modes program t.task t.isas t.planning 0 (some_modes t.task.netlist)) in
    subst (AllByRecursion (HasWord (known_netlist machine) (known_patterns machine) (regs_of c.mode_set.result))) (sym c.as_slice-2.ensures)
    (subst (λ n. AllByRecursion (HasWord (known_netlist machine) (known_patterns machine) (regs_of n)) c.in_ok-laid.laid.items) (sym c.mode_set.ensures)
    (items_have modes program t.task t.isas t.planning c.in_ok-code.code.blocks.items c.in_ok-code.code.branches.items (c.in_ok-code.ensures.code t.task t.isas t.planning) c.in_ok-laid.laid forms 18446744073709551615 c.args.bound first laid machine own))

pub returns-clause-made : goal.returns-clause-made
returns-clause-made c = λ task isas p placed.
    (let modes = c.args.program.now.modes in
    let program = c.args.program.now in
    let forms = get_or modes.forms.now 0 c.index-modes-0.result in
    let machine = get_or modes.machines.now 0 c.index-modes-0-2.result in
    let are = c.as_slice.ensures ∙ c.in_ok-sizes.ensures ∙ ap sizes c.deref.ensures.value in
    let laid : IsLaid (outline program.flow.now (sizes c.in_ok-code.code.blocks.items) c.in_ok-code.code.branches.items forms 18446744073709551615 c.args.bound) c.in_ok-laid.laid =
    subst (λ xs. IsLaid (outline program.flow.now xs c.in_ok-code.code.branches.items forms 18446744073709551615 c.args.bound) c.in_ok-laid.laid) are
    (subst (λ bs. IsLaid (outline program.flow.now c.as_slice.result.now bs forms 18446744073709551615 c.args.bound) c.in_ok-laid.laid) c.deref-2.ensures.value c.in_ok-laid.ensures) in
    let first = slice_get-get_or modes.forms.now 0 c.index-modes-0.result (forms_within modes program task isas p 0 (some_modes task.netlist)) in
    let own = slice_get-get_or modes.machines.now 0 c.index-modes-0-2.result (machine_within modes program task isas p 0 (some_modes task.netlist)) in
    let items : AreItemWords (known_netlist machine) (known_patterns machine) (regs_of (mode_bits modes.special)) c.in_ok-code.code.blocks.items c.in_ok-laid.laid.items c.in_ok-words.words =
    subst (λ n. AreItemWords (known_netlist machine) (known_patterns machine) (regs_of n) c.in_ok-code.code.blocks.items c.in_ok-laid.laid.items c.in_ok-words.words) c.mode_set.ensures
    (subst (λ bs. AreItemWords (known_netlist machine) (known_patterns machine) (regs_of c.mode_set.result) bs c.in_ok-laid.laid.items c.in_ok-words.words) c.deref-3.ensures.value
    (subst (λ xs. AreItemWords (known_netlist machine) (known_patterns machine) (regs_of c.mode_set.result) c.deref-3.result.now xs c.in_ok-words.words) c.as_slice-2.ensures c.in_ok-words.ensures.words)) in
    is_made modes program task isas p c.in_ok-code.code.blocks.items c.in_ok-code.code.branches.items (c.in_ok-code.ensures.code task isas p) c.in_ok-laid.laid forms 18446744073709551615 c.args.bound first laid
    (c.requires.bound ∙ ap (bound_of program.flow.now) c.requires.costs) c.args.places placed _ machine own items refl (c.in_ok-costs.ensures.lines ∙ ap (numbered 0) c.requires.costs) (c.word_width.ensures ∙ ap word_width c.netlist.ensures.value) refl refl)
