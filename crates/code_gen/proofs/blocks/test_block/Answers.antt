use Rattle.std.proofs.Common.{bit_or, get_or, subst, sym}
use Rattle.std.proofs.lemmas.Option.{slice_get-get_or}
use Rattle.cover.specs.Best.{model_of_job_cover}
use Rattle.form_model.specs.Live.{regs_of, singles}
use Rattle.src_trees.specs.Jobs.{model_of_job}
use Rattle.net_model.proofs.ModeFaults.{some_modes}
use Rattle.code_gen.specs.Inner.Coded.{IsTestCode}
use Rattle.code_gen.specs.Inner.Views.{HasModeBit}
use Rattle.code_gen.proofs.ByMode.{ready_at, ready_set}
use Rattle.code_gen.proofs.Frames.{emitted_covers, forms_within, machine_within}
use Rattle.code_gen.proofs.ModeRegs.{mode_bit}
use Rattle.code_gen.proofs.Running.{book_within, emitted_code, emitted_words, known_at, known_words}
use Rattle.code_gen.proofs.blocks.test_block.Goals as goal

-- mode 0 has its machine, its forms and its book
pub bounds-modes-0 : goal.bounds-modes-0
bounds-modes-0 c =
    let q = c.requires.planned in
    machine_within c.args.program.now.modes c.args.program.now q.task q.isas q.planning 0 (some_modes q.task.netlist)

pub bounds-modes-0-2 : goal.bounds-modes-0-2
bounds-modes-0-2 c =
    let q = c.requires.planned in
    forms_within c.args.program.now.modes c.args.program.now q.task q.isas q.planning 0 (some_modes q.task.netlist)

pub bounds-books-0 : goal.bounds-books-0
bounds-books-0 c =
    let q = c.requires.planned in
    let some = machine_within c.args.program.now.modes c.args.program.now q.task q.isas q.planning 0 (some_modes q.task.netlist) in
    book_within c.args.program.now.modes.machines.now c.args.books.now 0 c.requires.ready some

pub mode_set-requires : goal.mode_set-requires
mode_set-requires c =
    let q = c.requires.planned in
    subst (λ o. HasModeBit o) (sym q.planning.modes.special) (mode_bit q.task.netlist q.planning.checked.netlist)

pub emit-requires : goal.emit-requires
emit-requires c =
    let modes = c.args.program.now.modes in
    let q = c.requires.planned in
    let t = c.requires.job in
    emitted_covers modes c.args.program.now q.task q.isas q.planning t.tree (model_of_job c.args.job.now) (record { mode = 0; choice = model_of_job_cover c.args.chosen.now }) _ t.jobs t.plans
    (slice_get-get_or modes.forms.now 0 _ (forms_within modes c.args.program.now q.task q.isas q.planning 0 (some_modes q.task.netlist)))

-- the machine of mode 0 is ready in its book, and knows what its expressions read
pub branch_registers-requires-clause-tables : goal.branch_registers-requires-clause-tables
branch_registers-requires-clause-tables c =
    let q = c.requires.planned in
    let some = machine_within c.args.program.now.modes c.args.program.now q.task q.isas q.planning 0 (some_modes q.task.netlist) in
    (known_at c.args.program.now.modes c.args.books.now 0 _ c.requires.ready some (slice_get-get_or c.args.program.now.modes.machines.now 0 _ some)).reads

pub branch_registers-requires-clause-listed : goal.branch_registers-requires-clause-listed
branch_registers-requires-clause-listed c =
    let q = c.requires.planned in
    let some = machine_within c.args.program.now.modes c.args.program.now q.task q.isas q.planning 0 (some_modes q.task.netlist) in
    (known_at c.args.program.now.modes c.args.books.now 0 _ c.requires.ready some (slice_get-get_or c.args.program.now.modes.machines.now 0 _ some)).listed

pub pack_block-requires-clause-ready : goal.pack_block-requires-clause-ready
pack_block-requires-clause-ready c =
    let modes = c.args.program.now.modes in
    let books = c.args.books.now in
    let q = c.requires.planned in
    let some = machine_within modes c.args.program.now q.task q.isas q.planning 0 (some_modes q.task.netlist) in
    (ready_at modes.machines.now books 0 _ _ c.requires.ready (slice_get-get_or modes.machines.now 0 _ some) (slice_get-get_or books 0 _ (book_within modes.machines.now books 0 c.requires.ready some))).ready

pub pack_block-requires-clause-tables : goal.pack_block-requires-clause-tables
pack_block-requires-clause-tables c =
    let q = c.requires.planned in
    let some = machine_within c.args.program.now.modes c.args.program.now q.task q.isas q.planning 0 (some_modes q.task.netlist) in
    (known_at c.args.program.now.modes c.args.books.now 0 _ c.requires.ready some (slice_get-get_or c.args.program.now.modes.machines.now 0 _ some)).reads

pub pack_block-requires-clause-words : goal.pack_block-requires-clause-words
pack_block-requires-clause-words c =
    let modes = c.args.program.now.modes in
    let program = c.args.program.now in
    let q = c.requires.planned in
    let t = c.requires.job in
    let machine = get_or modes.machines.now 0 c.index-modes-0.result in
    let some = machine_within modes program q.task q.isas q.planning 0 (some_modes q.task.netlist) in
    let forms = forms_within modes program q.task q.isas q.planning 0 (some_modes q.task.netlist) in
    let there = slice_get-get_or modes.machines.now 0 c.index-modes-0.result some in
    known_words machine (known_at modes c.args.books.now 0 machine c.requires.ready some there) (singles c.as_slice.result.now) (regs_of (bit_or c.branch_registers.result c.mode_set.result))
    (emitted_words modes program q.task q.isas q.planning t.tree (model_of_job c.args.job.now) (record { mode = 0; choice = model_of_job_cover c.args.chosen.now }) t.jobs t.plans t.test _ machine
    (slice_get-get_or modes.forms.now 0 c.index-modes-0-2.result forms) there
    c.branch_registers.result c.branch_registers.type_inv c.branch_registers.ensures c.mode_set.result c.mode_set.ensures c.in_ok-emitted.emitted c.in_ok-emitted.ensures c.as_slice.result.now c.as_slice.ensures)

pub returns-clause-code : goal.returns-clause-code
returns-clause-code c = λ task isas p.
    (let modes = c.args.program.now.modes in
    let program = c.args.program.now in
    let t = c.requires.job in
    let some = machine_within modes program task isas p 0 (some_modes task.netlist) in
    let forms = forms_within modes program task isas p 0 (some_modes task.netlist) in
    subst (λ b. IsTestCode task isas (model_of_job c.args.job.now) (record { mode = 0; choice = model_of_job_cover c.args.chosen.now }) c.in_ok-block.block (record { form = c.args.chosen.now.cover.form; setting = b })) (sym c.unwrap_or.ensures)
    (emitted_code modes program task isas p t.tree (model_of_job c.args.job.now) (record { mode = 0; choice = model_of_job_cover c.args.chosen.now }) t.jobs t.plans t.test _ _
    (slice_get-get_or modes.forms.now 0 _ forms) (slice_get-get_or modes.machines.now 0 _ some)
    c.branch_registers.result c.branch_registers.type_inv c.branch_registers.ensures c.mode_set.result c.mode_set.ensures c.in_ok-emitted.emitted c.in_ok-emitted.ensures c.as_slice.result.now c.as_slice.ensures
    c.in_ok-block.block c.in_ok-block.ensures.packed))

pub returns-clause-ready : goal.returns-clause-ready
returns-clause-ready c =
    let q = c.requires.planned in
    let some = machine_within c.args.program.now.modes c.args.program.now q.task q.isas q.planning 0 (some_modes q.task.netlist) in
    ready_set c.args.program.now.modes.machines.now c.args.books.now 0 _ c.pack_block.new.book c.requires.ready (slice_get-get_or c.args.program.now.modes.machines.now 0 _ some) c.pack_block.ensures.ready

pub returns-in_err-block-clause-ready : goal.returns-in_err-block-clause-ready
returns-in_err-block-clause-ready c =
    let q = c.requires.planned in
    let some = machine_within c.args.program.now.modes c.args.program.now q.task q.isas q.planning 0 (some_modes q.task.netlist) in
    ready_set c.args.program.now.modes.machines.now c.args.books.now 0 _ c.pack_block.new.book c.requires.ready (slice_get-get_or c.args.program.now.modes.machines.now 0 _ some) c.pack_block.ensures.ready
