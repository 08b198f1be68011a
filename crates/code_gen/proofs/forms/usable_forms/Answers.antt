use Rattle.std.proofs.lemmas.Result.{err_from_is_err_and}
use Rattle.std.proofs.Common.{refl}
use Rattle.form_model.specs.Forms.{models_of_forms}
use Rattle.transfer_set.specs.Rows.{row_patterns}
use Rattle.code_gen.proofs.FormLemmas.{plain_isa}
use Rattle.code_gen.proofs.NeededForms.{formless, some_jump, some_step}
use Rattle.code_gen.proofs.forms.usable_forms.Goals as goal

pub returns-in_err-check_kinds-clause-refused : goal.returns-in_err-check_kinds-clause-refused
returns-in_err-check_kinds-clause-refused c =
    let p = err_from_is_err_and c.from_residual-in_err-check_kinds.result c.from_residual-in_err-check_kinds.ensures.1 in
    let forms = c.in_ok-forms.forms in
    let netlist = c.args.machine.now.checked.now.netlist in
    let patterns = row_patterns c.args.machine.now.pool.now c.args.machine.now.patterns.now.rows in
    rw (p.1, p.2)
    (formless netlist (plain_isa netlist c.requires.plain patterns c.requires.patterns (models_of_forms forms.list.items) forms.reach c.in_ok-forms.ensures.forms) forms.list.items refl _
    (rw c.deref.ensures.value at c.in_err-check_kinds.ensures.refused))

pub returns-clause-steps : goal.returns-clause-steps
returns-clause-steps c =
    let forms = c.in_ok-forms.forms in
    let netlist = c.args.machine.now.checked.now.netlist in
    let patterns = row_patterns c.args.machine.now.pool.now c.args.machine.now.patterns.now.rows in
    some_step netlist (plain_isa netlist c.requires.plain patterns c.requires.patterns (models_of_forms forms.list.items) forms.reach c.in_ok-forms.ensures.forms) forms.list.items refl
    (rw c.deref.ensures.value at c.in_ok-check_kinds.ensures.steps)

pub returns-clause-jumps : goal.returns-clause-jumps
returns-clause-jumps c =
    let forms = c.in_ok-forms.forms in
    let netlist = c.args.machine.now.checked.now.netlist in
    let patterns = row_patterns c.args.machine.now.pool.now c.args.machine.now.patterns.now.rows in
    some_jump netlist (plain_isa netlist c.requires.plain patterns c.requires.patterns (models_of_forms forms.list.items) forms.reach c.in_ok-forms.ensures.forms) forms.list.items refl
    (rw c.deref.ensures.value at c.in_ok-check_kinds.ensures.jumps)
