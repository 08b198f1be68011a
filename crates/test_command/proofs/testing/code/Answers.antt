use Rattle.std.proofs.Common.{◌≡◌, ◌∙◌, false, refl, sym, true}
use Rattle.std.specs.List.{list_all}
use Rattle.form_model.specs.declared.forms.Form.{Form}
use Rattle.form_model.specs.Forms.{model_of_goal, models_of_forms}
use Rattle.form_set.specs.Promises.{is_control_goal}
use Rattle.code_gen.specs.Machines.{known_netlist, known_patterns}
use Rattle.code_gen.proofs.FormLemmas.{plain_isa}
use Rattle.code_gen.proofs.NeededForms.{some_step, stepless}
use Rattle.test_command.specs.Refusals.{HasForms}
use Rattle.test_command.proofs.Answering.{cells, code_made}
use Rattle.test_command.proofs.testing.code.Goals as goal

pub returns-then-only_control-clause-refused : goal.returns-then-only_control-clause-refused
returns-then-only_control-clause-refused c =
    let nt = known_netlist c.args.known.now in
    let patterns = known_patterns c.args.known.now in
    let list = c.args.forms.now.list.items in
    let has : HasForms nt patterns (models_of_forms list) = record { are = c.requires.patterns; reach = c.args.forms.now.reach; forms = c.requires.forms } in
    let control : list_all (λ (form : Form). is_control_goal (model_of_goal form.goal)) list ≡ true = rw c.deref.ensures.value at (sym c.only_control.ensures ∙ c.if-only_control.true) in
    (cells nt patterns (models_of_forms list) has c.in_ok-tests.ensures.jobs.room, stepless nt (plain_isa nt c.requires.plain patterns c.requires.patterns (models_of_forms list) c.args.forms.now.reach c.requires.forms) list refl control)

pub returns-clause-code : goal.returns-clause-code
returns-clause-code c =
    let nt = known_netlist c.args.known.now in
    let patterns = known_patterns c.args.known.now in
    let list = c.args.forms.now.list.items in
    let has : HasForms nt patterns (models_of_forms list) = record { are = c.requires.patterns; reach = c.args.forms.now.reach; forms = c.requires.forms } in
    let control : list_all (λ (form : Form). is_control_goal (model_of_goal form.goal)) list ≡ false = rw c.deref.ensures.value at (sym c.only_control.ensures ∙ c.if-only_control.false) in
    code_made nt patterns (models_of_forms list) has c.in_ok-code.code c.in_ok-code.ensures.code c.in_ok-tests.ensures.jobs.room
    (some_step nt (plain_isa nt c.requires.plain patterns c.requires.patterns (models_of_forms list) c.args.forms.now.reach c.requires.forms) list refl control)
