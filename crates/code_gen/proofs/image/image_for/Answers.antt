use Rattle.std.proofs.Common.{◌≡◌, ◌∙◌, ◌↔◌, ℕ, Bool, List, Option, ap, length, refl, subst, sym}
use Rattle.net_model.specs.declared.hardware.Netlist.{Netlist}
use Rattle.net_model.specs.ModeRules.{KeepsModes, modes_in}
use Rattle.mode_set.specs.Keeping.{CanUse}
use Rattle.mode_set.specs.Plans.{UsableAt}
use Rattle.std.proofs.lemmas.Result.{IfErr-weaker, IfOk-weaker, err_from_is_err_and}
use Rattle.code_model.specs.declared.image.Places.{Places}
use Rattle.form_model.specs.declared.flow.Blocks.{Blocks}
use Rattle.src_trees.specs.Jobs.{models_of_jobs}
use Rattle.right_code.specs.Tasks.{IsChecked, Task, task_jobs}
use Rattle.compaction.specs.declared.machine.KnownMachine.{KnownMachine}
use Rattle.code_gen.specs.declared.modes.FormsByMode.{FormsByMode}
use Rattle.code_gen.specs.declared.views.Modes.{Modes}
use Rattle.code_gen.specs.declared.views.Passage.{Passage}
use Rattle.code_gen.specs.Inner.Imaged.{ArePlaces, IsCodedIn}
use Rattle.code_gen.specs.Inner.Planning.{AreFormsBelow, AreMachinesOf, ArePassages, all_form_models}
use Rattle.code_gen.specs.Refusals.{IsFormless, IsJumpless, IsStepless}
use Rattle.code_gen.specs.Tasks.{coded_task}
use Rattle.code_gen.proofs.Spelled.{formless_so}
use Rattle.code_gen.proofs.Told.{has_modes}
use Rattle.code_gen.proofs.image.image_for.Goals as goal

-- the netlist is that of the modes
pub forms_by_mode-requires-clause-rules : goal.forms_by_mode-requires-clause-rules
forms_by_mode-requires-clause-rules c = subst KeepsModes (sym c.netlist-netlist.ensures.value) c.requires.checked.netlist

pub forms_by_mode-requires-clause-machines : goal.forms_by_mode-requires-clause-machines
forms_by_mode-requires-clause-machines c = subst (AreMachinesOf c.args.machines.now) (sym c.netlist-netlist.ensures.value) c.requires.machines

pub usable_modes-requires : goal.usable_modes-requires
usable_modes-requires c = (c.args.machines.now, c.in_ok-forms.ensures.forms)

pub passages-requires-clause-rules : goal.passages-requires-clause-rules
passages-requires-clause-rules c = subst KeepsModes (sym c.netlist-netlist.ensures.value) c.requires.checked.netlist

pub passages-requires-clause-machines : goal.passages-requires-clause-machines
passages-requires-clause-machines c = subst (AreMachinesOf c.args.machines.now) (sym c.netlist-netlist.ensures.value) c.requires.machines

-- the jobs are those of the task, in the modes that the code is told of
coded : (task : Task) (modes : Modes) (machines : List KnownMachine) (netlist : Netlist) (forms : FormsByMode) (words : List (Option Passage)) (marks usable : List Bool) (places : Places) (blocks : Blocks)
    → netlist ≡ task.netlist → AreMachinesOf machines task.netlist → AreFormsBelow netlist machines (modes_in netlist) forms → ArePassages netlist machines forms words
    → modes.machines.now ≡ machines → modes.forms.now ≡ forms.kept.items → modes.special ≡ netlist.special → modes.passages.now ≡ words
    → usable ≡ marks → length marks ≡ modes_in netlist → ((v : ℕ) → UsableAt marks v ↔ CanUse netlist (all_form_models netlist forms) v)
    → ¬ IsStepless netlist → ¬ IsJumpless netlist → IsChecked task → ArePlaces task places → blocks.flow ≡ task.flow → models_of_jobs blocks.jobs.items ≡ task_jobs task
    → IsCodedIn modes usable places blocks task
coded task modes machines netlist forms words marks usable places blocks same are below passages as_machines as_forms special as_words given long can steps jumps checked placed flow jobs = record {
  told =
      has_modes task modes machines forms words are (subst (λ (n : Netlist). AreFormsBelow n machines (modes_in n) forms) same below) as_machines as_forms (special ∙ ap (λ (n : Netlist). n.special) same) as_words
      (subst (λ (n : Netlist). ArePassages n machines forms words) same passages) usable (ap (λ (list : List Bool). length list) given ∙ long ∙ ap modes_in same)
      (subst (λ (list : List Bool). (v : ℕ) → UsableAt list v ↔ CanUse task.netlist (all_form_models task.netlist forms) v) (sym given)
      (subst (λ (n : Netlist). (v : ℕ) → UsableAt marks v ↔ CanUse n (all_form_models n forms) v) same can));
  steps = subst (λ (n : Netlist). ¬ IsStepless n) same steps;
  jumps = subst (λ (n : Netlist). ¬ IsJumpless n) same jumps;
  checked = checked;
  placed = placed;
  flow = flow;
  jobs = jobs;
}

pub spelled_image-requires-clause-coded : goal.spelled_image-requires-clause-coded
spelled_image-requires-clause-coded c = record {
  task = coded_task c.args.modes.now.netlist c.args.program.typed.now c.args.program.places c.args.program.blocks;
  is = coded (coded_task c.args.modes.now.netlist c.args.program.typed.now c.args.program.places c.args.program.blocks) _ c.args.machines.now c.netlist-netlist.result.now c.in_ok-forms.forms c.in_ok-passages.passages.items c.in_ok-usable.usable.items c.deref-2.result.now _ c.args.program.blocks
      c.netlist-netlist.ensures.value c.requires.machines c.in_ok-forms.ensures.forms c.in_ok-passages.ensures.words refl c.deref.ensures.value refl c.deref-3.ensures.value c.deref-2.ensures.value c.in_ok-usable.ensures.long c.in_ok-usable.ensures.usable
      c.in_ok-forms.ensures.steps c.in_ok-forms.ensures.jumps c.requires.checked (record { temps = c.temps.ensures; list = refl }) refl refl;
  may = c.requires.plain;
}

pub returns-clause-right : goal.returns-clause-right
returns-clause-right c =
    IfOk-weaker c.spelled_image.result _ _ (λ x h. h (coded_task c.args.modes.now.netlist c.args.program.typed.now c.args.program.places c.args.program.blocks) (coded (coded_task c.args.modes.now.netlist c.args.program.typed.now c.args.program.places c.args.program.blocks) _ c.args.machines.now c.netlist-netlist.result.now c.in_ok-forms.forms c.in_ok-passages.passages.items c.in_ok-usable.usable.items c.deref-2.result.now _ c.args.program.blocks
    c.netlist-netlist.ensures.value c.requires.machines c.in_ok-forms.ensures.forms c.in_ok-passages.ensures.words refl c.deref.ensures.value refl c.deref-3.ensures.value c.deref-2.ensures.value c.in_ok-usable.ensures.long c.in_ok-usable.ensures.usable
    c.in_ok-forms.ensures.steps c.in_ok-forms.ensures.jumps c.requires.checked (record { temps = c.temps.ensures; list = refl }) refl refl) c.requires.plain)
    c.spelled_image.ensures.right

pub returns-clause-fits : goal.returns-clause-fits
returns-clause-fits c =
    IfOk-weaker c.spelled_image.result _ _ (λ x h. h (coded_task c.args.modes.now.netlist c.args.program.typed.now c.args.program.places c.args.program.blocks) (coded (coded_task c.args.modes.now.netlist c.args.program.typed.now c.args.program.places c.args.program.blocks) _ c.args.machines.now c.netlist-netlist.result.now c.in_ok-forms.forms c.in_ok-passages.passages.items c.in_ok-usable.usable.items c.deref-2.result.now _ c.args.program.blocks
    c.netlist-netlist.ensures.value c.requires.machines c.in_ok-forms.ensures.forms c.in_ok-passages.ensures.words refl c.deref.ensures.value refl c.deref-3.ensures.value c.deref-2.ensures.value c.in_ok-usable.ensures.long c.in_ok-usable.ensures.usable
    c.in_ok-forms.ensures.steps c.in_ok-forms.ensures.jumps c.requires.checked (record { temps = c.temps.ensures; list = refl }) refl refl) c.requires.plain)
    c.spelled_image.ensures.fits

pub returns-clause-reached : goal.returns-clause-reached
returns-clause-reached c =
    IfOk-weaker c.spelled_image.result _ _ (λ x h. h (coded_task c.args.modes.now.netlist c.args.program.typed.now c.args.program.places c.args.program.blocks) (coded (coded_task c.args.modes.now.netlist c.args.program.typed.now c.args.program.places c.args.program.blocks) _ c.args.machines.now c.netlist-netlist.result.now c.in_ok-forms.forms c.in_ok-passages.passages.items c.in_ok-usable.usable.items c.deref-2.result.now _ c.args.program.blocks
    c.netlist-netlist.ensures.value c.requires.machines c.in_ok-forms.ensures.forms c.in_ok-passages.ensures.words refl c.deref.ensures.value refl c.deref-3.ensures.value c.deref-2.ensures.value c.in_ok-usable.ensures.long c.in_ok-usable.ensures.usable
    c.in_ok-forms.ensures.steps c.in_ok-forms.ensures.jumps c.requires.checked (record { temps = c.temps.ensures; list = refl }) refl refl) c.requires.plain)
    c.spelled_image.ensures.reached

pub returns-clause-refused : goal.returns-clause-refused
returns-clause-refused c =
    IfErr-weaker c.spelled_image.result _ _ (λ x h. h (coded_task c.args.modes.now.netlist c.args.program.typed.now c.args.program.places c.args.program.blocks) (coded (coded_task c.args.modes.now.netlist c.args.program.typed.now c.args.program.places c.args.program.blocks) _ c.args.machines.now c.netlist-netlist.result.now c.in_ok-forms.forms c.in_ok-passages.passages.items c.in_ok-usable.usable.items c.deref-2.result.now _ c.args.program.blocks
    c.netlist-netlist.ensures.value c.requires.machines c.in_ok-forms.ensures.forms c.in_ok-passages.ensures.words refl c.deref.ensures.value refl c.deref-3.ensures.value c.deref-2.ensures.value c.in_ok-usable.ensures.long c.in_ok-usable.ensures.usable
    c.in_ok-forms.ensures.steps c.in_ok-forms.ensures.jumps c.requires.checked (record { temps = c.temps.ensures; list = refl }) refl refl) c.requires.plain)
    c.spelled_image.ensures.refused

pub returns-in_err-forms-clause-refused : goal.returns-in_err-forms-clause-refused
returns-in_err-forms-clause-refused c =
    let p = err_from_is_err_and c.from_residual.result c.from_residual.ensures.1 in
    rw (p.1, p.2)
    (formless_so c.args.spelling (coded_task c.args.modes.now.netlist c.args.program.typed.now c.args.program.places c.args.program.blocks) _
    (subst (λ (n : Netlist). IsFormless n c.in_err-forms.field-0.0) c.netlist-netlist.ensures.value c.in_err-forms.ensures.refused))
