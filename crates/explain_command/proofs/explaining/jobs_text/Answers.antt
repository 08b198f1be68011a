use Rattle.std.proofs.Common.{◌∙◌, ℕ, ap, refl, sym, subst}
use Rattle.std.proofs.lemmas.Result.{err_from_is_err_and}
use Rattle.net_model.specs.declared.hardware.Netlist.{Netlist}
use Rattle.net_model.specs.declared.hardware.Space.TheVariants.{File as InFile}
use Rattle.net_model.specs.Nets.{size_in}
use Rattle.net_model.specs.Patterns.{ArePatterns}
use Rattle.code_model.specs.declared.image.Places.{Places}
use Rattle.form_model.specs.Forms.{models_of_forms}
use Rattle.form_set.specs.Listing.{AreForms}
use Rattle.job_places.specs.Places.{program_job_places}
use Rattle.right_code.specs.Tasks.{read_task, task_jobs}
use Rattle.right_code.proofs.Rows.{task_checked}
use Rattle.src_model.specs.Rules.{temp_count}
use Rattle.src_model.specs.Written.{model_of_program}
use Rattle.transfer_set.specs.Ready.{IsReady}
use Rattle.transfer_set.specs.Rows.{row_patterns}
use Rattle.isa_extract.proofs.Cleans.{extracted_later}
use Rattle.code_gen.specs.Refusals.{IsJumpless, IsStepless}
use Rattle.explain_command.specs.Explained.{AreJobTexts}
use Rattle.explain_command.proofs.Alone.{first_is, first_plain}
use Rattle.explain_command.proofs.Early.{early_of_forms, early_of_places}
use Rattle.explain_command.proofs.explaining.jobs_text.Goals as goal

pub usable_forms-requires-clause-plain : goal.usable_forms-requires-clause-plain
usable_forms-requires-clause-plain c = first_plain c.args.modes.now c.requires.alone c.first.result.now.netlist c.first.ensures.base

pub usable_forms-requires-clause-ready : goal.usable_forms-requires-clause-ready
usable_forms-requires-clause-ready c =
    let isa = c.args.extracted.now in
    subst (λ (n : Netlist). IsReady n isa.book isa.pool isa.patterns)
    (sym (first_is c.args.modes.now c.requires.alone c.first.result.now.netlist c.first.ensures.base)) c.requires.isa.extracted.ready

pub usable_forms-requires-clause-patterns : goal.usable_forms-requires-clause-patterns
usable_forms-requires-clause-patterns c =
    let isa = c.args.extracted.now in
    subst (λ (n : Netlist). ArePatterns n (row_patterns isa.pool isa.patterns.rows))
    (sym (first_is c.args.modes.now c.requires.alone c.first.result.now.netlist c.first.ensures.base)) c.requires.isa.patterns

pub told_jobs-requires-clause-checked : goal.told_jobs-requires-clause-checked
told_jobs-requires-clause-checked c =
    let typed = c.args.typed.now in
    task_checked c.args.modes.now.netlist typed.width (model_of_program typed.program) c.requires.alone.rules c.requires.program (sym c.requires.width) c.in_ok-places.ensures.room.room

pub returns-clause-isa : goal.returns-clause-isa
returns-clause-isa c = record {
  extracted = extracted_later c.args.modes.now.netlist c.args.extracted.now _ c.requires.isa.extracted c.in_ok-forms.ensures.grows refl refl refl;
  patterns = c.requires.isa.patterns;
}

pub returns-clause-told : goal.returns-clause-told
returns-clause-told c =
    let task = read_task c.args.modes.now c.args.typed.now in
    let forms = c.in_ok-forms.forms in
    let patterns = row_patterns c.args.extracted.now.pool c.args.extracted.now.patterns.rows in
    let same = first_is c.args.modes.now c.requires.alone c.first.result.now.netlist c.first.ensures.base in
    record {
      room = c.in_ok-places.ensures.room;
      jumps = record {
        steps = record { steps = subst (λ (n : Netlist). IsStepless n → ⊥) same c.in_ok-forms.ensures.steps };
        jumps = subst (λ (n : Netlist). IsJumpless n → ⊥) same c.in_ok-forms.ensures.jumps;
      };
      all = models_of_forms forms.list.items;
      reach = forms.reach;
      forms = record {
        patterns = patterns;
        are = c.requires.isa.patterns;
        forms = subst (λ (n : Netlist). AreForms n patterns (models_of_forms forms.list.items) forms.reach) same c.in_ok-forms.ensures.forms;
      };
      told =
          subst (λ (file : ℕ). AreJobTexts task.netlist (record { forms = models_of_forms forms.list.items; temps = temp_count task.width task.program; file = file }) c.args.src.now 0 (program_job_places task.program) (task_jobs task) c.in_ok-text.text.items)
          (c.in_ok-forms.ensures.file ∙ ap (λ (n : Netlist). size_in InFile n.storages) same)
          (subst (λ (temps : ℕ). AreJobTexts task.netlist (record { forms = models_of_forms forms.list.items; temps = temps; file = forms.file }) c.args.src.now 0 (program_job_places task.program) (task_jobs task) c.in_ok-text.text.items)
          (ap (λ (p : Places). p.temps) c.in_ok-places.ensures.places) c.in_ok-text.ensures);
    }

pub returns-in_err-places-clause-refused : goal.returns-in_err-places-clause-refused
returns-in_err-places-clause-refused c =
    let p = err_from_is_err_and c.from_residual.result c.from_residual.ensures.1 in
    rw (p.1, p.2) (early_of_places (read_task c.args.modes.now c.args.typed.now) _ c.in_err-places.ensures.refused)

pub returns-in_err-forms-clause-refused : goal.returns-in_err-forms-clause-refused
returns-in_err-forms-clause-refused c =
    let p = err_from_is_err_and c.from_residual-in_err-forms.result c.from_residual-in_err-forms.ensures.1 in
    let same = first_is c.args.modes.now c.requires.alone c.first.result.now.netlist c.first.ensures.base in
    rw (p.1, p.2) (early_of_forms (read_task c.args.modes.now c.args.typed.now) c.first.result.now.netlist same c.in_ok-places.ensures.room _ c.in_err-forms.ensures.refused)
