use Rattle.std.proofs.Common.{◌≡◌, inl, inr, false, ap, arith}
use Rattle.std.proofs.lemmas.Option.{slice_get_within}
use Rattle.bit_bdd.proofs.CallerLemmas.{extends_refl}
use Rattle.form_model.specs.declared.forms.Goal.{Goal}
use Rattle.form_model.specs.declared.forms.Goal.TheVariants.{Reg, Memory, File}
use Rattle.form_model.specs.Forms.{model_of_goal, model_of_form}
use Rattle.form_set.specs.Promises.{is_control_goal}
use Rattle.form_set.proofs.RuleLists.{told_some}
use Rattle.net_model.proofs.KeptRules.{few_storages}
use Rattle.transfer_set.proofs.ReadyLaws.{ready_later}
use Rattle.transfer_set.specs.Rows.{row_patterns}
use Rattle.mode_set.proofs.KeptForms.{spared_keep}
use Rattle.mode_set.proofs.kept.keeps.Goals as goal

pub overflow_cast-result : goal.overflow_cast-result
overflow_cast-result c = omega (arith, few_storages c.args.machine.now.checked.now.netlist c.args.machine.now.checked.now.order c.netlist-netlist.ensures.kept)

pub overflow_shr-result : goal.overflow_shr-result
overflow_shr-result c = omega (arith, few_storages c.args.machine.now.checked.now.netlist c.args.machine.now.checked.now.order c.netlist-netlist.ensures.kept)

pub returns-in-Reg : goal.returns-in-Reg
returns-in-Reg c =
    let patterns = row_patterns c.args.machine.now.pool.now c.args.machine.now.patterns.now.rows in
    let some = told_some c.args.machine.now.pool.now c.args.machine.now.patterns.now.rows c.args.form.now.pattern c.requires.pattern in
    let there = slice_get_within patterns c.args.form.now.pattern some.0 some.1 in
    let goal_is = λ (g : Goal) (e : c.args.form.now.goal ≡ g). ap (λ (k : Goal). is_control_goal (model_of_goal k)) e in
    let plain : is_control_goal (model_of_goal c.args.form.now.goal) ≡ false =
    elim c.in-Reg.is as (λ _. is_control_goal (model_of_goal c.args.form.now.goal) ≡ false) [
      | inl own ↦ goal_is (Reg own.0) own.1
      | inr cells ↦ elim cells as (λ _. is_control_goal (model_of_goal c.args.form.now.goal) ≡ false) [ inl e ↦ goal_is Memory e | inr e ↦ goal_is File e ]
    ] in
    record {
      grows = extends_refl c.args.book.now;
      ready = c.requires.ready;
      keeps = spared_keep c.args.machine.now.checked.now.netlist patterns c.args.mode (model_of_form c.args.form.now) plain there;
    }

pub returns-in-Jump-clause-ready : goal.returns-in-Jump-clause-ready
returns-in-Jump-clause-ready c =
    ready_later c.args.machine.now.checked.now.netlist c.args.book.now c.can_turn.new.book c.args.machine.now.pool.now c.args.machine.now.patterns.now c.can_turn.ensures.grows c.requires.ready
