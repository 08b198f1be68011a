-- Of which kinds a netlist has forms in mode 0 that keep the mode, by the list of these.
use Rattle.std.proofs.Common.{◌≡◌, true, false, List, sym, ap, ◌∙◌}
use Rattle.std.specs.List.{list_all}
use Rattle.rec_bits.proofs.Booleans.{true_false}
use Rattle.net_model.specs.declared.hardware.Netlist.{Netlist}
use Rattle.form_model.specs.declared.forms.Form.{Form}
use Rattle.form_model.specs.Forms.{model_of_goal, models_of_forms}
use Rattle.form_set.specs.Promises.{is_control_goal, is_no_jump, no_jumps, only_control}
use Rattle.mode_set.specs.Keeping.{Isa}
use Rattle.right_code.proofs.OneForms.{keeping_alike}
use Rattle.code_gen.specs.declared.fault.CodeFault.{CodeFault}
use Rattle.code_gen.specs.declared.fault.CodeFault.TheVariants.{NoStep, NoJump, NoCover, NoReach, ImageFull, Memory}
use Rattle.code_gen.specs.Refusals.{IsFormless, IsJumpless, IsKindsFault, IsStepless}
use Rattle.code_gen.proofs.FormLemmas.{control_of_list, jumps_of_list}

module _ (netlist : Netlist) (isa : Isa netlist 0) (list : List Form) (same : models_of_forms list ≡ isa.keeping) where
  own_control : list_all (λ (form : Form). is_control_goal (model_of_goal form.goal)) list ≡ only_control isa.keeping
  own_control = control_of_list list ∙ ap only_control same

  own_jumps : list_all (λ (form : Form). is_no_jump (model_of_goal form.goal)) list ≡ no_jumps isa.keeping
  own_jumps = jumps_of_list list ∙ ap no_jumps same

  pub some_step : list_all (λ (form : Form). is_control_goal (model_of_goal form.goal)) list ≡ false → IsStepless netlist → ⊥
  some_step lacks none = true_false (only_control isa.keeping) (ap only_control (keeping_alike netlist 0 isa none.isa) ∙ none.control) (sym own_control ∙ lacks)

  pub some_jump : list_all (λ (form : Form). is_no_jump (model_of_goal form.goal)) list ≡ false → IsJumpless netlist → ⊥
  some_jump lacks none = true_false (no_jumps isa.keeping) (ap no_jumps (keeping_alike netlist 0 isa none.isa) ∙ none.jumpless) (sym own_jumps ∙ lacks)

  pub stepless : list_all (λ (form : Form). is_control_goal (model_of_goal form.goal)) list ≡ true → IsStepless netlist
  stepless e = record { isa = isa; control = sym own_control ∙ e }

  jumpless : list_all (λ (form : Form). is_no_jump (model_of_goal form.goal)) list ≡ true → IsJumpless netlist
  jumpless e = record { isa = isa; jumpless = sym own_jumps ∙ e }

  pub formless : (fault : CodeFault) → IsKindsFault list fault → IsFormless netlist fault
  formless NoStep e = stepless e
  formless NoJump h = (some_step h.0, jumpless h.1)
  formless (NoCover number) h = absurd h
  formless (NoReach bound reached) h = absurd h
  formless (ImageFull len size bound) h = absurd h
  formless Memory h = absurd h
