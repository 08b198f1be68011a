-- What is asked of each form of a list is asked of its models, and each form of a netlist without a
-- mode keeps it.
use Rattle.std.proofs.Common.{◌≡◌, ◌&&◌, ℕ, Bool, inl, List, [], ◌∷◌, Option, None, ap, refl, subst, sym}
use Rattle.std.specs.List.{list_all}
use Rattle.net_model.specs.declared.hardware.Netlist.{Netlist}
use Rattle.net_model.specs.ModeRules.{base_at}
use Rattle.net_model.specs.Patterns.{ArePatterns, Pattern}
use Rattle.net_model.proofs.ModeFaults.{alone_base}
use Rattle.form_model.specs.declared.forms.Form.{Form}
use Rattle.form_model.specs.Forms.{GoalModel, model_of_goal, FormModel, models_of_forms}
use Rattle.form_set.specs.Listing.{AreForms}
use Rattle.form_set.specs.Promises.{all_form_models, is_control_goal, is_no_jump, no_jumps, only_control}
use Rattle.mode_set.specs.Keeping.{AreKeeping, Isa}

-- ---- lists

asked_of_forms : (q : GoalModel → Bool) (fs : List Form) → list_all (λ (f : Form). q (model_of_goal f.goal)) fs ≡ all_form_models (λ form. q form.goal) (models_of_forms fs)
asked_of_forms q [] = refl
asked_of_forms q (f ∷ fs) = ap (λ (b : Bool). q (model_of_goal f.goal) && b) (asked_of_forms q fs)

pub control_of_list : (fs : List Form) → list_all (λ (f : Form). is_control_goal (model_of_goal f.goal)) fs ≡ only_control (models_of_forms fs)
control_of_list fs = asked_of_forms is_control_goal fs

pub jumps_of_list : (fs : List Form) → list_all (λ (f : Form). is_no_jump (model_of_goal f.goal)) fs ≡ no_jumps (models_of_forms fs)
jumps_of_list fs = asked_of_forms is_no_jump fs

-- ---- a netlist without a mode

pub all_kept : (netlist : Netlist) (patterns : List Pattern) (forms : List FormModel) → AreKeeping netlist patterns None forms forms
all_kept netlist patterns [] = refl
all_kept netlist patterns (form ∷ forms) = (forms, all_kept netlist patterns forms, inl (tt, refl))

-- what such a netlist is told in its only mode
abbrev pub plain_isa : (netlist : Netlist) → netlist.special ≡ None → (patterns : List Pattern) → ArePatterns netlist patterns → (all : List FormModel) (reach : ℕ) → AreForms netlist patterns all reach → Isa netlist 0
plain_isa netlist plain patterns are all reach forms = record {
  patterns = patterns;
  are = subst (λ (n : Netlist). ArePatterns n patterns) (sym (alone_base netlist plain 0)) are;
  all = all;
  most = reach;
  forms = subst (λ (n : Netlist). AreForms n patterns all reach) (sym (alone_base netlist plain 0)) forms;
  keeping = all;
  kept = subst (λ (o : Option ℕ). AreKeeping (base_at netlist 0) patterns o all all) (sym plain) (all_kept (base_at netlist 0) patterns all);
}
