-- What patterns are, from what is found of them.
use Rattle.std.proofs.Common.{◌≡◌, ◌↔◌, ℕ, Bool, true, List, [], ◌∷◌, ◌++◌, Option, Some, None, refl, ap, subst, ◌∙◌}
use Rattle.net_model.specs.declared.hardware.Netlist.{Netlist}
use Rattle.net_model.specs.Patterns.{Pattern}
use Rattle.net_model.specs.Exprs.{ExprModel, write}
use Rattle.sym_expr.specs.declared.pool.Node.{Node}
use Rattle.sym_expr.specs.Pools.{expr_of_id}
use Rattle.transfer_set.specs.Entries.{ids_transfer}
use Rattle.form_model.specs.Shapes.{is_shape, reach_of}
use Rattle.form_set.proofs.Editions.{shape_from}
use Rattle.form_set.specs.declared.pattern_ids.PatternIds.{PatternIds}
use Rattle.std.specs.Prelude.{option_map}
use Rattle.form_model.specs.declared.forms.Form.{Form}
use Rattle.form_model.specs.Forms.{FormModel, model_of_form, models_of_forms}
use Rattle.net_model.specs.Fields.{transfer_fields}
use Rattle.form_set.specs.declared.branches.BranchIds.{BranchIds}
use Rattle.form_set.specs.declared.classes.Class.{Class}
use Rattle.form_set.specs.declared.classes.Class.TheVariants.{Plain, Jump, Branch}
use Rattle.form_set.specs.Inner.Copies.{ids_branch}
use Rattle.form_set.specs.Inner.Adding.{HasAdded, IsClass, IsReachOf, jumps_to}
use Rattle.form_set.specs.Listing.{plain, jump, branch, IsJump, branch_form_models, jump_form_model, plain_form_models}
use Rattle.form_set.specs.Inner.PatternIds.{ids_pattern}

write_same : (a b : ExprModel) → write a ≡ write b → a ≡ b
write_same a b e = cc

-- the value of a write
pub value_is : (pool : List Node) (addr : Option ℕ) (value : ℕ) (t : ExprModel) → ids_transfer pool addr value ≡ write t → expr_of_id pool value ≡ t
value_is pool None value t e = write_same (expr_of_id pool value) t e
value_is pool (Some addr) value t e = absurd (cc)

-- the value of a jump is a field shape
pub jump_shape : (netlist : Netlist) (pool : List Node) (ids : PatternIds) → IsJump netlist (ids_pattern pool ids) → is_shape (expr_of_id pool ids.value) ≡ true
jump_shape netlist pool ids j = ap is_shape (value_is pool ids.addr ids.value j.target j.move) ∙ shape_from netlist.edition j.target j.shape

pub reach_is_of : (netlist : Netlist) (pool : List Node) (ids : PatternIds) (b : Bool) → (b ≡ true) ↔ IsJump netlist (ids_pattern pool ids) → b ≡ true
    → (reach : ℕ) → reach ≡ reach_of (expr_of_id pool ids.value) → IsReachOf netlist (ids_pattern pool ids) reach
reach_is_of netlist pool ids b h t reach e =
    let j = h.0 t in
    jumps_to j (e ∙ ap reach_of (value_is pool ids.addr ids.value j.target j.move))

-- ---- what is added

forms_push : (xs : List Form) (form : Form) → models_of_forms (xs ++ form ∷ []) ≡ models_of_forms xs ++ model_of_form form ∷ []
forms_push [] form = refl
forms_push (x ∷ xs) form = ap (λ rs. model_of_form x ∷ rs) (forms_push xs form)

module _ (netlist : Netlist) (pool : List Node) (reach number : ℕ) (ids : PatternIds) (class : Class) (h : IsClass netlist pool reach (ids_pattern pool ids) class) where
  pub added_plain : (clobbers : ℕ) → class ≡ Plain clobbers → (old new : List FormModel) → new ≡ old ++ plain_form_models netlist number (ids_pattern pool ids) clobbers
      → HasAdded netlist reach number (ids_pattern pool ids) old new
  added_plain clobbers e old new is =
      let k = subst (IsClass netlist pool reach (ids_pattern pool ids)) e h in
      record { forms = plain_form_models netlist number (ids_pattern pool ids) clobbers; of = plain clobbers k.0 k.1 refl; is = is }

  pub added_branch : (parts : BranchIds) → class ≡ Branch parts → (old new : List FormModel) → new ≡ old ++ branch_form_models netlist number (ids_pattern pool ids) (ids_branch pool parts)
      → HasAdded netlist reach number (ids_pattern pool ids) old new
  added_branch parts e old new is =
      let k = subst (IsClass netlist pool reach (ids_pattern pool ids)) e h in
      record { forms = branch_form_models netlist number (ids_pattern pool ids) (ids_branch pool parts); of = branch (ids_branch pool parts) k.0 refl; is = is }

  pub added_jump : class ≡ Jump → ids.fields ≡ transfer_fields (ids_transfer pool ids.addr ids.value) → (list more : List Form) (form : Form) → more ≡ list ++ form ∷ []
      → model_of_form form ≡ jump_form_model netlist number (expr_of_id pool ids.value) ids.fields → HasAdded netlist reach number (ids_pattern pool ids) (models_of_forms list) (models_of_forms more)
  added_jump e fields list more form pushed is =
      let k = subst (IsClass netlist pool reach (ids_pattern pool ids)) e h in
      let t = value_is pool ids.addr ids.value k.target k.move in
      record {
        forms = jump_form_model netlist number k.target (transfer_fields (ids_transfer pool ids.addr ids.value)) ∷ [];
        of = jump k refl;
        is = ap models_of_forms pushed ∙ forms_push list form ∙ ap (λ r. models_of_forms list ++ r ∷ []) (is ∙ (λ j. jump_form_model netlist number (t j) (fields j)));
      }

-- ---- what holds of the pattern of a number

pub at_number : (pool : List Node) (ids : PatternIds) (told : Option Pattern) → option_map (ids_pattern pool) (Some ids) ≡ told → (p : Pattern) → told ≡ Some p → ids_pattern pool ids ≡ p
at_number pool ids told e p q = cc

pub no_number : (told : Option Pattern) → None ≡ told → (p : Pattern) → told ≡ Some p → ⊥
no_number told e p q = absurd (cc)
