-- The forms of a netlist leave no choice: two lists of them are one.
use Rattle.std.proofs.Common.{◌≡◌, ℕ, zero, suc, ◌+◌, ◌^◌, max, List, [], ◌∷◌, ◌++◌, Some, length, refl, sym, ap, subst, ◌∙◌}
use Rattle.std.specs.Prelude.{bit_or, bit_xor}
use Rattle.rec_bits.proofs.Options.{one_Some}
use Rattle.net_model.specs.declared.hardware.Netlist.{Netlist}
use Rattle.net_model.specs.Patterns.{Pattern}
use Rattle.net_model.specs.Exprs.{ExprModel, TransferModel, write}
use Rattle.net_model.specs.Fields.{transfer_fields}
use Rattle.form_model.specs.Forms.{FormModel}
use Rattle.form_model.specs.Shapes.{reach_of}
use Rattle.form_set.specs.Inner.Adding.{IsGreatestReach, IsReachOf, jumps_not, jumps_to}
use Rattle.form_set.specs.Listing.{AreForms, AreFormModels, AreFormModelsOf, plain, jump, branch, other, IsBranch, branch_form_models, counter_at, jump_form_model, plain_form_models}
use Rattle.form_set.specs.Targets.{Branch, expr_branch}
use Rattle.form_set.specs.Words.{AreClobbers, AreKept, Joins, joins, fails, none, all_registers, own_storage}
use Rattle.form_set.proofs.RuleLists.{branch_not_jump, greatest_is, plain_not_jump}
use Rattle.form_set.proofs.NoForms.{plain_not_branch}

-- ---- the clobbers

joins_one : (netlist : Netlist) (p : Pattern) (id before a b : ℕ) → Joins netlist p id before a → Joins netlist p id before b → a ≡ b
joins_one netlist p id before a b (joins r ok e) (joins s h f) = e ∙ sym f
joins_one netlist p id before a b (joins r ok e) (fails s never f) = absurd (never ok)
joins_one netlist p id before a b (joins r ok e) (none s f) = absurd (s r)
joins_one netlist p id before a b (fails r never e) (joins s h f) = absurd (never h)
joins_one netlist p id before a b (fails r never e) (fails s h f) = e ∙ sym f
joins_one netlist p id before a b (fails r never e) (none s f) = absurd (s r)
joins_one netlist p id before a b (none r e) (joins s h f) = absurd (r s)
joins_one netlist p id before a b (none r e) (fails s h f) = absurd (r s)
joins_one netlist p id before a b (none r e) (none s f) = e ∙ sym f

kept_one : (netlist : Netlist) (p : Pattern) (n a b : ℕ) → AreKept netlist p n a → AreKept netlist p n b → a ≡ b
kept_one netlist p zero a b h k = h ∙ sym k
kept_one netlist p (suc n) a b h k =
    let e = kept_one netlist p n h.0 k.0 h.1 k.1 in
    joins_one netlist p n h.0 a b h.2 (subst (λ q. Joins netlist p n q b) (sym e) k.2)

pub clobbers_one : (netlist : Netlist) (p : Pattern) (a b : ℕ) → AreClobbers netlist p a → AreClobbers netlist p b → a ≡ b
clobbers_one netlist p a b h k =
    h.is ∙ ap (λ q. bit_or (own_storage netlist p.storage) (bit_xor (all_registers netlist.storages) q)) (kept_one netlist p (length netlist.storages) h.kept k.kept h.are k.are) ∙ sym k.is

-- ---- the forms of one pattern

write_one : (m : TransferModel) (a b : ExprModel) → m ≡ write a → m ≡ write b → a ≡ b
write_one m a b e f = cc

parts_one : (netlist : Netlist) (reach : ℕ) (p : Pattern) (a b : Branch) → IsBranch netlist reach p a → IsBranch netlist reach p b → a ≡ b
parts_one netlist reach p a b h k =
    let e = write_one p.move h.value k.value h.move k.move in
    one_Some (expr_branch netlist.edition (counter_at netlist) reach k.value) a b (subst (λ t. expr_branch netlist.edition (counter_at netlist) reach t ≡ Some a) e h.parts) k.parts

of_one : (netlist : Netlist) (reach number : ℕ) (p : Pattern) (xs ys : List FormModel) → AreFormModelsOf netlist reach number p xs → AreFormModelsOf netlist reach number p ys → xs ≡ ys
of_one netlist reach number p xs ys (plain a h c e) (plain b k d f) = e ∙ ap (plain_form_models netlist number p) (clobbers_one netlist p a b c d) ∙ sym f
of_one netlist reach number p xs ys (plain a h c e) (jump k f) = absurd (plain_not_jump netlist p h k)
of_one netlist reach number p xs ys (plain a h c e) (branch b k f) = absurd (plain_not_branch netlist reach p b h k)
of_one netlist reach number p xs ys (plain a h c e) (other k l m f) = absurd (k h)
of_one netlist reach number p xs ys (jump h e) (plain b k d f) = absurd (plain_not_jump netlist p k h)
of_one netlist reach number p xs ys (jump h e) (jump k f) =
    e ∙ ap (λ t. jump_form_model netlist number t (transfer_fields p.move) ∷ []) (write_one p.move h.target k.target h.move k.move) ∙ sym f
of_one netlist reach number p xs ys (jump h e) (branch b k f) = absurd (branch_not_jump netlist reach p b k h)
of_one netlist reach number p xs ys (jump h e) (other k l m f) = absurd (l h)
of_one netlist reach number p xs ys (branch a h e) (plain b k d f) = absurd (plain_not_branch netlist reach p a k h)
of_one netlist reach number p xs ys (branch a h e) (jump k f) = absurd (branch_not_jump netlist reach p a h k)
of_one netlist reach number p xs ys (branch a h e) (branch b k f) = e ∙ ap (branch_form_models netlist number p) (parts_one netlist reach p a b h k) ∙ sym f
of_one netlist reach number p xs ys (branch a h e) (other k l m f) = absurd (m a h)
of_one netlist reach number p xs ys (other h i j e) (plain b k d f) = absurd (h k)
of_one netlist reach number p xs ys (other h i j e) (jump k f) = absurd (i k)
of_one netlist reach number p xs ys (other h i j e) (branch b k f) = absurd (j b k)
of_one netlist reach number p xs ys (other h i j e) (other k l m f) = e ∙ sym f

-- ---- the whole list

form_models_one : (netlist : Netlist) (reach number : ℕ) (ps : List Pattern) (xs ys : List FormModel) → AreFormModels netlist reach number ps xs → AreFormModels netlist reach number ps ys → xs ≡ ys
form_models_one netlist reach number [] xs ys h k = h ∙ sym k
form_models_one netlist reach number (p ∷ ps) xs ys h k =
    h.4 ∙ (λ j. of_one netlist reach number p h.0 k.0 h.2 k.2 j ++ form_models_one netlist reach (number + 1) ps h.1 k.1 h.3 k.3 j) ∙ sym k.4

-- ---- the reach is that of the patterns, whatever the branches

reach_of_forms : (netlist : Netlist) (reach number : ℕ) (p : Pattern) (forms : List FormModel) → AreFormModelsOf netlist reach number p forms → (r : ℕ) × IsReachOf netlist p r
reach_of_forms netlist reach number p forms (plain a h c e) = (0, jumps_not (λ j. plain_not_jump netlist p h j) refl)
reach_of_forms netlist reach number p forms (jump h e) = (reach_of h.target, jumps_to h refl)
reach_of_forms netlist reach number p forms (branch a h e) = (0, jumps_not (λ j. branch_not_jump netlist reach p a h j) refl)
reach_of_forms netlist reach number p forms (other h i j e) = (0, jumps_not i refl)

greatest_exists : (netlist : Netlist) (reach number : ℕ) (ps : List Pattern) (forms : List FormModel) → AreFormModels netlist reach number ps forms → (r : ℕ) × IsGreatestReach netlist ps r
greatest_exists netlist reach number [] forms h = (0, refl)
greatest_exists netlist reach number (p ∷ ps) forms h =
    let a = reach_of_forms netlist reach number p h.0 h.2 in
    let b = greatest_exists netlist reach (number + 1) ps h.1 h.3 in
    (max a.0 b.0, (a.0, b.0, a.1, b.1, refl))

reach_one : (netlist : Netlist) (p : Pattern) (a b : ℕ) → IsReachOf netlist p a → IsReachOf netlist p b → a ≡ b
reach_one netlist p a b (jumps_to h e) (jumps_to k f) = e ∙ ap reach_of (write_one p.move h.target k.target h.move k.move) ∙ sym f
reach_one netlist p a b (jumps_to h e) (jumps_not k f) = absurd (k h)
reach_one netlist p a b (jumps_not h e) (jumps_to k f) = absurd (h k)
reach_one netlist p a b (jumps_not h e) (jumps_not k f) = e ∙ sym f

greatest_one : (netlist : Netlist) (ps : List Pattern) (a b : ℕ) → IsGreatestReach netlist ps a → IsGreatestReach netlist ps b → a ≡ b
greatest_one netlist [] a b h k = h ∙ sym k
greatest_one netlist (p ∷ ps) a b h k =
    h.4 ∙ (λ j. max (reach_one netlist p h.0 k.0 h.2 k.2 j) (greatest_one netlist ps h.1 k.1 h.3 k.3 j)) ∙ sym k.4

-- a netlist with these patterns has one list of forms and one reach
pub forms_one : (netlist : Netlist) (ps : List Pattern) (xs ys : List FormModel) (a b : ℕ) → AreForms netlist ps xs a → AreForms netlist ps ys b → (xs ≡ ys) × (a ≡ b)
forms_one netlist ps xs ys a b h k =
    let f = greatest_exists netlist a 0 ps xs h.list in
    let g = greatest_exists netlist b 0 ps ys k.list in
    let e : a ≡ b = h.greatest_is ∙ sym (greatest_is netlist a 0 ps xs f.0 h.list f.1) ∙ greatest_one netlist ps f.0 g.0 f.1 g.1 ∙ greatest_is netlist b 0 ps ys g.0 k.list g.1 ∙ sym k.greatest_is in
    (form_models_one netlist a 0 ps xs ys h.list (subst (λ r. AreFormModels netlist r 0 ps ys) (sym e) k.list), e)
