-- Lists of forms, one pattern after the other, and how far their jumps reach.
use Rattle.std.proofs.Common.{◌≡◌, ℕ, zero, suc, ◌+◌, ◌^◌, ◌<◌, ◌==◌, max, Bool, true, false, true≢false, cond, List, [], ◌∷◌, ◌++◌, take, Some, None, length, slice_get, refl, sym, ap, subst, ◌∙◌, arith, inl, inr, append_assoc}
use Rattle.std.specs.Prelude.{◌⊎◌}
use Rattle.std.proofs.lemmas.Nat.{and_le_l}
use Rattle.net_model.specs.declared.hardware.Netlist.{Netlist}
use Rattle.net_model.specs.Nets.{counter_of, counter_width, memory_id}
use Rattle.net_model.specs.Patterns.{Pattern}
use Rattle.net_model.specs.Exprs.{ExprModel, word, reg, const, read, un, bin, slice, cat, zext, sext, select, TransferModel, write, next_of, swapped_next_of}
use Rattle.net_model.specs.Transfers.{transfer_at}
use Rattle.sym_expr.specs.declared.pool.Node.{Node}
use Rattle.transfer_set.specs.declared.row.Row.{Row}
use Rattle.transfer_set.specs.Rows.{row_pattern, row_patterns}
use Rattle.net_model.specs.Fields.{transfer_fields}
use Rattle.form_model.specs.Forms.{FormModel, into_file, into_memory, into_reg}
use Rattle.form_set.specs.Static.{is_file_at}
use Rattle.form_set.proofs.Editions.{no_sum_with, shape_from}
use Rattle.form_model.specs.Shapes.{is_shape, reach_of}
use Rattle.form_set.specs.Inner.Adding.{HasAdded, IsGreatestReach, IsReachOf, jumps_not, jumps_to}
use Rattle.form_set.specs.Listing.{AreFormModels, AreFormModelsOf, plain, jump, branch, other, IsBranch, IsJump, IsPlain, greatest_reach, goal_at, goal_reach, jump_form_model, branch_form_model, plain_form_model, counter_at, sides_of, test_sides}
use Rattle.operand_swaps.specs.Swaps.{swap_count}
use Rattle.form_set.specs.Listing.{map_below}
use Rattle.form_set.specs.Targets.{Branch, expr_branch}
use Rattle.transfer_set.specs.declared.stepping.Counter.{Counter}

-- ---- lists

append_none : {A : Type 0} (xs : List A) → xs ++ [] ≡ xs
append_none [] = refl
append_none (x ∷ xs) = ap (λ ys. x ∷ ys) (append_none xs)

module _ (netlist : Netlist) (reach : ℕ) where
  -- the forms of one pattern more
  pub forms_more : (number : ℕ) (ps : List Pattern) (i : ℕ) (p : Pattern) → slice_get ps i ≡ Some p → (old new : List FormModel)
      → AreFormModels netlist reach number (take i ps) old → HasAdded netlist reach (number + i) p old new → AreFormModels netlist reach number (take (suc i) ps) new
  forms_more number [] i p at old new h a = absurd (cc)
  forms_more number (x ∷ ps) zero p at old new h a =
      let e : p ≡ x = cc in
      let n : number + 0 ≡ number = omega arith in (
        a.forms,
        [],
        subst (λ k. AreFormModelsOf netlist reach k x a.forms) n (subst (λ q. AreFormModelsOf netlist reach (number + 0) q a.forms) e a.of),
        refl,
        a.is ∙ ap (λ rs. rs ++ a.forms) h ∙ sym (append_none a.forms),
      )
  forms_more number (x ∷ ps) (suc i) p at old new h a =
      let n : number + suc i ≡ number + 1 + i = omega arith in
      let r = forms_more (number + 1) ps i p at h.1 (h.1 ++ a.forms) h.3 (record { forms = a.forms; of = subst (λ k. AreFormModelsOf netlist reach k p a.forms) n a.of; is = refl }) in
      (h.0, h.1 ++ a.forms, h.2, r, a.is ∙ ap (λ rs. rs ++ a.forms) h.4 ∙ append_assoc h.0 h.1 a.forms)

pub forms_next : (netlist : Netlist) (reach : ℕ) (ps : List Pattern) (i : ℕ) (p : Pattern) → slice_get ps i ≡ Some p → (old new : List FormModel)
    → AreFormModels netlist reach 0 (take i ps) old → HasAdded netlist reach i p old new → AreFormModels netlist reach 0 (take (suc i) ps) new
forms_next netlist reach ps i p at old new h a =
    let n : i ≡ 0 + i = omega arith in forms_more netlist reach 0 ps i p at old new h (subst (λ k. HasAdded netlist reach k p old new) n a)

-- the reach of one pattern more
pub greatest_more : (netlist : Netlist) (ps : List Pattern) (i : ℕ) (p : Pattern) → slice_get ps i ≡ Some p → (old here : ℕ)
    → IsGreatestReach netlist (take i ps) old → IsReachOf netlist p here → IsGreatestReach netlist (take (suc i) ps) (max old here)
greatest_more netlist [] i p at old here h r = absurd (cc)
greatest_more netlist (x ∷ ps) zero p at old here h r =
    let e : p ≡ x = cc in
    (here, 0, subst (λ q. IsReachOf netlist q here) e r, refl, omega (arith, h))
greatest_more netlist (x ∷ ps) (suc i) p at old here h r =
    (h.0, max h.1 here, h.2, greatest_more netlist ps i p at h.1 here h.3 r, omega (arith, h.4))

-- ---- how far the jumps of a list reach

greatest_append : (xs ys : List FormModel) → greatest_reach (xs ++ ys) ≡ max (greatest_reach xs) (greatest_reach ys)
greatest_append [] ys = omega arith
greatest_append (x ∷ xs) ys = (let e = greatest_append xs ys in omega (arith, e))

greatest_each : (f : ℕ → FormModel) → ((k : ℕ) → goal_reach (f k).goal ≡ 0) → (n : ℕ) → greatest_reach (map_below f n) ≡ 0
greatest_each f h zero = refl
greatest_each f h (suc n) = (let a = greatest_append (map_below f n) (f n ∷ []) in let e = greatest_each f h n in let z = h n in omega (arith, a, e, z))

goal_none : (netlist : Netlist) (storage : ℕ) → goal_reach (goal_at netlist storage) ≡ 0
goal_none netlist storage = by (storage == memory_id netlist.storages) (is_file_at netlist storage)
  where
    by : (b c : Bool) → goal_reach (cond b into_memory (cond c into_file (into_reg storage))) ≡ 0
    by true c = refl
    by false true = refl
    by false false = refl

-- ---- a pattern is one thing alone

write_eq : (a b : ExprModel) → write a ≡ write b → a ≡ b
write_eq a b e = cc

-- a pattern that steps is no jump
pub plain_not_jump : (netlist : Netlist) (p : Pattern) → IsPlain netlist p → IsJump netlist p → ⊥
plain_not_jump netlist p h j =
    let w = h.ok 0 (let le = and_le_l 0 (transfer_fields p.move) in omega (arith, le)) in
    let to : transfer_at netlist w.0 (counter_of netlist.codes) ≡ write j.target = sym (ap (transfer_at netlist w.0) j.storage) ∙ w.2.given.gives ∙ j.move in
    by w.2.steps.step to
  where
    no_sum : (t : ExprModel) → is_shape t ≡ true → (s : ExprModel) → is_shape s ≡ false → t ≡ s → ⊥
    no_sum t y s f e = true≢false (sym y ∙ ap is_shape e ∙ f)

    by : {m : TransferModel} → (m ≡ write (next_of (counter_of netlist.codes) (counter_width netlist))) ⊎ (m ≡ write (swapped_next_of (counter_of netlist.codes) (counter_width netlist))) → m ≡ write j.target → ⊥
    by (inl e) to = no_sum j.target (shape_from netlist.edition j.target j.shape) (next_of (counter_of netlist.codes) (counter_width netlist)) (no_sum_with (counter_width netlist) 1 (reg (counter_of netlist.codes) (counter_width netlist)) refl) (write_eq _ _ (sym to ∙ e))
    by (inr e) to = no_sum j.target (shape_from netlist.edition j.target j.shape) (swapped_next_of (counter_of netlist.codes) (counter_width netlist)) (no_sum_with (counter_width netlist) 1 (reg (counter_of netlist.codes) (counter_width netlist)) refl) (write_eq _ _ (sym to ∙ e))

-- and so is a branch
shape_no_branch : (edition : ℕ) (pc : Counter) (reach : ℕ) (t : ExprModel) → is_shape t ≡ true → expr_branch edition pc reach t ≡ None
shape_no_branch edition pc reach (word w) h = refl
shape_no_branch edition pc reach (reg r w) h = refl
shape_no_branch edition pc reach (const w v) h = refl
shape_no_branch edition pc reach (read space a w) h = refl
shape_no_branch edition pc reach (un o a) h = refl
shape_no_branch edition pc reach (bin o a b) h = refl
shape_no_branch edition pc reach (slice a hi lo) h = refl
shape_no_branch edition pc reach (cat a b) h = refl
shape_no_branch edition pc reach (zext a w) h = refl
shape_no_branch edition pc reach (sext a w) h = refl
shape_no_branch edition pc reach (select c a b) h = absurd (true≢false (sym h))

pub branch_not_jump : (netlist : Netlist) (reach : ℕ) (p : Pattern) (parts : Branch) → IsBranch netlist reach p parts → IsJump netlist p → ⊥
branch_not_jump netlist reach p parts b j =
    let e : b.value ≡ j.target = write_eq b.value j.target (sym b.move ∙ j.move) in
    let none : expr_branch netlist.edition (counter_at netlist) reach b.value ≡ None = ap (expr_branch netlist.edition (counter_at netlist) reach) e ∙ shape_no_branch netlist.edition (counter_at netlist) reach j.target (shape_from netlist.edition j.target j.shape) in
    let some = b.parts in
    absurd (cc)

-- ---- the reach of the list is that of the patterns

greatest_of : (netlist : Netlist) (reach number : ℕ) (p : Pattern) (forms : List FormModel) (r : ℕ) → AreFormModelsOf netlist reach number p forms → IsReachOf netlist p r → greatest_reach forms ≡ r
greatest_of netlist reach number p forms r (plain clobbers h cl e) (jumps_to j q) = absurd (plain_not_jump netlist p h j)
greatest_of netlist reach number p forms r (plain clobbers h cl e) (jumps_not never q) =
    ap greatest_reach e ∙ greatest_each (plain_form_model netlist number p clobbers) (λ k. goal_none netlist p.storage) (2 ^ swap_count (sides_of p.move)) ∙ sym q
greatest_of netlist reach number p forms r (jump h e) (jumps_to j q) =
    let t : h.target ≡ j.target = write_eq h.target j.target (sym h.move ∙ j.move) in
    let a : greatest_reach (jump_form_model netlist number h.target (transfer_fields p.move) ∷ []) ≡ reach_of h.target = omega arith in
    ap greatest_reach e ∙ a ∙ ap reach_of t ∙ sym q
greatest_of netlist reach number p forms r (jump h e) (jumps_not never q) = absurd (never h)
greatest_of netlist reach number p forms r (branch parts b e) (jumps_to j q) = absurd (branch_not_jump netlist reach p parts b j)
greatest_of netlist reach number p forms r (branch parts b e) (jumps_not never q) = ap greatest_reach e ∙ greatest_each (branch_form_model netlist number p parts) (λ k. refl) (2 ^ swap_count (test_sides parts)) ∙ sym q
greatest_of netlist reach number p forms r (other a b c e) (jumps_to j q) = absurd (b j)
greatest_of netlist reach number p forms r (other a b c e) (jumps_not never q) = ap greatest_reach e ∙ sym q

pub greatest_is : (netlist : Netlist) (reach number : ℕ) (ps : List Pattern) (forms : List FormModel) (r : ℕ) → AreFormModels netlist reach number ps forms → IsGreatestReach netlist ps r → r ≡ greatest_reach forms
greatest_is netlist reach number [] forms r h f = f ∙ ap greatest_reach (sym h)
greatest_is netlist reach number (p ∷ ps) forms r h f =
    let a = greatest_of netlist reach number p h.0 f.0 h.2 f.2 in
    let b = greatest_is netlist reach (number + 1) ps h.1 f.1 h.3 f.3 in
    let c = greatest_append h.0 h.1 in
    let d = ap greatest_reach h.4 in
    omega (arith, a, b, c, d, f.4)

-- ---- the patterns of a table by their numbers

pub told_some : (pool : List Node) (rows : List Row) (n : ℕ) → n < length rows → (p : Pattern) × (slice_get (row_patterns pool rows) n ≡ Some p)
told_some pool [] n lt = absurd (omega (arith, lt))
told_some pool (row ∷ rows) zero lt = (row_pattern pool row, refl)
told_some pool (row ∷ rows) (suc n) lt = told_some pool rows n (omega (arith, lt))

told_all : (pool : List Node) (rows : List Row) → take (length rows) (row_patterns pool rows) ≡ row_patterns pool rows
told_all pool [] = refl
told_all pool (row ∷ rows) = ap (λ ps. row_pattern pool row ∷ ps) (told_all pool rows)

-- the last of them
pub all_told : (pool : List Node) (rows : List Row) (n : ℕ) → n ≡ length rows → take n (row_patterns pool rows) ≡ row_patterns pool rows
all_told pool rows n e = ap (λ k. take k (row_patterns pool rows)) e ∙ told_all pool rows
