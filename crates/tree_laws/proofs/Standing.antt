-- Expressions of classes: each operator is of its node's class where its operands are of theirs.
use Rattle.std.proofs.Common.{◌≡◌, ℕ, ◌+◌, ◌^◌, ◌<◌, List, [], ◌∷◌, ◌++◌, length, length-append, refl, sym, ◌∙◌, ap, subst, slice_index, slice_get, Option, Some, None, arith, inl, inr, get_or, take}
use Rattle.std.specs.Prelude.{IfSome}
use Rattle.std.proofs.lemmas.Bool.{cases_lt}
use Rattle.std.proofs.Math.ListN.{get_or-append}
use Rattle.std.proofs.Math.Seq.{get_or-append_seam}
use Rattle.std.specs.List.{AllByRecursion}
use Rattle.std.proofs.lemmas.List.{take_more}
use Rattle.std.proofs.lemmas.List.Sums.{fold_more}
use Rattle.rec_bits.proofs.Lists.{all_append, get_left, get_seam}
use Rattle.rec_bits.specs.Operators.{result_width, slice_of}
use Rattle.rec_bits.specs.declared.operator.Op1.{Op1}
use Rattle.rec_bits.specs.declared.operator.Op2.{Op2}
use Rattle.net_model.specs.declared.hardware.Space.TheVariants.{Memory as InMemory}
use Rattle.net_model.specs.Exprs.{ExprModel, const, read, un, bin, slice, zext, sext}
use Rattle.sym_expr.specs.declared.pool.Node.TheVariants.{Const, Read, Un, Bin, Slice, Zext, Sext}
use Rattle.tree_laws.specs.declared.classes.Classes.{Classes}
use Rattle.tree_laws.specs.declared.rules.Part.{Part}
use Rattle.tree_laws.specs.declared.rules.Rule.{Rule}
use Rattle.tree_laws.specs.Rules.{AllHold, AreSame, RuleHolds, expression_at, part_expr, part_exprs, side_of, expr_or}
use Rattle.tree_laws.specs.Meanings.{class_expr}
use Rattle.tree_laws.specs.Classes.{AllStand, AreOne, IsNodeOf, Stands, TableMeans, tree_at}

-- a fact of a result, by another that holds of it
pub if_some : {A : Type 0} (o : Option A) (P Q : A → Type 0) → ((x : A) → P x → Q x) → IfSome o P → IfSome o Q
if_some None P Q f h = tt
if_some (Some x) P Q f h = f x h

-- what holds of each element up to a place, and of the one there
pub all_more : {X : Type 0} (P : X → Type 0) (xs : List X) (i : ℕ) (d : X) → i < length xs → AllByRecursion P (take i xs) → P (get_or xs i d) → AllByRecursion P (take (i + 1) xs)
all_more P xs i d h a p = subst (AllByRecursion P) (sym (take_more xs i d h)) (all_append P (take i xs) (get_or xs i d ∷ []) a (p, tt))

-- the expressions of one more part
pub parts_more : (tree : ℕ → ExprModel) (number : ℕ → ℕ) (parts : List Part) (i : ℕ) (d : Part) → i < length parts
    → part_exprs tree number (take (i + 1) parts) ≡ part_exprs tree number (take i parts) ++ part_expr tree number (part_exprs tree number (take i parts)) (get_or parts i d) ∷ []
parts_more tree number parts i d h = fold_more (λ exprs part. exprs ++ part_expr tree number exprs part ∷ []) [] parts i d h

module _ (t : Classes) where
  pub class_stands : (c : ℕ) → c < length t.classes.items → Stands t (class_expr t.classes.items c) c
  class_stands c h cells regs m = record { below = h; width = refl; fits = m.widths c h; suits = m.values c h; value = refl }

  pub const_node : (w v : ℕ) → IsNodeOf t (const w v) (Const w v)
  const_node w v c g = g

  pub read_node : (a : ExprModel) (x w : ℕ) → Stands t a x → IsNodeOf t (read InMemory a w) (Read x w)
  read_node a x w f c g cells regs m =
      let p = f cells regs m in
      let q = g cells regs m in
      record {
        below = q.below;
        width = q.width;
        fits = (p.fits, q.fits.1);
        suits = (p.suits, subst (λ n. slice_index cells n < 2 ^ w) (sym p.value) q.suits.1);
        value = ap (slice_index cells) p.value ∙ q.value;
      }

  pub un_node : (o : Op1) (a : ExprModel) (x : ℕ) → Stands t a x → IsNodeOf t (un o a) (Un o x)
  un_node o a x f c g cells regs m =
      let p = f cells regs m in
      let q = g cells regs m in
      record { below = q.below; width = p.width ∙ q.width; fits = p.fits; suits = p.suits; value = cc (p.width, p.value) ∙ q.value }

  pub bin_node : (o : Op2) (a b : ExprModel) (x y : ℕ) → Stands t a x → Stands t b y → IsNodeOf t (bin o a b) (Bin o x y)
  bin_node o a b x y f h c g cells regs m =
      let p = f cells regs m in
      let r = h cells regs m in
      let q = g cells regs m in
      record {
        below = q.below;
        width = ap (result_width o) p.width ∙ q.width;
        fits = (p.fits, r.fits, r.width ∙ q.fits.2 ∙ sym p.width);
        suits = (p.suits, r.suits);
        value = cc (p.width, p.value, r.value) ∙ q.value;
      }

  pub slice_node : (a : ExprModel) (x hi lo : ℕ) → Stands t a x → IsNodeOf t (slice a hi lo) (Slice x hi lo)
  slice_node a x hi lo f c g cells regs m =
      let p = f cells regs m in
      let q = g cells regs m in
      record {
        below = q.below;
        width = q.width;
        fits = (p.fits, (q.fits.1.0, subst (λ w. hi < w) (sym p.width) q.fits.1.1));
        suits = p.suits;
        value = ap (λ n. slice_of n hi lo) p.value ∙ q.value;
      }

  pub zext_node : (a : ExprModel) (x w : ℕ) → Stands t a x → IsNodeOf t (zext a w) (Zext x w)
  zext_node a x w f c g cells regs m =
      let p = f cells regs m in
      let q = g cells regs m in
      record {
        below = q.below;
        width = q.width;
        fits = (p.fits, (subst (λ v. v < w) (sym p.width) q.fits.1.0, q.fits.1.1));
        suits = p.suits;
        value = p.value ∙ q.value;
      }

  pub sext_node : (a : ExprModel) (x w : ℕ) → Stands t a x → IsNodeOf t (sext a w) (Sext x w)
  sext_node a x w f c g cells regs m =
      let p = f cells regs m in
      let q = g cells regs m in
      record {
        below = q.below;
        width = q.width;
        fits = (p.fits, (subst (λ v. v < w) (sym p.width) q.fits.1.0, q.fits.1.1));
        suits = p.suits;
        value = cc (p.width, p.value) ∙ q.value;
      }

  -- ---- the parts of a rule

  pub const_part : (w v a b : ℕ) → a ≡ w → b ≡ v → IsNodeOf t (const w v) (Const a b)
  const_part w v a b e f = subst (λ x. IsNodeOf t (const x v) (Const a b)) e (subst (λ y. IsNodeOf t (const a y) (Const a b)) f (const_node a b))

  pub slice_part : (x : ExprModel) (c hi lo h l : ℕ) → Stands t x c → h ≡ hi → l ≡ lo → IsNodeOf t (slice x hi lo) (Slice c h l)
  slice_part x c hi lo h l f e g = subst (λ n. IsNodeOf t (slice x n lo) (Slice c h l)) e (subst (λ n. IsNodeOf t (slice x h n) (Slice c h l)) g (slice_node x c h l f))

  pub zext_part : (x : ExprModel) (c w v : ℕ) → Stands t x c → v ≡ w → IsNodeOf t (zext x w) (Zext c v)
  zext_part x c w v f e = subst (λ n. IsNodeOf t (zext x n) (Zext c v)) e (zext_node x c v f)

  pub sext_part : (x : ExprModel) (c w v : ℕ) → Stands t x c → v ≡ w → IsNodeOf t (sext x w) (Sext c v)
  sext_part x c w v f e = subst (λ n. IsNodeOf t (sext x n) (Sext c v)) e (sext_node x c v f)

  pub part_stands : (exprs : List ExprModel) (ids : List ℕ) (k c : ℕ) → AllStand t exprs ids → k < length ids → c ≡ slice_index ids k → Stands t (expression_at exprs k) c
  part_stands exprs ids k c a l e = subst (Stands t (expression_at exprs k)) (sym e) (a.each k l)

  pub none_stand : AllStand t [] []
  none_stand = record { count = refl; each = λ k l. absurd (omega (arith, l)) }

  pub one_more : (exprs : List ExprModel) (ids : List ℕ) (x : ExprModel) (c : ℕ) → AllStand t exprs ids → Stands t x c → AllStand t (exprs ++ x ∷ []) (ids ++ c ∷ [])
  one_more exprs ids x c a s = record {
    count = length-append ids (c ∷ []) ∙ ap (λ n. n + 1) a.count ∙ sym (length-append exprs (x ∷ []));
    each = λ k l. elim (cases_lt k (length ids)) as (λ _. Stands t (expression_at (exprs ++ x ∷ []) k) (slice_index (ids ++ c ∷ []) k)) [
      | inl less ↦ (let in_terms : k < length exprs = omega (arith, less, a.count) in
          subst (λ y. Stands t y (slice_index (ids ++ c ∷ []) k)) (sym (ap expr_or (get_left exprs (x ∷ []) k in_terms)))
          (subst (Stands t (expression_at exprs k)) (sym (get_or-append ids (c ∷ []) 0 k less)) (a.each k less)))
      | inr past ↦ (let end : k ≡ length ids = omega (arith, past, l, length-append ids (c ∷ [])) in
          subst (λ i. Stands t (expression_at (exprs ++ x ∷ []) i) (slice_index (ids ++ c ∷ []) i)) (sym end)
          (subst (λ y. Stands t y (slice_index (ids ++ c ∷ []) (length ids))) (sym (ap (λ i. expr_or (slice_get (exprs ++ x ∷ []) i)) a.count ∙ ap expr_or (get_seam exprs x [])))
          (subst (Stands t x) (sym (get_or-append_seam ids c [] 0)) s)))
    ];
  }

  -- one more part of a rule has its class
  pub part_more : (tree : ℕ → ExprModel) (number : ℕ → ℕ) (parts : List Part) (i : ℕ) (d : Part) (ids new : List ℕ) (c : ℕ) → i < length parts
      → AllStand t (part_exprs tree number (take i parts)) ids → Stands t (part_expr tree number (part_exprs tree number (take i parts)) (get_or parts i d)) c
      → new ≡ ids ++ c ∷ [] → AllStand t (part_exprs tree number (take (i + 1) parts)) new
  part_more tree number parts i d ids new c h a s e =
      let exprs : List ExprModel = part_exprs tree number (take i parts) in
      subst (λ ts. AllStand t ts new) (sym (parts_more tree number parts i d h))
      (subst (AllStand t (exprs ++ part_expr tree number exprs (get_or parts i d) ∷ [])) (sym e) (one_more exprs ids (part_expr tree number exprs (get_or parts i d)) c a s))

  -- an expression is of both of two classes that are one
  pub one_stands : (x : ExprModel) (a b : ℕ) → AreOne t a b → Stands t x a → Stands t x b
  one_stands x a b one f cells regs m =
      let p = f cells regs m in
      let e = one cells regs m in
      record { below = e.second; width = p.width ∙ e.width; fits = p.fits; suits = p.suits; value = p.value ∙ e.value }

  -- expressions that are the same have classes that can be joined
  same_one : (a b : ExprModel) (c d : ℕ) → Stands t a c → Stands t b d → ((cells regs : List ℕ) → TableMeans t cells regs → AreSame a b) → AreOne t c d
  same_one a b c d f g s cells regs m =
      let p = f cells regs m in
      let q = g cells regs m in
      let e = s cells regs m in
      record {
        first = p.below;
        second = q.below;
        width = sym p.width ∙ e.width ∙ q.width;
        value = sym p.value ∙ e.value _ 0 p.suits q.suits ∙ q.value;
      }

  -- the classes of a rule's sides
  pub sides_one : (rule : Rule) (ids numbers : List ℕ) (c d : ℕ) → RuleHolds rule → AllHold (tree_at t ids) (slice_index numbers) rule.conditions.now
      → Stands t (side_of (tree_at t ids) (slice_index numbers) rule rule.from) c → Stands t (side_of (tree_at t ids) (slice_index numbers) rule rule.to) d → AreOne t c d
  sides_one rule ids numbers c d law holds f g =
      same_one (side_of (tree_at t ids) (slice_index numbers) rule rule.from) (side_of (tree_at t ids) (slice_index numbers) rule rule.to) c d f g
      (λ cells regs m. law (tree_at t ids) (slice_index numbers) holds (f cells regs m).fits (g cells regs m).fits)
