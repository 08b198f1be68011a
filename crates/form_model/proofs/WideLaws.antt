-- A tree's nodes are its root, unless that is a read at a number, and those below it.
use Rattle.std.proofs.Common.{◌≡◌, ◌≤◌, ◌==◌, ℕ, ◌+◌, Bool, true, false, if◌then◌else◌, refl, ap, ◌∙◌, arith}
use Rattle.net_model.specs.Exprs.{ExprModel, word, reg, const, read, un, bin, slice, cat, zext, sext, select, expr_width}
use Rattle.form_model.specs.Trees.{is_cell, is_number}
use Rattle.form_model.specs.WideNodes.{wide_below, wide_nodes, word_node}

pub wide_split : (w : ℕ) (t : ExprModel) → wide_nodes w t ≡ (if is_cell t then 0 else word_node w (expr_width t) + wide_below w t)
wide_split w (word v) = omega arith
wide_split w (reg r v) = omega arith
wide_split w (const v n) = omega arith
wide_split w (read space a v) = by (is_number a)
  where
    by : (b : Bool) → (if b then 0 else word_node w v + wide_nodes w a) ≡ (if b then 0 else word_node w v + (if b then 0 else wide_nodes w a))
    by true = refl
    by false = refl
wide_split w (un o a) = refl
wide_split w (bin o a b) = refl
wide_split w (slice a hi lo) = refl
wide_split w (cat a b) = refl
wide_split w (zext a v) = refl
wide_split w (sext a v) = refl
wide_split w (select c a b) = refl

-- a read at a number has no node below it that counts
pub below_cell : (w : ℕ) (t : ExprModel) → is_cell t ≡ true → wide_below w t ≡ 0
below_cell w (read space a v) e = ap (λ b. if b then 0 else wide_nodes w a) e
below_cell w (word v) e = refl
below_cell w (reg r v) e = refl
below_cell w (const v n) e = refl
below_cell w (un o a) e = absurd (cc)
below_cell w (bin o a b) e = absurd (cc)
below_cell w (slice a hi lo) e = absurd (cc)
below_cell w (cat a b) e = absurd (cc)
below_cell w (zext a v) e = absurd (cc)
below_cell w (sext a v) e = absurd (cc)
below_cell w (select c a b) e = absurd (cc)

pub below_nodes : (w : ℕ) (t : ExprModel) → wide_below w t ≤ wide_nodes w t
below_nodes w t = by (is_cell t) refl
  where
    by : (b : Bool) → is_cell t ≡ b → wide_below w t ≤ wide_nodes w t
    by true e = let z = below_cell w t e in omega (arith, z)
    by false e =
        let s : wide_nodes w t ≡ word_node w (expr_width t) + wide_below w t = wide_split w t ∙ ap (λ c. if c then 0 else word_node w (expr_width t) + wide_below w t) e in
        omega (arith, s)

-- a node of a word's width is one more than those below it
pub one_more : (w : ℕ) (t : ExprModel) → (expr_width t == w) ≡ true → is_cell t ≡ false → wide_nodes w t ≡ wide_below w t + 1
one_more w t h e =
    let s : wide_nodes w t ≡ word_node w (expr_width t) + wide_below w t = wide_split w t ∙ ap (λ c. if c then 0 else word_node w (expr_width t) + wide_below w t) e in
    let n : word_node w (expr_width t) ≡ 1 = ap (λ (c : Bool). if c then 1 else 0) h in
    omega (arith, s, n)
