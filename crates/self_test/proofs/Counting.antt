-- Counts that stand at the end of their type.
use Rattle.std.proofs.Common.{◌≡◌, ℕ, ◌+◌, ◌-◌, ◌^◌, ◌<◌, Bool, true, false, cond, max, min, refl, ap, ◌∙◌, arith}
use Rattle.rec_bits.specs.Counts.{capped}
use Rattle.net_model.specs.Exprs.{ExprModel, expr_width}
use Rattle.src_model.specs.Sizes.{is_word}
use Rattle.self_test.specs.Inner.Values.{inner, is_operand, node}

pub sum_capped : (x y : ℕ) → capped (capped x + capped y) ≡ capped (x + y)
sum_capped x y = grind (arith)

if_capped : (b : Bool) (k n : ℕ) → capped (cond b 0 (k + capped n)) ≡ capped (cond b 0 (k + n))
if_capped true k n = refl
if_capped false k n = grind (arith)

pub node_capped : (w : ℕ) (t : ExprModel) (n : ℕ) → capped (node w t (capped n)) ≡ capped (node w t n)
node_capped w t n = if_capped (is_operand t) (is_word w (expr_width t)) n

-- both sides of an operator
module _ (w : ℕ) (a b : ExprModel) (x y l r s : ℕ) where
  pub both_capped : x ≡ capped (inner w a) → l ≡ capped (node w a x) → y ≡ capped (inner w b) → r ≡ capped (node w b y) → s ≡ min (l + r) (2 ^ 64 - 1) → s ≡ capped (node w a (inner w a) + node w b (inner w b))
  both_capped ex el ey er es =
      es
      ∙ ap (λ n. capped (n + r)) (el ∙ ap (λ v. capped (node w a v)) ex ∙ node_capped w a (inner w a))
      ∙ ap (λ n. capped (capped (node w a (inner w a)) + n)) (er ∙ ap (λ v. capped (node w b v)) ey ∙ node_capped w b (inner w b))
      ∙ sum_capped (node w a (inner w a)) (node w b (inner w b))

-- a count to which nothing is left to add, or to compare with
pub summed : (x count : ℕ) → count < 2 ^ 64 → capped x ≡ capped (count + 0) → count ≡ capped x
summed x count h e = omega (arith, h, e)

pub greatest : (x most : ℕ) → most < 2 ^ 64 → capped x ≡ capped (max most 0) → most ≡ capped x
greatest x most h e = omega (arith, h, e)
