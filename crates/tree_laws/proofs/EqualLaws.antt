-- Equal trees as a relation, and tests that are exchanged for equal or opposite ones.
use Rattle.std.proofs.Common.{◌≡◌, ℕ, zero, suc, ◌-◌, ◌<◌, ◌==◌, List, [], ◌∷◌, cond, refl, sym, ◌∙◌, ap, arith}
use Rattle.net_model.specs.declared.hardware.Space.TheVariants.{Memory as InMemory}
use Rattle.net_model.specs.Exprs.{ExprModel, const, read, zext, sext}
use Rattle.tree_laws.specs.Equal.{AreEqual, AreOpposite, CellsFit, next_place, value}

pub equal_sym : (cell : ℕ) (a b : ExprModel) → AreEqual cell a b → AreEqual cell b a
equal_sym cell a b e = record { width = sym e.width; same = λ cells f. sym (e.same cells f) }

pub equal_trans : (cell : ℕ) (a b c : ExprModel) → AreEqual cell a b → AreEqual cell b c → AreEqual cell a c
equal_trans cell a b c e f = record { width = e.width ∙ f.width; same = λ cells g. e.same cells g ∙ f.same cells g }

-- a test in place of an equal one
pub equal_test : (cell : ℕ) (a b : ExprModel) (one zer : ℕ) (cells : List ℕ) → CellsFit cell cells → AreEqual cell a b → next_place a one zer cells ≡ next_place b one zer cells
equal_test cell a b one zer cells f e = ap (λ n. cond (n == 1) one zer) (e.same cells f)

-- and of an opposite one, with exchanged targets
pub opposite_test : (cell : ℕ) (a b : ExprModel) (one zer : ℕ) (cells : List ℕ) → CellsFit cell cells → value b cells < 2 → AreOpposite cell a b → next_place a zer one cells ≡ next_place b one zer cells
opposite_test cell a b one zer cells f lt e = ap (λ n. cond (n == 1) zer one) (e.other cells f) ∙ by (value b cells) lt
  where
    by : (n : ℕ) → n < 2 → cond (1 - n == 1) zer one ≡ cond (n == 1) one zer
    by zero h = refl
    by (suc zero) h = refl
    by (suc (suc n)) h = absurd (omega (arith, h))

fits : CellsFit 8 (0 ∷ 128 ∷ [])
fits zero = omega arith
fits (suc zero) = omega arith
fits (suc (suc k)) = omega arith

-- extended with zeros and with copies of the top bit, a cell gives two trees that aren't equal
pub not_equal : AreEqual 8 (zext (read InMemory (const 8 1) 8) 16) (sext (read InMemory (const 8 1) 8) 16) → ⊥
not_equal e = let h : 128 ≡ 65408 = e.same (0 ∷ 128 ∷ []) fits in omega (arith, h)
