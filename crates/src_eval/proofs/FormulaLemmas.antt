-- An expression that fits in every store of words is sound in each, and its value is below 2 to its
-- width.
use Rattle.std.proofs.Common.{lit<, ℕ, ◌+◌, ◌-◌, ◌^◌, ◌<◌, ◌≤◌, zero, suc, List, [], ◌∷◌, slice_index, slice_set, arith}
use Rattle.std.proofs.lemmas.Nat.{pow_pos, mod_below}
use Rattle.std.proofs.Math.Nat.{pow-le-pow_right}
use Rattle.rec_bits.specs.Operators.{result_width}
use Rattle.rec_bits.proofs.Fits.{apply1_fits, apply2_fits, sext_below}
use Rattle.src_eval.specs.declared.formula.Formula.{Formula, Number, Cell, Element', Un', Bin', Sext', Low'}
use Rattle.src_eval.specs.declared.formula.Comparison.{Comparison}
use Rattle.src_eval.specs.Formulas.{formula_value, Sound, SoundSides, FormulaFits, FitsComparison}

-- a number of fewer bits
wider : (n low high : ℕ) → low ≤ high → n < 2 ^ low → n < 2 ^ high
wider n low high le h = let p : 2 ^ low ≤ 2 ^ high = pow-le-pow_right (lit< tt) le in omega (arith, h, p)

pub fits_wider : (word low high : ℕ) (f : Formula) → low ≤ high → FormulaFits word low f → FormulaFits word high f
fits_wider word low high (Number n) le h = wider n low high le h
fits_wider word low high (Cell at) le h = omega (arith, le, h)
fits_wider word low high (Element' first p x) le h = (omega (arith, le, h.0), h.1)
fits_wider word low high (Un' op width p x) le h = (h.0, omega (arith, le, h.1), h.2)
fits_wider word low high (Bin' op width p x q y) le h = (h.0, omega (arith, le, h.1), h.2, h.3)
fits_wider word low high (Sext' from to p x) le h = (h.0, h.1, h.2, omega (arith, le, h.3), h.4)
fits_wider word low high (Low' width p x) le h = (h.0, omega (arith, le, h.1), h.2)

-- all cells hold words
abbrev pub Words : ℕ → List ℕ → Type 0
Words word cells = (cell : ℕ) → slice_index cells cell < 2 ^ word

pub record Below (cells : List ℕ) (width : ℕ) (f : Formula) : Type 0 where
  pub sound : Sound cells f
  pub below : formula_value cells f < 2 ^ width

pub below : (word : ℕ) (cells : List ℕ) → Words word cells → (width : ℕ) (f : Formula) → FormulaFits word width f → Below cells width f
below word cells words width (Number n) h = record { sound = tt; below = h }
below word cells words width (Cell at) h = record { sound = tt; below = wider _ word width h (words at) }
below word cells words width (Element' first p x) h =
    let i = below word cells words word x h.1 in
    record { sound = i.sound; below = wider _ word width h.0 (words (first + formula_value cells x)) }
below word cells words width (Un' op inner p x) h =
    let i = below word cells words inner x h.2 in
    record { sound = (h.0, i.below, i.sound); below = wider _ inner width h.1 (apply1_fits op inner (formula_value cells x)) }
below word cells words width (Bin' op inner p x q y) h =
    let l = below word cells words inner x h.2 in
    let r = below word cells words inner y h.3 in
    record { sound = (h.0, l.below, r.below, l.sound, r.sound); below = wider _ (result_width op inner) width h.1 (apply2_fits op inner (formula_value cells x) (formula_value cells y) l.below r.below) }
below word cells words width (Sext' from to p x) h =
    let i = below word cells words from x h.4 in
    record { sound = (h.0, h.1, h.2, i.below, i.sound); below = wider _ to width h.3 (sext_below (formula_value cells x) from to h.1 i.below) }
below word cells words width (Low' inner p x) h =
    let i = below word cells words 64 x h.2 in
    record { sound = (h.0, i.sound); below = wider _ (inner - 1 + 1 - 0) width (omega (arith, h.0, h.1)) (mod_below _ _ (pow_pos (inner - 1 + 1 - 0))) }

pub sides_sound : (word : ℕ) (cells : List ℕ) → Words word cells → (test : Comparison) → FitsComparison word test → SoundSides cells test
sides_sound word cells words test h =
    let l = below word cells words test.width test.left h.left in
    let r = below word cells words test.width test.right h.right in
    record { width = h.width; left = l.sound; right = r.sound; left_below = l.below; right_below = r.below }

-- a word goes into a cell
pub words_set : (word : ℕ) (cells : List ℕ) (at value : ℕ) → Words word cells → value < 2 ^ word → Words word (slice_set cells at value)
words_set word [] at value words h cell = words cell
words_set word (c ∷ cells) zero value words h zero = h
words_set word (c ∷ cells) zero value words h (suc cell) = words (suc cell)
words_set word (c ∷ cells) (suc at) value words h zero = words zero
words_set word (c ∷ cells) (suc at) value words h (suc cell) = words_set word cells at value (λ i. words (suc i)) h cell
