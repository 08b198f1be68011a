-- Swaps in its operands leave a sum a field shape, or none.
use Rattle.std.proofs.Common.{◌≡◌, ℕ, ◌^◌, ◌==◌, ◌&&◌, not, nat_le, nat_lt, if◌then◌else◌, Bool, true, false, true≢false, List, [], ◌∷◌, Option, Some, None, refl, ap, ◌∙◌, sym, inl, inr}
use Rattle.std.proofs.lemmas.Bool.{cases_Bool}
use Rattle.rec_bits.specs.declared.operator.Op2.{Op2}
use Rattle.rec_bits.specs.declared.operator.Op2.TheVariants.{Add, Sub, Mul, And, Or, Xor, Shl, Shr, Sar, Eq, Ltu, Lts}
use Rattle.rec_bits.proofs.Booleans.{and-false}
use Rattle.net_model.specs.Exprs.{ExprModel, word, reg, const, read, un, bin, slice, cat, zext, sext, select, expr_width}
use Rattle.form_model.specs.Shapes.{is_field, is_plain, is_plain_sum, sum_of, sum_with, summands}
use Rattle.operand_swaps.specs.Swaps.{Path, can_swap, ordered, swap_at, swaps_here}

-- ---- swaps keep what is no operator

abbrev whole_word : ExprModel → Bool
whole_word (word w) = true
whole_word _ = false

field_slice : (a : ExprModel) (hi lo : ℕ) → is_field (slice a hi lo) ≡ whole_word a
field_slice (word w) hi lo = refl
field_slice (reg r w) hi lo = refl
field_slice (const w v) hi lo = refl
field_slice (read space a w) hi lo = refl
field_slice (un o a) hi lo = refl
field_slice (bin o a b) hi lo = refl
field_slice (slice a h l) hi lo = refl
field_slice (cat a b) hi lo = refl
field_slice (zext a w) hi lo = refl
field_slice (sext a w) hi lo = refl
field_slice (select c a b) hi lo = refl

turned_word : (s : Bool) (o : Op2) (a b : ExprModel) → whole_word (ordered s o a b) ≡ false
turned_word true o a b = refl
turned_word false o a b = refl

word_stays : (f : Path → Bool) (t : ExprModel) → whole_word (swap_at f t) ≡ whole_word t
word_stays f (word w) = refl
word_stays f (reg r w) = refl
word_stays f (const w v) = refl
word_stays f (read space a w) = refl
word_stays f (un o a) = refl
word_stays f (bin o a b) = turned_word (swaps_here o a b && f []) o (swap_at (λ p. f (0 ∷ p)) a) (swap_at (λ p. f (1 ∷ p)) b)
word_stays f (slice a hi lo) = refl
word_stays f (cat a b) = refl
word_stays f (zext a w) = refl
word_stays f (sext a w) = refl
word_stays f (select c a b) = refl

turned_field : (s : Bool) (o : Op2) (a b : ExprModel) → is_field (ordered s o a b) ≡ false
turned_field true o a b = refl
turned_field false o a b = refl

field_stays : (f : Path → Bool) (t : ExprModel) → is_field (swap_at f t) ≡ is_field t
field_stays f (word w) = refl
field_stays f (reg r w) = refl
field_stays f (const w v) = refl
field_stays f (read space a w) = refl
field_stays f (un o a) = refl
field_stays f (bin o a b) = turned_field (swaps_here o a b && f []) o (swap_at (λ p. f (0 ∷ p)) a) (swap_at (λ p. f (1 ∷ p)) b)
field_stays f (slice a hi lo) = field_slice (swap_at (λ p. f (0 ∷ p)) a) hi lo ∙ word_stays (λ p. f (0 ∷ p)) a ∙ sym (field_slice a hi lo)
field_stays f (cat a b) = refl
field_stays f (zext a w) = refl
field_stays f (sext a w) = refl
field_stays f (select c a b) = refl

turned_plain : (s : Bool) (o : Op2) (a b : ExprModel) → is_plain (ordered s o a b) ≡ false
turned_plain true o a b = refl
turned_plain false o a b = refl

pub plain_stays : (f : Path → Bool) (t : ExprModel) → is_plain (swap_at f t) ≡ is_plain t
plain_stays f (word w) = refl
plain_stays f (reg r w) = refl
plain_stays f (const w v) = refl
plain_stays f (read space a w) = refl
plain_stays f (un o a) = refl
plain_stays f (bin o a b) = turned_plain (swaps_here o a b && f []) o (swap_at (λ p. f (0 ∷ p)) a) (swap_at (λ p. f (1 ∷ p)) b)
plain_stays f (slice a hi lo) = field_stays f (slice a hi lo)
plain_stays f (cat a b) = refl
plain_stays f (zext a w) = field_stays (λ p. f (0 ∷ p)) a
plain_stays f (sext a w) = field_stays (λ p. f (0 ∷ p)) a
plain_stays f (select c a b) = refl

-- a plain shape has no operator
field_same : (f : Path → Bool) (t : ExprModel) → is_field t ≡ true → swap_at f t ≡ t
field_same f (word w) h = refl
field_same f (slice (word w) hi lo) h = refl
field_same f (slice (reg r w) hi lo) h = absurd (true≢false (sym h))
field_same f (slice (const w v) hi lo) h = absurd (true≢false (sym h))
field_same f (slice (read space a w) hi lo) h = absurd (true≢false (sym h))
field_same f (slice (un o a) hi lo) h = absurd (true≢false (sym h))
field_same f (slice (bin o a b) hi lo) h = absurd (true≢false (sym h))
field_same f (slice (slice a x y) hi lo) h = absurd (true≢false (sym h))
field_same f (slice (cat a b) hi lo) h = absurd (true≢false (sym h))
field_same f (slice (zext a w) hi lo) h = absurd (true≢false (sym h))
field_same f (slice (sext a w) hi lo) h = absurd (true≢false (sym h))
field_same f (slice (select c a b) hi lo) h = absurd (true≢false (sym h))
field_same f (reg r w) h = refl
field_same f (const w v) h = refl
field_same f (read space a w) h = absurd (true≢false (sym h))
field_same f (un o a) h = absurd (true≢false (sym h))
field_same f (bin o a b) h = absurd (true≢false (sym h))
field_same f (cat a b) h = absurd (true≢false (sym h))
field_same f (zext a w) h = absurd (true≢false (sym h))
field_same f (sext a w) h = absurd (true≢false (sym h))
field_same f (select c a b) h = absurd (true≢false (sym h))

pub plain_same : (f : Path → Bool) (t : ExprModel) → is_plain t ≡ true → swap_at f t ≡ t
plain_same f (word w) h = refl
plain_same f (const w v) h = refl
plain_same f (zext a w) h = ap (λ x. zext x w) (field_same (λ p. f (0 ∷ p)) a h)
plain_same f (sext a w) h = ap (λ x. sext x w) (field_same (λ p. f (0 ∷ p)) a h)
plain_same f (slice a hi lo) h = field_same f (slice a hi lo) h
plain_same f (reg r w) h = refl
plain_same f (read space a w) h = absurd (true≢false (sym h))
plain_same f (un o a) h = absurd (true≢false (sym h))
plain_same f (bin o a b) h = absurd (true≢false (sym h))
plain_same f (cat a b) h = absurd (true≢false (sym h))
plain_same f (select c a b) h = absurd (true≢false (sym h))

-- ---- numbers

-- the width and the value of a constant
pub record Number : Type 0 where
  pub width : ℕ
  pub value : ℕ

abbrev number : ExprModel → Option Number
number (const w v) = Some (record { width = w; value = v })
number _ = None

turned_number : (s : Bool) (o : Op2) (a b : ExprModel) → number (ordered s o a b) ≡ None
turned_number true o a b = refl
turned_number false o a b = refl

number_stays : (f : Path → Bool) (t : ExprModel) → number (swap_at f t) ≡ number t
number_stays f (word w) = refl
number_stays f (reg r w) = refl
number_stays f (const w v) = refl
number_stays f (read space a w) = refl
number_stays f (un o a) = refl
number_stays f (bin o a b) = turned_number (swaps_here o a b && f []) o (swap_at (λ p. f (0 ∷ p)) a) (swap_at (λ p. f (1 ∷ p)) b)
number_stays f (slice a hi lo) = refl
number_stays f (cat a b) = refl
number_stays f (zext a w) = refl
number_stays f (sext a w) = refl
number_stays f (select c a b) = refl

-- ---- sums

-- a number may be added to an expression
abbrev ready : Number → ExprModel → Bool
ready n t = (nat_le n.width 64 && (nat_lt n.value (2 ^ n.width) && (expr_width t == n.width))) && is_plain t

with_plain : (w c : ℕ) (t : ExprModel) → is_plain_sum (sum_with w c t) ≡ ready (record { width = w; value = c }) t
with_plain w c t = by (nat_le w 64 && (nat_lt c (2 ^ w) && (expr_width t == w)))
  where
    by : (b : Bool) → is_plain_sum (if b then Some (record { width = w; added = c; to = t }) else None) ≡ (b && is_plain t)
    by true = refl
    by false = refl

ready_stays : (f : Path → Bool) (n : Number) (t : ExprModel) → ready n (swap_at f t) ≡ ready n t
ready_stays f n t =
    elim (cases_Bool (is_plain t)) as (λ _. ready n (swap_at f t) ≡ ready n t) [
      | inl p ↦ ap (ready n) (plain_same f t p)
      | inr p ↦
          ap (λ b. (nat_le n.width 64 && (nat_lt n.value (2 ^ n.width) && (expr_width (swap_at f t) == n.width))) && b) (plain_stays f t ∙ p)
          ∙ and-false (nat_le n.width 64 && (nat_lt n.value (2 ^ n.width) && (expr_width (swap_at f t) == n.width)))
          ∙ sym (and-false (nat_le n.width 64 && (nat_lt n.value (2 ^ n.width) && (expr_width t == n.width))))
          ∙ ap (λ b. (nat_le n.width 64 && (nat_lt n.value (2 ^ n.width) && (expr_width t == n.width))) && b) (sym p)
    ]

-- when two expressions are a constant and a plain shape
abbrev two_plain : Option Number → Option Number → ExprModel → ExprModel → Bool
two_plain (Some n) y a b = ready n b
two_plain None (Some n) a b = ready n a
two_plain None None a b = false

summed : (a b : ExprModel) → is_plain_sum (summands a b) ≡ two_plain (number a) (number b) a b
summed (const w c) b = with_plain w c b
summed a (const w c) = with_plain w c a
summed a b = refl

two_stay : (f g : Path → Bool) (a b : ExprModel) (x y : Option Number) → two_plain x y (swap_at f a) (swap_at g b) ≡ two_plain x y a b
two_stay f g a b (Some n) y = ready_stays g n b
two_stay f g a b None (Some n) = ready_stays f n a
two_stay f g a b None None = refl

summands_stay : (f g : Path → Bool) (a b : ExprModel) → is_plain_sum (summands (swap_at f a) (swap_at g b)) ≡ is_plain_sum (summands a b)
summands_stay f g a b =
    summed (swap_at f a) (swap_at g b) ∙ (λ j. two_plain (number_stays f a j) (number_stays g b j) (swap_at f a) (swap_at g b))
    ∙ two_stay f g a b (number a) (number b) ∙ sym (summed a b)

sum_stays : (o : Op2) (a b : ExprModel) (f g : Path → Bool) → is_plain_sum (sum_of o (swap_at f a) (swap_at g b)) ≡ is_plain_sum (sum_of o a b)
sum_stays Add a b f g = summands_stay f g a b
sum_stays Sub a b f g = refl
sum_stays Mul a b f g = refl
sum_stays And a b f g = refl
sum_stays Or a b f g = refl
sum_stays Xor a b f g = refl
sum_stays Shl a b f g = refl
sum_stays Shr a b f g = refl
sum_stays Sar a b f g = refl
sum_stays Eq a b f g = refl
sum_stays Ltu a b f g = refl
sum_stays Lts a b f g = refl

-- an operator that isn't swapped in a sum isn't after swaps in its operands, and the other way round
pub here_stays : (o : Op2) (a b : ExprModel) (f g : Path → Bool) → swaps_here o (swap_at f a) (swap_at g b) ≡ swaps_here o a b
here_stays o a b f g = ap (λ s. can_swap o && not s) (sum_stays o a b f g)
