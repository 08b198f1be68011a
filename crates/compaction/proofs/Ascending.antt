-- Sorted numbers of which no two are equal ascend.
use Rattle.std.proofs.Common.{◌≡◌, ◌≢◌, ℕ, suc, ◌+◌, ◌<◌, ◌≤◌, ◌^◌, ◌==◌, arith, List, [], ◌∷◌, length, slice_index, Bool, true, false, refl, sym}
use Rattle.std.specs.List.{All, AllPairs}
use Rattle.std.specs.List.Sorted.{IsPermutation, IsSorted}
use Rattle.std.specs.Ordering.{nat_cmp}
use Rattle.std.proofs.lemmas.Bool.{eq-eqb, eqb-true, eqb-false, ne_eqb}
use Rattle.std.proofs.lemmas.Bool.Decides.{Decides-eqb}
use Rattle.std.proofs.lemmas.List.Sorted.{All-permutation, IsNonDecreasingBy-from_sort}
use Rattle.std.proofs.lemmas.Map.Keys.{IsDistinct-IsPermutation}
use Rattle.std.proofs.lemmas.Map.Made.{AllPairs-from_IsDistinct, IsDistinct-from_AllPairs}
use Rattle.code_model.specs.ImageFits.{AscendFrom}

abbrev test : ℕ → ℕ → Bool
test a b = a == b

flips : (a b : ℕ) → test a b ≡ test b a
flips a b = by (b == a) refl
  where
    by : (c : Bool) → (b == a) ≡ c → (a == b) ≡ c
    by true e = eq-eqb a b (sym (eqb-true b a e))
    by false e = ne_eqb a b (λ k. eqb-false b a e (sym k))

-- no two numbers are equal in another order either
pairs_permuted : (xs ys : List ℕ) → IsPermutation xs ys → AllPairs (λ a b. a ≢ b) xs → AllPairs (λ a b. a ≢ b) ys
pairs_permuted xs ys p d =
    AllPairs-from_IsDistinct Decides-eqb ys (IsDistinct-IsPermutation test flips xs ys p (IsDistinct-from_AllPairs Decides-eqb xs d))

ascend : (from : ℕ) (xs : List ℕ) → ((k : ℕ) → k < length xs → from ≤ slice_index xs k) → ((i j : ℕ) → i < j → j < length xs → slice_index xs i < slice_index xs j)
    → ((k : ℕ) → k < length xs → slice_index xs k < 2 ^ 32) → AscendFrom from xs
ascend from [] low less small = tt
ascend from (n ∷ ns) low less small = (
  low 0 (omega arith),
  small 0 (omega arith),
  ascend (n + 1) ns (λ k lt. let l : n < slice_index ns k = less 0 (suc k) (omega arith) (omega (arith, lt)) in omega (arith, l))
      (λ i j l lt. less (suc i) (suc j) (omega (arith, l)) (omega (arith, lt))) (λ k lt. small (suc k) (omega (arith, lt))),
)

pub sorted_ascend : (xs ys : List ℕ) → AllPairs (λ a b. a ≢ b) xs → All (λ n. n < 2 ^ 32) xs → IsPermutation xs ys → IsSorted nat_cmp ys → AscendFrom 0 ys
sorted_ascend xs ys d small p s =
    ascend 0 ys (λ k lt. omega arith) less (λ k lt. All-permutation (λ n. n < 2 ^ 32) xs ys p small k 0 lt)
  where
    less : (i j : ℕ) → i < j → j < length ys → slice_index ys i < slice_index ys j
    less i j l lt =
        let le : slice_index ys i ≤ slice_index ys j = IsNonDecreasingBy-from_sort (λ n. n) ys s i j 0 (omega (arith, l)) lt in
        let ne : slice_index ys i ≢ slice_index ys j = pairs_permuted xs ys p d i j 0 l lt in
        omega (arith, le, ne)
