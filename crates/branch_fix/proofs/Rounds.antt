-- Rounds: each makes more tests three words, or changes nothing.
use Rattle.std.proofs.Common.{ℕ, zero, suc, ◌≡◌, ◌≤◌, ◌<◌, ◌+◌, ◌-◌, Bool, true, false, ◌||◌, not, if◌then◌else◌, List, [], ◌∷◌, length, refl, ◌∙◌, ap, arith, slice_get, slice_index, nat_le, sym, subst, Some}
use Rattle.std.proofs.lemmas.Bool.Decides.{nat_tests}
use Rattle.rec_bits.proofs.Options.{same_Some}
use Rattle.rec_bits.proofs.Booleans.{bit_within}
use Rattle.form_model.specs.Forms.{FormModel}
use Rattle.branch_fix.specs.declared.part.BranchedTest.{BranchedTest}
use Rattle.branch_fix.specs.declared.part.LayoutPart.{LayoutPart}
use Rattle.branch_fix.specs.declared.part.LayoutPart.TheVariants.{Block, Inner, Test, Jump, End}
use Rattle.branch_fix.specs.Parts.{room, starts, address}
use Rattle.branch_fix.specs.Rounds.{form_shows, widened_part, widened_from, round, rounds, IsRound, IsFixpoint, is_long, long_tests}

-- a test is more than it was, or the same
abbrev bit : Bool → ℕ
bit true = 1
bit false = 0

bit_is : (b : Bool) → bit b ≡ (if b then 1 else 0)
bit_is true = refl
bit_is false = refl

part_more : (forms : List FormModel) (addresses : List ℕ) (at : ℕ) (p : LayoutPart)
    → (if is_long p then 1 else 0) ≤ (if is_long (widened_part forms addresses at p) then 1 else 0)
part_more forms addresses at (Block block words) = omega arith
part_more forms addresses at Inner = omega arith
part_more forms addresses at (Test f) = by f.long (form_shows (slice_get forms f.form) (at + f.words) (slice_index addresses f.to))
  where
    by : (b c : Bool) → (if b then 1 else 0) ≤ (if b || not c then 1 else 0)
    by true c = omega arith
    by false true = omega arith
    by false false = omega arith
part_more forms addresses at (Jump to) = omega arith
part_more forms addresses at End = omega arith

part_same : (forms : List FormModel) (addresses : List ℕ) (at : ℕ) (p : LayoutPart) → bit (is_long (widened_part forms addresses at p)) ≡ bit (is_long p)
    → widened_part forms addresses at p ≡ p
part_same forms addresses at (Block block words) e = refl
part_same forms addresses at Inner e = refl
part_same forms addresses at (Test f) e = ap (λ l. Test (record f { long = l })) (by f.long (form_shows (slice_get forms f.form) (at + f.words) (slice_index addresses f.to)) e)
  where
    by : (b c : Bool) → bit (b || not c) ≡ bit b → (b || not c) ≡ b
    by true c e = refl
    by false true e = refl
    by false false e = absurd (omega (arith, e))
part_same forms addresses at (Jump to) e = refl
part_same forms addresses at End e = refl

pub more_long : (forms : List FormModel) (addresses : List ℕ) (at : ℕ) (parts : List LayoutPart)
    → long_tests parts ≤ long_tests (widened_from forms addresses at parts)
more_long forms addresses at [] = omega arith
more_long forms addresses at (p ∷ parts) = let a = part_more forms addresses at p in let b = more_long forms addresses (at + room p) parts in omega (arith, a, b)

same_long : (forms : List FormModel) (addresses : List ℕ) (at : ℕ) (parts : List LayoutPart)
    → long_tests (widened_from forms addresses at parts) ≡ long_tests parts → widened_from forms addresses at parts ≡ parts
same_long forms addresses at [] e = refl
same_long forms addresses at (p ∷ parts) e =
    let a = part_more forms addresses at p in
    let b = more_long forms addresses (at + room p) parts in
    let m = bit_is (is_long (widened_part forms addresses at p)) in
    let n = bit_is (is_long p) in
    let x = part_same forms addresses at p (omega (arith, a, b, e, m, n)) in
    let y = same_long forms addresses (at + room p) parts (omega (arith, a, b, e)) in
    (λ j. x j ∷ y j)

widened_length : (forms : List FormModel) (addresses : List ℕ) (at : ℕ) (parts : List LayoutPart) → length (widened_from forms addresses at parts) ≡ length parts
widened_length forms addresses at [] = refl
widened_length forms addresses at (p ∷ parts) = let h = widened_length forms addresses (at + room p) parts in omega (arith, h)

pub long_few : (parts : List LayoutPart) → long_tests parts ≤ length parts
long_few [] = omega arith
long_few (p ∷ parts) = let h = long_few parts in let k = bit_within (is_long p) in omega (arith, h, k)

round_last : (forms : List FormModel) (n : ℕ) (first : List LayoutPart) → round forms (rounds forms n first) ≡ rounds forms n (round forms first)
round_last forms zero first = refl
round_last forms (suc n) first = round_last forms n (round forms first)

-- ---- the loop

pub first_round : (forms : List FormModel) (first : List LayoutPart) → IsRound forms first first
first_round forms first = record { count = 0; made = refl }

pub next_round : (forms : List FormModel) (first parts next : List LayoutPart) → IsRound forms first parts → next ≡ round forms parts → IsRound forms first next
next_round forms first parts next r e = record { count = suc r.count; made = e ∙ ap (round forms) r.made ∙ round_last forms r.count first }

pub last_round : (forms : List FormModel) (first parts next : List LayoutPart) (m n : ℕ) → IsRound forms first parts → next ≡ round forms parts
    → m ≡ long_tests next → n ≡ long_tests parts → m ≡ n → IsFixpoint forms first parts
last_round forms first parts next m n r e p q same = record {
  count = r.count;
  made = r.made;
  still = same_long forms (starts parts) 0 parts (let a = ap long_tests e in omega (arith, a, p, q, same));
}

pub falls : (forms : List FormModel) (parts next : List LayoutPart) (m n : ℕ) → next ≡ round forms parts → m ≡ long_tests next → n ≡ long_tests parts
    → (m ≡ n → ⊥) → length next - long_tests next < length parts - long_tests parts
falls forms parts next m n e p q ne =
    let a = ap long_tests e in
    let b = more_long forms (starts parts) 0 parts in
    let c = ap length e in
    let d = widened_length forms (starts parts) 0 parts in
    let f = long_few next in
    omega (arith, a, b, c, d, f)

-- ---- what a round leaves

widened_at : (forms : List FormModel) (addresses : List ℕ) (at : ℕ) (parts : List LayoutPart) (k : ℕ) (p : LayoutPart) (n : ℕ) → slice_get parts k ≡ Some p
    → n ≡ at + address parts k
    → slice_get (widened_from forms addresses at parts) k ≡ Some (widened_part forms addresses n p)
widened_at forms addresses at [] k p n e z = absurd (cc e)
widened_at forms addresses at (q ∷ parts) zero p n e z =
    let same : at ≡ n = omega (arith, z) in
    subst (λ a. Some (widened_part forms addresses at q) ≡ Some (widened_part forms addresses a p)) same (ap (λ r. Some (widened_part forms addresses at r)) (same_Some q p e))
widened_at forms addresses at (q ∷ parts) (suc k) p n e z = widened_at forms addresses (at + room q) parts k p n e (omega (arith, z))

-- a test that is not three words, and stays so, shows its distance
pub still_shows : (forms : List FormModel) (addresses : List ℕ) (parts : List LayoutPart) (k : ℕ) (f : BranchedTest) → slice_get parts k ≡ Some (Test f)
    → widened_from forms addresses 0 parts ≡ parts → f.long ≡ false
    → form_shows (slice_get forms f.form) (address parts k + f.words) (slice_index addresses f.to) ≡ true
still_shows forms addresses parts k f e still short =
    let w : slice_get (widened_from forms addresses 0 parts) k ≡ Some (widened_part forms addresses (address parts k) (Test f)) = widened_at forms addresses 0 parts k (Test f) (address parts k) e (omega arith) in
    let long : (f.long || not (form_shows (slice_get forms f.form) (address parts k + f.words) (slice_index addresses f.to))) ≡ f.long = tests _ f (sym w ∙ ap (λ ps. slice_get ps k) still ∙ e) in
    by f.long _ long short
  where
    tests : (g f : BranchedTest) → Some (Test g) ≡ Some (Test f) → g.long ≡ f.long
    tests g f e = cc

    by : (l b : Bool) → (l || not b) ≡ l → l ≡ false → b ≡ true
    by true b e s = absurd (cc s)
    by false true e s = refl
    by false false e s = absurd (cc e)

-- a test that is not three words shows its distance
pub settled_shows : (forms : List FormModel) (first parts : List LayoutPart) (k : ℕ) (f : BranchedTest) → IsFixpoint forms first parts → slice_get parts k ≡ Some (Test f)
    → f.long ≡ false
    → form_shows (slice_get forms f.form) (address parts k + f.words) (slice_index (starts parts) f.to) ≡ true
settled_shows forms first parts k f s e short = still_shows forms (starts parts) parts k f e s.still short

-- ---- the parts that rounds settle on are one list

still_rounds : (forms : List FormModel) (k : ℕ) (parts : List LayoutPart) → round forms parts ≡ parts → rounds forms k parts ≡ parts
still_rounds forms zero parts e = refl
still_rounds forms (suc k) parts e = ap (rounds forms k) e ∙ still_rounds forms k parts e

rounds_plus : (forms : List FormModel) (m k N : ℕ) (parts : List LayoutPart) → N ≡ m + k → rounds forms N parts ≡ rounds forms k (rounds forms m parts)
rounds_plus forms zero k N parts e = let f : N ≡ k = omega arith in ap (λ n. rounds forms n parts) f
rounds_plus forms (suc m) k zero parts e = absurd (omega arith)
rounds_plus forms (suc m) k (suc N) parts e = rounds_plus forms m k N (round forms parts) (omega arith)

settled_first : (forms : List FormModel) (first a b : List LayoutPart) (s : IsFixpoint forms first a) (t : IsFixpoint forms first b) → s.count ≤ t.count → a ≡ b
settled_first forms first a b s t le =
    let k : ℕ = t.count - s.count in
    let p : rounds forms t.count first ≡ rounds forms (t.count - s.count) (rounds forms s.count first) = rounds_plus forms s.count (t.count - s.count) t.count first (omega arith) in
    sym (t.made ∙ p ∙ ap (rounds forms (t.count - s.count)) (sym s.made) ∙ still_rounds forms (t.count - s.count) a s.still)

pub settled_once : (forms : List FormModel) (first a b : List LayoutPart) → IsFixpoint forms first a → IsFixpoint forms first b → a ≡ b
settled_once forms first a b s t = by (nat_le s.count t.count) refl
  where
    by : (x : Bool) → nat_le s.count t.count ≡ x → a ≡ b
    by true e = settled_first forms first a b s t (grind (arith, nat_tests, e))
    by false e = sym (settled_first forms first b a t s (grind (arith, nat_tests, e)))
