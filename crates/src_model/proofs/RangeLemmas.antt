-- An index whose range lies within its array lies in it in every run.
use Rattle.std.proofs.Common.{ℕ, ◌≡◌, ◌≤◌, ◌<◌, ◌+◌, ◌-◌, ◌*◌, ◌/◌, ◌%◌, ◌^◌, Bool, true, false, not, nat_lt, ◌&&◌, if◌then◌else◌, min, max, List, [], ◌∷◌, Option, Some, None, refl, sym, ap, subst, arith, ℤ, pos, slice_index}
use Rattle.std.specs.Prelude.{int_le, int_lt, ◌-ℤ◌, ◌+ℤ◌, ◌*ℤ◌, ◌≤ℤ◌, bit_and}
use Rattle.std.proofs.lemmas.Int.{ints}
use Rattle.std.proofs.lemmas.Bool.{lt-ltb, ltb-true, ltb-false}
use Rattle.std.specs.Cmp.Derive.{both_true}
use Rattle.std.proofs.lemmas.Nat.{pow_pos, and_le_l, and_le_r}
use Rattle.std.proofs.Math.Nat.{mul-le-mul_right}
use borrow.Author.Differences.{up, down}
use Rattle.rec_bits.proofs.Booleans.{both}
use Rattle.rec_bits.specs.declared.ranges.Range.{Range}
use Rattle.rec_bits.specs.Faults.{offsets_if}
use Rattle.rec_bits.specs.Operators.{apply2_of, result_width}
use Rattle.rec_bits.specs.declared.operator.Op2.{Op2}
use Rattle.rec_bits.specs.declared.operator.Op2.TheVariants.{Add, Sub, Mul, And, Or, Xor, Shl, Shr, Sar, Eq, Ltu, Lts}
use Rattle.rec_bits.specs.Ranges.{is_range_end, range_of}
use Rattle.src_model.specs.declared.program.Var.{Var as Declared}
use Rattle.src_model.specs.Written.{SrcNodeModel, num, plain, element, un as un_of, bin as bin_of, zext as zext_of, sext as sext_of, low}
use Rattle.src_model.specs.Names.{declared}
use Rattle.rec_bits.specs.Faults.{same_name}
use Rattle.rec_bits.proofs.Lists.{append_none}
use Rattle.src_model.specs.Loops.{Round}
use Rattle.src_model.specs.Indexes.{number_of, between, counted_range, of_both, times, product_range, masked_range, range_by, index_range, length_of, is_within, loose}
use Rattle.src_model.specs.Meaning.{shape_width, operand_width, shape_value}
use Rattle.src_model.specs.Trace.{counter_value}
use Rattle.src_model.specs.Fitting.{Fitting}
use Rattle.src_model.specs.Inside.{Known, is_inside}
use Rattle.src_model.specs.Inner.Sound.{Counts}
use Rattle.src_model.proofs.ValueLemmas.{value_fits, number_value}
use Rattle.std.proofs.lemmas.Slice.Eq.{bytes_eq-Decides}

-- ---- whole numbers and values that differ by a multiple of a power

mul_low : (a b : ℤ) (n : ℕ) → a ≤ℤ b → (a *ℤ pos n) ≤ℤ (b *ℤ pos n)
mul_low a b n h =
    let k : up a + down b ≤ up b + down a = omega (arith, ints) in
    let l = mul-le-mul_right n k in
    omega (arith, ints, l)

sum_is : (z w : ℤ) (v1 u1 d1 v2 u2 d2 P q v : ℕ) → z +ℤ pos (d1 * P) ≡ pos (v1 + u1 * P) → w +ℤ pos (d2 * P) ≡ pos (v2 + u2 * P) → P * q + v ≡ v1 + v2
    → (z +ℤ w) +ℤ pos ((d1 + d2) * P) ≡ pos (v + (u1 + u2 + q) * P)
sum_is z w v1 u1 d1 v2 u2 d2 P q v e f g = omega (arith, ints)

difference_is : (z w : ℤ) (v1 u1 d1 v2 u2 d2 P q v : ℕ) → z +ℤ pos (d1 * P) ≡ pos (v1 + u1 * P) → w +ℤ pos (d2 * P) ≡ pos (v2 + u2 * P) → v2 ≤ P → P * q + v ≡ v1 + P - v2
    → (z -ℤ w) +ℤ pos ((d1 + u2 + 1) * P) ≡ pos (v + (u1 + d2 + q) * P)
difference_is z w v1 u1 d1 v2 u2 d2 P q v e f le g = omega (arith, ints)

product_is : (z : ℤ) (v1 u1 d1 n P q v : ℕ) → z +ℤ pos (d1 * P) ≡ pos (v1 + u1 * P) → P * q + v ≡ v1 * n
    → (z *ℤ pos n) +ℤ pos ((d1 * n) * P) ≡ pos (v + (u1 * n + q) * P)
product_is z v1 u1 d1 n P q v e g =
    let k : up z + d1 * P ≡ v1 + u1 * P + down z = omega (arith, ints) in
    let l = ap (λ x. x * n) k in
    omega (arith, ints, l)

-- a value is a whole number within a range, up to a multiple of P
record Ranged (range : Range) (P v : ℕ) : Type 0 where
  number : ℤ
  more : ℕ
  less : ℕ
  is : number +ℤ pos (less * P) ≡ pos (v + more * P)
  low : range.lo ≤ℤ number
  high : number ≤ℤ range.hi

-- of whole numbers that aren't negative a value below P that differs by multiples of it is at most
-- as great
least_is : (n v less more P : ℕ) → v < P → n + less * P ≡ v + more * P → v ≤ n
least_is n v less more P lv e = by (nat_lt more less) refl
  where
    by : (b : Bool) → nat_lt more less ≡ b → v ≤ n
    by true q =
        let lt : more < less = ltb-true more less q in
        let k : more + 1 ≤ less = omega (arith, lt) in
        let l = mul-le-mul_right P k in
        absurd (omega (arith, l))
    by false q =
        let k : less ≤ more = ltb-false more less q in
        let l = mul-le-mul_right P k in
        omega (arith, l)

-- one within an array is one of its indexes
ranged_below : (range : Range) (P v len : ℕ) → v < P → Ranged range P v → is_within len (Some range) ≡ true → v < len
ranged_below range P v len lt r e =
    let k = both (int_le (pos 0) range.lo) (int_lt range.hi (pos len)) e in
    let a = r.low in
    let b = r.high in
    let c = r.is in
    let m : down r.number ≤ up r.number = omega (arith, ints, k, a) in
    let h : up r.number - down r.number < len = omega (arith, ints, k, b, m) in
    let g : up r.number - down r.number + r.less * P ≡ v + r.more * P = omega (arith, ints, c, m) in
    let s = least_is (up r.number - down r.number) v r.less r.more P lt g in
    omega arith

-- a number as it stands
exactly : (lo hi P v : ℕ) → lo ≤ v → v ≤ hi → Ranged (between lo hi) P v
exactly lo hi P v l h = record { number = pos v; more = 0; less = 0; is = ap pos (omega arith); low = omega (arith, ints); high = omega (arith, ints) }

at_range : (a range : Range) (P v : ℕ) → (let o : Option Range = Some a in o) ≡ Some range → Ranged a P v → Ranged range P v
at_range a range P v e r = subst (λ x. Ranged x P v) (by e) r
  where
    by : (let o : Option Range = Some a in o) ≡ Some range → a ≡ range
    by e = cc

split : (x P : ℕ) → 0 < P → P * (x / P) + x % P ≡ x
split x P lt = omega arith

-- ---- operators

ends_of : (lo hi : ℤ) (range : Range) → range_of lo hi ≡ Some range → (let a : Range = record { lo = lo; hi = hi } in a) ≡ range
ends_of lo hi range e = by (is_range_end lo && is_range_end hi) e
  where
    by : (b : Bool) → (if b then Some (record { lo = lo; hi = hi }) else None) ≡ Some range → (let a : Range = record { lo = lo; hi = hi } in a) ≡ range
    by true e = cc
    by false e = absurd (cc)

sums : (a b range : Range) (P v w : ℕ) → 0 < P → Ranged a P v → Ranged b P w → range_of (a.lo +ℤ b.lo) (a.hi +ℤ b.hi) ≡ Some range → Ranged range P ((v + w) % P)
sums a b range P v w lt r q e = subst (λ x. Ranged x P ((v + w) % P)) (ends_of (a.lo +ℤ b.lo) (a.hi +ℤ b.hi) range e) (record {
  number = r.number +ℤ q.number;
  more = r.more + q.more + (v + w) / P;
  less = r.less + q.less;
  is = sum_is r.number q.number v r.more r.less w q.more q.less P ((v + w) / P) ((v + w) % P) r.is q.is (split (v + w) P lt);
  low = let x = r.low in let y = q.low in omega (arith, ints, x, y);
  high = let x = r.high in let y = q.high in omega (arith, ints, x, y);
})

differences : (a b range : Range) (P v w : ℕ) → 0 < P → w ≤ P → Ranged a P v → Ranged b P w → range_of (a.lo -ℤ b.hi) (a.hi -ℤ b.lo) ≡ Some range → Ranged range P ((v + P - w) % P)
differences a b range P v w lt le r q e = subst (λ x. Ranged x P ((v + P - w) % P)) (ends_of (a.lo -ℤ b.hi) (a.hi -ℤ b.lo) range e) (record {
  number = r.number -ℤ q.number;
  more = r.more + q.less + (v + P - w) / P;
  less = r.less + q.more + 1;
  is = difference_is r.number q.number v r.more r.less w q.more q.less P ((v + P - w) / P) ((v + P - w) % P) r.is q.is le (split (v + P - w) P lt);
  low = let x = r.low in let y = q.high in omega (arith, ints, x, y);
  high = let x = r.high in let y = q.low in omega (arith, ints, x, y);
})

products : (a range : Range) (P v n : ℕ) → 0 < P → Ranged a P v → range_of (a.lo *ℤ pos n) (a.hi *ℤ pos n) ≡ Some range → Ranged range P ((v * n) % P)
products a range P v n lt r e = subst (λ x. Ranged x P ((v * n) % P)) (ends_of (a.lo *ℤ pos n) (a.hi *ℤ pos n) range e) (record {
  number = r.number *ℤ pos n;
  more = r.more * n + (v * n) / P;
  less = r.less * n;
  is = product_is r.number v r.more r.less n P ((v * n) / P) ((v * n) % P) r.is (split (v * n) P lt);
  low = mul_low a.lo r.number n r.low;
  high = mul_low r.number a.hi n r.high;
})

-- what is known of an operand: the number that it is, if it is one, and its range, if it has one
record Operand (P v : ℕ) (n : Option ℕ) (r : Option Range) : Type 0 where
  number : (k : ℕ) → n ≡ Some k → v ≡ k
  ranged : (a : Range) → r ≡ Some a → Ranged a P v

sums_by : (bits v w : ℕ) (n m : Option ℕ) (r q : Option Range) (range : Range) → Operand (2 ^ bits) v n r → Operand (2 ^ bits) w m q → of_both (λ a b. range_of (a.lo +ℤ b.lo) (a.hi +ℤ b.hi)) r q ≡ Some range → Ranged range (2 ^ bits) ((v + w) % 2 ^ bits)
sums_by bits v w n m (Some a) (Some b) range f g e = sums a b range (2 ^ bits) v w (pow_pos bits) (f.ranged a refl) (g.ranged b refl) e
sums_by bits v w n m (Some a) None range f g e = absurd (cc)
sums_by bits v w n m None q range f g e = absurd (cc)

differences_by : (bits v w : ℕ) (n m : Option ℕ) (r q : Option Range) (range : Range) → w < 2 ^ bits → Operand (2 ^ bits) v n r → Operand (2 ^ bits) w m q → of_both (λ a b. range_of (a.lo -ℤ b.hi) (a.hi -ℤ b.lo)) r q ≡ Some range → Ranged range (2 ^ bits) ((v + 2 ^ bits - w) % 2 ^ bits)
differences_by bits v w n m (Some a) (Some b) range lt f g e = differences a b range (2 ^ bits) v w (pow_pos bits) (omega arith) (f.ranged a refl) (g.ranged b refl) e
differences_by bits v w n m (Some a) None range lt f g e = absurd (cc)
differences_by bits v w n m None q range lt f g e = absurd (cc)

times_by : (bits v k : ℕ) (r : Option Range) (range : Range) → ((a : Range) → r ≡ Some a → Ranged a (2 ^ bits) v) → times r k ≡ Some range → Ranged range (2 ^ bits) ((v * k) % 2 ^ bits)
times_by bits v k (Some a) range f e = products a range (2 ^ bits) v k (pow_pos bits) (f a refl) e
times_by bits v k None range f e = absurd (cc)

products_by : (bits v w : ℕ) (n m : Option ℕ) (r q : Option Range) (range : Range) → Operand (2 ^ bits) v n r → Operand (2 ^ bits) w m q → product_range n m r q ≡ Some range → Ranged range (2 ^ bits) ((v * w) % 2 ^ bits)
products_by bits v w (Some k) m r q range f g e =
    let s : w * k ≡ v * w = (let h = ap (λ x. w * x) (f.number k refl) in omega (arith, h)) in
    subst (λ x. Ranged range (2 ^ bits) (x % 2 ^ bits)) s (times_by bits w k q range g.ranged e)
products_by bits v w None (Some k) r q range f g e =
    subst (λ x. Ranged range (2 ^ bits) ((v * x) % 2 ^ bits)) (sym (g.number k refl)) (times_by bits v k r range f.ranged e)
products_by bits v w None None r q range f g e = absurd (cc)

masked_by : (P v w : ℕ) (n m : Option ℕ) (r q : Option Range) (range : Range) → Operand P v n r → Operand P w m q → masked_range n m ≡ Some range → Ranged range P (bit_and v w)
masked_by P v w (Some k) (Some l) r q range f g e =
    let a = f.number k refl in
    let b = g.number l refl in
    at_range (between 0 (min k l)) range P (bit_and v w) e (exactly 0 (min k l) P (bit_and v w) (omega arith) (omega (arith, and_le_l v w, and_le_r v w, a, b)))
masked_by P v w (Some k) None r q range f g e =
    let a = f.number k refl in
    at_range (between 0 k) range P (bit_and v w) e (exactly 0 k P (bit_and v w) (omega arith) (omega (arith, and_le_l v w, a)))
masked_by P v w None (Some l) r q range f g e =
    let b = g.number l refl in
    at_range (between 0 l) range P (bit_and v w) e (exactly 0 l P (bit_and v w) (omega arith) (omega (arith, and_le_r v w, b)))
masked_by P v w None None r q range f g e = absurd (cc)

operated : (op : Op2) (bits v w : ℕ) (n m : Option ℕ) (r q : Option Range) (range : Range) → w < 2 ^ bits → Operand (2 ^ bits) v n r → Operand (2 ^ bits) w m q → range_by op n m r q ≡ Some range
    → Ranged range (2 ^ bits) (apply2_of op bits v w)
operated Add bits v w n m r q range lt f g e = sums_by bits v w n m r q range f g e
operated Sub bits v w n m r q range lt f g e = differences_by bits v w n m r q range lt f g e
operated Mul bits v w n m r q range lt f g e = products_by bits v w n m r q range f g e
operated And bits v w n m r q range lt f g e = masked_by (2 ^ bits) v w n m r q range f g e
operated Or bits v w n m r q range lt f g e = absurd (cc)
operated Xor bits v w n m r q range lt f g e = absurd (cc)
operated Shl bits v w n m r q range lt f g e = absurd (cc)
operated Shr bits v w n m r q range lt f g e = absurd (cc)
operated Sar bits v w n m r q range lt f g e = absurd (cc)
operated Eq bits v w n m r q range lt f g e = absurd (cc)
operated Ltu bits v w n m r q range lt f g e = absurd (cc)
operated Lts bits v w n m r q range lt f g e = absurd (cc)

-- an operator of an index has operands of its width
index_width : (op : Op2) (w bits : ℕ) (n m : Option ℕ) (r q : Option Range) (range : Range) → range_by op n m r q ≡ Some range → result_width op w ≡ bits → w ≡ bits
index_width Add w bits n m r q range e h = h
index_width Sub w bits n m r q range e h = h
index_width Mul w bits n m r q range e h = h
index_width And w bits n m r q range e h = h
index_width Or w bits n m r q range e h = h
index_width Xor w bits n m r q range e h = h
index_width Shl w bits n m r q range e h = h
index_width Shr w bits n m r q range e h = h
index_width Sar w bits n m r q range e h = h
index_width Eq w bits n m r q range e h = absurd (cc)
index_width Ltu w bits n m r q range e h = absurd (cc)
index_width Lts w bits n m r q range e h = absurd (cc)

-- ---- indexes

pub kept : (b : Bool) (at : ℕ) → offsets_if (not b) at ≡ [] → b ≡ true
kept true at h = refl
kept false at h = absurd (cc h)

module _ (bits : ℕ) (vars : List Declared) (cells : List ℕ) (words : (cell : ℕ) → slice_index cells cell < 2 ^ bits) (rounds : List Round) (counts : Counts vars cells rounds) where
  counted : (P : ℕ) (outer : List Round) → Counts vars cells outer → (name : List ℕ) (range : Range) → counted_range outer name ≡ Some range → Ranged range P (counter_value vars name cells)
  counted P [] c name range e = absurd (cc e)
  counted P (round ∷ outer) c name range e = by (counted P outer c.1 name range) (same_name name round.counter) refl e
    where
      by : (counted_range outer name ≡ Some range → Ranged range P (counter_value vars name cells)) → (b : Bool) → same_name name round.counter ≡ b
          → (if b then Some (between round.from (max round.from round.to)) else counted_range outer name) ≡ Some range → Ranged range P (counter_value vars name cells)
      by more true is e =
          let s : round.counter ≡ name = sym ((bytes_eq-Decides name round.counter).0 is) in
          at_range (between round.from (max round.from round.to)) range P (counter_value vars name cells) e
          (subst (λ x. Ranged (between round.from (max round.from round.to)) P (counter_value vars x cells)) s (exactly round.from (max round.from round.to) P (counter_value vars round.counter cells) c.0.least (let l = c.0.most in omega (arith, l))))
      by more false is e = more e

  ranged : (x : SrcNodeModel) (range : Range) → Fitting bits bits x → shape_width bits bits x ≡ bits → index_range rounds x ≡ Some range → Ranged range (2 ^ bits) (shape_value bits vars cells bits x)
  ranged (num n) range f w e = at_range (between n n) range (2 ^ bits) n e (exactly n n (2 ^ bits) n (omega arith) (omega arith))
  ranged (plain name at) range f w e = counted (2 ^ bits) rounds counts name range e
  ranged (bin_of op at x to y) range f w e =
      let o : operand_width bits x y ≡ bits = index_width op (operand_width bits x y) bits _ _ _ _ range e w in
      let fx : Fitting bits bits x = subst (λ n. Fitting bits n x) o f.0 in
      let fy : Fitting bits bits y = subst (λ n. Fitting bits n y) o f.1 in
      let wx : shape_width bits bits x ≡ bits = subst (λ n. shape_width bits n x ≡ n) o f.2 in
      let wy : shape_width bits bits y ≡ bits = subst (λ n. shape_width bits n y ≡ n) o f.3 in
      let lt : shape_value bits vars cells bits y < 2 ^ bits = subst (λ n. shape_value bits vars cells bits y < 2 ^ n) wy (value_fits bits vars cells words bits y fy) in
      subst (λ n. Ranged range (2 ^ bits) (apply2_of op n (shape_value bits vars cells n x) (shape_value bits vars cells n y))) (sym o)
      (operated op bits (shape_value bits vars cells bits x) (shape_value bits vars cells bits y) (number_of x) (number_of y) (index_range rounds x) (index_range rounds y) range lt
      (record { number = λ k h. number_value bits vars cells x k h; ranged = λ a h. ranged x a fx wx h })
      (record { number = λ k h. number_value bits vars cells y k h; ranged = λ a h. ranged y a fy wy h }) e)
  ranged (element name at to x) range f w e = absurd (cc e)
  ranged (un_of op at x) range f w e = absurd (cc e)
  ranged (zext_of at x width) range f w e = absurd (cc e)
  ranged (sext_of at x width) range f w e = absurd (cc e)
  ranged (low at x width) range f w e = absurd (cc e)

  -- the indexes of an expression that keeps the rule lie in their arrays, where the loops' counters
  -- lie in their ranges
  pub inside : (asked : ℕ) (e : SrcNodeModel) → Fitting bits asked e → Known vars e → loose vars rounds e ≡ [] → is_inside bits vars cells e ≡ true
  inside asked (num n) f k h = refl
  inside asked (plain name at) f k h = refl
  inside asked (element name at to x) f k h =
      let p = append_none _ _ h in
      both_true (inside bits x f.0 k.1 p.1) (lt-ltb _ _ (by (index_range rounds x) refl (kept _ to p.0)))
    where
      by : (o : Option Range) → index_range rounds x ≡ o → is_within (length_of (declared vars name)) o ≡ true → shape_value bits vars cells bits x < length_of (declared vars name)
      by None is e = absurd (cc e)
      by (Some range) is e =
          ranged_below range (2 ^ bits) _ _ (subst (λ n. shape_value bits vars cells bits x < 2 ^ n) f.1 (value_fits bits vars cells words bits x f.0)) (ranged x range f.0 f.1 is) e
  inside asked (un_of op at x) f k h = inside asked x f k h
  inside asked (bin_of op at x to y) f k h = let p = append_none _ _ h in both_true (inside (operand_width bits x y) x f.0 k.0 p.0) (inside (operand_width bits x y) y f.1 k.1 p.1)
  inside asked (zext_of at x width) f k h = inside bits x f.0 k h
  inside asked (sext_of at x width) f k h = inside bits x f.0 k h
  inside asked (low at x width) f k h = inside bits x f.0 k h
