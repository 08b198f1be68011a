-- How far a loop over the classes has come that lets one class stand for those of another.
use Rattle.std.proofs.Common.{◌≡◌, ℕ, ◌+◌, ◌<◌, ◌≤◌, ◌==◌, List, length, true, false, cond, slice_get, refl, sym, ◌∙◌, ap, subst, arith, zero, suc, [], ◌∷◌, inl, inr, Some}
use Rattle.std.specs.Prelude.{slice_set}
use Rattle.std.proofs.lemmas.Bool.{cases_eq}
use Rattle.std.proofs.lemmas.Option.{slice_get_within}
use Rattle.tree_laws.specs.declared.classes.Class.{Class}
use Rattle.tree_laws.specs.Meanings.{class_width, class_head, width_at, head_of, Redirected}

pub record Progress (from to n : ℕ) (old new : List Class) : Type 0 where
  pub count : length new ≡ length old
  pub widths : (c : ℕ) → width_at new c ≡ width_at old c
  pub done : (c : ℕ) → c < n → c < length old → head_of new c ≡ cond (head_of old c == from) to (head_of old c)
  pub rest : (c : ℕ) → n ≤ c → slice_get new c ≡ slice_get old c

pub none_done : (from to : ℕ) (old : List Class) → Progress from to 0 old old
none_done from to old = record { count = refl; widths = λ c. refl; done = λ c h k. absurd (omega (arith, h)); rest = λ c h. refl }

pub all_done : (from to n : ℕ) (old new : List Class) → length old ≤ n → Progress from to n old new → Redirected from to old new
all_done from to n old new h p = record { count = p.count; widths = p.widths; heads = λ c k. p.done c (omega (arith, h, k)) k }

-- ---- one more class

get_set_same : (xs : List Class) (i : ℕ) (v : Class) → i < length xs → slice_get (slice_set xs i v) i ≡ Some v
get_set_same [] i v h = absurd (omega arith)
get_set_same (x ∷ xs) zero v h = refl
get_set_same (x ∷ xs) (suc i) v h = get_set_same xs i v (omega arith)

get_set_other : (xs : List Class) (i c : ℕ) (v : Class) → (c ≡ i → ⊥) → slice_get (slice_set xs i v) c ≡ slice_get xs c
get_set_other [] i c v h = refl
get_set_other (x ∷ xs) zero zero v h = absurd (h refl)
get_set_other (x ∷ xs) zero (suc c) v h = refl
get_set_other (x ∷ xs) (suc i) zero v h = refl
get_set_other (x ∷ xs) (suc i) (suc c) v h = get_set_other xs i c v (λ e. h (ap suc e))

set_count : (xs : List Class) (i : ℕ) (v : Class) → length (slice_set xs i v) ≡ length xs
set_count [] i v = refl
set_count (x ∷ xs) zero v = refl
set_count (x ∷ xs) (suc i) v = ap suc (set_count xs i v)

module _ (from to i : ℕ) (old xs : List Class) (p : Progress from to i old xs) (k : Class) (here : slice_get xs i ≡ Some k) where
  was : slice_get old i ≡ Some k
  was = sym (p.rest i (omega arith)) ∙ here

  old_head : head_of old i ≡ k.head
  old_head = ap (class_head i) was

  -- a class that keeps its head
  pub kept : (k.head == from) ≡ false → Progress from to (i + 1) old xs
  kept e = record {
    count = p.count;
    widths = p.widths;
    done = λ c h l. elim (cases_eq c i) as (λ _. head_of xs c ≡ cond (head_of old c == from) to (head_of old c)) [
      | inl is ↦ subst (λ d. head_of xs d ≡ cond (head_of old d == from) to (head_of old d)) (sym is)
          (ap (class_head i) here ∙ sym old_head ∙ sym (ap (λ b. cond b to (head_of old i)) (ap (λ n. n == from) old_head ∙ e)))
      | inr ne ↦ p.done c (omega (arith, h, ne)) l
    ];
    rest = λ c h. p.rest c (omega (arith, h));
  }

  -- and one that gets a new one
  pub moved : (k.head == from) ≡ true → Progress from to (i + 1) old (slice_set xs i (record { width = k.width; head = to }))
  moved e =
      let v : Class = record { width = k.width; head = to } in
      let within : i < length xs = slice_get_within xs i k here in
      record {
        count = set_count xs i v ∙ p.count;
        widths = λ c. elim (cases_eq c i) as (λ _. width_at (slice_set xs i v) c ≡ width_at old c) [
          | inl is ↦ subst (λ d. width_at (slice_set xs i v) d ≡ width_at old d) (sym is) (ap class_width (get_set_same xs i v within) ∙ sym (ap class_width was))
          | inr ne ↦ ap class_width (get_set_other xs i c v ne) ∙ p.widths c
        ];
        done = λ c h l. elim (cases_eq c i) as (λ _. head_of (slice_set xs i v) c ≡ cond (head_of old c == from) to (head_of old c)) [
          | inl is ↦ subst (λ d. head_of (slice_set xs i v) d ≡ cond (head_of old d == from) to (head_of old d)) (sym is)
              (ap (class_head i) (get_set_same xs i v within) ∙ sym (ap (λ b. cond b to (head_of old i)) (ap (λ n. n == from) old_head ∙ e)))
          | inr ne ↦ ap (class_head c) (get_set_other xs i c v ne) ∙ p.done c (omega (arith, h, ne)) l
        ];
        rest = λ c h. get_set_other xs i c v (λ is. omega (arith, is, h)) ∙ p.rest c (omega (arith, h));
      }
