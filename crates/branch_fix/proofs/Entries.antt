-- The places that something enters, marked one after the other.
use Rattle.std.proofs.Common.{ℕ, zero, suc, ◌≡◌, ◌<◌, ◌==◌, Bool, true, false, ◌||◌, List, [], ◌∷◌, length, replicate, Some, refl, sym, ◌∙◌, ap, subst, arith, slice_get, slice_set, get_or, ◌≤◌, eqb-true, eq-eqb}
use Rattle.std.proofs.lemmas.List.{length-replicate}
use Rattle.std.proofs.Math.ListN.{length-set}
use Rattle.std.proofs.lemmas.List.FromFn.{fill_by_all, get_or-map-range_with_len, length-map-range_with_len}
use Rattle.std.proofs.lemmas.Option.{get_or_from_slice_get}
use Rattle.rec_bits.proofs.Booleans.{or-false}
use Rattle.form_model.specs.declared.flow.Flow.{Flow}
use Rattle.form_model.specs.declared.flow.Flow.TheVariants.{Assign, Test, Jump, End}
use Rattle.src_trees.specs.Blocks.{is_entered}
use Rattle.branch_fix.specs.Entered.{entered_places}

-- a table in which the places that the first of a flow's items enter are set, one after the other
abbrev pub marked : List Flow → List Bool → List Bool
marked [] entered = entered
marked (Assign tree ∷ rest) entered = marked rest entered
marked (Test tree when_one when_zero ∷ rest) entered =
    marked rest (slice_set (slice_set entered when_one true) when_zero true)
marked (Jump to ∷ rest) entered = marked rest (slice_set entered to true)
marked (End ∷ rest) entered = marked rest entered

set_here : (e : List Bool) (k : ℕ) (x : Bool) → slice_get e k ≡ Some x → slice_get (slice_set e k true) k ≡ Some true
set_here [] k x h = absurd (cc h)
set_here (y ∷ e) zero x h = refl
set_here (y ∷ e) (suc k) x h = set_here e k x h

set_there : (e : List Bool) (a k : ℕ) → (a ≡ k → ⊥) → slice_get (slice_set e a true) k ≡ slice_get e k
set_there [] a k ne = refl
set_there (y ∷ e) zero zero ne = absurd (ne refl)
set_there (y ∷ e) zero (suc k) ne = refl
set_there (y ∷ e) (suc a) zero ne = refl
set_there (y ∷ e) (suc a) (suc k) ne = set_there e a k (λ s. ne (omega arith))

set_get : (e : List Bool) (a k : ℕ) (x : Bool) → slice_get e k ≡ Some x → slice_get (slice_set e a true) k ≡ Some ((a == k) || x)
set_get e a k x h = by (a == k) refl
  where
    by : (b : Bool) → (a == k) ≡ b → slice_get (slice_set e a true) k ≡ Some (b || x)
    by true q = let s : a ≡ k = eqb-true a k q in subst (λ n. slice_get (slice_set e n true) k ≡ Some true) (sym s) (set_here e k x h)
    by false q = set_there e a k (λ s. let t : (a == k) ≡ true = eq-eqb a k s in absurd (cc)) ∙ h

shuffled : (r a b x : Bool) → (r || (b || (a || x))) ≡ (((a || b) || r) || x)
shuffled true true b x = refl
shuffled true false true x = refl
shuffled true false false x = refl
shuffled false true true x = refl
shuffled false true false x = refl
shuffled false false true x = refl
shuffled false false false x = refl

swapped : (r a x : Bool) → (r || (a || x)) ≡ ((a || r) || x)
swapped true true x = refl
swapped true false x = refl
swapped false true x = refl
swapped false false x = refl

marked_get : (flow : List Flow) (e : List Bool) (k : ℕ) (x : Bool) → slice_get e k ≡ Some x
    → slice_get (marked flow e) k ≡ Some (is_entered flow k || x)
marked_get [] e k x h = h
marked_get (Assign tree ∷ rest) e k x h = marked_get rest e k x h
marked_get (Test tree a b ∷ rest) e k x h =
    marked_get rest (slice_set (slice_set e a true) b true) k ((b == k) || ((a == k) || x)) (set_get (slice_set e a true) b k ((a == k) || x) (set_get e a k x h))
    ∙ ap (λ y. Some y) (shuffled (is_entered rest k) (a == k) (b == k) x)
marked_get (Jump to ∷ rest) e k x h = marked_get rest (slice_set e to true) k ((to == k) || x) (set_get e to k x h) ∙ ap (λ y. Some y) (swapped (is_entered rest k) (to == k) x)
marked_get (End ∷ rest) e k x h = marked_get rest e k x h

replicate_get : (n k : ℕ) → k < n → slice_get (replicate n false) k ≡ Some false
replicate_get zero k lt = absurd (omega arith)
replicate_get (suc n) zero lt = refl
replicate_get (suc n) (suc k) lt = replicate_get n k (omega arith)

marked_length : (flow : List Flow) (e : List Bool) → length (marked flow e) ≡ length e
marked_length [] e = refl
marked_length (Assign tree ∷ rest) e = marked_length rest e
marked_length (Test tree a b ∷ rest) e = marked_length rest (slice_set (slice_set e a true) b true) ∙ length-set (slice_set e a true) b true ∙ length-set e a true
marked_length (Jump to ∷ rest) e = marked_length rest (slice_set e to true) ∙ length-set e to true
marked_length (End ∷ rest) e = marked_length rest e

-- all of them are set in the end
pub marked_all : (flow : List Flow) → marked flow (replicate (length flow) false) ≡ entered_places flow
marked_all flow = fill_by_all (is_entered flow) (marked flow (replicate (length flow) false)) (length flow) false (marked_length flow (replicate (length flow) false) ∙ length-replicate (length flow) false)
    (λ k lt. get_or_from_slice_get (marked flow (replicate (length flow) false)) k (is_entered flow k) false
    (marked_get flow (replicate (length flow) false) k false (replicate_get (length flow) k lt) ∙ ap (λ y. Some y) (or-false (is_entered flow k))))

-- a place of the flow
pub was_some : (flow : List Flow) (entered : List Bool) (k : ℕ) (x : Bool) → k < length flow → entered ≡ entered_places flow
    → ((d : Bool) → x ≡ get_or entered k d) → x ≡ is_entered flow k
was_some flow entered k x lt e h = h false ∙ ap (λ xs. get_or xs k false) e ∙ get_or-map-range_with_len (is_entered flow) 0 (length flow) k k false lt (omega arith)

pub was_none : {A : Type 0} (flow : List Flow) (entered : List Bool) (k : ℕ) → k < length flow → entered ≡ entered_places flow
    → length entered ≤ k → A
was_none flow entered k lt e h = let l = ap length e ∙ length-map-range_with_len (is_entered flow) 0 (length flow) in absurd (omega (arith, l))
