-- Where a walk begins and where it ends.
use Rattle.std.proofs.Common.{◌≡◌, ◌≢◌, ℕ, ◌<◌, ◌⊎◌, inl, inr, List, [], ◌∷◌, ◌++◌, length, replicate, slice_set, refl, sym, ◌∙◌, arith, zero, suc}
use Rattle.std.specs.List.{AllByRecursion}
use Rattle.std.proofs.lemmas.List.{length-replicate, get_or_past}
use Rattle.std.proofs.lemmas.Bool.{cases_lt}
use Rattle.rec_bits.proofs.Faults.{among_front, among_last}
use Rattle.net_model.specs.Order.{position_of}
use Rattle.net_check.specs.Inner.Graphs.{named_in}
use Rattle.net_check.specs.Inner.Walk.{stage_at, unplaced, IsWalk, Later, IsOrdering}
use Rattle.net_check.specs.declared.walk.Stage.{Stage}
use Rattle.net_check.specs.declared.walk.Stage.TheVariants.{New, Open, Placed}
use Rattle.net_check.proofs.Walks.{opened, none_unplaced, set_cases}

new_at : (n m : ℕ) → stage_at (replicate n New) m ≡ New
new_at zero m = refl
new_at (suc n) zero = refl
new_at (suc n) (suc m) = new_at n m

all_unplaced : (n : ℕ) → unplaced (replicate n New) ≡ n
all_unplaced zero = refl
all_unplaced (suc n) = let k : unplaced (replicate n New) ≡ n = all_unplaced n in omega arith

-- nothing is placed and nothing is open
pub walk_start : (graph : List (List ℕ)) (stages : List Stage) (path order : List ℕ) → stages ≡ replicate (length graph) New → path ≡ [] → order ≡ [] → IsWalk graph stages path order
walk_start graph stages path order es ep eo = rw (es, ep, eo) (record {
  long = length-replicate (length graph) New;
  whole = omega (arith, all_unplaced (length graph), length-replicate (length graph) New);
  placed = λ m h. absurd (cc (new_at (length graph) m, h));
  first = λ m h. absurd (omega arith);
  falls = λ m h. absurd (cc (new_at (length graph) m, h));
  seen = λ m k h. absurd (cc (new_at (length graph) m, h));
  kept = λ m k h. absurd (cc (new_at (length graph) m, h));
  linked = tt;
  inside = λ m h. absurd h;
  range = λ i h. absurd (omega arith);
})

-- a net is opened as the first of a path
module _ (graph : List (List ℕ)) (stages : List Stage) (path order : List ℕ) (w : IsWalk graph stages path order) (none : path ≡ []) (root : ℕ) (inside : root < length graph) (fresh : stage_at stages root ≡ New) where
  there : root < length stages
  there = omega (arith, inside, w.long)

  pub root_walk : (later : List Stage) (on : List ℕ) → later ≡ slice_set stages root (Open 0) → on ≡ path ++ root ∷ [] → IsWalk graph later on order
  root_walk later on es ep = rw (es, ep) (opened graph stages path order w root inside 0 (path ++ root ∷ []) (λ h. cc (fresh, h)) tt (among_last root path) (λ m h. among_front m root path h) (rw none (tt, tt))
      (λ m h. by_root m (rw none at h)))
    where
      by_root : (m : ℕ) → (m ≡ root) ⊎ ⊥ → m < length graph
      by_root m (inl e) = omega (arith, e, inside)
      by_root m (inr h) = absurd h

  pub root_later : (later : List Stage) → later ≡ slice_set stages root (Open 0) → Later stages later
  root_later later es m h = elim (set_cases stages root m (Open 0) there) [
    | inl e ↦ absurd (cc (e.1, rw es at h))
    | inr e ↦ sym (e.1) ∙ (rw es at h)
  ]

  pub root_open : (later : List Stage) → later ≡ slice_set stages root (Open 0) → stage_at later root ≢ New
  root_open later es h = elim (set_cases stages root root (Open 0) there) [
    | inl e ↦ cc (e.1, rw es at h)
    | inr e ↦ e.0 refl
  ]

-- with nothing open and nothing new all is placed
module _ (graph : List (List ℕ)) (stages : List Stage) (path order : List ℕ) (w : IsWalk graph stages path order) (none : path ≡ []) (done : (m : ℕ) → m < length graph → stage_at stages m ≢ New) where
  is_placed : (m : ℕ) (s : Stage) → stage_at stages m ≡ s → m < length graph → stage_at stages m ≡ Placed
  is_placed m New e l = absurd (done m l e)
  is_placed m (Open k) e l = absurd (rw none at (w.kept m k e))
  is_placed m Placed e l = e

  all_placed : (m : ℕ) → m < length graph → stage_at stages m ≡ Placed
  all_placed m l = is_placed m (stage_at stages m) refl l

  falls_at : (m : ℕ) → AllByRecursion (λ d. position_of order d < position_of order m) (named_in graph m)
  falls_at m = elim (cases_lt m (length graph)) [
    | inl l ↦ w.falls m (all_placed m l)
    | inr g ↦ rw (get_or_past graph m [] g) tt
  ]

  pub ordering_of : IsOrdering graph order
  ordering_of = record {
    long = omega (arith, w.whole, w.long, none_unplaced stages (λ n l. all_placed n (omega (arith, l, w.long))));
    nets = w.range;
    places = λ n l. w.placed n (all_placed n l);
    falls = falls_at;
  }
