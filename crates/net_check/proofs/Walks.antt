-- Each step of a walk keeps what a walk keeps.
use Rattle.std.proofs.Common.{slice_set, slice_get, slice_index, add-one, inl, inr, ◌≡◌, ◌≢◌, ◌⊎◌, ℕ, ◌+◌, ◌<◌, ◌≤◌, List, [], ◌∷◌, ◌++◌, Some, None, length, take, sym, ◌∙◌, ap, arith, subst, refl, zero, suc}
use Rattle.std.specs.List.{AllByRecursion}
use Rattle.std.proofs.lemmas.Bool.{cases_eq}
use Rattle.std.proofs.lemmas.List.{get_or-set_same, get_or-set_other, length-set}
use Rattle.rec_bits.proofs.Lists.{all_weaker}
use Rattle.rec_bits.proofs.Options.{same_Some}
use Rattle.net_model.specs.Depends.{Among, Depends, direct, via}
use Rattle.net_check.specs.Inner.Graphs.{named_in}
use Rattle.net_check.specs.Inner.Walk.{stage_at, Linked, unplaced, IsWalk, left, work}
use Rattle.net_check.specs.declared.walk.Stage.{Stage}
use Rattle.net_check.specs.declared.walk.Stage.TheVariants.{New, Open, Placed}

pub among_at : (ms : List ℕ) (k m : ℕ) → slice_get ms k ≡ Some m → Among m ms
among_at [] k m e = absurd (cc e)
among_at (x ∷ xs) zero m e = inl (sym (same_Some x m e))
among_at (x ∷ xs) (suc k) m e = inr (among_at xs k m e)

pub take_more : (P : ℕ → Type 0) (ms : List ℕ) (k m : ℕ) → slice_get ms k ≡ Some m → AllByRecursion P (take k ms) → P m → AllByRecursion P (take (k + 1) ms)
take_more P ms k m e h p = rw add-one (go ms k e h)
  where
    go : (ms : List ℕ) (k : ℕ) → slice_get ms k ≡ Some m → AllByRecursion P (take k ms) → AllByRecursion P (take (suc k) ms)
    go [] k e h = tt
    go (x ∷ xs) zero e h = (subst P (sym (same_Some x m e)) p, tt)
    go (x ∷ xs) (suc k) e h = (h.0, go xs k e h.1)

pub take_whole : (P : ℕ → Type 0) (ms : List ℕ) (k : ℕ) → slice_get ms k ≡ None → AllByRecursion P (take k ms) → AllByRecursion P ms
take_whole P [] k e h = tt
take_whole P (x ∷ xs) zero e h = absurd (cc e)
take_whole P (x ∷ xs) (suc k) e h = (h.0, take_whole P xs k e h.1)

pub among_parts : (m x : ℕ) (xs : List ℕ) → Among m (xs ++ x ∷ []) → (m ≡ x) ⊎ Among m xs
among_parts m x [] (inl e) = inl e
among_parts m x [] (inr h) = absurd h
among_parts m x (y ∷ ys) (inl e) = inr (inl e)
among_parts m x (y ∷ ys) (inr h) = elim (among_parts m x ys h) [ inl e ↦ inl e | inr k ↦ inr (inr k) ]

pub linked_front : (graph : List (List ℕ)) (x : ℕ) (xs : List ℕ) → Linked graph (xs ++ x ∷ []) → Linked graph xs
linked_front graph x [] h = tt
linked_front graph x (y ∷ []) h = (tt, tt)
linked_front graph x (y ∷ z ∷ zs) h = (h.0, linked_front graph x (z ∷ zs) h.1)

pub linked_push : (graph : List (List ℕ)) (x m : ℕ) (xs : List ℕ) → Linked graph (xs ++ x ∷ []) → Among m (named_in graph x) → Linked graph ((xs ++ x ∷ []) ++ m ∷ [])
linked_push graph x m [] h a = (a, (tt, tt))
linked_push graph x m (y ∷ []) h a = (h.0, (a, (tt, tt)))
linked_push graph x m (y ∷ z ∷ zs) h a = (h.0, linked_push graph x m (z ∷ zs) h.1 a)

pub closing : (graph : List (List ℕ)) {m x : ℕ} (n : ℕ) → Depends (named_in graph) m x → Among n (named_in graph x) → Depends (named_in graph) m n
closing graph n (direct a) b = via a (direct b)
closing graph n (via a d) b = via a (closing graph n d b)

pub reach : (graph : List (List ℕ)) (x m : ℕ) (xs : List ℕ) → Linked graph (xs ++ x ∷ []) → Among m (xs ++ x ∷ []) → (m ≡ x) ⊎ Depends (named_in graph) m x
reach graph x m [] h (inl e) = inl e
reach graph x m [] h (inr a) = absurd a
reach graph x m (y ∷ []) h (inl e) = inr (subst (λ (k : ℕ). Depends (named_in graph) k x) (sym e) (direct h.0))
reach graph x m (y ∷ []) h (inr a) = reach graph x m [] h.1 a
reach graph x m (y ∷ z ∷ zs) h (inl e) =
    inr (subst (λ (k : ℕ). Depends (named_in graph) k x) (sym e)
    (elim (reach graph x z (z ∷ zs) h.1 (inl refl)) [ inl i ↦ direct (subst (λ (k : ℕ). Among k (named_in graph y)) i h.0) | inr d ↦ via h.0 d ]))
reach graph x m (y ∷ z ∷ zs) h (inr a) = reach graph x m (z ∷ zs) h.1 a

pub cycle : (graph : List (List ℕ)) (x m : ℕ) (xs : List ℕ) → Linked graph (xs ++ x ∷ []) → Among m (xs ++ x ∷ []) → Among m (named_in graph x) → Depends (named_in graph) m m
cycle graph x m xs h p a =
    elim (reach graph x m xs h p) [ inl e ↦ direct (subst (λ (k : ℕ). Among m (named_in graph k)) (sym e) a) | inr d ↦ closing graph m d a ]

-- stages
pub set_cases : (stages : List Stage) (n m : ℕ) (s : Stage) → n < length stages → ((m ≡ n) × (stage_at (slice_set stages n s) m ≡ s)) ⊎ ((m ≢ n) × (stage_at (slice_set stages n s) m ≡ stage_at stages m))
set_cases stages n m s h =
    elim (cases_eq m n) [
      | inl e ↦ inl (e, subst (λ (k : ℕ). stage_at (slice_set stages n s) k ≡ s) (sym e) (get_or-set_same stages n s New h))
      | inr ne ↦ inr (ne, get_or-set_other stages n m s New ne)
    ]

abbrev pub place_in : Stage → ℕ
place_in New = 0
place_in (Open k) = k
place_in Placed = 0

pub lowered : (graph : List (List ℕ)) (stages : List Stage) (n : ℕ) (s : Stage) → n < length graph → length stages ≡ length graph
    → left s (length (named_in graph n)) < left (stage_at stages n) (length (named_in graph n)) → work graph (slice_set stages n s) < work graph stages
lowered [] stages n s h l e = absurd (omega arith)
lowered (named ∷ graph) [] n s h l e = absurd (omega arith)
lowered (named ∷ graph) (x ∷ xs) zero s h l e = omega arith
lowered (named ∷ graph) (x ∷ xs) (suc n) s h l e = let k : work graph (slice_set xs n s) < work graph xs = lowered graph xs n s (omega arith) (omega arith) e in omega arith

pub eased : (graph : List (List ℕ)) (stages : List Stage) (n : ℕ) → work graph (slice_set stages n Placed) ≤ work graph stages
eased [] stages n = omega arith
eased (named ∷ graph) [] n = omega arith
eased (named ∷ graph) (x ∷ xs) zero = omega arith
eased (named ∷ graph) (x ∷ xs) (suc n) = let k : work graph (slice_set xs n Placed) ≤ work graph xs = eased graph xs n in omega arith

-- how many aren't placed
pub same_unplaced : (stages : List Stage) (n j : ℕ) → n < length stages → stage_at stages n ≢ Placed → unplaced (slice_set stages n (Open j)) ≡ unplaced stages
same_unplaced [] n j h f = absurd (omega arith)
same_unplaced (New ∷ xs) zero j h f = refl
same_unplaced (Open k ∷ xs) zero j h f = refl
same_unplaced (Placed ∷ xs) zero j h f = absurd (f refl)
same_unplaced (New ∷ xs) (suc n) j h f = ap (λ (k : ℕ). k + 1) (same_unplaced xs n j (omega arith) f)
same_unplaced (Open k ∷ xs) (suc n) j h f = ap (λ (k : ℕ). k + 1) (same_unplaced xs n j (omega arith) f)
same_unplaced (Placed ∷ xs) (suc n) j h f = same_unplaced xs n j (omega arith) f

pub less_unplaced : (stages : List Stage) (n : ℕ) → n < length stages → stage_at stages n ≢ Placed → unplaced (slice_set stages n Placed) + 1 ≡ unplaced stages
less_unplaced [] n h f = absurd (omega arith)
less_unplaced (New ∷ xs) zero h f = refl
less_unplaced (Open k ∷ xs) zero h f = refl
less_unplaced (Placed ∷ xs) zero h f = absurd (f refl)
less_unplaced (New ∷ xs) (suc n) h f = ap (λ (k : ℕ). k + 1) (less_unplaced xs n (omega arith) f)
less_unplaced (Open k ∷ xs) (suc n) h f = ap (λ (k : ℕ). k + 1) (less_unplaced xs n (omega arith) f)
less_unplaced (Placed ∷ xs) (suc n) h f = less_unplaced xs n (omega arith) f

pub none_unplaced : (stages : List Stage) → ((n : ℕ) → n < length stages → stage_at stages n ≡ Placed) → unplaced stages ≡ 0
none_unplaced [] h = refl
none_unplaced (New ∷ xs) h = absurd (cc (h 0 (omega arith)))
none_unplaced (Open k ∷ xs) h = absurd (cc (h 0 (omega arith)))
none_unplaced (Placed ∷ xs) h = none_unplaced xs (λ n l. h (suc n) (omega arith))

-- a net that isn't placed becomes open at a place
module _ (graph : List (List ℕ)) (stages : List Stage) (path order : List ℕ) (w : IsWalk graph stages path order) (n : ℕ) (inside : n < length graph) where
  in_stages : n < length stages
  in_stages = omega (arith, w.long)

  pub opened : (j : ℕ) (after : List ℕ) → stage_at stages n ≢ Placed → AllByRecursion (λ d. stage_at stages d ≡ Placed) (take j (named_in graph n))
      → Among n after → ((m : ℕ) → Among m path → Among m after) → Linked graph after → ((m : ℕ) → Among m after → m < length graph)
      → IsWalk graph (slice_set stages n (Open j)) after order
  opened j after fresh seen here more linked within = record {
    long = length-set stages n (Open j) ∙ w.long;
    placed = λ m h. w.placed m (back m h);
    first = λ m h. forth m (w.first m h);
    falls = λ m h. w.falls m (back m h);
    seen = λ m k h. elim (set_cases stages n m (Open j) in_stages) [
      | inl e ↦ rw (e.0, ← (ap place_in (sym (e.1) ∙ h))) (all_weaker _ _ forth _ seen)
      | inr e ↦ all_weaker _ _ forth _ (w.seen m k (sym (e.1) ∙ h))
    ];
    kept = λ m k h. elim (set_cases stages n m (Open j) in_stages) [
      | inl e ↦ subst (λ (x : ℕ). Among x after) (sym (e.0)) here
      | inr e ↦ more m (w.kept m k (sym (e.1) ∙ h))
    ];
    linked = linked;
    inside = within;
    range = w.range;
    whole = omega (arith, w.whole, same_unplaced stages n j in_stages fresh, length-set stages n (Open j));
  }
    where
      back : (m : ℕ) → stage_at (slice_set stages n (Open j)) m ≡ Placed → stage_at stages m ≡ Placed
      back m h = elim (set_cases stages n m (Open j) in_stages) [ inl e ↦ absurd (cc (e.1, h)) | inr e ↦ sym (e.1) ∙ h ]

      forth : (m : ℕ) → stage_at stages m ≡ Placed → stage_at (slice_set stages n (Open j)) m ≡ Placed
      forth m h = elim (set_cases stages n m (Open j) in_stages) [ inl e ↦ absurd (fresh (ap (stage_at stages) (sym (e.0)) ∙ h)) | inr e ↦ e.1 ∙ h ]

-- what stands at a place of a list
pub read_at : (ms : List ℕ) (k : ℕ) → k < length ms → slice_get ms k ≡ Some (slice_index ms k)
read_at [] k h = absurd (omega arith)
read_at (x ∷ xs) zero h = refl
read_at (x ∷ xs) (suc k) h = read_at xs k (omega arith)
