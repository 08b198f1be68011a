-- Marks, indices and what nets reach.
use Rattle.std.proofs.Common.{slice_set, slice_index, inl, inr, ◌≡◌, ◌≢◌, ◌⊎◌, ℕ, ◌<◌, ◌≤◌, List, [], ◌∷◌, ◌++◌, length, take, sym, arith, subst, refl, zero, suc, Bool}
use Rattle.std.specs.List.{AllByRecursion}
use Rattle.std.proofs.lemmas.Bool.{cases_eq, cases_lt}
use Rattle.std.proofs.lemmas.List.{get_or-set_same, get_or-set_other}
use Rattle.rec_bits.proofs.Faults.{among_front, among_last}
use Rattle.net_model.specs.Depends.{Among, Depends, direct, via}
use Rattle.net_model.proofs.Acyclic.{all_among}
use Rattle.net_check.specs.Inner.Graphs.{named_in}
use Rattle.net_check.specs.Inner.Components.{mark_at, MetAt, IsDone, IsPathTo, Uncut, Rising, Climbs, left, work}
use Rattle.net_check.specs.declared.cycle.Mark.{Mark}
use Rattle.net_check.specs.declared.cycle.Mark.TheVariants.{New, Done}

-- ---- marks

pub set_mark : (marks : List Mark) (n m : ℕ) (s : Mark) → n < length marks → ((m ≡ n) × (mark_at (slice_set marks n s) m ≡ s)) ⊎ ((m ≢ n) × (mark_at (slice_set marks n s) m ≡ mark_at marks m))
set_mark marks n m s h = elim (cases_eq m n) [
  | inl e ↦ inl (e, subst (λ (k : ℕ). mark_at (slice_set marks n s) k ≡ s) (sym e) (get_or-set_same marks n s New h))
  | inr ne ↦ inr (ne, get_or-set_other marks n m s New ne)
]

-- a net with a mark of its own is one of the list
pub marked_inside : (marks : List Mark) (m : ℕ) → mark_at marks m ≢ New → m < length marks
marked_inside [] m h = absurd (h refl)
marked_inside (x ∷ xs) zero h = omega arith
marked_inside (x ∷ xs) (suc m) h = let k : m < length xs = marked_inside xs m h in omega arith

pub one_index : (marks : List Mark) (m i j : ℕ) → MetAt marks m i → MetAt marks m j → i ≡ j
one_index marks m i j a b = let p = a.is in let q = b.is in cc

pub lowered : (graph : List (List ℕ)) (marks : List Mark) (n : ℕ) (s : Mark) → n < length graph → length marks ≡ length graph → left s (length (named_in graph n)) < left (mark_at marks n) (length (named_in graph n)) → work graph (slice_set marks n s) < work graph marks
lowered [] marks n s h l e = absurd (omega arith)
lowered (named ∷ graph) [] n s h l e = absurd (omega arith)
lowered (named ∷ graph) (x ∷ xs) zero s h l e = omega arith
lowered (named ∷ graph) (x ∷ xs) (suc n) s h l e = let k : work graph (slice_set xs n s) < work graph xs = lowered graph xs n s (omega arith) (omega arith) e in omega arith

pub eased : (graph : List (List ℕ)) (marks : List Mark) (n : ℕ) (told : Bool) → work graph (slice_set marks n (Done told)) ≤ work graph marks
eased [] marks n told = omega arith
eased (named ∷ graph) [] n told = omega arith
eased (named ∷ graph) (x ∷ xs) zero told = omega arith
eased (named ∷ graph) (x ∷ xs) (suc n) told = let k : work graph (slice_set xs n (Done told)) ≤ work graph xs = eased graph xs n told in omega arith

-- ---- reaching

pub depends_on : (graph : List (List ℕ)) (a b c : ℕ) → Depends (named_in graph) a b → Depends (named_in graph) b c → Depends (named_in graph) a c
depends_on graph a b c (direct h) d = via h d
depends_on graph a b c (via {b = x} h e) d = via h (depends_on graph x b c e d)

pub reach_depends : (graph : List (List ℕ)) (a b c : ℕ) → IsPathTo graph a b → Depends (named_in graph) b c → Depends (named_in graph) a c
reach_depends graph a b c (inl e) d = subst (λ (x : ℕ). Depends (named_in graph) x c) (sym e) d
reach_depends graph a b c (inr h) d = depends_on graph a b c h d

pub depends_reach : (graph : List (List ℕ)) (a b c : ℕ) → Depends (named_in graph) a b → IsPathTo graph b c → Depends (named_in graph) a c
depends_reach graph a b c d (inl e) = subst (Depends (named_in graph) a) e d
depends_reach graph a b c d (inr h) = depends_on graph a b c d h

-- from complete components only complete components are reached
pub done_closed : (graph : List (List ℕ)) (marks : List Mark) → ((m : ℕ) → IsDone marks m → AllByRecursion (IsDone marks) (named_in graph m)) → (a b : ℕ) → IsDone marks a → Depends (named_in graph) a b → IsDone marks b
done_closed graph marks c a b d (direct h) = all_among (IsDone marks) b _ (c a d) h
done_closed graph marks c a e d (via {b = b} h k) = done_closed graph marks c b e (all_among (IsDone marks) b _ (c a d) h) k

-- ---- starts

-- a start stands between, or none does
pub cut_cases : (starts : List ℕ) (p q : ℕ) → Uncut starts p q ⊎ ((s : ℕ) × Among s starts × (q < s) × (s ≤ p))
cut_cases [] p q = inl (λ s h. absurd h)
cut_cases (x ∷ xs) p q = elim (cut_cases xs p q) [
  | inr c ↦ inr (c.0, inr c.1, c.2, c.3)
  | inl u ↦ elim (cases_lt q x) [
    | inr l ↦ inl (λ s h. elim h [ inl e ↦ inl (omega (arith, e, l)) | inr k ↦ u s k ])
    | inl l ↦ elim (cases_lt p x) [
      | inl g ↦ inl (λ s h. elim h [ inl e ↦ inr (omega (arith, e, g)) | inr k ↦ u s k ])
      | inr g ↦ inr (x, inl refl, l, g)
    ]
  ]
]

pub rising_parts : (xs : List ℕ) (x : ℕ) → Rising (xs ++ x ∷ []) → Rising xs × ((y : ℕ) → Among y xs → y < x)
rising_parts [] x r = (tt, λ y h. absurd h)
rising_parts (z ∷ zs) x r =
    let k : Rising zs × ((y : ℕ) → Among y zs → y < x) = rising_parts zs x r.1 in
    ((λ y h. r.0 y (among_front y x zs h), k.0), λ y h. elim h [ inl e ↦ rw e (r.0 x (among_last x zs)) | inr a ↦ k.1 y a ])

pub rising_more : (xs : List ℕ) (x : ℕ) → Rising xs → ((y : ℕ) → Among y xs → y < x) → Rising (xs ++ x ∷ [])
rising_more [] x r h = (λ y a. absurd a, tt)
rising_more (z ∷ zs) x r h = (above zs r.0, rising_more zs x r.1 (λ y a. h y (inr a)))
  where
    above : (ws : List ℕ) → ((y : ℕ) → Among y ws → z < y) → (y : ℕ) → Among y (ws ++ x ∷ []) → z < y
    above [] k y (inl e) = rw e (h z (inl refl))
    above [] k y (inr a) = absurd a
    above (w ∷ ws) k y (inl e) = k y (inl e)
    above (w ∷ ws) k y (inr a) = above ws (λ v b. k v (inr b)) y a

-- ---- paths

pub climbs_parts : (marks : List Mark) (xs : List ℕ) (x : ℕ) → Climbs marks (xs ++ x ∷ []) → Climbs marks xs × ((y : ℕ) → Among y xs → (i j : ℕ) → MetAt marks y i → MetAt marks x j → i < j)
climbs_parts marks [] x c = (tt, λ y h. absurd h)
climbs_parts marks (z ∷ zs) x c =
    let k : Climbs marks zs × ((y : ℕ) → Among y zs → (i j : ℕ) → MetAt marks y i → MetAt marks x j → i < j) = climbs_parts marks zs x c.1 in (
      (λ y h. c.0 y (front y zs h), k.0),
      λ y h i j a b. elim h [ inl e ↦ c.0 x (last zs) i j (subst (λ (n : ℕ). MetAt marks n i) e a) b | inr d ↦ k.1 y d i j a b ],
    )
  where
    front : (y : ℕ) (ws : List ℕ) → Among y ws → Among y (ws ++ x ∷ [])
    front y [] h = absurd h
    front y (w ∷ ws) (inl e) = inl e
    front y (w ∷ ws) (inr h) = inr (front y ws h)

    last : (ws : List ℕ) → Among x (ws ++ x ∷ [])
    last [] = inl refl
    last (w ∷ ws) = inr (last ws)

pub climbs_as : (old new : List Mark) (xs : List ℕ) → ((y i : ℕ) → Among y xs → MetAt new y i → MetAt old y i) → Climbs old xs → Climbs new xs
climbs_as old new [] f c = tt
climbs_as old new (x ∷ xs) f c =
    (λ y h i j a b. c.0 y h i j (f x i (inl refl) a) (f y j (inr h) b), climbs_as old new xs (λ y i h. f y i (inr h)) c.1)

pub climbs_more : (marks : List Mark) (xs : List ℕ) (x : ℕ) → Climbs marks xs → ((y : ℕ) → Among y xs → (i j : ℕ) → MetAt marks y i → MetAt marks x j → i < j) → Climbs marks (xs ++ x ∷ [])
climbs_more marks [] x c h = (λ y a. absurd a, tt)
climbs_more marks (z ∷ zs) x c h = (above zs c.0, climbs_more marks zs x c.1 (λ y a. h y (inr a)))
  where
    above : (ws : List ℕ) → ((y : ℕ) → Among y ws → (i j : ℕ) → MetAt marks z i → MetAt marks y j → i < j) → (y : ℕ) → Among y (ws ++ x ∷ []) → (i j : ℕ) → MetAt marks z i → MetAt marks y j → i < j
    above [] k y (inl e) i j a b = h z (inl refl) i j a (subst (λ (n : ℕ). MetAt marks n j) e b)
    above [] k y (inr d) i j a b = absurd d
    above (w ∷ ws) k y (inl e) i j a b = k y (inl e) i j a b
    above (w ∷ ws) k y (inr d) i j a b = above ws (λ v g. k v (inr g)) y d i j a b

-- ---- lists

pub take_front : (xs : List ℕ) (x : ℕ) (ys : List ℕ) → xs ++ x ∷ [] ≡ take (suc (length xs)) ys → (xs ≡ take (length xs) ys) × ((length xs < length ys) × (slice_index ys (length xs) ≡ x))
take_front [] x [] e = absurd (cc e)
take_front [] x (y ∷ ys) e = (refl, (omega arith, cc e))
take_front (z ∷ zs) x [] e = absurd (cc e)
take_front (z ∷ zs) x (y ∷ ys) e =
    let h : z ≡ y = cc e in
    let k : (zs ≡ take (length zs) ys) × ((length zs < length ys) × (slice_index ys (length zs) ≡ x)) = take_front zs x ys (cc e) in
    (rw (h, ← k.0) refl, (omega (arith, k.1.0), k.1.1))

pub take_index : (n : ℕ) (xs : List ℕ) (i : ℕ) → i < n → slice_index (take n xs) i ≡ slice_index xs i
take_index zero xs i h = absurd (omega arith)
take_index (suc n) [] i h = refl
take_index (suc n) (x ∷ xs) zero h = refl
take_index (suc n) (x ∷ xs) (suc i) h = take_index n xs i (omega arith)
