-- What is known of flags while the subtrees are visited.
use Rattle.std.proofs.Common.{◌≡◌, ℕ, zero, suc, ◌+◌, ◌<◌, ◌≤◌, List, [], ◌∷◌, length, replicate, refl, sym, ap, ◌∙◌, subst, Some, Bool, true, false, true≢false, arith, inl, inr, ◌⊎◌, get_or, get_or-set_same, get_or-set_other}
use Rattle.std.specs.Prelude.{◌==◌, slice_get, slice_index_or, slice_set}
use Rattle.std.proofs.lemmas.Bool.{cases_eq, cases_lt}
use Rattle.std.proofs.lemmas.Bool.Decides.{nat_tests}
use Rattle.std.proofs.lemmas.List.{length-replicate, length-set}
use Rattle.std.proofs.lemmas.Option.{get_or_from_slice_get, slice_get_within, slice_get_read, slice_get-get_or}
use Rattle.net_model.specs.Exprs.{ExprModel}
use Rattle.form_model.specs.Forms.{DestinationModel}
use Rattle.form_model.specs.Covers.{StockModel}
use Rattle.tree_sharing.specs.Sharing.{job_nodes}
use Rattle.least_costs.specs.Made.{IsMade}
use Rattle.cover_lacks.specs.Lacks.{RootAsks, PartAsks, RootHasAll, PartHasAll, IsMissed, of_root, of_part, IsLacking}
use Rattle.cover_lacks.specs.Inner.Asked.{AreAfter, AreUnmade, FirstAsk}
use Rattle.cover_lacks.specs.Inner.Flags.{IsSet, IsFlagged, Marked, AreClear, AreFlags, IsSome, GoesOn, RootVisited, PartVisited, IsVisited}

-- ---- one flag

pub clear_off : (n i : ℕ) → slice_index_or (replicate n false) i false ≡ false
clear_off zero zero = refl
clear_off zero (suc i) = refl
clear_off (suc n) zero = refl
clear_off (suc n) (suc i) = clear_off n i

pub set_within : (flags : List Bool) (n : ℕ) → IsSet flags n → n < length flags
set_within [] zero h = absurd (true≢false (sym h))
set_within [] (suc n) h = absurd (true≢false (sym h))
set_within (b ∷ bs) zero h = omega arith
set_within (b ∷ bs) (suc n) h = let w = set_within bs n h in omega (arith, w)

pub set_here : (flags : List Bool) (n : ℕ) → n < length flags → IsSet (slice_set flags n true) n
set_here flags n lt = get_or-set_same flags n true false lt

pub set_kept : (flags : List Bool) (n m : ℕ) → n < length flags → IsSet flags m → IsSet (slice_set flags n true) m
set_kept flags n m lt h = elim (cases_eq m n) [
  | inl e ↦ subst (IsSet (slice_set flags n true)) (sym e) (set_here flags n lt)
  | inr other ↦ get_or-set_other flags n m true false other ∙ h
]

pub set_only : (flags : List Bool) (n m : ℕ) → IsSet (slice_set flags n true) m → IsSet flags m ⊎ (m ≡ n)
set_only flags n m h = elim (cases_eq m n) [ inl e ↦ inr e | inr other ↦ inl (sym (get_or-set_other flags n m true false other) ∙ h) ]

-- a flag that was read
pub set_read : (flags : List Bool) (n : ℕ) (b : Bool) → n < length flags → b ≡ get_or flags n b → b ≡ true → IsSet flags n
set_read flags n b lt e h = get_or_from_slice_get flags n b false (slice_get_read flags (length flags) n b refl lt e) ∙ h

-- ---- lists of numbers

pub none_of : (xs : List ℕ) (b : Bool) → b ≡ (length xs == 0) → b ≡ true → xs ≡ []
none_of [] b e h = refl
none_of (x ∷ xs) b e h = absurd (let n : length (x ∷ xs) ≡ 0 = grind (arith, nat_tests) in omega (arith, n))

pub some_of : (xs : List ℕ) (b : Bool) → b ≡ (length xs == 0) → b ≡ false → (m : ℕ) × (slice_get xs 0 ≡ Some m)
some_of [] b e h = absurd (true≢false (sym e ∙ h))
some_of (x ∷ xs) b e h = (x, refl)

-- ---- what goes on

flag_more : (nodes : List ExprModel) (old new : List Bool) (t : ExprModel) → ((m : ℕ) → IsSet old m → IsSet new m) → IsFlagged nodes old t → IsFlagged nodes new t
flag_more nodes old new t kept f = (f.0, kept f.0 f.1, f.2)

goes_more : (stock : StockModel) (nodes : List ExprModel) (old new : List Bool) (Asks : ℕ → ExprModel → Type 0) → ((m : ℕ) → IsSet old m → IsSet new m) → GoesOn stock nodes old Asks → GoesOn stock nodes new Asks
goes_more stock nodes old new Asks kept g = record {
  form = g.form;
  tree = g.tree;
  asked = g.asked;
  unmade = g.unmade;
  all = λ k t a. elim (g.all k t a) [ inl made ↦ inl made | inr f ↦ inr (flag_more nodes old new t kept f) ];
}

-- the forms that ask for a tree are among the first ones, so all that is asked for is listed
module _ (stock : StockModel) (nodes : List ExprModel) (Asks : ℕ → ExprModel → Type 0) (n : ℕ) (bound : (k : ℕ) (t : ExprModel) → Asks k t → k < n) (numbers : List ℕ) (are : AreUnmade stock nodes (FirstAsk Asks n) numbers) where
  pub has_all : numbers ≡ [] → (k : ℕ) (t : ExprModel) → Asks k t → IsMade stock t
  has_all none k t a = elim (are.all t (k, bound k t a, a)) [
    | inl made ↦ made
    | inr w ↦ absurd (let got : slice_get {X = ℕ} [] w.0 ≡ Some w.1 = subst (λ l. slice_get l w.0 ≡ Some w.1) none w.2 in cc)
  ]

  pub goes_on : (m : ℕ) (missed : List Bool) → slice_get numbers 0 ≡ Some m → ((i k : ℕ) → slice_get numbers i ≡ Some k → IsSet missed k) → GoesOn stock nodes missed Asks
  goes_on m missed first set =
      let u = are.each 0 m first in
      record {
        form = u.has.0;
        tree = u.tree;
        asked = u.has.2;
        unmade = u.unmade;
        all = λ k t a. elim (are.all t (k, bound k t a, a)) [ inl made ↦ inl made | inr w ↦ inr (w.1, set w.0 w.1 w.2, w.3) ];
      }

-- ---- visits

module _ (stock : StockModel) (d : DestinationModel) (root : ExprModel) where
  abbrev Nodes : List ExprModel
  Nodes = job_nodes d root

  root_more : (missed missed' lacking lacking' : List Bool) → ((m : ℕ) → IsSet missed m → IsSet missed' m) → ((m : ℕ) → IsSet lacking m → IsSet lacking' m) → RootVisited stock d root Nodes missed lacking → RootVisited stock d root Nodes missed' lacking'
  root_more missed missed' lacking lacking' more more' (inl h) = inl (flag_more Nodes lacking lacking' root more' h.0, h.1)
  root_more missed missed' lacking lacking' more more' (inr g) = inr (goes_more stock Nodes missed missed' (RootAsks stock d root) more g)

  part_more : (missed missed' lacking lacking' : List Bool) (k : ℕ) (t : ExprModel) → ((m : ℕ) → IsSet missed m → IsSet missed' m) → ((m : ℕ) → IsSet lacking m → IsSet lacking' m) → PartVisited stock Nodes missed lacking k t → PartVisited stock Nodes missed' lacking' k t
  part_more missed missed' lacking lacking' k t more more' (inl h) = inl (more' k h.0, h.1)
  part_more missed missed' lacking lacking' k t more more' (inr g) = inr (goes_more stock Nodes missed missed' (PartAsks stock t) more g.0, (g.1.0, g.1.1, more g.1.0 g.1.2))

  off : (flags : List Bool) (m : ℕ) → flags ≡ replicate (length Nodes) false → IsSet flags m → ⊥
  off flags m none h = true≢false (sym h ∙ ap (λ l. slice_index_or l m false) none ∙ clear_off (length Nodes) m)

  long : (flags : List Bool) → flags ≡ replicate (length Nodes) false → length flags ≡ length Nodes
  long flags none = ap length none ∙ length-replicate (length Nodes) false

  pub root_lacks : (missed lacking lacking' : List Bool) (r : ℕ) → AreClear Nodes missed lacking → RootHasAll stock d root → slice_get Nodes r ≡ Some root → lacking' ≡ slice_set lacking r true → IsVisited stock d root 0 missed lacking'
  root_lacks missed lacking lacking' r clear all at is =
      let len = long lacking clear.none_lacking in
      let lt : r < length lacking = (let w = slice_get_within Nodes r root at in omega (arith, w, len)) in
      subst (IsVisited stock d root 0 missed) (sym is) (record {
        len = length-set lacking r true ∙ len;
        missed_len = long missed clear.none_missed;
        sound = λ m t set. absurd (off missed m clear.none_missed set);
        named = λ m t set here. elim (set_only lacking r m set) [
          | inl old ↦ absurd (off lacking m clear.none_lacking old)
          | inr e ↦ (let there : slice_get Nodes r ≡ Some t = subst (λ j. slice_get Nodes j ≡ Some t) e here in
              let same : t ≡ root = cc in inl (same, all))
        ];
        visited_root = inl ((r, set_here lacking r lt, at), all);
        visited_parts = λ k t below. absurd (omega (arith, below));
      })

  pub root_goes : (missed missed' lacking : List Bool) (numbers : List ℕ) (n m : ℕ) → ((k : ℕ) (t : ExprModel) → RootAsks stock d root k t → k < n) → AreClear Nodes missed lacking → AreUnmade stock Nodes (FirstAsk (RootAsks stock d root) n) numbers → slice_get numbers 0 ≡ Some m → Marked missed missed' numbers (length numbers) → IsVisited stock d root 0 missed' lacking
  root_goes missed missed' lacking numbers n m bound clear are first marked = record {
    len = long lacking clear.none_lacking;
    missed_len = marked.len ∙ long missed clear.none_missed;
    sound = λ k t set here. elim (marked.only k set) [
      | inl old ↦ absurd (off missed k clear.none_missed old)
      | inr w ↦ (let u = are.each w.0 k w.1 in
          let at = u.here in
          let same : u.tree ≡ t = cc in
          subst (IsMissed stock d root) same (of_root u.has.0 u.has.2 u.unmade))
    ];
    named = λ k t set. absurd (off lacking k clear.none_lacking set);
    visited_root = inr (goes_on stock Nodes (RootAsks stock d root) n bound numbers are m missed' first (λ i k at. marked.set i k (slice_get_within numbers i k at) at));
    visited_parts = λ k t below. absurd (omega (arith, below));
  }

  module _ (n : ℕ) (part : ExprModel) (missed lacking : List Bool) (v : IsVisited stock d root n missed lacking) (at : slice_get Nodes n ≡ Some part) (set_n : IsSet missed n) where
    pub part_lacks : (lacking' : List Bool) → PartHasAll stock part → lacking' ≡ slice_set lacking n true → IsVisited stock d root (n + 1) missed lacking'
    part_lacks lacking' all is =
        let lt : n < length lacking = (let w = slice_get_within Nodes n part at in let l = v.len in omega (arith, w, l)) in
        subst (IsVisited stock d root (n + 1) missed) (sym is) (record {
          len = length-set lacking n true ∙ v.len;
          missed_len = v.missed_len;
          sound = v.sound;
          named = λ m t set here. elim (set_only lacking n m set) [
            | inl old ↦ v.named m t old here
            | inr e ↦ (let there : slice_get Nodes n ≡ Some t = subst (λ j. slice_get Nodes j ≡ Some t) e here in
                let same : part ≡ t = cc in inr (v.sound n t set_n there, subst (PartHasAll stock) same all))
          ];
          visited_root = root_more missed missed lacking (slice_set lacking n true) (λ m h. h) (λ m h. set_kept lacking n m lt h) v.visited_root;
          visited_parts = λ k t below set here. elim (cases_lt k n) [
            | inl earlier ↦ part_more missed missed lacking (slice_set lacking n true) k t (λ m h. h) (λ m h. set_kept lacking n m lt h) (v.visited_parts k t earlier set here)
            | inr ge ↦ (let e : k ≡ n = omega (arith, below, ge) in
                let there : slice_get Nodes n ≡ Some t = subst (λ j. slice_get Nodes j ≡ Some t) e here in
                let same : part ≡ t = cc in
                inl (subst (IsSet (slice_set lacking n true)) (sym e) (set_here lacking n lt), subst (PartHasAll stock) same all))
          ];
        })

    pub part_goes : (missed' : List Bool) (numbers : List ℕ) (count m : ℕ) → ((k : ℕ) (t : ExprModel) → PartAsks stock part k t → k < count) → AreUnmade stock Nodes (FirstAsk (PartAsks stock part) count) numbers → AreAfter n numbers → slice_get numbers 0 ≡ Some m → Marked missed missed' numbers (length numbers) → IsVisited stock d root (n + 1) missed' lacking
    part_goes missed' numbers count m bound are after first marked =
        let set : (i k : ℕ) → slice_get numbers i ≡ Some k → IsSet missed' k = λ i k got. marked.set i k (slice_get_within numbers i k got) got in
        record {
          len = v.len;
          missed_len = marked.len ∙ v.missed_len;
          sound = λ k t h here. elim (marked.only k h) [
            | inl old ↦ v.sound k t old here
            | inr w ↦ (let u = are.each w.0 k w.1 in
                let there = u.here in
                let same : u.tree ≡ t = cc in
                subst (IsMissed stock d root) same (of_part u.has.0 (v.sound n part set_n at) u.has.2 u.unmade))
          ];
          named = v.named;
          visited_root = root_more missed missed' lacking lacking marked.kept (λ k h. h) v.visited_root;
          visited_parts = λ k t below h here. elim (cases_lt k n) [
            | inl earlier ↦ elim (marked.only k h) [
              | inl old ↦ part_more missed missed' lacking lacking k t marked.kept (λ j g. g) (v.visited_parts k t earlier old here)
              | inr w ↦ absurd (let lt = after w.0 k w.1 in omega (arith, lt, earlier))
            ]
            | inr ge ↦ (let e : k ≡ n = omega (arith, below, ge) in
                let there : slice_get Nodes n ≡ Some t = subst (λ j. slice_get Nodes j ≡ Some t) e here in
                let same : part ≡ t = cc in
                let g = goes_on stock Nodes (PartAsks stock part) count bound numbers are m missed' first set in
                inr (subst (λ x. GoesOn stock Nodes missed' (PartAsks stock x)) same g, (m, (let lt = after 0 m first in omega (arith, lt, e)), set 0 m first)))
          ];
        }

  -- ---- all visited

  module _ (missed lacking : List Bool) (v : IsVisited stock d root (length Nodes) missed lacking) where
    -- what is missed is flagged so
    met : (t : ExprModel) → IsMissed stock d root t → IsFlagged Nodes missed t
    met t (of_root form a unmade) = elim v.visited_root [
      | inl h ↦ absurd (unmade (h.1 form t a))
      | inr g ↦ elim (g.all form t a) [ inl made ↦ absurd (unmade made) | inr f ↦ f ]
    ]
    met t (of_part {part = p} form miss a unmade) =
        let f = met p miss in
        elim (v.visited_parts f.0 p (slice_get_within Nodes f.0 p f.2) f.1 f.2) [
          | inl h ↦ absurd (unmade (h.1 form t a))
          | inr g ↦ elim (g.0.all form t a) [ inl made ↦ absurd (unmade made) | inr w ↦ w ]
        ]

    pub visited_flags : AreFlags Nodes (IsLacking stock d root) lacking
    visited_flags = record { len = v.len; sound = v.named; all = all }
      where
        all : (t : ExprModel) → IsLacking stock d root t → IsFlagged Nodes lacking t
        all t (inl (e, has)) = elim v.visited_root [
          | inl h ↦ subst (IsFlagged Nodes lacking) (sym e) h.0
          | inr g ↦ absurd (g.unmade (has g.form g.tree g.asked))
        ]
        all t (inr (miss, has)) =
            let f = met t miss in
            elim (v.visited_parts f.0 t (slice_get_within Nodes f.0 t f.2) f.1 f.2) [
              | inl h ↦ (f.0, h.0, f.2)
              | inr g ↦ absurd (g.0.unmade (has g.0.form g.0.tree g.0.asked))
            ]

    tree_at : (n : ℕ) → n < length Nodes → (t : ExprModel) × (slice_get Nodes n ≡ Some t)
    tree_at n lt = (get_or Nodes n root, slice_get-get_or Nodes n root lt)

    -- from what is missed one comes to what is lacking
    down : (fuel k : ℕ) → IsSet missed k → length Nodes ≤ k + fuel → IsSome Nodes lacking
    down zero k set le = absurd (let w = set_within missed k set in let l = v.missed_len in omega (arith, w, l, le))
    down (suc fuel) k set le =
        let w = set_within missed k set in
        let lt : k < length Nodes = (let l = v.missed_len in omega (arith, w, l)) in
        let (t, here) = tree_at k lt in
        elim (v.visited_parts k t lt set here) [
          | inl h ↦ (t, (k, h.0, here))
          | inr g ↦ down fuel g.1.0 g.1.2 (let more = g.1.1 in omega (arith, more, le))
        ]

    pub visited_some : IsSome Nodes lacking
    visited_some = elim v.visited_root [
      | inl h ↦ (root, h.0)
      | inr g ↦ elim (g.all g.form g.tree g.asked) [
        | inl made ↦ absurd (g.unmade made)
        | inr f ↦ down (length Nodes) f.0 f.1 (omega arith)
      ]
    ]
