-- The flagged trees in the order of their first places.
use Rattle.std.proofs.Common.{◌≡◌, ℕ, zero, suc, ◌+◌, ◌<◌, ◌≤◌, List, [], ◌∷◌, ◌++◌, length, refl, sym, ap, ◌∙◌, subst, Some, Bool, true, false, true≢false, arith, inl, inr, get_or}
use Rattle.std.specs.Prelude.{slice_get, ◌&&◌, ◌==◌}
use Rattle.std.specs.Borrow.{Bor}
use Rattle.std.specs.Option.{option_map}
use Rattle.std.proofs.lemmas.Bool.{cases_lt}
use borrow.Author.Tests.{eqb-true}
use Rattle.std.proofs.lemmas.List.{map_push}
use Rattle.std.proofs.lemmas.Option.{slice_get_within, slice_get_read, slice_get-map}
use Rattle.rec_bits.proofs.Booleans.{both, and_from}
use Rattle.rec_bits.proofs.Lists.{get_seam, pushed_at, get_left_some}
use Rattle.rec_bits.proofs.Equality.{number_self, op1_is, op2_is, op1_self, op2_self}
use Rattle.net_model.specs.declared.hardware.Space.TheVariants.{Memory as InMemory}
use Rattle.net_model.specs.Exprs.{ExprModel, const, read, un, bin, slice, zext, sext}
use Rattle.form_model.specs.Matches.{same_op1, same_op2}
use Rattle.form_model.specs.Trees.{model_of_tree}
use Rattle.form_model.specs.declared.trees.Tree.{Tree}
use Rattle.form_model.specs.declared.trees.Tree.TheVariants.{Lit, Read', Un', Bin', Slice', Zext', Sext'}
use Rattle.tree_sharing.specs.Sharing.{IsFirst, exprs_at}
use Rattle.tree_sharing.proofs.SharingLemmas.{one_first}
use Rattle.cover_lacks.specs.Lacks.{AreInOrder}
use Rattle.cover_lacks.specs.Inner.Flags.{IsFlagged}
use Rattle.cover_lacks.specs.Inner.Listed.{same_trees, ListedBelow}

-- ---- equal trees

pub same_exact : (t u : ExprModel) → same_trees t u ≡ true → t ≡ u
same_exact (const w v) (const x u) h =
    let p = both (w == x) (v == u) h in
    let ew : w ≡ x = eqb-true w x p.0 in
    let ev : v ≡ u = eqb-true v u p.1 in
    (λ j. const (ew j) (ev j))
same_exact (read InMemory a w) (read InMemory b x) h =
    let p = both (w == x) (same_trees a b) h in
    let ew : w ≡ x = eqb-true w x p.0 in
    let ea = same_exact a b p.1 in
    (λ j. read InMemory (ea j) (ew j))
same_exact (un o a) (un p b) h =
    let q = both (same_op1 o p) (same_trees a b) h in
    let eo : o ≡ p = op1_is o p q.0 in
    let ea = same_exact a b q.1 in
    (λ j. un (eo j) (ea j))
same_exact (bin o a b) (bin p c d) h =
    let q = both (same_op2 o p) (same_trees a c && same_trees b d) h in
    let r = both (same_trees a c) (same_trees b d) q.1 in
    let eo : o ≡ p = op2_is o p q.0 in
    let ea = same_exact a c r.0 in
    let eb = same_exact b d r.1 in
    (λ j. bin (eo j) (ea j) (eb j))
same_exact (slice a h l) (slice b i m) e =
    let p = both (h == i) ((l == m) && same_trees a b) e in
    let q = both (l == m) (same_trees a b) p.1 in
    let eh : h ≡ i = eqb-true h i p.0 in
    let el : l ≡ m = eqb-true l m q.0 in
    let ea = same_exact a b q.1 in
    (λ j. slice (ea j) (eh j) (el j))
same_exact (zext a w) (zext b x) h =
    let p = both (w == x) (same_trees a b) h in
    let ew : w ≡ x = eqb-true w x p.0 in
    let ea = same_exact a b p.1 in
    (λ j. zext (ea j) (ew j))
same_exact (sext a w) (sext b x) h =
    let p = both (w == x) (same_trees a b) h in
    let ew : w ≡ x = eqb-true w x p.0 in
    let ea = same_exact a b p.1 in
    (λ j. sext (ea j) (ew j))
same_exact _ _ h = absurd (true≢false (sym h))

pub same_self : (t : Tree) → same_trees (model_of_tree t) (model_of_tree t) ≡ true
same_self (Lit w v) = and_from _ _ (number_self w) (number_self v)
same_self (Read' p a w) = and_from _ _ (number_self w) (same_self a)
same_self (Un' o p a) = and_from _ _ (op1_self o) (same_self a)
same_self (Bin' o p a q b) = and_from _ _ (op2_self o) (and_from _ _ (same_self a) (same_self b))
same_self (Slice' p a h l) = and_from _ _ (number_self h) (and_from _ _ (number_self l) (same_self a))
same_self (Zext' p a w) = and_from _ _ (number_self w) (same_self a)
same_self (Sext' p a w) = and_from _ _ (number_self w) (same_self a)

pub same_none : (t : Tree) (u : ExprModel) → same_trees (model_of_tree t) u ≡ false → model_of_tree t ≡ u → ⊥
same_none t u h e = true≢false (sym (same_self t) ∙ ap (same_trees (model_of_tree t)) e ∙ h)

-- ---- first places

-- a first place behind a tree, or that tree's
place_behind : (x : Bor Tree) (xs : List (Bor Tree)) (t : ExprModel) → (m : ℕ) × IsFirst (exprs_at xs) t m → (m : ℕ) × IsFirst (exprs_at (x ∷ xs)) t m
place_behind x xs t (m, first) = go (same_trees (model_of_tree x.now) t) refl
  where
    later : same_trees (model_of_tree x.now) t ≡ false → (k : ℕ) → slice_get (model_of_tree x.now ∷ exprs_at xs) k ≡ Some t → suc m ≤ k
    later e zero g = absurd (let same : model_of_tree x.now ≡ t = cc in same_none x.now t e same)
    later e (suc k) g = let l = first.least k g in omega (arith, l)

    go : (b : Bool) → same_trees (model_of_tree x.now) t ≡ b → (m : ℕ) × IsFirst (model_of_tree x.now ∷ exprs_at xs) t m
    go true e = (0, record { at = ap Some (same_exact (model_of_tree x.now) t e); least = λ k g. omega arith })
    go false e = (suc m, record { at = first.at; least = later e })

pub first_place : (trees : List (Bor Tree)) (t : ExprModel) (n : ℕ) → slice_get (exprs_at trees) n ≡ Some t → (m : ℕ) × IsFirst (exprs_at trees) t m
first_place [] t n h = absurd (cc)
first_place (x ∷ xs) t zero h = (0, record { at = h; least = λ m g. omega arith })
first_place (x ∷ xs) t (suc n) h = place_behind x xs t (first_place xs t n h)

pub index_expr : (nodes : List (Bor Tree)) (n : ℕ) (r : Bor Tree) → n < length nodes → r ≡ get_or nodes n r → slice_get (exprs_at nodes) n ≡ Some (model_of_tree r.now)
index_expr nodes n r lt e =
    slice_get-map (λ (tree : Bor Tree). model_of_tree tree.now) nodes n ∙ ap (option_map (λ (tree : Bor Tree). model_of_tree tree.now)) (slice_get_read nodes (length nodes) n r refl lt e)

-- none of the first m trees is the one of number n
abbrev pub NoneBefore : List ExprModel → ℕ → ℕ → Type 0
NoneBefore ts n m = (k : ℕ) (t : ExprModel) → k < m → slice_get ts k ≡ Some t → slice_get ts n ≡ Some t → ⊥

module _ (ts : List ExprModel) (m n : ℕ) (a b : ExprModel) (at_m : slice_get ts m ≡ Some a) (at_n : slice_get ts n ≡ Some b) where
  pub not_first : a ≡ b → m < n → (t : ExprModel) → slice_get ts n ≡ Some t → IsFirst ts t n → ⊥
  not_first e lt t here first =
      let same : b ≡ t = cc in
      let le = first.least m (at_m ∙ ap Some (e ∙ same)) in
      omega (arith, le, lt)

  pub none_more : (a ≡ b → ⊥) → NoneBefore ts n m → NoneBefore ts n (m + 1)
  none_more differ before k t lt at here = elim (cases_lt k m) [
    | inl earlier ↦ before k t earlier at here
    | inr ge ↦ (let e : k ≡ m = omega (arith, lt, ge) in
        let there : slice_get ts m ≡ Some t = subst (λ j. slice_get ts j ≡ Some t) e at in
        let x : a ≡ t = cc in
        let y : b ≡ t = cc in
        differ (x ∙ sym y))
  ]

pub first_at : (ts : List ExprModel) (n m : ℕ) → n ≤ m → NoneBefore ts n m → (t : ExprModel) → slice_get ts n ≡ Some t → IsFirst ts t n
first_at ts n m le before t here = record {
  at = here;
  least = λ k at. elim (cases_lt k n) [ inl lt ↦ absurd (before k t (omega (arith, lt, le)) at here) | inr ge ↦ ge ];
}

-- ---- the list so far

module _ (nodes : List ExprModel) (flags : List Bool) where
  pub listed_skip : (n : ℕ) (list : List ExprModel) → ListedBelow nodes flags n list → ((t : ExprModel) → slice_get nodes n ≡ Some t → IsFirst nodes t n → IsFlagged nodes flags t → ⊥) → ListedBelow nodes flags (n + 1) list
  listed_skip n list l none = record {
    each = l.each;
    placed = λ i t h. (let p = l.placed i t h in (p.0, (let lt = p.1 in omega (arith, lt)), p.2));
    all = λ t m lt first flag. elim (cases_lt m n) [
      | inl earlier ↦ l.all t m earlier first flag
      | inr ge ↦ absurd (let e : m ≡ n = omega (arith, lt, ge) in
          let here = subst (IsFirst nodes t) e first in
          none t here.at here flag)
    ];
    order = l.order;
  }

  pub listed_more : (n : ℕ) (list : List ExprModel) (tree : ExprModel) → ListedBelow nodes flags n list → IsFirst nodes tree n → IsFlagged nodes flags tree → ListedBelow nodes flags (n + 1) (list ++ tree ∷ [])
  listed_more n list tree l first flag = record {
    each = λ i t h. elim (pushed_at list tree i t h) [
      | inl w ↦ l.each i t w.1
      | inr w ↦ subst (IsFlagged nodes flags) w.1 flag
    ];
    placed = λ i t h. elim (pushed_at list tree i t h) [
      | inl w ↦ (let p = l.placed i t w.1 in (p.0, (let lt = p.1 in omega (arith, lt)), p.2))
      | inr w ↦ (n, omega arith, subst (λ u. IsFirst nodes u n) w.1 first)
    ];
    all = λ t m lt at mine. elim (cases_lt m n) [
      | inl earlier ↦ (let g = l.all t m earlier at mine in (g.0, get_left_some list (tree ∷ []) g.0 t g.1))
      | inr ge ↦ (let e : m ≡ n = omega (arith, lt, ge) in
          let here = subst (IsFirst nodes t) e at in
          let a = here.at in
          let b = first.at in
          let same : tree ≡ t = cc in
          (length list, get_seam list tree [] ∙ ap Some same))
    ];
    order = λ i j m k t u lt hi hj fi fj. elim (pushed_at list tree j u hj) [
      | inl w ↦ elim (pushed_at list tree i t hi) [
        | inl v ↦ l.order i j m k t u lt v.1 w.1 fi fj
        | inr v ↦ absurd (omega (arith, v.0, w.0, lt))
      ]
      | inr w ↦ elim (pushed_at list tree i t hi) [
        | inl v ↦ (let p = l.placed i t v.1 in
            let em = one_first nodes t m p.0 fi p.2 in
            let ek = one_first nodes u k n fj (subst (λ x. IsFirst nodes x n) w.1 first) in
            let less = p.1 in
            omega (arith, em, ek, less))
        | inr v ↦ absurd (omega (arith, v.0, w.0, lt))
      ]
    ];
  }

pub listed_all : (trees : List (Bor Tree)) (flags : List Bool) (n : ℕ) (list : List ExprModel) → n ≡ length (exprs_at trees) → ListedBelow (exprs_at trees) flags n list → AreInOrder (exprs_at trees) (IsFlagged (exprs_at trees) flags) list
listed_all trees flags n list e l = record {
  each = l.each;
  all = λ t flag. (let (m, first) = first_place trees t flag.0 flag.2 in
      let lt : m < n = (let w = slice_get_within (exprs_at trees) m t first.at in omega (arith, w, e)) in
      l.all t m lt first flag);
  placed = λ i t h. (let p = l.placed i t h in (p.0, p.2));
  order = l.order;
}

pub in_order_same : (nodes : List ExprModel) (P Q : ExprModel → Type 0) (list : List ExprModel) → ((t : ExprModel) → P t → Q t) → ((t : ExprModel) → Q t → P t) → AreInOrder nodes P list → AreInOrder nodes Q list
in_order_same nodes P Q list to from l = record {
  each = λ i t h. to t (l.each i t h);
  all = λ t q. l.all t (from t q);
  placed = l.placed;
  order = l.order;
}

-- ---- references to trees, one list after the other

pub exprs_push : (xs zs : List (Bor Tree)) (x : Bor Tree) → zs ≡ xs ++ x ∷ [] → exprs_at zs ≡ exprs_at xs ++ model_of_tree x.now ∷ []
exprs_push xs zs x e = ap exprs_at e ∙ map_push (λ (tree : Bor Tree). model_of_tree tree.now) xs x
