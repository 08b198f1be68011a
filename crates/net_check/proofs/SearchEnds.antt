-- Where the search begins and where it ends.
use Rattle.std.proofs.Common.{◌≡◌, ◌≢◌, false, ℕ, ◌<◌, List, [], ◌∷◌, length, replicate, slice_index, refl, sym, ap, ◌∙◌, subst, arith, zero, suc}
use Rattle.std.proofs.lemmas.List.{get_or-set_same}
use Rattle.net_model.specs.Depends.{Among, Depends, direct, via}
use Rattle.net_check.specs.Inner.Graphs.{named_in}
use Rattle.net_check.specs.Inner.Components.{mark_at, on_cycle, IsDone, IsPathTo, IsSearch, IsMet, AreMarked}
use Rattle.net_check.specs.declared.cycle.Mark.{Mark}
use Rattle.net_check.specs.declared.cycle.Mark.TheVariants.{New, Met, Done}
use Rattle.net_check.specs.declared.cycle.Search.{Search}

new_at : (n m : ℕ) → mark_at (replicate n New) m ≡ New
new_at zero m = refl
new_at (suc n) zero = refl
new_at (suc n) (suc m) = new_at n m

-- with no net open, none is met
module _ (graph : List (List ℕ)) (marks : List Mark) (met starts path : List ℕ) (w : IsSearch graph marks met starts path) (none : path ≡ []) where
  pub none_met : (i : ℕ) → i < length met → ⊥
  none_met i h = let b = w.based i h in let k : Among (slice_index met b.0) [] = subst (Among (slice_index met b.0)) none (w.begun b.0 b.1) in k

  pub root_all : (net p : ℕ) → p < length met → IsPathTo graph (slice_index met p) net
  root_all net p h = absurd (none_met p h)

  by_mark : (m : ℕ) (s : Mark) → mark_at marks m ≡ s → mark_at marks m ≢ New → IsDone marks m
  by_mark m New e h = absurd (h e)
  by_mark m (Done told) e h = record { told = told; is = e }
  by_mark m (Met i k) e h = absurd (none_met i (w.back m i (record { place = k; is = e })).0)

  pub partition_of : ((m : ℕ) → m < length graph → mark_at marks m ≢ New) → AreMarked graph marks
  partition_of h = record {
    long = w.long;
    all = λ m l. by_mark m (mark_at marks m) refl (h m l);
    cyclic = w.cyclic;
    acyclic = w.acyclic;
  }

pub root_here : (old new : Search) (net : ℕ) → IsMet old new net → net < length old.marks → mark_at new.marks net ≢ New
root_here old new net is inside h = cc (sym (ap (λ (x : List Mark). mark_at x net) is.marks) ∙ h, get_or-set_same old.marks net (Met (length old.met) 0) New inside)

-- ---- the least one

inside_of : (graph : List (List ℕ)) (a b : ℕ) → Among b (named_in graph a) → a < length graph
inside_of [] a b h = absurd h
inside_of (named ∷ graph) zero b h = omega arith
inside_of (named ∷ graph) (suc a) b h = let k : a < length graph = inside_of graph a b h in omega arith

depends_inside : (graph : List (List ℕ)) (a b : ℕ) → Depends (named_in graph) a b → a < length graph
depends_inside graph a b (direct h) = inside_of graph a b h
depends_inside graph a b (via {b = c} h d) = inside_of graph a c h

module _ (graph : List (List ℕ)) (marks : List Mark) (p : AreMarked graph marks) where
  pub lies_off : (m : ℕ) → on_cycle (mark_at marks m) ≡ false → Depends (named_in graph) m m → ⊥
  lies_off m e d =
      let k : IsDone marks m = p.all m (depends_inside graph m m d) in
      let f : k.told ≡ false = sym (ap on_cycle k.is) ∙ e in
      p.acyclic m (k.is ∙ ap Done f) d
