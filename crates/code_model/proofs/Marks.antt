-- Each state that is reached at a mark is good, where each state at a mark on the way is.
use Rattle.std.proofs.Common.{ℕ, zero, suc, ◌≡◌, ◌≤◌, ◌<◌, ◌+◌, ◌-◌, ◌⊎◌, inl, inr, List, [], ◌∷◌, refl, sym, ◌∙◌, ap, subst, arith, Some, None}
use Rattle.std.proofs.lemmas.Bool.{cases_lt}
use Rattle.net_model.specs.declared.hardware.Netlist.{Netlist}
use Rattle.net_model.specs.declared.states.State.{State}
use Rattle.net_model.specs.Clock.{clock, run_from, then_run, Next, Reached}
use Rattle.src_model.specs.declared.checkpoint.Checkpoint.{Checkpoint}
use Rattle.src_model.specs.declared.checkpoint.Checkpoint.TheVariants.{At, End}
use Rattle.src_model.specs.Ways.{Passed}
use Rattle.code_model.specs.declared.image.Image.{Image}
use Rattle.code_model.specs.Places.{words_of}
use Rattle.code_model.specs.Machine.{label_in}
use Rattle.code_model.specs.Flow.{Reaches}
use Rattle.code_model.specs.Inner.Flow.{Then, FollowsBy, RestsBy}
use Rattle.code_model.proofs.Tracing.{Enough, enough_later, enough_less}

module _ (netlist : Netlist) (image : Image) where
  run_step : (s t : State) (c n : ℕ) → clock netlist (words_of image) s ≡ Next t → run_from c netlist (words_of image) s (suc n) ≡ run_from (c + 1) netlist (words_of image) t n
  run_step s t c n e = ap (then_run c (λ u. run_from (c + 1) netlist (words_of image) u n)) e

  -- too few clocks for the next mark end at an address without one
  short_run : (n k c : ℕ) (s u t : State) → Reaches netlist image s n u → k < n → run_from c netlist (words_of image) s k ≡ Reached t → label_in netlist image t ≡ None
  short_run zero k c s u t r lt e = absurd (omega arith)
  short_run (suc n) zero c s u t r lt e = let same : s ≡ t = cc in ap (label_in netlist image) (sym same) ∙ r.1
  short_run (suc n) (suc k) c s u t r lt e = short_run n k (c + 1) r.0 u t r.3 (omega arith) (sym (run_step s r.0 c k r.2) ∙ e)

  -- and enough of them pass it
  rest_run : (n k c j : ℕ) (s u t : State) → Reaches netlist image s n u → k ≡ n + j → run_from c netlist (words_of image) s k ≡ Reached t → (d : ℕ) × (run_from d netlist (words_of image) u j ≡ Reached t)
  rest_run zero k c j s u t r is e =
      let f : k ≡ j = omega arith in
      (c, subst (λ (x : ℕ). run_from c netlist (words_of image) u x ≡ Reached t) f (subst (λ (x : State). run_from c netlist (words_of image) x k ≡ Reached t) r e))
  rest_run (suc n) zero c j s u t r is e = absurd (omega arith)
  rest_run (suc n) (suc k) c j s u t r is e = rest_run n k (c + 1) j r.0 u t r.3 (omega arith) (sym (run_step s r.0 c k r.2) ∙ e)

  module _ (store : State → List ℕ) (good : State → Type 0) where
    module _ (rests : (s : State) → good s → label_in netlist image s ≡ Some End → RestsBy store netlist image good s) where
      -- ---- from the end on

      pub record StaysGood (s : State) (c n : ℕ) : Type 0 where
        pub last : State
        pub runs : run_from c netlist (words_of image) s n ≡ Reached last
        pub same : store last ≡ store s
        pub holds : good last

      pub stays_good : (n c : ℕ) (s : State) → good s → label_in netlist image s ≡ Some End → StaysGood s c n
      stays_good zero c s h e = record { last = s; runs = refl; same = refl; holds = h }
      stays_good (suc n) c s h e =
          let r : RestsBy store netlist image good s = rests s h e in
          let k : StaysGood r.next (c + 1) n = stays_good n (c + 1) r.next r.holds r.label in
          record { last = k.last; runs = run_step s r.next c n r.clocked ∙ k.runs; same = k.same ∙ r.same; holds = k.holds }

      reached_one : (s t : State) → Reached s ≡ Reached t → s ≡ t
      reached_one s t e = cc

      end_good : (k c : ℕ) (s t : State) → good s → label_in netlist image s ≡ Some End → run_from c netlist (words_of image) s k ≡ Reached t → good t
      end_good k c s t h e r =
          let g : StaysGood s c k = stays_good k c s h e in
          subst good (reached_one g.last t (sym g.runs ∙ r)) g.holds

      -- ---- between the marks

      at_mark : (label : Checkpoint) (cells : List ℕ) (ps : List Passed) (l j c : ℕ) (u t : State) → label_in netlist image u ≡ Some label → good u
          → Then label ps ((w : State) × (clock netlist (words_of image) u ≡ Next w) × FollowsBy store netlist image good l l w ps)
          → Enough j (record { label = label; cells = cells } ∷ ps) → run_from c netlist (words_of image) u j ≡ Reached t
          → ((w : State) (i d : ℕ) → FollowsBy store netlist image good l l w ps → Enough i ps → run_from d netlist (words_of image) w i ≡ Reached t → good t) → good t
      at_mark End cells ps l j c u t e h then enough r ih = end_good j c u t h e r
      at_mark (At tree) cells ps l zero c u t e h then enough r ih = subst good (reached_one u t r) h
      at_mark (At tree) cells ps l (suc j) c u t e h then enough r ih =
          ih then.0 j (c + 1) then.2 (enough_later store netlist image j tree cells ps enough) (sym (run_step u then.0 c j then.1) ∙ r)

      some_none : (x : Checkpoint) → None ≡ Some x → ⊥
      some_none x e = cc

      -- each state at a mark is good
      pub marks_good : (ps : List Passed) (l d k c : ℕ) (s t : State) → FollowsBy store netlist image good l d s ps → Enough k ps → run_from c netlist (words_of image) s k ≡ Reached t
          → (x : Checkpoint) → label_in netlist image t ≡ Some x → good t
      marks_good [] l d k c s t f (inl lt) r x e = absurd (omega arith)
      marks_good [] l d k c s t f (inr h) r x e = absurd (cc)
      marks_good (p ∷ ps) l d k c s t f enough r x e = by (cases_lt k f.0) (λ v i b g h q. marks_good ps l l i b v t g h q x e)
        where
          by : (k < f.0) ⊎ (f.0 ≤ k) → ((w : State) (i b : ℕ) → FollowsBy store netlist image good l l w ps → Enough i ps → run_from b netlist (words_of image) w i ≡ Reached t → good t) → good t
          by (inl lt) ih = absurd (some_none x (sym (short_run f.0 k c s f.1 t f.3 lt r) ∙ e))
          by (inr ge) ih =
              let split : k ≡ f.0 + (k - f.0) = omega arith in
              let w = rest_run f.0 k c (k - f.0) s f.1 t f.3 split r in
              at_mark p.label p.cells ps l (k - f.0) w.0 f.1 t f.4 f.6 f.7 (enough_less store netlist image k (k - f.0) (p ∷ ps) (omega arith) enough) w.1 ih
