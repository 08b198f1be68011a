-- How what follows from one state follows from another, where each state at a mark is good.
use Rattle.std.proofs.Common.{ℕ, zero, suc, ◌≡◌, ◌≤◌, ◌+◌, Bool, true, false, cond, List, [], ◌∷◌, refl, sym, ◌∙◌, ap, subst, arith, Some, None}
use Rattle.net_model.specs.declared.hardware.Netlist.{Netlist}
use Rattle.net_model.specs.declared.states.State.{State}
use Rattle.src_model.specs.declared.checkpoint.Checkpoint.TheVariants.{At, End}
use Rattle.code_model.specs.declared.image.Image.{Image}
use Rattle.src_model.proofs.WayLemmas.{Keeps, loop_step}
use Rattle.net_model.specs.Clock.{clock, Next}
use Rattle.src_model.specs.Ways.{Passed, Onward, pass, choose, loop, finish}
use Rattle.code_model.specs.Places.{words_of}
use Rattle.code_model.specs.Machine.{label_in, store_in}
use Rattle.code_model.specs.Flow.{Reaches}
use Rattle.code_model.specs.Inner.Flow.{Follows, Stands, Leads, Tests}

module _ (netlist : Netlist) (image : Image) where
  pub reaches_on : (n : ℕ) (s t u : State) (k N : ℕ) → N ≡ n + k → Reaches netlist image s n t → Reaches netlist image t k u → Reaches netlist image s N u
  reaches_on zero s t u k N e r q =
      let f : k ≡ N = omega arith in
      subst (λ (x : ℕ). Reaches netlist image s x u) f (subst (λ (x : State). Reaches netlist image x k u) (sym r) q)
  reaches_on (suc n) s t u k zero e r q = absurd (omega arith)
  reaches_on (suc n) s t u k (suc N) e r q = (r.0, r.1, r.2, reaches_on n r.0 t u k N (omega arith) r.3 q)

  -- one clock from an unmarked address
  pub reaches_one : (s t : State) → label_in netlist image s ≡ None → clock netlist (words_of image) s ≡ Next t → Reaches netlist image s 1 t
  reaches_one s t e k = (t, e, k, refl)

module _ (netlist : Netlist) (image : Image) (good : State → Type 0) where
  module _ (l : ℕ) where
    pub follows_on : (n d e : ℕ) (s t : State) (ps : List Passed) → Reaches netlist image s n t → n + e ≤ d → Follows netlist image good l e t ps → Follows netlist image good l d s ps
    follows_on n d e s t [] r le f = tt
    follows_on n d e s t (p ∷ ps) r le f =
        let within : f.0 ≤ e = f.2 in
        (n + f.0, f.1, omega arith, reaches_on netlist image n s t f.1 f.0 (n + f.0) refl r f.3, f.4, f.5, f.6, f.7)

    pub stands_less : (d : ℕ) (P : State → Type 0) (way : Onward) (m : ℕ) → Stands netlist image good l d P way (suc m) → Stands netlist image good l d P way m
    stands_less d P way m h j le s p = h j (omega arith) s p

    -- a block, and what comes after it
    pub block_stands : (d e clocks : ℕ) (P Q : State → Type 0) (change : List ℕ → List ℕ) (way : Onward) (m : ℕ) → clocks + e ≤ d → ((s : State) → P s → Leads netlist image Q (change (store_in image s)) clocks s) →
        Stands netlist image good l e Q way m → Stands netlist image good l d P (λ more cells. way more (change cells)) m
    block_stands d e clocks P Q change way m le leads h j lj s p =
        let b : Leads netlist image Q (change (store_in image s)) clocks s = leads s p in
        follows_on b.taken d e s b.last (way j (change (store_in image s))) b.reaches (omega arith)
        (subst (λ (cells : List ℕ). Follows netlist image good l e b.last (way j cells)) b.store (h j lj b.last b.holds))

    -- the end
    pub end_stands : (d : ℕ) (P : State → Type 0) (m : ℕ) → ((s : State) → P s → good s) → ((s : State) → P s → label_in netlist image s ≡ Some End) → Stands netlist image good l d P finish m
    end_stands d P m calm marked zero lj s p = tt
    end_stands d P m calm marked (suc j) lj s p = (0, s, omega arith, refl, marked s p, refl, calm s p, refl)

    -- from a test's mark to one of two ways on
    tested : (e clocks : ℕ) (Q : State → Type 0) (s next : State) (ps : List Passed) (way : Onward) (j : ℕ) → clocks + e ≤ l → ps ≡ way j (store_in image s) →
        Leads netlist image Q (store_in image s) clocks next → ((t : State) → Q t → Follows netlist image good l e t (way j (store_in image t))) → Follows netlist image good l l next ps
    tested e clocks Q s next ps way j le is b h =
        follows_on b.taken l e next b.last ps b.reaches (omega arith)
        (subst (λ (xs : List Passed). Follows netlist image good l e b.last xs) (ap (way j) b.store ∙ sym is) (h b.last b.holds))

    chosen : (e f clocks : ℕ) (Q R : State → Type 0) (tree : ℕ) (test : List ℕ → Bool) (a b : Onward) (j : ℕ) (s : State) → clocks + e ≤ l → clocks + f ≤ l → (t : Tests netlist image tree test Q R clocks s) →
        ((u : State) → Q u → Follows netlist image good l e u (a j (store_in image u))) → ((u : State) → R u → Follows netlist image good l f u (b j (store_in image u))) →
        (x : Bool) → test (store_in image s) ≡ x → Follows netlist image good l l t.next (cond x (a j (store_in image s)) (b j (store_in image s)))
    chosen e f clocks Q R tree test a b j s le lf t p q true is = tested e clocks Q s t.next _ a j le refl (t.on_true is) p
    chosen e f clocks Q R tree test a b j s le lf t p q false is = tested f clocks R s t.next _ b j lf refl (t.on_false is) q

    pub test_stands : (d e f clocks : ℕ) (P Q R : State → Type 0) (tree : ℕ) (test : List ℕ → Bool) (a b : Onward) (m : ℕ) → clocks + e ≤ l → clocks + f ≤ l → ((s : State) → P s → good s) →
        ((s : State) → P s → Tests netlist image tree test Q R clocks s) → Stands netlist image good l e Q a m → Stands netlist image good l f R b m →
        Stands netlist image good l d P (pass (At tree) (choose test a b)) (suc m)
    test_stands d e f clocks P Q R tree test a b m le lf calm tests p q zero lj s h = tt
    test_stands d e f clocks P Q R tree test a b m le lf calm tests p q (suc j) lj s h =
        let t : Tests netlist image tree test Q R clocks s = tests s h in (
          0,
          s,
          omega arith,
          refl,
          t.label,
          refl,
          calm s h,
          (t.next, t.clocked, chosen e f clocks Q R tree test a b j s le lf t (λ u x. p j (omega arith) u x) (λ u x. q j (omega arith) u x) (test (store_in image s)) refl),
        )

    -- a loop: its test, its body, and from the end of the body the test's mark again
    pub loop_stands : (d e f clocks : ℕ) (P Q R : State → Type 0) (tree : ℕ) (test : List ℕ → Bool) (body : Onward → Onward) (next : Onward) → clocks + e ≤ l → clocks + f ≤ l → ((s : State) → P s → good s) →
        ((s : State) → P s → Tests netlist image tree test Q R clocks s) → Keeps body →
        ((way : Onward) (i : ℕ) → Stands netlist image good l 0 P way i → Stands netlist image good l e Q (body way) i) →
        (m : ℕ) → Stands netlist image good l f R next m → Stands netlist image good l d P (loop (At tree) test body next) m
    loop_stands d e f clocks P Q R tree test body next le lf calm tests keeps through m h zero lj s p = tt
    loop_stands d e f clocks P Q R tree test body next le lf calm tests keeps through zero h (suc j) lj s p = absurd (omega arith)
    loop_stands d e f clocks P Q R tree test body next le lf calm tests keeps through (suc m) h (suc j) lj s p =
        subst (λ (ps : List Passed). Follows netlist image good l d s ps) (sym (loop_step (suc j) (At tree) test body next keeps (store_in image s)))
        (test_stands d e f clocks P Q R tree test (body (loop (At tree) test body next)) next m le lf calm tests
        (through (loop (At tree) test body next) m (loop_stands 0 e f clocks P Q R tree test body next le lf calm tests keeps through m (stands_less f R next m h)))
        (stands_less f R next m h) (suc j) lj s p)
