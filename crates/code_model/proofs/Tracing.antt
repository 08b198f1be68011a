-- From checkpoints that follow each other to what a trace shows.
use Rattle.std.proofs.Common.{ℕ, zero, suc, ◌≡◌, ◌≤◌, ◌<◌, ◌+◌, ◌-◌, ◌*◌, ◌⊎◌, inl, inr, List, [], ◌∷◌, length, take, refl, sym, ◌∙◌, subst, arith, Some, None, true}
use Rattle.std.proofs.lemmas.Bool.{cases_lt}
use Rattle.net_model.specs.declared.hardware.Netlist.{Netlist}
use Rattle.net_model.specs.declared.states.State.{State}
use Rattle.src_model.specs.declared.checkpoint.Checkpoint.{Checkpoint}
use Rattle.src_model.specs.declared.checkpoint.Checkpoint.TheVariants.{At, End}
use Rattle.code_model.specs.declared.image.Image.{Image}
use Rattle.net_model.specs.Clock.{clock, Next}
use Rattle.src_model.specs.Ways.{Passed}
use Rattle.code_model.specs.Places.{words_of}
use Rattle.code_model.specs.Machine.{label_in, TraceEntry, Shows, trace_of}
use Rattle.code_model.specs.Right.{passed_of, IsPaced}
use Rattle.src_model.proofs.WayLemmas.{has_end}
use Rattle.code_model.specs.Flow.{Reaches}
use Rattle.code_model.specs.Inner.Flow.{Then, FollowsBy}

-- ---- what a trace over some clocks has to do with the checkpoints that follow

-- what holds of what comes after a checkpoint and after its entry
abbrev pub AgreesThen : Checkpoint → List Passed → List TraceEntry → Type 0 → Type 0
AgreesThen (At tree) ps es Later = Later
AgreesThen End ps es Later = (ps ≡ []) × (es ≡ [])

-- these entries are the first of these checkpoints, each in time, and the trace stops before the
-- next deadline
abbrev pub Agrees : ℕ → ℕ → ℕ → List Passed → List TraceEntry → Type 0
Agrees l deadline stop [] [] = stop < deadline
Agrees l deadline stop (p ∷ ps) [] = stop < deadline
Agrees l deadline stop [] (e ∷ es) = ⊥
Agrees l deadline stop (p ∷ ps) (e ∷ es) =
    (e.passed ≡ p) × (e.cycle ≤ deadline) × AgreesThen p.label ps es (Agrees l (e.cycle + (l + 1)) stop ps es)

-- so many clocks can't pass more than these checkpoints
abbrev pub Enough : ℕ → List Passed → Type 0
Enough n ps = (n < length ps) ⊎ (has_end ps ≡ true)

pub record Told (store : State → List ℕ) (netlist : Netlist) (image : Image) (l d : ℕ) (s : State) (c n : ℕ) (ps : List Passed) : Type 0 where
  pub entries : List TraceEntry
  pub traced : trace_of store netlist image s c n ≡ Shows entries
  pub agrees : Agrees l (c + d) (c + n) ps entries

module _ (store : State → List ℕ) (netlist : Netlist) (image : Image) where
  step_trace : (s u : State) (c n : ℕ) → label_in netlist image s ≡ None → clock netlist (words_of image) s ≡ Next u → trace_of store netlist image s c (suc n) ≡ trace_of store netlist image u (c + 1) n
  step_trace s u c n e k = rw (e, k) refl

  -- clocks between marks show nothing
  reach_trace : (n : ℕ) (s t : State) (c k : ℕ) → Reaches netlist image s n t → (N C : ℕ) → N ≡ n + k → C ≡ c + n → trace_of store netlist image s c N ≡ trace_of store netlist image t C k
  reach_trace zero s t c k r N C p q =
      let e : N ≡ k = omega arith in
      let f : C ≡ c = omega arith in
      cc
  reach_trace (suc n) s t c k r zero C p q = absurd (omega arith)
  reach_trace (suc n) s t c k r (suc N) C p q =
      step_trace s r.0 c N r.1 r.2 ∙ reach_trace n r.0 t (c + 1) k r.3 N C (omega arith) (omega arith)

  -- too few clocks for the next mark show nothing
  short_trace : (n : ℕ) (s t : State) (c N : ℕ) → Reaches netlist image s n t → N < n → trace_of store netlist image s c N ≡ Shows []
  short_trace zero s t c N r p = absurd (omega arith)
  short_trace (suc n) s t c zero r p = rw r.1 refl
  short_trace (suc n) s t c (suc N) r p = step_trace s r.0 c N r.1 r.2 ∙ short_trace n r.0 t (c + 1) N r.3 (omega arith)

  end_trace : (t : State) (c k : ℕ) (cells : List ℕ) → label_in netlist image t ≡ Some End → store t ≡ cells → trace_of store netlist image t c k ≡ Shows (record { cycle = c; passed = record { label = End; cells = cells } } ∷ [])
  end_trace t c zero cells e s = rw (e, s) refl
  end_trace t c (suc k) cells e s = rw (e, s) refl

  last_trace : (t : State) (c tree : ℕ) (cells : List ℕ) → label_in netlist image t ≡ Some (At tree) → store t ≡ cells → trace_of store netlist image t c 0 ≡ Shows (record { cycle = c; passed = record { label = At tree; cells = cells } } ∷ [])
  last_trace t c tree cells e s = rw (e, s) refl

  test_trace : (t u : State) (c tree k : ℕ) (cells : List ℕ) (es : List TraceEntry) → label_in netlist image t ≡ Some (At tree) → store t ≡ cells → clock netlist (words_of image) t ≡ Next u →
      trace_of store netlist image u (c + 1) k ≡ Shows es → trace_of store netlist image t c (suc k) ≡ Shows (record { cycle = c; passed = record { label = At tree; cells = cells } } ∷ es)
  test_trace t u c tree k cells es e s clk later = rw (e, s, clk, later) refl

  pub enough_later : (k tree : ℕ) (cells : List ℕ) (ps : List Passed) → Enough (suc k) (record { label = At tree; cells = cells } ∷ ps) → Enough k ps
  enough_later k tree cells ps (inl lt) = inl (omega arith)
  enough_later k tree cells ps (inr e) = inr e

  pub enough_less : (n k : ℕ) (ps : List Passed) → k ≤ n → Enough n ps → Enough k ps
  enough_less n k ps le (inl lt) = inl (omega arith)
  enough_less n k ps le (inr e) = inr e

  agrees_at : (l d e stop stop' : ℕ) (ps : List Passed) (es : List TraceEntry) → d ≡ e → stop ≡ stop' → Agrees l d stop ps es → Agrees l e stop' ps es
  agrees_at l d e stop stop' ps es p q a = subst (λ (x : ℕ). Agrees l x stop' ps es) p (subst (λ (x : ℕ). Agrees l d x ps es) q a)

  module _ (good : State → Type 0) (l : ℕ) where
    -- the trace from a mark on
    pub record ToldAt (t : State) (c k deadline : ℕ) (ps : List Passed) : Type 0 where
      pub entries : List TraceEntry
      pub traced : trace_of store netlist image t c k ≡ Shows entries
      pub agrees : Agrees l deadline (c + k) ps entries

    told_at : (label : Checkpoint) (cells : List ℕ) (ps : List Passed) (t : State) (c k deadline : ℕ) → label_in netlist image t ≡ Some label → store t ≡ cells → c ≤ deadline →
        Then label ps ((u : State) × (clock netlist (words_of image) t ≡ Next u) × FollowsBy store netlist image good l l u ps) → Enough k (record { label = label; cells = cells } ∷ ps) →
        ((u : State) (c n : ℕ) → FollowsBy store netlist image good l l u ps → Enough n ps → Told store netlist image l l u c n ps) → ToldAt t c k deadline (record { label = label; cells = cells } ∷ ps)
    told_at End cells ps t c k deadline e s le then enough ih = record {
      entries = record { cycle = c; passed = record { label = End; cells = cells } } ∷ [];
      traced = end_trace t c k cells e s;
      agrees = (refl, le, (then, refl));
    }
    told_at (At tree) cells ps t c zero deadline e s le then enough ih = record {
      entries = record { cycle = c; passed = record { label = At tree; cells = cells } } ∷ [];
      traced = last_trace t c tree cells e s;
      agrees = (refl, le, stops ps);
    }
      where
        stops : (ps : List Passed) → Agrees l (c + (l + 1)) (c + 0) ps []
        stops [] = omega arith
        stops (p ∷ ps) = omega arith
    told_at (At tree) cells ps t c (suc k) deadline e s le then enough ih =
        let h : Told store netlist image l l then.0 (c + 1) k ps = ih then.0 (c + 1) k then.2 (enough_later k tree cells ps enough) in
        record {
          entries = record { cycle = c; passed = record { label = At tree; cells = cells } } ∷ h.entries;
          traced = test_trace t then.0 c tree k cells h.entries e s then.1 h.traced;
          agrees = (refl, le, agrees_at l (c + 1 + l) (c + (l + 1)) (c + 1 + k) (c + suc k) ps h.entries (omega arith) (omega arith) h.agrees);
        }

    told_from : (p : Passed) (ps : List Passed) (d : ℕ) (s : State) (c n : ℕ) → (f : FollowsBy store netlist image good l d s (p ∷ ps)) → Enough n (p ∷ ps) →
        ((u : State) (c n : ℕ) → FollowsBy store netlist image good l l u ps → Enough n ps → Told store netlist image l l u c n ps) → (n < f.0) ⊎ (f.0 ≤ n) → Told store netlist image l d s c n (p ∷ ps)
    told_from p ps d s c n f enough ih (inl lt) = record {
      entries = [];
      traced = short_trace f.0 s f.1 c n f.3 lt;
      agrees = let le : f.0 ≤ d = f.2 in omega arith;
    }
    told_from p ps d s c n f enough ih (inr ge) =
        let le : f.0 ≤ d = f.2 in
        let split : n ≡ f.0 + (n - f.0) = omega arith in
        let h : ToldAt f.1 (c + f.0) (n - f.0) (c + d) (p ∷ ps) =
        told_at p.label p.cells ps f.1 (c + f.0) (n - f.0) (c + d) f.4 f.5 (omega arith) f.7 (enough_less n (n - f.0) (p ∷ ps) (omega arith) enough) ih in
        record {
          entries = h.entries;
          traced = reach_trace f.0 s f.1 c (n - f.0) f.3 n (c + f.0) split refl ∙ h.traced;
          agrees = agrees_at l (c + d) (c + d) (c + f.0 + (n - f.0)) (c + n) (p ∷ ps) h.entries refl (omega arith) h.agrees;
        }

    -- where checkpoints follow, the trace shows as many of them as its clocks allow
    pub told : (ps : List Passed) (d : ℕ) (s : State) (c n : ℕ) → FollowsBy store netlist image good l d s ps → Enough n ps → Told store netlist image l d s c n ps
    told [] d s c n f (inl lt) = absurd (omega arith)
    told [] d s c n f (inr e) = absurd (cc)
    told (p ∷ ps) d s c n f enough = told_from p ps d s c n f enough (λ u c n. told ps l u c n) (cases_lt n f.0)

-- ---- what the entries say

cons_same : {x y : Passed} {xs ys : List Passed} → x ≡ y → xs ≡ ys → x ∷ xs ≡ y ∷ ys
cons_same h k = cc

paced_on : (cycle deadline stop m l : ℕ) → cycle ≤ deadline → deadline + suc m * (l + 1) ≤ stop + (l + 1) → cycle + (l + 1) + m * (l + 1) ≤ stop + (l + 1)
paced_on cycle deadline stop m l p q = grind arith

no_time : (deadline stop m l : ℕ) → stop < deadline → deadline + suc m * (l + 1) ≤ stop + (l + 1) → ⊥
no_time deadline stop m l p q = grind arith

first_later : (m : ℕ) (label : Checkpoint) (ps : List Passed) (es : List TraceEntry) (Later : Type 0) → (Later → take m (passed_of es) ≡ take m ps) → AgreesThen label ps es Later → take m (passed_of es) ≡ take m ps
first_later m (At tree) ps es Later ih h = ih h
first_later m End ps es Later ih h = rw (h.0, h.1) refl

-- as many entries as whole deadlines lie before the trace's stop are the first checkpoints
pub first_agree : (l m : ℕ) (deadline stop : ℕ) (ps : List Passed) (es : List TraceEntry) → deadline + m * (l + 1) ≤ stop + (l + 1) → Agrees l deadline stop ps es → take m (passed_of es) ≡ take m ps
first_agree l zero deadline stop ps es le a = refl
first_agree l (suc m) deadline stop [] [] le a = refl
first_agree l (suc m) deadline stop (p ∷ ps) [] le a = absurd (no_time deadline stop m l a le)
first_agree l (suc m) deadline stop [] (e ∷ es) le a = absurd a
first_agree l (suc m) deadline stop (p ∷ ps) (e ∷ es) le a =
    cons_same (a.0) (first_later m p.label ps es _ (λ h. first_agree l m (e.cycle + (l + 1)) stop ps es (paced_on e.cycle deadline stop m l a.1 le) h) a.2)

paced_later : (l deadline : ℕ) (label : Checkpoint) (ps : List Passed) (es : List TraceEntry) (Later : Type 0) → (Later → IsPaced (l + 1) deadline es) → AgreesThen label ps es Later → IsPaced (l + 1) deadline es
paced_later l deadline (At tree) ps es Later ih h = ih h
paced_later l deadline End ps es Later ih h = subst (λ (xs : List TraceEntry). IsPaced (l + 1) deadline xs) (sym h.1) tt

-- entries that agree come in time
pub paced_agree : (l : ℕ) (deadline stop : ℕ) (ps : List Passed) (es : List TraceEntry) → Agrees l deadline stop ps es → IsPaced (l + 1) deadline es
paced_agree l deadline stop ps [] a = tt
paced_agree l deadline stop [] (e ∷ es) a = absurd a
paced_agree l deadline stop (p ∷ ps) (e ∷ es) a =
    (a.1, paced_later l (e.cycle + (l + 1)) p.label ps es _ (λ h. paced_agree l (e.cycle + (l + 1)) stop ps es h) a.2)
