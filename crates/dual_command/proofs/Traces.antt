-- A right trace of the view is one of its netlist.
use Rattle.std.proofs.Common.{◌≡◌, ℕ, zero, suc, ◌+◌, ◌*◌, ◌≤◌, ◌⊎◌, List, [], length, slice_get, slice_index, Option, Some, None, refl, ap, sym, ◌∙◌, subst, arith, inl, inr}
use Rattle.std.proofs.lemmas.Nat.{mul-le}
use Rattle.net_model.specs.declared.hardware.Gate.{Gate}
use Rattle.net_model.specs.declared.hardware.Gate.TheVariants.{Word, Reg, Read, Const, Wire, Un, Bin, Slice, Cat, Zext, Sext, Case, Bus}
use Rattle.net_model.specs.declared.hardware.Net.{Net}
use Rattle.net_model.specs.declared.hardware.Netlist.{Netlist}
use Rattle.net_model.specs.declared.states.State.{State}
use Rattle.net_model.specs.Clock.{Outcome, Next, Clash, Reached, clash_in, clock, outcome_of, run, run_from, step, then_run, word_at}
use Rattle.net_model.specs.Order.{IsOrder}
use Rattle.net_model.specs.Value.{gate_value, net_value, value_of, value_within}
use Rattle.net_model.specs.Widths.{IsState, WordFits}
use Rattle.net_model.proofs.Bases.{state_in}
use Rattle.src_model.specs.declared.checkpoint.Checkpoint.{Checkpoint}
use Rattle.src_model.specs.declared.checkpoint.Checkpoint.TheVariants.{At, End}
use Rattle.src_model.specs.Ways.{Passed}
use Rattle.code_model.specs.declared.image.Image.{Image}
use Rattle.code_model.specs.Places.{label_at, words_of}
use Rattle.code_model.specs.Machine.{Clashes, IsCalm, Shows, TraceEntry, Traced, after_clock, before, label_in, store_in, trace_of, with_checkpoint}
use Rattle.code_model.specs.Right.{ShowsBy, StaysBy, TracesBy, TracesRight}
use Rattle.bank_view.specs.Keeping.{KeepsBanks}
use Rattle.bank_view.specs.Views.{join_state, view_of}
use Rattle.bank_view.proofs.Beside.{banks_of, beside_of}
use Rattle.bank_view.proofs.Clocked.{goes}
use Rattle.bank_view.proofs.Kept.{same_counter}
use Rattle.bank_view.proofs.Starts.{join_is_state, word_same}
use Rattle.dual_command.specs.RightDual.{both_in, unmoded}

-- ---- clocks don't see what is special

module _ (d : Netlist) (s : State) (word : ℕ) where
  gate_same : (v : ℕ → ℕ) (width : ℕ) (gate : Gate) → gate_value v (unmoded d) s word width gate ≡ gate_value v d s word width gate
  gate_same v width (Word code) = refl
  gate_same v width (Reg id) = refl
  gate_same v width (Read memory addr) = refl
  gate_same v width (Const c) = refl
  gate_same v width (Wire a) = refl
  gate_same v width (Un op a) = refl
  gate_same v width (Bin op a b) = refl
  gate_same v width (Slice of hi lo) = refl
  gate_same v width (Cat a b) = refl
  gate_same v width (Zext a) = refl
  gate_same v width (Sext a) = refl
  gate_same v width (Case sel rows rest) = refl
  gate_same v width (Bus drivers) = refl

  net_same : (v : ℕ → ℕ) (o : Option Net) → net_value v (unmoded d) s word o ≡ net_value v d s word o
  net_same v None = refl
  net_same v (Some net) = gate_same v net.width net.gate

  within_same : (k : ℕ) → value_within k (unmoded d) s word ≡ value_within k d s word
  within_same zero = refl
  within_same (suc k) =
      let values : (n : ℕ) → value_within (suc k) (unmoded d) s word n ≡ value_within (suc k) d s word n =
      λ n. net_same (value_within k (unmoded d) s word) (slice_get d.nets n) ∙ ap (λ (v : ℕ → ℕ). net_value v d s word (slice_get d.nets n)) (within_same k) in
      λ i n. values n i

  outcome_same : (v : ℕ → ℕ) (o : Option ℕ) → outcome_of v (unmoded d) s o ≡ outcome_of v d s o
  outcome_same v None = refl
  outcome_same v (Some bus) = refl

  step_same : step (unmoded d) s word ≡ step d s word
  step_same =
      ap (λ (v : ℕ → ℕ). outcome_of v (unmoded d) s (clash_in v d.nets)) (within_same (length d.nets))
      ∙ outcome_same (value_of d s word) (clash_in (value_of d s word) d.nets)

pub clock_same : (d : Netlist) (words : List ℕ) (s : State) → clock (unmoded d) words s ≡ clock d words s
clock_same d words s = step_same d s (word_at d words s)

-- ---- runs of any netlist

module _ (netlist : Netlist) (words : List ℕ) where
  -- a run that reaches a state from some cycle on does so from any
  any_cycle : (n c e : ℕ) (s t : State) → run_from c netlist words s n ≡ Reached t → run_from e netlist words s n ≡ Reached t
  any_cycle zero c e s t r = r
  any_cycle (suc n) c e s t r = by (clock netlist words s) (λ u q. any_cycle n (c + 1) (e + 1) u t q) r
    where
      by : (o : Outcome) → ((u : State) → run_from (c + 1) netlist words u n ≡ Reached t → run_from (e + 1) netlist words u n ≡ Reached t) → then_run c (λ (u : State). run_from (c + 1) netlist words u n) o ≡ Reached t → then_run e (λ (u : State). run_from (e + 1) netlist words u n) o ≡ Reached t
      by (Next u) later q = later u q
      by (Clash bus) later q = absurd (cc)

  -- runs one after the other
  then_runs : (n m k c : ℕ) (s t u : State) → k ≡ n + m → run_from c netlist words s n ≡ Reached t → run_from c netlist words t m ≡ Reached u → run_from c netlist words s k ≡ Reached u
  then_runs zero m k c s t u e r q =
      let same : m ≡ k = omega (arith, e) in
      let here : t ≡ s = cc in
      subst (λ (x : State). run_from c netlist words x k ≡ Reached u) here (subst (λ (x : ℕ). run_from c netlist words t x ≡ Reached u) same q)
  then_runs (suc n) m zero c s t u e r q = absurd (omega (arith, e))
  then_runs (suc n) m (suc k) c s t u e r q =
      by (clock netlist words s) (λ x p. then_runs n m k (c + 1) x t u (omega (arith, e)) p (any_cycle m c (c + 1) t u q)) r
    where
      by : (o : Outcome) → ((x : State) → run_from (c + 1) netlist words x n ≡ Reached t → run_from (c + 1) netlist words x k ≡ Reached u) → then_run c (λ (x : State). run_from (c + 1) netlist words x n) o ≡ Reached t → then_run c (λ (x : State). run_from (c + 1) netlist words x k) o ≡ Reached u
      by (Next x) later p = later x p
      by (Clash bus) later p = absurd (cc)

-- so many clocks don't clash, or an end mark is reached by then
pub record GoesOn (netlist : Netlist) (image : Image) (s : State) (n : ℕ) : Type 0 where
  pub clocks : ℕ
  pub rest : ℕ
  pub last : State
  pub runs : run_from 0 netlist (words_of image) s clocks ≡ Reached last
  pub all : n ≡ clocks + rest
  pub ends : (rest ≡ 0) ⊎ (label_in netlist image last ≡ Some End)

module _ (store : State → List ℕ) (netlist : Netlist) (image : Image) where
  goes_further : (s t : State) (n : ℕ) → clock netlist (words_of image) s ≡ Next t → GoesOn netlist image t n → GoesOn netlist image s (suc n)
  goes_further s t n e g = record {
    clocks = suc g.clocks;
    rest = g.rest;
    last = g.last;
    runs = ap (then_run 0 (λ (u : State). run_from 1 netlist (words_of image) u g.clocks)) e ∙ any_cycle netlist (words_of image) g.clocks 0 1 t g.last g.runs;
    all = omega (arith, g.all);
    ends = g.ends;
  }

  abbrev Further : (n more c : ℕ) → Type 0
  Further n more c = (t : State) (rest : List TraceEntry) → trace_of store netlist image t c more ≡ Shows rest → GoesOn netlist image t n

  -- a trace of at least so many clocks without a clash tells of them
  goes_on : (n more c : ℕ) (s : State) (entries : List TraceEntry) → n ≤ more → trace_of store netlist image s c more ≡ Shows entries → GoesOn netlist image s n
  goes_on zero more c s entries le e = record { clocks = 0; rest = 0; last = s; runs = refl; all = refl; ends = inl refl }
  goes_on (suc n) zero c s entries le e = absurd (omega (arith, le))
  goes_on (suc n) (suc more) c s entries le e =
      by (label_in netlist image s) refl (clock netlist (words_of image) s) refl (λ t rest q. goes_on n more (c + 1) t rest (omega (arith, le)) q) e
    where
      later : State → Traced
      later t = trace_of store netlist image t (c + 1) more

      next : (o : Outcome) → clock netlist (words_of image) s ≡ o → Further n more (c + 1) → (rest : List TraceEntry) → after_clock later o ≡ Shows rest → GoesOn netlist image s (suc n)
      next (Next t) f go rest q = goes_further s t n f (go t rest q)
      next (Clash bus) f go rest q = absurd (cc)

      tail : (entry : TraceEntry) (x : Traced) → before entry x ≡ Shows entries → (rest : List TraceEntry) × (x ≡ Shows rest)
      tail entry (Shows rest) q = (rest, refl)
      tail entry Clashes q = absurd (cc)

      by : (label : Option Checkpoint) → label_in netlist image s ≡ label → (o : Outcome) → clock netlist (words_of image) s ≡ o → Further n more (c + 1) → with_checkpoint label c (store s) (after_clock later o) ≡ Shows entries → GoesOn netlist image s (suc n)
      by None l o f go q = next o f go entries q
      by (Some End) l o f go q = record { clocks = 0; rest = suc n; last = s; runs = refl; all = omega arith; ends = inr l }
      by (Some (At tree)) l o f go q = let r = tail (record { cycle = c; passed = record { label = At tree; cells = store s } }) (after_clock later o) q in next o f go r.0 r.1

  -- where the trace is right, no clock clashes
  pub never_clashes : (trace : List ℕ → ℕ → List Passed) → TracesBy store netlist image trace → 1 ≤ length (words_of image) → (s : State) → IsCalm netlist 0 s → (n : ℕ) → (t : State) × (run netlist (words_of image) s n ≡ Reached t)
  never_clashes trace right some s calm n = by (goes_on n (n * length (words_of image)) 0 s shown.entries enough shown.traced)
    where
      shown : ShowsBy store netlist image trace s n
      shown = right.shows s calm n

      enough : n ≤ n * length (words_of image)
      enough = omega (arith, mul-le n 1 n (length (words_of image)) (omega arith) some)

      by : GoesOn netlist image s n → (t : State) × (run netlist (words_of image) s n ≡ Reached t)
      by g = elim g.ends [
        | inl none ↦ (g.last, subst (λ (x : ℕ). run netlist (words_of image) s x ≡ Reached g.last) (omega (arith, none, g.all)) g.runs)
        | inr end ↦
            let stay : StaysBy store netlist image g.last g.rest = right.stays s g.last calm g.clocks g.runs end g.rest in
            (stay.last, then_runs netlist (words_of image) g.clocks g.rest n 0 s g.last stay.last g.all g.runs stay.runs)
      ]

-- ---- from the view to its netlist

module _ (d : Netlist) (order : List ℕ) (k : KeepsBanks d order) (places : List ℕ) (vo : IsOrder (view_of d) places) (image : Image)
    (fits : (a : ℕ) → WordFits (view_of d) (slice_index (words_of image) a)) where
  -- a clock of the view that doesn't clash is one of the netlist
  clocked : (s u : State) → IsState d s → clock (view_of d) (words_of image) (join_state d s) ≡ Next u → (t : State) × (clock (unmoded d) (words_of image) s ≡ Next t) × (u ≡ join_state d t) × IsState d t
  clocked s u is e =
      let g = goes d order k places vo (words_of image) (λ a. word_same d (slice_index (words_of image) a) (fits a)) s u is e in
      (g.0, clock_same d (words_of image) s ∙ g.1, g.2, g.3)

  -- many that don't clash are so many of the netlist
  follows : (n c : ℕ) (s u : State) → IsState d s → run_from c (view_of d) (words_of image) (join_state d s) n ≡ Reached u → (t : State) × (run_from c (unmoded d) (words_of image) s n ≡ Reached t) × (u ≡ join_state d t) × IsState d t
  follows zero c s u is r = (s, refl, cc, is)
  follows (suc n) c s u is r = by (clock (view_of d) (words_of image) (join_state d s)) refl (λ t fit q. follows n (c + 1) t u fit q) r
    where
      by : (o : Outcome) → clock (view_of d) (words_of image) (join_state d s) ≡ o
          → ((t : State) → IsState d t → run_from (c + 1) (view_of d) (words_of image) (join_state d t) n ≡ Reached u → (v : State) × (run_from (c + 1) (unmoded d) (words_of image) t n ≡ Reached v) × (u ≡ join_state d v) × IsState d v)
          → then_run c (λ (x : State). run_from (c + 1) (view_of d) (words_of image) x n) o ≡ Reached u
          → (t : State) × (run_from c (unmoded d) (words_of image) s (suc n) ≡ Reached t) × (u ≡ join_state d t) × IsState d t
      by (Clash bus) e later q = absurd (cc)
      by (Next x) e later q =
          let g = clocked s x is e in
          let f = later g.0 g.3 (subst (λ (y : State). run_from (c + 1) (view_of d) (words_of image) y n ≡ Reached u) g.2 q) in
          (f.0, ap (then_run c (λ (y : State). run_from (c + 1) (unmoded d) (words_of image) y n)) g.1 ∙ f.1, f.2, f.3)

  tail_of : (label : Option Checkpoint) (cycle : ℕ) (cells : List ℕ) (entries : List TraceEntry) (x y : Traced) → ((rest : List TraceEntry) → x ≡ Shows rest → y ≡ Shows rest) → with_checkpoint label cycle cells x ≡ Shows entries → with_checkpoint label cycle cells y ≡ Shows entries
  tail_of None cycle cells entries x y f e = f entries e
  tail_of (Some End) cycle cells entries x y f e = e
  tail_of (Some (At tree)) cycle cells entries (Shows rest) y f e = ap (before (record { cycle = cycle; passed = record { label = At tree; cells = cells } })) (f rest refl) ∙ e
  tail_of (Some (At tree)) cycle cells entries Clashes y f e = absurd (cc)

  -- what the view shows, the netlist shows
  transferred : (n cycle : ℕ) (s : State) (entries : List TraceEntry) → IsState d s → trace_of (store_in image) (view_of d) image (join_state d s) cycle n ≡ Shows entries → trace_of (both_in image) (unmoded d) image s cycle n ≡ Shows entries
  transferred zero cycle s entries is e =
      ap (λ c. with_checkpoint (label_at image.marks c) cycle (both_in image s) (Shows [])) (sym (same_counter d (banks_of d order k) s)) ∙ e
  transferred (suc n) cycle s entries is e =
      ap (λ c. with_checkpoint (label_at image.marks c) cycle (both_in image s) (after_clock below (clock (unmoded d) (words_of image) s))) (sym (same_counter d (banks_of d order k) s))
      ∙ tail_of (label_in (view_of d) image (join_state d s)) cycle (both_in image s) entries
      (after_clock above (clock (view_of d) (words_of image) (join_state d s)))
      (after_clock below (clock (unmoded d) (words_of image) s))
      (λ rest q. later rest (clock (view_of d) (words_of image) (join_state d s)) refl q (λ t r. transferred n (cycle + 1) t rest r))
      e
    where
      above : State → Traced
      above t = trace_of (store_in image) (view_of d) image t (cycle + 1) n

      below : State → Traced
      below t = trace_of (both_in image) (unmoded d) image t (cycle + 1) n

      later : (rest : List TraceEntry) (o : Outcome) → clock (view_of d) (words_of image) (join_state d s) ≡ o → after_clock above o ≡ Shows rest → ((t : State) → IsState d t → above (join_state d t) ≡ Shows rest → below t ≡ Shows rest) → after_clock below (clock (unmoded d) (words_of image) s) ≡ Shows rest
      later rest (Clash bus) f q go = absurd (cc)
      later rest (Next u) f q go =
          let g = clocked s u is f in
          ap (after_clock below) g.1 ∙ go g.0 g.3 (ap above (sym g.2) ∙ q)

  -- ---- the law

  join_is_calm : (s : State) → IsCalm (unmoded d) 0 s → IsCalm (view_of d) 0 (join_state d s)
  join_is_calm s calm = record {
    here = record {
      state = join_is_state d (beside_of d (banks_of d order k)) s (state_in (unmoded d) d s refl calm.here.state);
      counter = same_counter d (banks_of d order k) s ∙ calm.here.counter;
    };
    mode = refl;
  }

  same_reached : (words : List ℕ) (s t u : State) (n : ℕ) → run (unmoded d) words s n ≡ Reached t → run (unmoded d) words s n ≡ Reached u → u ≡ t
  same_reached words s t u n r q = let e : Reached u ≡ Reached t = sym q ∙ r in cc

  module _ (trace : List ℕ → ℕ → List Passed) (right : TracesRight (view_of d) image trace) (some : 1 ≤ length (words_of image)) where
    -- what a run from a start reaches is what the view reaches there, joined
    pub record AreJoined (s t : State) (n : ℕ) : Type 0 where
      pub runs : run (view_of d) (words_of image) (join_state d s) n ≡ Reached (join_state d t)
      pub state : IsState d t

    joined_at : (s t : State) → IsCalm (unmoded d) 0 s → (n : ℕ) → run (unmoded d) (words_of image) s n ≡ Reached t → AreJoined s t n
    joined_at s t calm n r =
        let v = never_clashes (store_in image) (view_of d) image trace right some (join_state d s) (join_is_calm s calm) n in
        let f = follows n 0 s v.0 (state_in (unmoded d) d s refl calm.here.state) v.1 in
        let e : f.0 ≡ t = same_reached (words_of image) s t f.0 n r f.1 in
        record { runs = v.1 ∙ ap Reached (f.2 ∙ ap (join_state d) e); state = subst (IsState d) e f.3 }

    pub traces_right : TracesBy (both_in image) (unmoded d) image trace
    traces_right = record {
      shows = λ s calm m.
          let r = right.shows (join_state d s) (join_is_calm s calm) m in
          record {
            entries = r.entries;
            traced = transferred (m * length (words_of image)) 0 s r.entries (state_in (unmoded d) d s refl calm.here.state) r.traced;
            passed = r.passed;
            paced = r.paced;
          };
      calm = λ s t calm n r label e. record { state = state_in d (unmoded d) t refl (joined_at s t calm n r).state; mode = refl };
      stays = λ s t calm n r e m.
          let j = joined_at s t calm n r in
          let v : StaysBy (store_in image) (view_of d) image (join_state d t) m =
          right.stays (join_state d s) (join_state d t) (join_is_calm s calm) n j.runs (ap (label_at image.marks) (same_counter d (banks_of d order k) t) ∙ e) m in
          let f = follows m 0 t v.last j.state v.runs in
          record { last = f.0; runs = f.1; same = ap (store_in image) (sym f.2) ∙ v.same; mode = refl };
    }
