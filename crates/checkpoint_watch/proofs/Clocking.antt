-- What is left of a trace's text where a state is looked at, and after a clock.
use Rattle.std.proofs.Common.{◌≡◌, ℕ, zero, suc, ◌+◌, Bool, true, false, List, [], ◌++◌, Result, Ok, Err, refl, sym, ap, ◌∙◌, subst, arith}
use Rattle.std.proofs.lemmas.List.{append-nil}
use Rattle.std.specs.Prelude.{IsErr}
use Rattle.net_model.specs.declared.hardware.Netlist.{Netlist}
use Rattle.net_model.specs.declared.states.State.{State}
use Rattle.net_model.specs.Clock.{clock, Next}
use Rattle.src_model.specs.declared.program.Var.{Var as Declared}
use Rattle.code_model.specs.declared.image.Image.{Image}
use Rattle.code_model.specs.Places.{words_of}
use Rattle.code_model.specs.Machine.{Traced, Shows, after_clock, label_in, mtrace, with_checkpoint, store_in}
use Rattle.rec_io.specs.Sink.{SinkState}
use Rattle.checkpoint_watch.specs.Puts.{Puts}
use Rattle.checkpoint_watch.specs.Inner.Scenes.{IsScene}
use Rattle.checkpoint_watch.specs.Inner.Traces.{IsNext, IsShown, ends_at, line_at, store_after_line, trace_ends, trace_lines}
use Rattle.checkpoint_watch.proofs.Putting.{IsLeft, goes_last, less_left, puts_failed, puts_ok, stops_there}
use Rattle.checkpoint_watch.proofs.Seeing.{EndsHere, GoesOn, clock_shown, ends_here, goes_on, last_here}

module _ (netlist : Netlist) (image : Image) (vars : List Declared) (last_cells : List ℕ) (s : State) (c : ℕ) where
  abbrev line : List ℕ
  line = line_at vars last_cells (label_in netlist image s) c (store_in image s)

  -- what comes later, where so many clocks are left
  abbrev later : ℕ → Traced
  later zero = Shows []
  later (suc n) = after_clock (λ (t : State). mtrace netlist image t (c + 1) n) (clock netlist (words_of image) s)

  trace_is : (n : ℕ) → mtrace netlist image s c n ≡ with_checkpoint (label_in netlist image s) c (store_in image s) (later n)
  trace_is zero = refl
  trace_is (suc n) = refl

  -- the state's line comes first
  record StartsHere (n : ℕ) : Type 0 where
    more : List ℕ
    lines : trace_lines vars last_cells (mtrace netlist image s c n) ≡ line ++ more

  starts_here : (n : ℕ) → IsShown (mtrace netlist image s c n) → StartsHere n
  starts_here n shown = by (ends_at (label_in netlist image s)) refl
    where
      by : (b : Bool) → ends_at (label_in netlist image s) ≡ b → StartsHere n
      by true e =
          let h : EndsHere vars last_cells (label_in netlist image s) c (store_in image s) (with_checkpoint (label_in netlist image s) c (store_in image s) (later n)) true = ends_here vars last_cells (label_in netlist image s) c (store_in image s) (later n) e in
          record { more = []; lines = ap (trace_lines vars last_cells) (trace_is n) ∙ h.lines ∙ sym (append-nil line) }
      by false e =
          let h : GoesOn vars last_cells (label_in netlist image s) c (store_in image s) (later n) = goes_on vars last_cells (label_in netlist image s) c (store_in image s) (later n) e (subst IsShown (trace_is n) shown) in
          record { more = trace_lines vars (store_after_line (label_in netlist image s) last_cells (store_in image s)) (later n); lines = ap (trace_lines vars last_cells) (trace_is n) ∙ h.lines }

  module _ (before now next : SinkState) (whole : List ℕ) where
    -- its line was not taken whole
    pub stopped : {T U E F : Type 0} (n : ℕ) (e : E) (r : Result U F) → IsShown (mtrace netlist image s c n) → IsLeft before now (trace_lines vars last_cells (mtrace netlist image s c n)) whole
        → Puts {T = T} {E = E} now next line (Err e) → IsErr r → Puts before next whole r
    stopped {T} {U} {E} {F} n e r shown left puts failed =
        let h : StartsHere n = starts_here n shown in
        puts_failed {T = U} {U = U} {E = E} {F = F} before next whole whole e r failed refl (stops_there {T = T} {U = U} {E = E} {F = E} before now next line h.more _ whole e e left h.lines puts)

    -- it stands at the end mark
    pub ended : {T U E F : Type 0} (n : ℕ) (x : T) (y : U) → ends_at (label_in netlist image s) ≡ true → IsLeft before now (trace_lines vars last_cells (mtrace netlist image s c n)) whole
        → Puts {T = T} {E = E} now next line (Ok x) → Puts {T = U} {E = F} before next whole (Ok y)
    ended n x y e left puts =
        let h : EndsHere vars last_cells (label_in netlist image s) c (store_in image s) (with_checkpoint (label_in netlist image s) c (store_in image s) (later n)) true = ends_here vars last_cells (label_in netlist image s) c (store_in image s) (later n) e in
        puts_ok before next whole whole x y refl
        (goes_last before now next line whole (Ok x) (subst (λ (xs : List ℕ). IsLeft before now xs whole) (ap (trace_lines vars last_cells) (trace_is n) ∙ h.lines) left) puts)

    -- no clock is left
    pub last : {T E : Type 0} (n at : ℕ) (r : Result T E) → n ≡ 0 → at ≡ c → IsLeft before now (trace_lines vars last_cells (mtrace netlist image s c n)) whole
        → Puts now next (line_at vars last_cells (label_in netlist image s) at (store_in image s)) r → Puts before next whole r
    last n at r none here left puts =
        let h : EndsHere vars last_cells (label_in netlist image s) c (store_in image s) (with_checkpoint (label_in netlist image s) c (store_in image s) (Shows [])) (ends_at (label_in netlist image s)) = last_here vars last_cells (label_in netlist image s) c (store_in image s) in
        goes_last before now next line whole r (subst (λ (xs : List ℕ). IsLeft before now xs whole) (ap (λ k. trace_lines vars last_cells (mtrace netlist image s c k)) none ∙ h.lines) left)
        (subst (λ (k : ℕ). Puts now next (line_at vars last_cells (label_in netlist image s) k (store_in image s)) r) here puts)

    pub last_stopped : {T U E F : Type 0} (n at : ℕ) (e : E) (r : Result U F) → n ≡ 0 → at ≡ c → IsLeft before now (trace_lines vars last_cells (mtrace netlist image s c n)) whole
        → Puts {T = T} {E = E} now next (line_at vars last_cells (label_in netlist image s) at (store_in image s)) (Err e) → IsErr r → Puts before next whole r
    last_stopped {T} {U} {E} {F} n at e r none here left puts failed = puts_failed {T = T} {U = U} {E = E} {F = F} before next whole whole e r failed refl (last {T = T} {E = E} n at (Err e) none here left puts)

  -- it doesn't stand at the end mark
  module _ (n m : ℕ) (one : n ≡ m + 1) (other : ends_at (label_in netlist image s) ≡ false) (shown : IsShown (mtrace netlist image s c n)) where
    goes : GoesOn vars last_cells (label_in netlist image s) c (store_in image s) (later n)
    goes = goes_on vars last_cells (label_in netlist image s) c (store_in image s) (later n) other (subst IsShown (trace_is n) shown)

    later_is : (k : ℕ) → k ≡ m + 1 → later k ≡ after_clock (λ (t : State). mtrace netlist image t (c + 1) m) (clock netlist (words_of image) s)
    later_is zero e = absurd (omega arith)
    later_is (suc k) e = let f : k ≡ m = omega arith in ap (λ i. after_clock (λ (t : State). mtrace netlist image t (c + 1) i) (clock netlist (words_of image) s)) f

    pub clocks_on : (words : List ℕ) → words ≡ words_of image → IsNext (clock netlist words s)
    clocks_on words e =
        subst (λ (ws : List ℕ). IsNext (clock netlist ws s)) (sym e)
        (clock_shown (λ (t : State). mtrace netlist image t (c + 1) m) (clock netlist (words_of image) s) (subst IsShown (later_is n one) goes.shown))

    -- from the next state on, where the netlist and the variables are the same and the store is
    -- that of the state's line
    module _ (t : State) (words : List ℕ) (same : words ≡ words_of image) (clocked : clock netlist words s ≡ Next t)
        (wired : Netlist) (named : List Declared) (store : List ℕ) (same_netlist : wired ≡ netlist) (same_vars : named ≡ vars) (stored : store ≡ store_after_line (label_in netlist image s) last_cells (store_in image s)) where
      next_is : later n ≡ mtrace wired image t (c + 1) m
      next_is =
          later_is n one
          ∙ ap (after_clock (λ (u : State). mtrace netlist image u (c + 1) m)) (ap (λ (ws : List ℕ). clock netlist ws s) (sym same) ∙ clocked)
          ∙ ap (λ (w : Netlist). mtrace w image t (c + 1) m) (sym same_netlist)

      pub next_shown : IsShown (mtrace wired image t (c + 1) m)
      next_shown = subst IsShown next_is goes.shown

      pub next_ends : trace_ends (mtrace wired image t (c + 1) m) ≡ trace_ends (mtrace netlist image s c n)
      next_ends = sym (ap trace_ends (trace_is n) ∙ goes.ends ∙ ap trace_ends next_is)

      pub next_left : {T E : Type 0} (before now next : SinkState) (whole : List ℕ) (x : T) → IsLeft before now (trace_lines vars last_cells (mtrace netlist image s c n)) whole → Puts {T = T} {E = E} now next line (Ok x)
          → IsLeft before next (trace_lines named store (mtrace wired image t (c + 1) m)) whole
      next_left before now next whole x left puts =
          less_left before now next line _ _ whole x left
          (ap (trace_lines vars last_cells) (trace_is n) ∙ goes.lines
          ∙ ap (λ (tr : Traced). line ++ trace_lines vars (store_after_line (label_in netlist image s) last_cells (store_in image s)) tr) next_is
          ∙ ap (λ (xs : List ℕ). line ++ trace_lines vars xs (mtrace wired image t (c + 1) m)) (sym stored)
          ∙ ap (λ (vs : List Declared). line ++ trace_lines vs store (mtrace wired image t (c + 1) m)) (sym same_vars)) puts

pub same_scene : (netlist wired : Netlist) (image : Image) (vars named : List Declared) (address at : ℕ) → wired ≡ netlist → named ≡ vars → at ≡ address → IsScene netlist image vars address → IsScene wired image named at
same_scene netlist wired image vars named address at e f h scene =
    subst (λ (n : Netlist). IsScene n image named at) (sym e) (subst (λ (vs : List Declared). IsScene netlist image vs at) (sym f) (subst (λ (a : ℕ). IsScene netlist image vars a) (sym h) scene))
