-- A trace that is shown has no clash before its end.
use Rattle.std.proofs.Common.{ℕ, zero, suc, ◌≡◌, ◌+◌, ◌⊎◌, inl, inr, List, Option, Some, None, refl, arith}
use Rattle.net_model.specs.declared.hardware.Netlist.{Netlist}
use Rattle.net_model.specs.declared.states.State.{State}
use Rattle.net_model.specs.Clock.{clock, Outcome, Next, Clash}
use Rattle.src_model.specs.declared.checkpoint.Checkpoint.{Checkpoint}
use Rattle.src_model.specs.declared.checkpoint.Checkpoint.TheVariants.{At, End}
use Rattle.code_model.specs.declared.image.Image.{Image}
use Rattle.code_model.specs.Places.{words_of}
use Rattle.code_model.specs.Machine.{TraceEntry, Traced, Shows, Clashes, after_clock, before, label_in, mtrace, with_checkpoint, store_in}
use Rattle.make_command.specs.Stops.{IsAtEnd, RunsOn, StopsAt}

-- what is shown behind a checkpoint
record IsShown (trace : Traced) : Type 0 where
  entries : List TraceEntry
  shows : trace ≡ Shows entries

behind : (entry : TraceEntry) (later : Traced) (es : List TraceEntry) → before entry later ≡ Shows es → IsShown later
behind entry (Shows entries) es e = record { entries = entries; shows = refl }
behind entry Clashes es e = absurd (cc)

-- the end, or what comes later is shown
at_label : (o : Option Checkpoint) (cycle : ℕ) (cells : List ℕ) (later : Traced) (es : List TraceEntry) → with_checkpoint o cycle cells later ≡ Shows es → (o ≡ Some End) ⊎ IsShown later
at_label None cycle cells later es e = inr (record { entries = es; shows = e })
at_label (Some (At tree)) cycle cells later es e = inr (behind _ later es e)
at_label (Some End) cycle cells later es e = inl refl

module _ (netlist : Netlist) (image : Image) where
  record Leads (s : State) (later : State → Traced) : Type 0 where
    next : State
    clocked : clock netlist (words_of image) s ≡ Next next
    shown : IsShown (later next)

  leads : (s : State) (later : State → Traced) (o : Outcome) → clock netlist (words_of image) s ≡ o → IsShown (after_clock later o) → Leads s later
  leads s later (Next t) is h = record { next = t; clocked = is; shown = h }
  leads s later (Clash bus) is h = absurd (let e = h.shows in cc)

  pub shown_runs : (n k N : ℕ) (s : State) (cycle : ℕ) (es : List TraceEntry) → N ≡ n + k → mtrace netlist image s cycle N ≡ Shows es → RunsOn netlist (words_of image) (IsAtEnd netlist image) n s
  unfolding RunsOn
  shown_runs zero k N s cycle es e p = tt
  shown_runs (suc n) k zero s cycle es e p = absurd (omega arith)
  shown_runs (suc n) k (suc N) s cycle es e p =
      by_label (λ t es q. shown_runs n k N t (cycle + 1) es (omega arith) q) (at_label (label_in netlist image s) cycle (store_in image s) _ es p)
    where
      by_label : ((t : State) (es : List TraceEntry) → mtrace netlist image t (cycle + 1) N ≡ Shows es → RunsOn netlist (words_of image) (IsAtEnd netlist image) n t) →
          (label_in netlist image s ≡ Some End) ⊎ IsShown (after_clock (λ (t : State). mtrace netlist image t (cycle + 1) N) (clock netlist (words_of image) s)) → RunsOn netlist (words_of image) (IsAtEnd netlist image) (suc n) s
      by_label ih (inl is) = inl is
      by_label ih (inr shown) =
          let l : Leads s (λ (t : State). mtrace netlist image t (cycle + 1) N) = leads s _ (clock netlist (words_of image) s) refl shown in
          inr (l.next, l.clocked, ih l.next l.shown.entries l.shown.shows)

-- ---- another kind of state, which is the same

module _ (netlist : Netlist) (words : List ℕ) (Is Does : State → Type 0) where
  pub runs_likewise : ((s : State) → Is s → Does s) → (n : ℕ) (s : State) → RunsOn netlist words Is n s → RunsOn netlist words Does n s
  unfolding RunsOn
  runs_likewise f zero s h = tt
  runs_likewise f (suc n) s (inl is) = inl (f s is)
  runs_likewise f (suc n) s (inr on) = inr (on.0, on.1, runs_likewise f n on.0 on.2)

  pub stops_likewise : ((s : State) → Is s → Does s) → ((s : State) → Does s → Is s) → (start : State) (most clocks : ℕ) (last : State) → StopsAt netlist words Is start most clocks last → StopsAt netlist words Does start most clocks last
  stops_likewise f g start most clocks last h = record {
    within = h.within;
    reached = h.reached;
    before = λ k s lt r does. h.before k s lt r (g s does);
    stops = either h.stops;
  }
    where
      either : Is last ⊎ (clocks ≡ most) → Does last ⊎ (clocks ≡ most)
      either (inl is) = inl (f last is)
      either (inr e) = inr e
