-- A decoded netlist does what the netlist does.
use Rattle.std.proofs.Common.{◌≡◌, ℕ, ◌+◌, ◌<◌, zero, suc, List, [], ◌∷◌, Option, Some, None, length, sym, ◌∙◌, ap, subst, refl, arith, slice_index, slice_get, cond, inl, inr}
use mathlib.Core.Path.{fun_ext}
use Rattle.std.specs.List.{position_from}
use Rattle.std.proofs.lemmas.Iterator.Adapters.{position_from-zero}
use Rattle.std.proofs.lemmas.List.{get_or_past}
use Rattle.std.proofs.lemmas.Option.{slice_get_cases}
use Rattle.net_model.specs.Nets.{array_in}
use Rattle.net_model.specs.declared.hardware.Netlist.{Netlist}
use Rattle.net_model.specs.declared.hardware.Net.{Net}
use Rattle.net_model.specs.declared.hardware.Gate.{Gate}
use Rattle.net_model.specs.declared.hardware.Gate.TheVariants.{Const, Bus}
use Rattle.net_model.specs.declared.hardware.Storage.{Storage}
use Rattle.net_model.specs.declared.hardware.Storage.TheVariants.{Register, Memory, File}
use Rattle.net_model.specs.declared.hardware.Cells.{Cells}
use Rattle.net_model.specs.declared.hardware.Space.{Space}
use Rattle.net_model.specs.declared.hardware.Space.TheVariants.{Memory as InMemory}
use Rattle.net_model.specs.declared.states.State.{State}
use Rattle.net_model.specs.Value.{gate_value, net_value, value_of}
use Rattle.net_model.specs.Clock.{clash_in, enabled_count, gate_clashes, is_enabled, next_cells, next_regs, word_at, written}
use Rattle.net_model.specs.Widths.{IsState, IsTyped, StateFits, WordFits}
use Rattle.net_model.specs.Order.{IsOrder}
use Rattle.net_model.proofs.Orders.{value_is, past_zero}
use Rattle.cycle_sim.specs.declared.edge.BusDrivers.{BusDrivers}
use Rattle.cycle_sim.specs.declared.edge.Port.{Port}
use Rattle.cycle_sim.specs.declared.program.Program.{Program}
use Rattle.cycle_sim.specs.Clocks.{cell_net}
use Rattle.cycle_sim.specs.Inner.Decoding.{buses_from, buses_with, constant_of, constants_of, drivers_by, inlets_from, latches_by, optional, port_by, source_in}
use Rattle.cycle_sim.specs.Inner.Operations.{AreWithin, filled, run_of}
use Rattle.cycle_sim.specs.Inner.Ports.{cell_by, cells_by, port_of, memory_port_width, HasPortWidth}
use Rattle.cycle_sim.specs.Inner.Programs.{clash_by, regs_by, AreSources, RunsAs, HoldsNet, HoldsGate, IsFilled, IsPlain, IsPlainGate, IsProgram, IsRoom, Runs, port_at}
use Rattle.cycle_sim.specs.Inner.Running.{IsRunning}
use Rattle.cycle_sim.proofs.Edges.{words_fit_at}
use Rattle.cycle_sim.proofs.Inlets.{inlets_below, is_filled}
use Rattle.cycle_sim.proofs.Runs.{run_long}

-- ---- buses, registers and memory over places

module _ (v f : ℕ → ℕ) where
  enabled_by : (when : Option ℕ) → is_enabled v (optional f when) ≡ is_enabled (λ m. v (f m)) when
  enabled_by None = refl
  enabled_by (Some when) = refl

  count_by : (drivers : List (ℕ × ℕ)) → enabled_count v (drivers_by f drivers) ≡ enabled_count (λ m. v (f m)) drivers
  count_by [] = refl
  count_by (driver ∷ drivers) = rw (count_by drivers) refl

  clash_with : (gate : Gate) (i : ℕ) (buses : List BusDrivers) (o : Option ℕ) → clash_by v buses ≡ o → clash_by v (buses_with f i gate buses) ≡ cond (gate_clashes (λ m. v (f m)) gate) (Some i) o
  clash_with (Bus drivers) i buses o e = rw (count_by drivers, e) refl
  clash_with gate i buses o e = e

  clashes_from : (i : ℕ) (nets : List Net) → clash_by v (buses_from f i nets) ≡ position_from (λ (net : Net). gate_clashes (λ m. v (f m)) net.gate) i nets
  clashes_from i [] = refl
  clashes_from i (net ∷ nets) = clash_with net.gate i _ _ (clashes_from (i + 1) nets)

  regs_are : (storages : List Storage) (regs : List ℕ) → regs_by v (latches_by f storages) regs ≡ next_regs (λ m. v (f m)) storages regs
  regs_are [] regs = refl
  regs_are (storage ∷ storages) [] = refl
  regs_are (Register name width input when ∷ storages) (old ∷ olds) = rw (enabled_by when, regs_are storages olds) refl
  regs_are (Memory cells ∷ storages) (old ∷ olds) = rw (regs_are storages olds) refl
  regs_are (File cells ∷ storages) (old ∷ olds) = rw (regs_are storages olds) refl

  cells_are : (array : Option Cells) (olds : List ℕ) → cells_by v (port_by f (port_of array)) olds ≡ written (λ m. v (f m)) array olds
  cells_are None olds = refl
  cells_are (Some cells) olds = rw (enabled_by cells.when) refl

  cell_is : (array : Option Cells) (size : ℕ) → cell_by v (port_by f (port_of array)) size ≡ cell_net (λ m. v (f m)) array size
  cell_is None size = refl
  cell_is (Some cells) size = rw (enabled_by cells.when) refl

pub width_by : (f : ℕ → ℕ) (port : Option Port) → memory_port_width (port_by f port) ≡ memory_port_width port
width_by f None = refl
width_by f (Some port) = refl

pub port_fits_by : (f : ℕ → ℕ) (port : Option Port) → HasPortWidth port → HasPortWidth (port_by f port)
port_fits_by f None h = tt
port_fits_by f (Some port) h = h

latches_long : (f : ℕ → ℕ) (storages : List Storage) → length (latches_by f storages) ≡ length storages
latches_long f [] = refl
latches_long f (storage ∷ storages) = ap suc (latches_long f storages)

-- ---- all nets

module _ (netlist : Netlist) (order : List ℕ) (o : IsOrder netlist order) (typed : IsTyped netlist) (program : Program) (r : Runs netlist program.instructions) (s : State) (word : ℕ) (room : List ℕ) (fit : StateFits netlist s) (w : WordFits netlist word) (h : IsFilled netlist s word room) where
  -- each net's value stands at its place
  stand : (sources : List ℕ) → AreSources netlist order sources → (m : ℕ) → slice_index (run_of s program.instructions room) (source_in sources m) ≡ value_of netlist s word m
  stand sources places m =
      elim (slice_get_cases netlist.nets m).1 as (λ _. slice_index (run_of s program.instructions room) (source_in sources m) ≡ value_of netlist s word m) [
        | inl x ↦
            let p = places.each m x.1 in
            r.right s word room fit w h (source_in sources m) p.within p.plain ∙ p.same s word
        | inr x ↦
            let q : source_in sources m ≡ 4294967295 = get_or_past sources m 4294967295 (omega (arith, x.0, places.long)) in
            ap (slice_index (run_of s program.instructions room)) q
            ∙ get_or_past (run_of s program.instructions room) 4294967295 0 (omega (arith, run_long s program.instructions room, h.long, typed.few))
            ∙ sym (past_zero netlist s word (length netlist.nets) m x.1)
      ]

  -- constants still stand
  constant_holds : (n : ℕ) (net : Net) → slice_get netlist.nets n ≡ Some net → n < length netlist.nets → (gate : Gate) → gate ≡ net.gate → HoldsGate gate (slice_index (run_of s program.instructions room) n)
  constant_holds n net there within (Const c) e =
      r.right s word room fit w h n within (subst (λ x. IsPlain x) (sym there) (subst (λ g. IsPlainGate g) e tt))
      ∙ value_is netlist s word order o n within
      ∙ ap (net_value (value_of netlist s word) netlist s word) there
      ∙ sym (ap (gate_value (value_of netlist s word) netlist s word net.width) e)
  constant_holds n net there within gate e = tt

  still_room : IsRoom netlist (run_of s program.instructions room)
  still_room = record {
    long = run_long s program.instructions room ∙ h.long;
    constants = λ n.
        elim (slice_get_cases netlist.nets n).1 as (λ _. HoldsNet (slice_get netlist.nets n) (slice_index (run_of s program.instructions room) n)) [
          | inl x ↦ subst (λ y. HoldsNet y (slice_index (run_of s program.instructions room) n)) (sym x.2) (constant_holds n x.0 x.2 x.1 x.0.gate refl)
          | inr x ↦ subst (λ y. HoldsNet y (slice_index (run_of s program.instructions room) n)) (sym x.1) tt
        ];
  }

  pub follows : (sources : List ℕ) → AreSources netlist order sources → program.latches ≡ latches_by (source_in sources) netlist.storages → program.buses ≡ buses_from (source_in sources) 0 netlist.nets → ((space : Space) → port_at program space ≡ port_by (source_in sources) (port_of (array_in space netlist.storages))) → RunsAs netlist s word (run_of s program.instructions room) program
  follows sources places l b p =
      let v : ℕ → ℕ = slice_index (run_of s program.instructions room) in
      let all : (λ m. v (source_in sources m)) ≡ value_of netlist s word = fun_ext (stand sources places) in
      record {
        room = still_room;
        clash =
            ap (clash_by v) b
            ∙ clashes_from v (source_in sources) 0 netlist.nets
            ∙ sym (position_from-zero (λ (net : Net). gate_clashes (λ m. v (source_in sources m)) net.gate) netlist.nets)
            ∙ ap (λ u. clash_in u netlist.nets) all;
        regs = λ regs. ap (λ x. regs_by v x regs) l ∙ regs_are v (source_in sources) netlist.storages regs ∙ ap (λ u. next_regs u netlist.storages regs) all;
        cells = λ space olds. ap (λ x. cells_by v x olds) (p space) ∙ cells_are v (source_in sources) (array_in space netlist.storages) olds ∙ ap (λ u. next_cells u space netlist.storages olds) all;
        written = λ size. ap (λ x. cell_by v x size) (p InMemory) ∙ cell_is v (source_in sources) (array_in InMemory netlist.storages) size ∙ ap (λ u. cell_net u (array_in InMemory netlist.storages) size) all;
      }

pub is_program : (netlist : Netlist) (order : List ℕ) → IsOrder netlist order → IsTyped netlist → (program : Program) → Runs netlist program.instructions → program.inlets ≡ inlets_from 0 netlist.nets → (sources : List ℕ) → AreSources netlist order sources → program.latches ≡ latches_by (source_in sources) netlist.storages → program.buses ≡ buses_from (source_in sources) 0 netlist.nets → ((space : Space) → port_at program space ≡ port_by (source_in sources) (port_of (array_in space netlist.storages))) → IsProgram netlist program
is_program netlist order o typed program r i sources places l b p = record {
  within = subst (λ inlets. AreWithin (length netlist.nets) inlets) (sym i) (inlets_below 0 netlist.nets (length netlist.nets) (omega arith));
  ready = r.ready;
  long = ap length l ∙ latches_long (source_in sources) netlist.storages;
  follows = λ s word room fit w h.
      follows netlist order o typed program r s word (filled s.regs word program.inlets room) fit w
      (subst (λ inlets. IsFilled netlist s word (filled s.regs word inlets room)) (sym i) (is_filled netlist s word room h))
      sources places l b p;
}

-- ---- the first room

constant_there : (gate : Gate) → HoldsGate gate (constant_of gate)
constant_there (Const c) = refl
constant_there gate = tt

constants_there : (nets : List Net) (n : ℕ) → HoldsNet (slice_get nets n) (slice_index (constants_of nets) n)
constants_there [] n = tt
constants_there (net ∷ nets) zero = constant_there net.gate
constants_there (net ∷ nets) (suc n) = constants_there nets n

constants_long : (nets : List Net) → length (constants_of nets) ≡ length nets
constants_long [] = refl
constants_long (net ∷ nets) = ap suc (constants_long nets)

pub constants_room : (netlist : Netlist) → IsRoom netlist (constants_of netlist.nets)
constants_room netlist = record { long = constants_long netlist.nets; constants = constants_there netlist.nets }

-- ---- a simulator

module _ (netlist : Netlist) (words : List ℕ) (s : State) (program : Program) (room : List ℕ) (h : IsRunning netlist words s program room) (values : List ℕ) where
  -- what the instructions leave
  pub ran : values ≡ run_of s program.instructions (filled s.regs (word_at netlist words s) program.inlets room) → RunsAs netlist s (word_at netlist words s) values program
  ran e =
      subst (λ l. RunsAs netlist s (word_at netlist words s) l program) (sym e)
      (h.decoded.follows s (word_at netlist words s) room h.state.fits (words_fit_at netlist words h.words_fit _) h.room)

  -- it is still a simulator in another state that fits, with what they left
  pub still_running : IsRoom netlist values → (t : State) → IsState netlist t → IsRunning netlist words t program values
  still_running r t k = record {
    typed = h.typed;
    few = h.few;
    words_fit = h.words_fit;
    state = k;
    decoded = h.decoded;
    cell_width = h.cell_width;
    port_fits = h.port_fits;
    room = r;
  }
