-- That right code is ready to be watched, and what its text will be.
use Rattle.std.proofs.Common.{◌≡◌, ℕ, ◌+◌, ◌≤◌, List, [], ◌∷◌, length, map, take, drop, refl, sym, ap, ◌∙◌, subst, arith}
use Rattle.std.specs.List.{AllByRecursion}
use Rattle.net_model.specs.declared.hardware.Space.TheVariants.{Memory as InMemory}
use Rattle.net_model.specs.declared.hardware.Code.{Code}
use Rattle.net_model.specs.declared.hardware.Netlist.{Netlist}
use Rattle.net_model.specs.declared.states.State.{State}
use Rattle.net_model.specs.declared.hardware.Storage.{Storage}
use Rattle.net_model.specs.CheckedRules.{Ordered}
use Rattle.net_model.specs.ModeRules.{AreModesOfNetlist, KeepsInOrder, base_at}
use Rattle.net_model.specs.Modes.{IsBase}
use Rattle.net_model.specs.Nets.{memory_size, memory_width}
use Rattle.net_model.specs.Widths.{IsState, WordFits}
use Rattle.net_model.proofs.Bases.{base_of, state_in}
use Rattle.net_model.proofs.Memories.{few_cells, memory_width_of}
use Rattle.net_model.proofs.ModeFaults.{first_keeps, modes_keep}
use Rattle.src_model.specs.declared.program.Var.{Var as Declared}
use Rattle.src_model.specs.Meaning.{cells_in, cell_count}
use Rattle.src_model.specs.Ways.{Passed}
use Rattle.code_model.specs.declared.image.Image.{Image}
use Rattle.code_model.specs.declared.image.Word.{Word}
use Rattle.code_model.specs.ImageFits.{CodeFits, IsFitting, limits_of}
use Rattle.code_model.specs.Layout.{variables_of}
use Rattle.code_model.specs.Machine.{TraceEntry, Shows, Traced, mtrace, store_in}
use Rattle.code_model.specs.Places.{Apart, cells_at, cells_of, places_from, words_of}
use Rattle.code_model.specs.Right.{IsLaidOut}
use Rattle.code_model.proofs.Stores.{cells_in_row}
use Rattle.code_model.proofs.WordLimits.{word_fits}
use Rattle.cycle_sim.specs.Shown.{Shown}
use Rattle.checkpoint_watch.specs.Texts.{checkpoint_text, store_from}
use Rattle.src_model.specs.Meaning.{zeros}
use Rattle.checkpoint_watch.specs.Inner.Ready.{IsWatchable}
use Rattle.checkpoint_watch.specs.Inner.Scenes.{IsScene}
use Rattle.checkpoint_watch.specs.Traces.{entries_of}
use Rattle.checkpoint_watch.specs.Inner.Traces.{IsShown}
use Rattle.checkpoint_watch.specs.Watched.{IsTraceText}
use Rattle.checkpoint_watch.proofs.Fronts.{ShowsFirst}

-- ---- words

module _ (netlist : Netlist) (bases : List Ordered) (modes : AreModesOfNetlist netlist bases) where
  -- what the netlist is in mode 0 has its storages and codes
  abbrev base : Netlist
  base = base_at netlist 0

  keeps : KeepsInOrder base
  keeps = first_keeps netlist (modes_keep netlist bases modes)

  same : IsBase netlist netlist.special 0 base
  same = base_of netlist netlist.special 0

  one_code : length netlist.codes ≡ 1
  one_code = subst (λ (codes : List Code). length codes ≡ 1) same.codes keeps.rules.roles.code

  pub words_fit : (words : List Word) → AllByRecursion (CodeFits (limits_of netlist).bits) words → AllByRecursion (WordFits netlist) (map (λ (w : Word). w.word) words)
  words_fit [] fits = tt
  words_fit (word ∷ words) fits = (word_fits netlist netlist.codes refl one_code word.word fits.0.word, words_fit words fits.1)

  -- ---- places

  within : (at end : ℕ) (vars : List Declared) → Apart at (places_from at (variables_of vars)) end → at + cell_count vars ≤ end
  within at end [] apart = omega (arith, apart)
  within at end (var ∷ vars) apart = omega (arith, within (at + cells_in var) end vars apart.1)

  pub scene_of : (cells : ℕ) (vars : List Declared) (image : Image) (start : State) → IsState netlist start → IsLaidOut netlist cells (variables_of vars) image → IsFitting (limits_of netlist) image → IsScene netlist image vars image.temps
  scene_of cells vars image start state laid fits =
      let own : IsState base start = state_in netlist base start (sym same.storages) state in
      record {
        first = refl;
        places = laid.places;
        within = within image.temps (memory_size netlist.storages) vars (subst (λ places. Apart image.temps places (memory_size netlist.storages)) laid.places laid.apart);
        few = omega (arith, few_cells base keeps.order start InMemory keeps.rules own, state.cells InMemory);
        narrow = subst (λ (list : List Storage). memory_width list ≤ 64) same.storages (memory_width_of base keeps.order keeps.rules).1;
        marks = fits.in_order;
      }

count_is : (vars : List Declared) → cells_of (variables_of vars) ≡ cell_count vars
count_is [] = refl
count_is (var ∷ vars) = ap (λ n. cells_in var + n) (count_is vars)

-- the store that the places hold
pub store_is : (netlist : Netlist) (image : Image) (vars : List Declared) (address : ℕ) (s : State) → IsScene netlist image vars address → store_in image s ≡ store_from vars address s.cells
store_is netlist image vars address s scene =
    ap (λ places. cells_at places s.cells) scene.places ∙ cells_in_row image.temps (variables_of vars) s.cells
    ∙ ap (λ n. take n (drop image.temps s.cells)) (count_is vars) ∙ ap (λ n. take (cell_count vars) (drop n s.cells)) (sym scene.first)

-- ---- traces

is_shown : (trace : Traced) (entries : List TraceEntry) → trace ≡ Shows entries → IsShown trace
is_shown trace entries e = subst IsShown (sym e) tt

module _ (netlist : Netlist) (image : Image) (trace : List ℕ → ℕ → List Passed) (start : State) (clocks : ℕ) (first : ShowsFirst netlist image trace start clocks)
    (sim : Shown) (vars named : List Declared) (same_netlist : sim.netlist ≡ netlist) (same_state : sim.state ≡ start) (same_vars : named ≡ vars) where
  pub told_of : IsTraceText netlist image vars trace start clocks (checkpoint_text named (entries_of (mtrace sim.netlist image sim.state 0 clocks)))
  told_of = record {
    entries = first.entries;
    traced = first.traced;
    passed = first.passed;
    text_is =
        ap (λ (vs : List Declared). checkpoint_text vs (entries_of (mtrace sim.netlist image sim.state 0 clocks))) same_vars
        ∙ ap (λ (n : Netlist). checkpoint_text vars (entries_of (mtrace n image sim.state 0 clocks))) same_netlist
        ∙ ap (λ (s : State). checkpoint_text vars (entries_of (mtrace netlist image s 0 clocks))) same_state
        ∙ ap (λ trace. checkpoint_text vars (entries_of trace)) first.traced;
  }

  pub ready : (address : ℕ) (last_cells : List ℕ) → sim.words ≡ words_of image → address ≡ image.temps → last_cells ≡ zeros vars → IsState netlist start → IsScene netlist image vars image.temps → IsWatchable sim image named address last_cells clocks
  ready address last_cells same_words at fresh state scene = record {
    scene =
        subst (λ (n : Netlist). IsScene n image named address) (sym same_netlist)
        (subst (λ (vs : List Declared). IsScene netlist image vs address) (sym same_vars) (subst (λ (a : ℕ). IsScene netlist image vars a) (sym at) scene));
    state = subst (λ (n : Netlist). IsState n sim.state) (sym same_netlist) (subst (IsState netlist) (sym same_state) state);
    words = same_words;
    fresh = fresh ∙ ap zeros (sym same_vars);
    shown =
        subst (λ (n : Netlist). IsShown (mtrace n image sim.state 0 clocks)) (sym same_netlist)
        (subst (λ (s : State). IsShown (mtrace netlist image s 0 clocks)) (sym same_state) (is_shown (mtrace netlist image start 0 clocks) first.entries first.traced));
  }
