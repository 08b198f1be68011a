-- The next state is what the transfers of the word say.
use Rattle.std.proofs.Common.{ℕ, zero, suc, ◌≡◌, Bool, true, false, cond, List, [], ◌∷◌, length, map, option_to_list, refl, sym, ◌∙◌, ap, arith, Option, Some, None, slice_get, slice_index, slice_set}
use Rattle.std.specs.List.{AllByRecursion, position_or_len}
use Rattle.std.proofs.lemmas.Bool.{eqb-true}
use Rattle.net_model.specs.Exprs.{ExprModel, reg, TransferModel, keep, write, write_at}
use Rattle.net_model.specs.Nets.{IsRegister, place_in, held}
use Rattle.net_model.specs.Value.{value_of}
use Rattle.net_model.specs.Widths.{IsTyped, WordFits, IsState}
use Rattle.net_model.specs.Clock.{clash_in, enabled_count, gate_clashes, is_enabled, next_reg, next_regs, written, next_cells, next_state, outcome_of, step, word_at}
use Rattle.net_model.specs.Symbolic.{no_state, is_static, sym_of}
use Rattle.net_model.specs.Meaning.{mean}
use Rattle.net_model.specs.Control.{AllPass, gate_enables, storage_enables, IsSound}
use Rattle.net_model.specs.Transfers.{same_reg, array_transfer, storage_transfer, transfer_of, IsClean, Moved, reg_moved, cells_moved}
use Rattle.net_model.specs.declared.hardware.Netlist.{Netlist}
use Rattle.net_model.specs.declared.hardware.Net.{Net}
use Rattle.net_model.specs.declared.hardware.Gate.{Gate}
use Rattle.net_model.specs.declared.hardware.Gate.TheVariants.{Bus}
use Rattle.net_model.specs.declared.hardware.Storage.{Storage}
use Rattle.net_model.specs.declared.hardware.Storage.TheVariants.{Register, Memory, File}
use Rattle.net_model.specs.declared.hardware.Cells.{Cells}
use Rattle.net_model.specs.declared.hardware.Space.{Space}
use Rattle.net_model.specs.declared.hardware.Space.TheVariants.{Memory as InMemory, File as InFile}
use Rattle.net_model.specs.declared.states.State.{State}
use Rattle.rec_bits.specs.Faults.{gather}
use Rattle.net_model.proofs.Offsets.{gather_all, gathered_at}
use Rattle.net_model.proofs.Fits.{value_fits}
use Rattle.net_model.proofs.NextStates.{held_next, next_fits}
use Rattle.net_model.proofs.Meanings.{static_value, value_is_mean}

-- ---- clashes: the enables are static

module _ (netlist : Netlist) (v w : ℕ → ℕ) (h : (m : ℕ) → is_static netlist m ≡ true → v m ≡ w m) where
  count_same : (drivers : List (ℕ × ℕ)) → AllPass (is_static netlist) (map (λ (driver : ℕ × ℕ). driver.1) drivers) → enabled_count v drivers ≡ enabled_count w drivers
  count_same [] e = refl
  count_same (driver ∷ drivers) e = rw (h driver.1 e.0, count_same drivers e.1) refl

  clashes_same : (gate : Gate) → AllPass (is_static netlist) (gate_enables gate) → gate_clashes v gate ≡ gate_clashes w gate
  clashes_same (Bus drivers) e = rw (count_same drivers e) refl
  clashes_same _ e = refl

  place_same : (nets : List Net) → AllByRecursion (λ (net : Net). AllPass (is_static netlist) (gate_enables net.gate)) nets → position_or_len (λ (net : Net). gate_clashes v net.gate) nets ≡ position_or_len (λ (net : Net). gate_clashes w net.gate) nets
  place_same [] e = refl
  place_same (net ∷ nets) e = rw (clashes_same net.gate e.0, place_same nets e.1) refl

  clash_same : (nets : List Net) → AllPass (is_static netlist) (gather (λ (net : Net). gate_enables net.gate) nets) → clash_in v nets ≡ clash_in w nets
  clash_same nets e = rw (place_same nets (gather_all (λ n. is_static netlist n ≡ true) (λ (net : Net). gate_enables net.gate) nets e)) refl

-- ---- registers

-- what an entry becomes
abbrev pub reg_next : (ℕ → ℕ) → Option Storage → ℕ → ℕ
reg_next v None old = old
reg_next v (Some storage) old = next_reg v storage old

reg_after : (v : ℕ → ℕ) (storages : List Storage) (regs : List ℕ) (id : ℕ) → length regs ≡ length storages → slice_index (next_regs v storages regs) id ≡ reg_next v (slice_get storages id) (slice_index regs id)
reg_after v [] regs id e = refl
reg_after v (storage ∷ storages) [] id e = absurd (omega arith)
reg_after v (storage ∷ storages) (old ∷ olds) zero e = refl
reg_after v (storage ∷ storages) (old ∷ olds) (suc id) e = reg_after v storages olds id (omega arith)

abbrev pub option_transfer : (ℕ → ExprModel) → (ℕ → ℕ) → Option Storage → ℕ → TransferModel
option_transfer t u None id = keep
option_transfer t u (Some storage) id = storage_transfer t u id storage

-- whether a storage's `when` is on, by the values of static nets
module _ (netlist : Netlist) (s : State) (i : ℕ) (t : ℕ → ExprModel) (u v : ℕ → ℕ) (h : (m : ℕ) → mean (t m) s i ≡ v m) (hu : (m : ℕ) → is_static netlist m ≡ true → u m ≡ v m) where
  on_same : (when : Option ℕ) → AllPass (is_static netlist) (option_to_list when) → is_enabled v when ≡ is_enabled u when
  on_same None c = refl
  on_same (Some when) c = rw (hu when c.0) refl

  same_mean : (e : ExprModel) (id : ℕ) → same_reg e id ≡ true → mean e s i ≡ slice_index s.regs id
  same_mean (reg r w) id e = ap (slice_index s.regs) (eqb-true r id e)
  same_mean _ id e = cc

  pick_reg : (a b : Bool) (input id : ℕ) → (b ≡ true → v input ≡ slice_index s.regs id) →
      cond a (v input) (slice_index s.regs id) ≡ reg_moved (cond a (cond b keep (write (t input))) keep) s i id
  pick_reg true true input id e = e refl
  pick_reg true false input id e = sym (h input)
  pick_reg false b input id e = refl

  reg_law : (o : Option Storage) (id : ℕ) → IsRegister o → ((storage : Storage) → o ≡ Some storage → AllPass (is_static netlist) (storage_enables storage)) → reg_next v o (slice_index s.regs id) ≡ reg_moved (option_transfer t u o id) s i id
  reg_law None id r c = absurd r
  reg_law (Some (Memory cells)) id r c = absurd r
  reg_law (Some (File cells)) id r c = absurd r
  reg_law (Some (Register name width input when)) id r c =
      rw (on_same when (c _ refl)) (pick_reg (is_enabled u when) (same_reg (t input) id) input id (λ e. sym (h input) ∙ same_mean (t input) id e))

  pick_cells : (a : Bool) (addr value : ℕ) (olds : List ℕ) → cond a (slice_set olds (v addr) (v value)) olds ≡ cells_moved (cond a (write_at (t addr) (t value)) keep) s i olds
  pick_cells true addr value olds = rw (h addr, h value) refl
  pick_cells false addr value olds = refl

  array_law : (cells : Cells) (olds : List ℕ) → AllPass (is_static netlist) (option_to_list cells.when) → written v (Some cells) olds ≡ cells_moved (array_transfer t u cells) s i olds
  array_law cells olds c = rw (on_same cells.when c) (pick_cells (is_enabled u cells.when) cells.addr cells.value olds)

  cells_law : (space : Space) (storages : List Storage) (id : ℕ) (olds : List ℕ) → AllByRecursion (λ storage. AllPass (is_static netlist) (storage_enables storage)) storages → next_cells v space storages olds ≡ cells_moved (option_transfer t u (slice_get storages (place_in space storages)) id) s i olds
  cells_law space [] id olds c = refl
  cells_law InMemory (Register name width input when ∷ storages) id olds c = cells_law InMemory storages id olds c.1
  cells_law InMemory (Memory cells ∷ storages) id olds c = array_law cells olds c.0
  cells_law InMemory (File cells ∷ storages) id olds c = cells_law InMemory storages id olds c.1
  cells_law InFile (Register name width input when ∷ storages) id olds c = cells_law InFile storages id olds c.1
  cells_law InFile (Memory cells ∷ storages) id olds c = cells_law InFile storages id olds c.1
  cells_law InFile (File cells ∷ storages) id olds c = array_law cells olds c.0

-- ---- the law

-- a clock without clash keeps what a state needs
pub next_is_state : (netlist : Netlist) (s : State) (i : ℕ) → IsTyped netlist → IsState netlist s → WordFits netlist i → IsState netlist (next_state (value_of netlist s i) netlist s)
next_is_state netlist s i t h w =
    next_fits netlist (value_of netlist s i) (record { fits = λ n. value_fits netlist s i t h.fits w (length netlist.nets) n }) s t h

option_move_is : (netlist : Netlist) (i id : ℕ) (o : Option Storage) → option_transfer (sym_of netlist i) (value_of netlist no_state i) o id ≡ transfer_of netlist i id o
option_move_is netlist i id None = refl
option_move_is netlist i id (Some storage) = refl

-- under a word without clash, the next state is what the word's transfers say
pub moved : (netlist : Netlist) (words : List ℕ) (i : ℕ) (s : State) → IsSound netlist → IsState netlist s → IsClean netlist i → word_at netlist words s ≡ i → Moved netlist words i s
moved netlist words i s sound h clean e =
    let v : ℕ → ℕ = value_of netlist s i in
    let means : (m : ℕ) → mean (sym_of netlist i m) s i ≡ value_of netlist s i m = λ m. value_is_mean netlist s i sound.typed sound.controlled h.fits clean.fits m in
    let static : (m : ℕ) → is_static netlist m ≡ true → value_of netlist no_state i m ≡ value_of netlist s i m = λ m q. static_value netlist no_state s i (length netlist.nets) m q in
    record {
      next = next_state v netlist s;
      clocked =
          ap (step netlist s) e
          ∙ ap (outcome_of v netlist s) (sym (clash_same netlist (value_of netlist no_state i) (value_of netlist s i) static netlist.nets sound.controlled.enables) ∙ clean.clean);
      state = next_is_state netlist s i sound.typed h clean.fits;
      regs = λ id r.
          reg_after v netlist.storages s.regs id h.regs
          ∙ reg_law netlist s i (sym_of netlist i) (value_of netlist no_state i) v means static (slice_get netlist.storages id) id r (λ storage at. gathered_at (λ n. is_static netlist n ≡ true) storage_enables netlist.storages id storage at sound.storages)
          ∙ ap (λ (m : TransferModel). reg_moved m s i id) (option_move_is netlist i id (slice_get netlist.storages id));
      cells = λ space.
          held_next v netlist s space
          ∙ cells_law netlist s i (sym_of netlist i) (value_of netlist no_state i) v means static space netlist.storages (place_in space netlist.storages) (held s space) (gather_all (λ n. is_static netlist n ≡ true) storage_enables netlist.storages sound.storages)
          ∙ ap (λ (m : TransferModel). cells_moved m s i (held s space)) (option_move_is netlist i (place_in space netlist.storages) (slice_get netlist.storages (place_in space netlist.storages)));
    }
