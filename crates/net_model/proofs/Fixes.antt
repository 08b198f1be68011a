-- What a netlist is in a mode keeps N1 to N4 and N11, as the netlist does.
use Rattle.std.proofs.Common.{◌≡◌, ◌==◌, ℕ, zero, suc, ◌<◌, ◌^◌, Bool, true, false, if◌then◌else◌, List, [], ◌∷◌, length, Option, Some, None, option_map, refl, sym, ◌∙◌, ap, subst, slice_get, eqb-true, arith, length-append}
use Rattle.std.specs.List.{AllByRecursion}
use Rattle.std.proofs.lemmas.List.{length-map}
use Rattle.std.proofs.lemmas.Option.{slice_get-map}
use Rattle.rec_bits.specs.Operators.{result_width}
use Rattle.net_model.specs.declared.hardware.Netlist.{Netlist}
use Rattle.net_model.specs.declared.hardware.Net.{Net}
use Rattle.net_model.specs.declared.hardware.Cells.{Cells}
use Rattle.net_model.specs.declared.hardware.Storage.{Storage}
use Rattle.net_model.specs.declared.hardware.Storage.TheVariants.{Register, Memory, File}
use Rattle.net_model.specs.declared.hardware.Gate.{Gate}
use Rattle.net_model.specs.declared.hardware.Gate.TheVariants.{Word, Reg, Read, Const, Wire, Un, Bin, Slice, Cat, Zext, Sext, Case, Bus}
use Rattle.net_model.specs.Nets.{storage_array, storage_bits, width_at}
use Rattle.net_model.specs.Widths.{HasWidth, IsNet, RowsFit, RestFits, DriversFit, GateFits, WhenFits, ArrayFits}
use Rattle.net_model.specs.CheckedRules.{ArrayKeeps, ReadKeeps, GateKeeps, IsWhole, NetKeeps, StorageKeeps, IsWellFormed}
use Rattle.net_model.specs.Editions.{is_banked}
use Rattle.net_model.specs.Fixed.{fixed_gate, fixed_net, fixed_of, in_mode, mode_count}
use Rattle.net_model.specs.ModeRules.{base_at, bases_below, modes_in}
use Rattle.net_model.proofs.ByEdition.{few_plain, nets_within}
use Rattle.net_model.proofs.Fixing.{same_width}

module _ (netlist : Netlist) (mode v : ℕ) where
  abbrev fixed : Netlist
  fixed = fixed_of mode v netlist

  pub same_length : length fixed.nets ≡ length netlist.nets
  same_length = length-map netlist.nets (fixed_net mode v)

  is_net : (n : ℕ) → IsNet netlist n → IsNet fixed n
  is_net n h = subst (λ (k : ℕ). n < k) (sym same_length) h

  has_width : (n width : ℕ) → HasWidth netlist n width → HasWidth fixed n width
  has_width n width h = (is_net n h.0, same_width netlist mode v n ∙ h.1)

  -- ---- gates

  rows_fit : (key width : ℕ) (rows : List (ℕ × ℕ)) → RowsFit netlist key width rows → RowsFit fixed key width rows
  rows_fit key width [] h = tt
  rows_fit key width (row ∷ rows) h = (h.0, has_width row.1 width h.1, rows_fit key width rows h.2)

  rest_fits : (width : ℕ) (rest : Option ℕ) → RestFits netlist width rest → RestFits fixed width rest
  rest_fits width None h = tt
  rest_fits width (Some n) h = has_width n width h

  drivers_fit : (width : ℕ) (drivers : List (ℕ × ℕ)) → DriversFit netlist width drivers → DriversFit fixed width drivers
  drivers_fit width [] h = tt
  drivers_fit width (driver ∷ drivers) h = (has_width driver.0 width h.0, has_width driver.1 1 h.1, drivers_fit width drivers h.2)

  gate_fits : (width : ℕ) (gate : Gate) → GateFits netlist width gate → GateFits fixed width gate
  gate_fits width (Word code) h = h
  gate_fits width (Reg id) h = h
  gate_fits width (Read memory addr) h = (is_net addr h.0, h.1)
  gate_fits width (Const c) h = h
  gate_fits width (Wire a) h = has_width a width h
  gate_fits width (Un op a) h = has_width a width h
  gate_fits width (Bin op a b) h = (
    is_net a h.0,
    subst (HasWidth fixed b) (sym (same_width netlist mode v a)) (has_width b (width_at netlist a) h.1),
    ap (result_width op) (same_width netlist mode v a) ∙ h.2,
  )
  gate_fits width (Slice of hi lo) h = (is_net of h.0, h.1, subst (λ (w : ℕ). hi < w) (sym (same_width netlist mode v of)) h.2, h.3)
  gate_fits width (Cat a b) h = (is_net a h.0, is_net b h.1, rw (same_width netlist mode v a, same_width netlist mode v b) h.2)
  gate_fits width (Zext a) h = (is_net a h.0, subst (λ (w : ℕ). w < width) (sym (same_width netlist mode v a)) h.1)
  gate_fits width (Sext a) h = (is_net a h.0, subst (λ (w : ℕ). w < width) (sym (same_width netlist mode v a)) h.1)
  gate_fits width (Case sel rows rest) h = (
    is_net sel h.0,
    subst (λ (w : ℕ). RowsFit fixed w width rows) (sym (same_width netlist mode v sel)) (rows_fit (width_at netlist sel) width rows h.1),
    rest_fits width rest h.2,
  )
  gate_fits width (Bus drivers) h = drivers_fit width drivers h

  array_keeps : (width addr : ℕ) (cells : Option Cells) → ArrayKeeps netlist width addr cells → ArrayKeeps fixed width addr cells
  array_keeps width addr None h = absurd h
  array_keeps width addr (Some cells) h = (h.0, has_width addr cells.addr_width h.1)

  read_keeps : (width addr : ℕ) (o : Option Storage) → ReadKeeps netlist width addr o → ReadKeeps fixed width addr o
  read_keeps width addr None h = absurd h
  read_keeps width addr (Some storage) h = array_keeps width addr (storage_array storage) h

  module _ (small : v < 2 ^ storage_bits (slice_get netlist.storages mode)) where
    -- the mode's output keeps its width
    register_keeps : (width id : ℕ) → storage_bits (slice_get netlist.storages id) ≡ width → GateKeeps netlist width (Reg id) → GateKeeps fixed width (fixed_gate mode v (Reg id))
    register_keeps width id wide h = by (id == mode) refl
      where
        by : (b : Bool) → (id == mode) ≡ b → GateKeeps fixed width (if b then Const v else Reg id)
        by true e =
            subst (λ (w : ℕ). v < 2 ^ w) (ap (λ (n : ℕ). storage_bits (slice_get netlist.storages n)) (sym (eqb-true id mode e)) ∙ wide) small
        by false e = h

    gate_keeps : (width : ℕ) (gate : Gate) → GateKeeps netlist width gate → GateKeeps fixed width (fixed_gate mode v gate)
    gate_keeps width (Word code) h = h
    gate_keeps width (Reg id) h = register_keeps width id h.1 h
    gate_keeps width (Read memory addr) h = read_keeps width addr (slice_get netlist.storages memory) h
    gate_keeps width (Const c) h = h
    gate_keeps width (Wire a) h = gate_fits width (Wire a) h
    gate_keeps width (Un op a) h = gate_fits width (Un op a) h
    gate_keeps width (Bin op a b) h = gate_fits width (Bin op a b) h
    gate_keeps width (Slice of hi lo) h = gate_fits width (Slice of hi lo) h
    gate_keeps width (Cat a b) h = gate_fits width (Cat a b) h
    gate_keeps width (Zext a) h = gate_fits width (Zext a) h
    gate_keeps width (Sext a) h = gate_fits width (Sext a) h
    gate_keeps width (Case sel rows rest) h = (
      gate_fits width (Case sel rows rest) h.0,
      h.1,
      subst (λ (w : ℕ). IsWhole w rows rest) (sym (same_width netlist mode v sel)) h.2,
    )
    gate_keeps width (Bus drivers) h = gate_fits width (Bus drivers) h

    net_keeps : (o : Option Net) → NetKeeps netlist o → NetKeeps fixed (option_map (fixed_net mode v) o)
    net_keeps None h = tt
    net_keeps (Some net) h = (h.0, gate_keeps net.width net.gate h.1)

  -- ---- storages

  when_fits : (when : Option ℕ) → WhenFits netlist when → WhenFits fixed when
  when_fits None h = tt
  when_fits (Some n) h = has_width n 1 h

  array_fits : (cells : Cells) → ArrayFits netlist cells → ArrayFits fixed cells
  array_fits cells h = (has_width cells.value cells.width h.0, has_width cells.addr cells.addr_width h.1, when_fits cells.when h.2)

  storage_keeps : (storage : Storage) → StorageKeeps netlist storage → StorageKeeps fixed storage
  storage_keeps (Register name width input when) h = (h.0, (has_width input width h.1.0, when_fits when h.1.1))
  storage_keeps (Memory cells) h = (h.0, h.1, array_fits cells h.2)
  storage_keeps (File cells) h = (h.0, h.1, array_fits cells h.2)

  storages_keep : (storages : List Storage) → AllByRecursion (StorageKeeps netlist) storages → AllByRecursion (StorageKeeps fixed) storages
  storages_keep [] h = tt
  storages_keep (storage ∷ storages) h = (storage_keeps storage h.0, storages_keep storages h.1)

  pub fixed_formed : v < 2 ^ storage_bits (slice_get netlist.storages mode) → is_banked netlist.edition ≡ false → IsWellFormed netlist → IsWellFormed fixed
  fixed_formed small plain h = record {
    names = h.names;
    nets = λ n. subst (NetKeeps fixed) (sym (slice_get-map (fixed_net mode v) netlist.nets n)) (net_keeps small (slice_get netlist.nets n) (h.nets n));
    storages = storages_keep netlist.storages h.storages;
    codes = h.codes;
    special = tt;
    limits = record {
      nets = omega (arith, same_length, h.limits.nets, nets_within netlist.edition);
      registers = h.limits.registers;
      cells = few_plain netlist.edition plain netlist.storages h.limits.cells;
      words = h.limits.words;
    };
  }

in_mode_formed : (netlist : Netlist) (special : Option ℕ) (v : ℕ) → v < mode_count special netlist → is_banked netlist.edition ≡ false → IsWellFormed netlist → IsWellFormed (in_mode special v netlist)
in_mode_formed netlist None v small plain h = h
in_mode_formed netlist (Some mode) v small plain h = fixed_formed netlist mode v small plain h

-- in each of its modes a well-formed netlist without a bank is well-formed
pub base_formed : (netlist : Netlist) → is_banked netlist.edition ≡ false → IsWellFormed netlist → (v : ℕ) → v < modes_in netlist → IsWellFormed (base_at netlist v)
base_formed netlist plain h v small = in_mode_formed netlist netlist.special v small plain h

-- ---- the list of all modes

pub length_bases : (netlist : Netlist) (n : ℕ) → length (bases_below netlist n) ≡ n
length_bases netlist zero = refl
length_bases netlist (suc n) = omega (arith, length_bases netlist n, length-append (bases_below netlist n) (base_at netlist n ∷ []))
