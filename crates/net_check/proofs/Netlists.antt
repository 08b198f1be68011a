-- The nets that the nets of a netlist name, as lists.
use Rattle.std.proofs.Common.{◌≡◌, ℕ, ◌^◌, ◌<◌, List, [], ◌∷◌, Option, Some, None, length, map, slice_get, refl, ap, ◌∙◌, subst, arith, zero, suc}
use mathlib.Core.Path.{fun_ext}
use Rattle.std.specs.List.{AllByRecursion}
use Rattle.std.proofs.lemmas.List.{length-map}
use Rattle.net_model.proofs.ByEdition.{nets_within}
use Rattle.net_model.specs.declared.hardware.Netlist.{Netlist}
use Rattle.net_model.specs.declared.hardware.Net.{Net}
use Rattle.net_model.specs.declared.hardware.Storage.{Storage}
use Rattle.net_model.specs.declared.hardware.Storage.TheVariants.{Register, Memory, File}
use Rattle.net_model.specs.declared.hardware.Gate.{Gate}
use Rattle.net_model.specs.declared.hardware.Gate.TheVariants.{Word, Reg, Read, Const, Wire, Un, Bin, Slice, Cat, Zext, Sext, Case, Bus}
use Rattle.net_model.specs.Nets.{width_at, row_nets, driver_nets, gate_nets, nets_of}
use Rattle.net_model.specs.Widths.{RowsFit, RestFits, DriversFit}
use Rattle.net_model.specs.Depends.{IsLeastOnCycle, named_by}
use Rattle.net_model.specs.Order.{position_of, IsOrder}
use Rattle.net_model.specs.CheckedRules.{ReadKeeps, GateKeeps, NetKeeps, IsWellFormed}
use Rattle.net_check.specs.Inner.Graphs.{named_in, InRange}
use Rattle.net_check.specs.Inner.Walk.{IsOrdering}

abbrev pub lists_of : List Net → List (List ℕ)
lists_of nets = map (λ (net : Net). gate_nets net.gate) nets

list_at : (nets : List Net) (n : ℕ) → named_in (lists_of nets) n ≡ nets_of (slice_get nets n)
list_at [] n = refl
list_at (net ∷ nets) zero = refl
list_at (net ∷ nets) (suc n) = list_at nets n

pub named_is : (netlist : Netlist) (graph : List (List ℕ)) → graph ≡ lists_of netlist.nets → named_in graph ≡ named_by netlist
named_is netlist graph e = rw e (fun_ext (list_at netlist.nets))

-- ---- each number names a net

module _ (netlist : Netlist) where
  abbrev Inside : ℕ → Type 0
  Inside m = m < length netlist.nets

  rows_in : (key width : ℕ) (rows : List (ℕ × ℕ)) (rest : Option ℕ) → RowsFit netlist key width rows → RestFits netlist width rest → AllByRecursion Inside (row_nets rows rest)
  rows_in key width [] None h r = tt
  rows_in key width [] (Some n) h r = (r.0, tt)
  rows_in key width (row ∷ rows) rest h r = (h.1.0, rows_in key width rows rest h.2 r)

  drivers_in : (width : ℕ) (drivers : List (ℕ × ℕ)) → DriversFit netlist width drivers → AllByRecursion Inside (driver_nets drivers)
  drivers_in width [] h = tt
  drivers_in width (driver ∷ drivers) h = (h.0.0, (h.1.0, drivers_in width drivers h.2))

  read_in : (width addr : ℕ) (memory : Option Storage) → ReadKeeps netlist width addr memory → Inside addr
  read_in width addr None h = absurd h
  read_in width addr (Some (Register name own input when)) h = absurd h
  read_in width addr (Some (Memory cells)) h = h.1.0
  read_in width addr (Some (File cells)) h = h.1.0

  gate_in : (width : ℕ) (gate : Gate) → GateKeeps netlist width gate → AllByRecursion Inside (gate_nets gate)
  gate_in width (Word code) h = tt
  gate_in width (Reg id) h = tt
  gate_in width (Read memory addr) h = (read_in width addr (slice_get netlist.storages memory) h, tt)
  gate_in width (Const c) h = tt
  gate_in width (Wire a) h = (h.0, tt)
  gate_in width (Un op a) h = (h.0, tt)
  gate_in width (Bin op a b) h = (h.0, (h.1.0, tt))
  gate_in width (Slice of hi lo) h = (h.0, tt)
  gate_in width (Cat a b) h = (h.0, (h.1, tt))
  gate_in width (Zext a) h = (h.0, tt)
  gate_in width (Sext a) h = (h.0, tt)
  gate_in width (Case sel rows rest) h = (h.0.0, rows_in (width_at netlist sel) width rows rest h.0.1 h.0.2)
  gate_in width (Bus drivers) h = drivers_in width drivers h

  net_in : (net : Option Net) → NetKeeps netlist net → AllByRecursion Inside (nets_of net)
  net_in None h = tt
  net_in (Some net) h = gate_in net.width net.gate h.1

  module _ (formed : IsWellFormed netlist) (graph : List (List ℕ)) (e : graph ≡ lists_of netlist.nets) where
    same_length : length graph ≡ length netlist.nets
    same_length = ap length e ∙ length-map netlist.nets (λ (net : Net). gate_nets net.gate)

    pub in_range : InRange graph
    in_range n =
        rw (same_length, ap (λ (f : ℕ → List ℕ). f n) (named_is netlist graph e)) (net_in (slice_get netlist.nets n) (formed.nets n))

    pub short : length graph < 2 ^ 32
    short = omega (arith, same_length, formed.limits.nets, nets_within netlist.edition)

    pub order_is : (order : List ℕ) → IsOrdering graph order → IsOrder netlist order
    order_is order o = record {
      long = o.long ∙ same_length;
      nets = λ i h. omega (arith, o.nets i h, same_length);
      places = λ n h. o.places n (omega (arith, h, same_length));
      falls = λ n. subst (λ (ns : List ℕ). AllByRecursion (λ m. position_of order m < position_of order n) ns) (ap (λ (f : ℕ → List ℕ). f n) (named_is netlist graph e)) (o.falls n);
    }

    pub least_is : (n : ℕ) → IsLeastOnCycle (named_in graph) n → IsLeastOnCycle (named_by netlist) n
    least_is n h = subst (λ (names : ℕ → List ℕ). IsLeastOnCycle names n) (named_is netlist graph e) h
