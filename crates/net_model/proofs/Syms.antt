-- The symbolic value of a net is its gate's, at those of the nets before it in the order.
use Rattle.std.proofs.Common.{◌≡◌, ℕ, ◌<◌, ◌≤◌, ◌==◌, List, [], ◌∷◌, Option, Some, None, length, ◌∙◌, ap, arith, refl, Bool, if◌then◌else◌, slice_get, zero, suc}
use Rattle.std.specs.List.{AllByRecursion}
use Rattle.net_model.specs.Exprs.{ExprModel, read, un, bin, cat, zext, sext, select}
use Rattle.net_model.specs.declared.hardware.Netlist.{Netlist}
use Rattle.net_model.specs.declared.hardware.Net.{Net}
use Rattle.net_model.specs.declared.hardware.Gate.{Gate}
use Rattle.net_model.specs.declared.hardware.Gate.TheVariants.{Word, Reg, Read, Const, Wire, Un, Bin, Slice, Cat, Zext, Sext, Case, Bus}
use Rattle.net_model.specs.Value.{value_within, value_of}
use Rattle.net_model.specs.Nets.{driver_nets, row_nets, gate_nets, nets_of, space_at}
use Rattle.net_model.specs.Order.{position_of, IsOrder}
use Rattle.rec_bits.proofs.Lists.{all_weaker}
use Rattle.net_model.proofs.Orders.{stable}
use Rattle.net_model.specs.Symbolic.{sliced, no_state, is_static, case_expr, bus_expr, gate_expr, net_expr, sym_within, sym_of}

-- two terms and values that agree at these nets
abbrev Same : (ℕ → ExprModel) → (ℕ → ExprModel) → (ℕ → ℕ) → (ℕ → ℕ) → List ℕ → Type 0
Same t t' u u' ms = AllByRecursion (λ m. (t m ≡ t' m) × (u m ≡ u' m)) ms

module _ (t t' : ℕ → ExprModel) (u u' : ℕ → ℕ) (f : ℕ → Bool) (netlist : Netlist) where
  same_case : (width key : ℕ) (rows : List (ℕ × ℕ)) (rest : Option ℕ) → Same t t' u u' (row_nets rows rest) → case_expr t width key rows rest ≡ case_expr t' width key rows rest
  same_case width key [] None h = refl
  same_case width key [] (Some n) h = h.0.0
  same_case width key (row ∷ rows) rest h = let a = h.0.0 in let b = same_case width key rows rest h.1 in (λ j. if row.0 == key then a j else b j)

  same_bus : (width : ℕ) (drivers : List (ℕ × ℕ)) → Same t t' u u' (driver_nets drivers) → bus_expr t u width drivers ≡ bus_expr t' u' width drivers
  same_bus width [] h = refl
  same_bus width (driver ∷ drivers) h = let a = h.0.0 in let e = h.1.0.1 in let b = same_bus width drivers h.1.1 in (λ j. if e j == 1 then a j else b j)

  pub same_gate : (width : ℕ) (gate : Gate) → Same t t' u u' (gate_nets gate) → gate_expr t u f netlist width gate ≡ gate_expr t' u' f netlist width gate
  same_gate width (Word code) h = refl
  same_gate width (Reg id) h = refl
  same_gate width (Read memory addr) h = let a = h.0.0 in (λ j. read (space_at netlist memory) (a j) width)
  same_gate width (Const c) h = refl
  same_gate width (Wire a) h = h.0.0
  same_gate width (Un op a) h = let e = h.0.0 in (λ j. un op (e j))
  same_gate width (Bin op a b) h = let e = h.0.0 in let g = h.1.0.0 in (λ j. bin op (e j) (g j))
  same_gate width (Slice of hi lo) h = let e = h.0.0 in (λ j. sliced (e j) hi lo)
  same_gate width (Cat a b) h = let e = h.0.0 in let g = h.1.0.0 in (λ j. cat (e j) (g j))
  same_gate width (Zext a) h = let e = h.0.0 in (λ j. zext (e j) width)
  same_gate width (Sext a) h = let e = h.0.0 in (λ j. sext (e j) width)
  same_gate width (Case sel rows rest) h =
      let e = h.0.0 in
      let v = h.0.1 in
      let one = same_case width 1 rows rest h.1 in
      let none = same_case width 0 rows rest h.1 in
      let key = same_case width (u sel) rows rest h.1 ∙ ap (λ k. case_expr t' width k rows rest) v in
      (λ j. if f sel then key j else select (e j) (one j) (none j))
  same_gate width (Bus drivers) h = same_bus width drivers h

  same_net : (net : Option Net) → Same t t' u u' (nets_of net) → net_expr t u f netlist net ≡ net_expr t' u' f netlist net
  same_net None h = refl
  same_net (Some net) h = same_gate net.width net.gate h

module _ (netlist : Netlist) (word : ℕ) (order : List ℕ) (o : IsOrder netlist order) where
  still : (b j k n : ℕ) → position_of order n < b → b ≤ j → b ≤ k → sym_within j netlist word n ≡ sym_within k netlist word n
  still zero j k n h p q = absurd (omega arith)
  still (suc b) zero k n h p q = absurd (omega arith)
  still (suc b) (suc j) zero n h p q = absurd (omega arith)
  still (suc b) (suc j) (suc k) n h p q =
      same_net (sym_within j netlist word) (sym_within k netlist word) (value_within j netlist no_state word) (value_within k netlist no_state word) (is_static netlist) netlist (slice_get netlist.nets n)
      (all_weaker (λ m. position_of order m < position_of order n) (λ m. (sym_within j netlist word m ≡ sym_within k netlist word m) × (value_within j netlist no_state word m ≡ value_within k netlist no_state word m))
      (λ m lt. (still b j k m (omega (arith, lt, h)) (omega (arith, p)) (omega (arith, q)), stable netlist no_state word order o b j k m (omega (arith, lt, h)) (omega (arith, p)) (omega (arith, q))))
      (nets_of (slice_get netlist.nets n)) (o.falls n))

  -- the equation of each net
  pub sym_is : (n : ℕ) → n < length netlist.nets → sym_of netlist word n ≡ net_expr (sym_of netlist word) (value_of netlist no_state word) (is_static netlist) netlist (slice_get netlist.nets n)
  sym_is n h =
      still (length netlist.nets) (length netlist.nets) (suc (length netlist.nets)) n (omega (arith, o.places n h, o.long)) (omega arith) (omega arith)
