-- Where the items of a text and the ports of a part stand in the netlist.
use Rattle.std.proofs.Common.{ℕ, zero, suc, ◌≡◌, ◌+◌, ◌-◌, ◌⊎◌, inl, inr, Bool, true, false, if◌then◌else◌, List, [], ◌∷◌, ◌++◌, length, Option, Some, slice_get, slice_index, refl, sym, ap, ◌∙◌, subst, arith, add-one}
use Rattle.grammar.specs.declared.words.Ident.{Ident}
use Rattle.net_model.specs.declared.units.Port.{Port}
use Rattle.net_model.specs.declared.hardware.Netlist.{Netlist}
use Rattle.net_model.specs.declared.hardware.Net.{Net}
use Rattle.net_model.specs.declared.hardware.Gate.{Gate}
use Rattle.net_model.specs.Widths.{HasWidth}
use Rattle.net_model.specs.Written.{UnitModel, NetExprModel}
use Rattle.net_model.specs.TextNames.{is_port, port_named}
use Rattle.rec_bits.specs.Faults.{same_name}
use Rattle.rec_bits.proofs.Booleans.{and_left}
use Rattle.net_model.specs.Numbering.{SiteModel, bound, count_if, count_input, count_output, count_equation, count_item, count_storages, item_wires, last_nets, port_place, port_wires, storage_numbers, wires_from}
use Rattle.net_model.specs.Elaborated.{codes_from, count_codes, input_nets, inputs_nets, item_codes, item_nets, item_storages, nets_from, nets_if, output_wire, output_wires, plain_net, storages_from}
use Rattle.net_elab.proofs.Standing.{Stands, stands_left, stands_right, has_at, length_if, length_input, length_output, length_item, length_stored, length_coded}

-- an own net of a written width
pub plain_at : (netlist : Netlist) (start n : ℕ) (pre : List Net) (at width : ℕ) (g : Gate) → start + length pre ≡ n → Stands netlist.nets start (pre ++ plain_net at width g ∷ []) → HasWidth netlist n width
plain_at netlist start n pre at width g e k = has_at netlist n (plain_net at width g) width (stands_right netlist.nets start n pre _ e k).0 refl

-- ---- items

-- what an item gives stands in the netlist
pub record Located (netlist : Netlist) (text : List UnitModel) (e : UnitModel) (start storage number : ℕ) : Type 0 where
  pub nets_there : Stands netlist.nets start (item_nets text start storage number e)
  pub storages_there : Stands netlist.storages storage (item_storages text start e)
  pub codes_there : Stands netlist.codes number (item_codes text e)

-- what all of these items give
pub record AllLocated (netlist : Netlist) (text entries : List UnitModel) (start storage number : ℕ) : Type 0 where
  pub nets_there : Stands netlist.nets start (nets_from text start storage number entries)
  pub storages_there : Stands netlist.storages storage (storages_from text start entries)
  pub codes_there : Stands netlist.codes number (codes_from text entries)

module _ (netlist : Netlist) (text : List UnitModel) where
  pub first_located : (e : UnitModel) (entries : List UnitModel) (start storage number : ℕ) → AllLocated netlist text (e ∷ entries) start storage number → Located netlist text e start storage number
  first_located e entries start storage number a = record {
    nets_there = stands_left netlist.nets start (item_nets text start storage number e) _ a.nets_there;
    storages_there = stands_left netlist.storages storage (item_storages text start e) _ a.storages_there;
    codes_there = stands_left netlist.codes number (item_codes text e) _ a.codes_there;
  }

  pub others_located : (e : UnitModel) (entries : List UnitModel) (start storage number : ℕ) → AllLocated netlist text (e ∷ entries) start storage number
      → AllLocated netlist text entries (start + count_item text e) (storage + count_storages e) (number + count_codes e)
  others_located e entries start storage number a = record {
    nets_there = stands_right netlist.nets start _ (item_nets text start storage number e) _ (ap (λ (n : ℕ). start + n) (length_item text start storage number e)) a.nets_there;
    storages_there = stands_right netlist.storages storage _ (item_storages text start e) _ (ap (λ (n : ℕ). storage + n) (length_stored text start e)) a.storages_there;
    codes_there = stands_right netlist.codes number _ (item_codes text e) _ (ap (λ (n : ℕ). number + n) (length_coded text e)) a.codes_there;
  }

  -- an item, its place in the netlist and its numbers
  pub record FoundItem (entries : List UnitModel) (start storage : ℕ) (p : ℕ) (e : UnitModel) : Type 0 where
    pub net_at : ℕ
    pub storage_at : ℕ
    pub code_at : ℕ
    pub there : Located netlist text e net_at storage_at code_at
    pub last_is : slice_index (last_nets text start entries) p ≡ net_at + count_item text e - 1
    pub storage_is : slice_index (storage_numbers storage entries) p ≡ storage_at
    pub wires_are : slice_get (wires_from text start entries) p ≡ Some (item_wires text net_at e)

  pub locate : (entries : List UnitModel) (start storage number p : ℕ) (e : UnitModel) → slice_get entries p ≡ Some e → AllLocated netlist text entries start storage number → FoundItem entries start storage p e
  locate [] start storage number p e h a = absurd (cc h)
  locate (x ∷ entries) start storage number zero e h a =
      let s : x ≡ e = cc in
      subst (λ (y : UnitModel). FoundItem (x ∷ entries) start storage zero y) s (record {
        net_at = start;
        storage_at = storage;
        code_at = number;
        there = first_located x entries start storage number a;
        last_is = refl;
        storage_is = refl;
        wires_are = refl;
      })
  locate (x ∷ entries) start storage number (suc p) e h a =
      let f = locate entries (start + count_item text x) (storage + count_storages x) (number + count_codes x) p e h (others_located x entries start storage number a) in
      record {
        net_at = f.net_at;
        storage_at = f.storage_at;
        code_at = f.code_at;
        there = f.there;
        last_is = f.last_is;
        storage_is = f.storage_is;
        wires_are = f.wires_are;
      }

-- ---- ports

pick_port : (b : Bool) (q p : Port) (other : Option Port) → (if b then Some q else other) ≡ Some p → ((b ≡ true) × (q ≡ p)) ⊎ ((b ≡ false) × (other ≡ Some p))
pick_port true q p other h = inl (refl, (let e : q ≡ p = cc in e))
pick_port false q p other h = inr (refl, h)

port_cases : (output : Bool) (q : Port) (ports : List Port) (name : List ℕ) (p : Port) → port_named output (q ∷ ports) name ≡ Some p
    → ((is_port output name q ≡ true) × (q ≡ p)) ⊎ ((is_port output name q ≡ false) × (port_named output ports name ≡ Some p))
port_cases output q ports name p h = pick_port (is_port output name q) q p (port_named output ports name) h

place_here : (output : Bool) (q : Port) (ports : List Port) (name : List ℕ) → is_port output name q ≡ true → port_place output (q ∷ ports) name ≡ 0
place_here output q ports name e = ap (λ (b : Bool). if b then 0 else port_place output ports name + 1) e

place_later : (output : Bool) (q : Port) (ports : List Port) (name : List ℕ) → is_port output name q ≡ false → port_place output (q ∷ ports) name ≡ suc (port_place output ports name)
place_later output q ports name e = ap (λ (b : Bool). if b then 0 else port_place output ports name + 1) e ∙ add-one (port_place output ports name)

in_false : (b c : Bool) → (if b then false else c) ≡ true → b ≡ false
in_false true c h = absurd (cc h)
in_false false c h = refl

is_input : (name : List ℕ) (q : Port) → is_port false name q ≡ true → q.output ≡ false
is_input name q h = in_false q.output (same_name q.name.name name) h

is_output : (name : List ℕ) (q : Port) → is_port true name q ≡ true → q.output ≡ true
is_output name q h = and_left q.output (same_name q.name.name name) h

pub stands_else : {A : Type 0} (all : List A) (start : ℕ) (b : Bool) (xs ys : List A) → b ≡ false → Stands all start (if b then xs else ys) → Stands all start ys
stands_else all start b xs ys e h = subst (λ (c : Bool). Stands all start (if c then xs else ys)) e h

pub stands_then : {A : Type 0} (all : List A) (start : ℕ) (b : Bool) (xs ys : List A) → b ≡ true → Stands all start (if b then xs else ys) → Stands all start xs
stands_then all start b xs ys e h = subst (λ (c : Bool). Stands all start (if c then xs else ys)) e h

module _ (netlist : Netlist) (site : SiteModel) (at : ℕ) where
  input_at : (start wire : ℕ) (links : List (Ident × NetExprModel)) (q : Port) → q.output ≡ false → Stands netlist.nets start (input_nets site at start links q)
      → HasWidth netlist (if q.output then wire else start + count_input links q - 1) q.width
  input_at start wire links q e k =
      let own = stands_else netlist.nets start q.output [] _ e k in
      let count_is : count_input links q ≡ count_if (bound links q.name.name) + 1 = ap (λ (b : Bool). if b then 0 else count_if (bound links q.name.name) + 1) e in
      subst (λ (b : Bool). HasWidth netlist (if b then wire else start + count_input links q - 1) q.width) (sym e)
      (plain_at netlist start (start + count_input links q - 1) (nets_if site at start (bound links q.name.name)) at q.width _
      (omega (arith, length_if site at start (bound links q.name.name), count_is)) own)

  -- the wire of an input
  pub wire_in : (start wire : ℕ) (links : List (Ident × NetExprModel)) (ports : List Port) (name : List ℕ) (p : Port) → port_named false ports name ≡ Some p
      → Stands netlist.nets start (inputs_nets site at start links ports) → HasWidth netlist (slice_index (port_wires start wire links ports) (port_place false ports name)) p.width
  wire_in start wire links [] name p h k = absurd (cc h)
  wire_in start wire links (q ∷ ports) name p h k = elim (port_cases false q ports name p h) [
    | inl c ↦
        subst (λ (n : ℕ). HasWidth netlist (slice_index (port_wires start wire links (q ∷ ports)) n) p.width) (sym (place_here false q ports name c.0))
        (subst (λ (y : Port). HasWidth netlist (if q.output then wire else start + count_input links q - 1) y.width) c.1
        (input_at start wire links q (is_input name q c.0) (stands_left netlist.nets start (input_nets site at start links q) _ k)))
    | inr c ↦
        subst (λ (n : ℕ). HasWidth netlist (slice_index (port_wires start wire links (q ∷ ports)) n) p.width) (sym (place_later false q ports name c.0))
        (wire_in (start + count_input links q) (wire + count_output q) links ports name p c.1
        (stands_right netlist.nets start _ (input_nets site at start links q) _ (ap (λ (n : ℕ). start + n) (length_input site at start links q)) k))
  ]

  output_at : (start wire next : ℕ) (links equations : List (Ident × NetExprModel)) (q : Port) → q.output ≡ true → Stands netlist.nets wire (output_wire site at next equations q)
      → HasWidth netlist (if q.output then wire else start + count_input links q - 1) q.width
  output_at start wire next links equations q e k =
      subst (λ (b : Bool). HasWidth netlist (if b then wire else start + count_input links q - 1) q.width) (sym e)
      (plain_at netlist wire wire [] at q.width _ (omega arith) (stands_then netlist.nets wire q.output _ [] e k))

  -- the wire of an output
  pub wire_out : (start wire next : ℕ) (links equations : List (Ident × NetExprModel)) (ports : List Port) (name : List ℕ) (p : Port) → port_named true ports name ≡ Some p
      → Stands netlist.nets wire (output_wires site at next equations ports) → HasWidth netlist (slice_index (port_wires start wire links ports) (port_place true ports name)) p.width
  wire_out start wire next links equations [] name p h k = absurd (cc h)
  wire_out start wire next links equations (q ∷ ports) name p h k = elim (port_cases true q ports name p h) [
    | inl c ↦
        subst (λ (n : ℕ). HasWidth netlist (slice_index (port_wires start wire links (q ∷ ports)) n) p.width) (sym (place_here true q ports name c.0))
        (subst (λ (y : Port). HasWidth netlist (if q.output then wire else start + count_input links q - 1) y.width) c.1
        (output_at start wire next links equations q (is_output name q c.0) (stands_left netlist.nets wire (output_wire site at next equations q) _ k)))
    | inr c ↦
        subst (λ (n : ℕ). HasWidth netlist (slice_index (port_wires start wire links (q ∷ ports)) n) p.width) (sym (place_later true q ports name c.0))
        (wire_out (start + count_input links q) (wire + count_output q) (next + count_equation equations q) links equations ports name p c.1
        (stands_right netlist.nets wire _ (output_wire site at next equations q) _ (ap (λ (n : ℕ). wire + n) (length_output site at next equations q)) k))
  ]
