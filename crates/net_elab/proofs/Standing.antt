-- Lists that stand within a list from a place on, and how long the lists of nets are.
use Rattle.std.proofs.Common.{ℕ, ◌≡◌, ◌+◌, Bool, true, false, if◌then◌else◌, List, [], ◌∷◌, ◌++◌, length, Option, Some, None, slice_get, refl, ap, ◌∙◌, subst, arith, append_assoc, length-append}
use Rattle.std.proofs.lemmas.Option.{slice_get_within}
use Rattle.rec_bits.proofs.Lists.{get_seam}
use Rattle.grammar.specs.declared.words.Ident.{Ident}
use Rattle.net_model.specs.declared.units.Port.{Port}
use Rattle.net_model.specs.declared.hardware.Netlist.{Netlist}
use Rattle.net_model.specs.declared.hardware.Net.{Net}
use Rattle.net_model.specs.Nets.{net_width}
use Rattle.net_model.specs.Widths.{HasWidth}
use Rattle.net_model.specs.Written.{UnitModel, code, register, memory, net, bus, module_item, part, NetExprModel, named, const, un, bin, cat, slice, zext, sext, read, case, CaseRowsModel, no_rows, row, CaseRestModel, no_rest, rest}
use Rattle.net_model.specs.TextNames.{item_named}
use Rattle.net_model.specs.TextWidths.{ports_of}
use Rattle.net_model.specs.Numbering.{SiteModel, of_text, count, count_rows, count_rest, count_if, count_drivers, count_input, count_inputs, count_output, count_outputs, count_equation, count_equations, count_part, count_item, count_items, count_storages, bound, equations_of}
use Rattle.net_model.specs.Elaborated.{elaborated, nets_of_rows, nets_of_rest, nets_if, elaborated_drivers, input_nets, inputs_nets, output_wire, output_wires, equation_nets, equations_nets, inside, part_nets, item_nets, item_storages, item_codes, count_codes, nets_from}

-- the items stand in the list one behind the other, from this place on
abbrev pub Stands : {A : Type 0} → List A → ℕ → List A → Type 0
Stands all start [] = Unit {0}
Stands all start (x ∷ xs) = (slice_get all start ≡ Some x) × Stands all (start + 1) xs

pub stands_left : {A : Type 0} (all : List A) (start : ℕ) (xs ys : List A) → Stands all start (xs ++ ys) → Stands all start xs
stands_left all start [] ys h = tt
stands_left all start (x ∷ xs) ys h = (h.0, stands_left all (start + 1) xs ys h.1)

pub stands_right : {A : Type 0} (all : List A) (start m : ℕ) (xs ys : List A) → start + length xs ≡ m → Stands all start (xs ++ ys) → Stands all m ys
stands_right all start m [] ys e h = subst (λ (n : ℕ). Stands all n ys) (let k : start ≡ m = omega arith in k) h
stands_right all start m (x ∷ xs) ys e h = stands_right all (start + 1) m xs ys (omega arith) h.1

stands_behind : {A : Type 0} (pre xs : List A) (all : List A) (n : ℕ) → pre ++ xs ≡ all → n ≡ length pre → Stands all n xs
stands_behind pre [] all n e l = tt
stands_behind pre (x ∷ xs) all n e l = (
  subst (λ (ys : List _). slice_get ys n ≡ Some x) e (rw l (get_seam pre x xs)),
  stands_behind (pre ++ x ∷ []) xs all (n + 1) (append_assoc pre (x ∷ []) xs ∙ e) (omega (arith, length-append pre (x ∷ []))),
)

pub stands_self : {A : Type 0} (xs : List A) → Stands xs 0 xs
stands_self xs = stands_behind [] xs xs 0 refl refl

-- a net that stands there has its width there
pub has_at : (netlist : Netlist) (n : ℕ) (x : Net) (w : ℕ) → slice_get netlist.nets n ≡ Some x → x.width ≡ w → HasWidth netlist n w
has_at netlist n x w h e = (slice_get_within netlist.nets n x h, ap net_width h ∙ e)

-- ---- lengths

len1 : {i : ℕ} (a : List Net) (x : Net) → length a ≡ i → length (a ++ x ∷ []) ≡ i + 1
len1 a x h = omega (arith, h, length-append a (x ∷ []))

len0 : {i j : ℕ} (a b : List Net) → length a ≡ i → length b ≡ j → length (a ++ b) ≡ i + j
len0 a b h k = omega (arith, h, k, length-append a b)

len_if : (b : Bool) (xs ys : List Net) (m n : ℕ) → length xs ≡ m → length ys ≡ n → length (if b then xs else ys) ≡ (if b then m else n)
len_if true xs ys m n h k = h
len_if false xs ys m n h k = k

module _ (site : SiteModel) (at : ℕ) where
  mutual
    pub length_nets : (start : ℕ) (a : NetExprModel) → length (elaborated site at start a) ≡ count a
    length_nets start (named name field None) = refl
    length_nets start (named name field (Some bits)) = refl
    length_nets start (const value width) = refl
    length_nets start (un op a) = len1 (elaborated site at start a) _ (length_nets start a)
    length_nets start (bin op a b) = len1 _ _ (len0 _ _ (length_nets start a) (length_nets (start + count a) b))
    length_nets start (cat a b) = len1 _ _ (len0 _ _ (length_nets start a) (length_nets (start + count a) b))
    length_nets start (slice a hi lo) = len1 (elaborated site at start a) _ (length_nets start a)
    length_nets start (zext a width) = len1 (elaborated site at start a) _ (length_nets start a)
    length_nets start (sext a width) = len1 (elaborated site at start a) _ (length_nets start a)
    length_nets start (read name a) = len1 (elaborated site at start a) _ (length_nets start a)
    length_nets start (case selector rows other) =
        len1 _ _ (len0 _ _ (len0 _ _ (length_nets start selector) (length_rows (start + count selector) rows)) (length_rest (start + count selector + count_rows rows) other))

    pub length_rows : (start : ℕ) (rows : CaseRowsModel) → length (nets_of_rows site at start rows) ≡ count_rows rows
    length_rows start no_rows = refl
    length_rows start (row numbers a rows) = len0 _ _ (length_nets start a) (length_rows (start + count a) rows)

    pub length_rest : (start : ℕ) (other : CaseRestModel) → length (nets_of_rest site at start other) ≡ count_rest other
    length_rest start no_rest = refl
    length_rest start (rest a) = length_nets start a

  pub length_if : (start : ℕ) (a : Option NetExprModel) → length (nets_if site at start a) ≡ count_if a
  length_if start None = refl
  length_if start (Some a) = length_nets start a

  pub length_drivers : (start : ℕ) (drivers : List (NetExprModel × NetExprModel)) → length (elaborated_drivers site at start drivers) ≡ count_drivers drivers
  length_drivers start [] = refl
  length_drivers start (driver ∷ drivers) =
      len0 _ _ (len0 _ _ (length_nets start driver.0) (length_nets (start + count driver.0) driver.1)) (length_drivers (start + count driver.0 + count driver.1) drivers)

  pub length_input : (start : ℕ) (links : List (Ident × NetExprModel)) (port : Port) → length (input_nets site at start links port) ≡ count_input links port
  length_input start links port = len_if port.output _ _ _ _ refl (len1 _ _ (length_if start (bound links port.name.name)))

  pub length_inputs : (start : ℕ) (links : List (Ident × NetExprModel)) (ports : List Port) → length (inputs_nets site at start links ports) ≡ count_inputs links ports
  length_inputs start links [] = refl
  length_inputs start links (port ∷ ports) = len0 _ _ (length_input start links port) (length_inputs (start + count_input links port) links ports)

  pub length_output : (start : ℕ) (equations : List (Ident × NetExprModel)) (port : Port) → length (output_wire site at start equations port) ≡ count_output port
  length_output start equations port = len_if port.output _ _ _ _ refl refl

  pub length_outputs : (start : ℕ) (equations : List (Ident × NetExprModel)) (ports : List Port) → length (output_wires site at start equations ports) ≡ count_outputs ports
  length_outputs start equations [] = refl
  length_outputs start equations (port ∷ ports) = len0 _ _ (length_output start equations port) (length_outputs (start + count_equation equations port) equations ports)

  pub length_equation : (start : ℕ) (equations : List (Ident × NetExprModel)) (port : Port) → length (equation_nets site at start equations port) ≡ count_equation equations port
  length_equation start equations port = len_if port.output _ _ _ _ (length_if start (bound equations port.name.name)) refl

  pub length_equations : (start : ℕ) (equations : List (Ident × NetExprModel)) (ports : List Port) → length (equations_nets site at start equations ports) ≡ count_equations equations ports
  length_equations start equations [] = refl
  length_equations start equations (port ∷ ports) = len0 _ _ (length_equation start equations port) (length_equations (start + count_equation equations port) equations ports)

module _ (text : List UnitModel) where
  pub length_part : (at start : ℕ) (links : List (Ident × NetExprModel)) (ports : List Port) (equations : List (Ident × NetExprModel)) → length (part_nets text at start links ports equations) ≡ count_part links ports equations
  length_part at start links ports equations =
      len0 _ _ (len0 _ _ (length_inputs (of_text text) at start links ports) (length_outputs (inside start links ports) at _ equations ports))
      (length_equations (inside start links ports) at _ equations ports)

  pub length_item : (start storage number : ℕ) (e : UnitModel) → length (item_nets text start storage number e) ≡ count_item text e
  length_item start storage number (code name bits size counter) = refl
  length_item start storage number (register kind name width input when) =
      len1 _ _ (len0 _ _ (length_nets (of_text text) name.at start input) (length_if (of_text text) name.at (start + count input) when))
  length_item start storage number (memory space name width size addr_width value addr when) =
      len0 _ _ (len0 _ _ (length_nets (of_text text) name.at start value) (length_nets (of_text text) name.at (start + count value) addr))
      (length_if (of_text text) name.at (start + count value + count addr) when)
  length_item start storage number (net name width value) = len1 (elaborated (of_text text) name.at start value) _ (length_nets (of_text text) name.at start value)
  length_item start storage number (bus name width drivers) =
      len1 (elaborated_drivers (of_text text) name.at start drivers) _ (length_drivers (of_text text) name.at start drivers)
  length_item start storage number (module_item name ports equations) = refl
  length_item start storage number (part name of links) =
      length_part name.at start links (ports_of (item_named text of.name)) (equations_of (item_named text of.name))

  pub length_items : (start storage number : ℕ) (entries : List UnitModel) → length (nets_from text start storage number entries) ≡ count_items text entries
  length_items start storage number [] = refl
  length_items start storage number (e ∷ entries) =
      len0 _ _ (length_item start storage number e) (length_items (start + count_item text e) (storage + count_storages e) (number + count_codes e) entries)

  pub length_stored : (start : ℕ) (e : UnitModel) → length (item_storages text start e) ≡ count_storages e
  length_stored start (code name bits size counter) = refl
  length_stored start (register kind name width input when) = refl
  length_stored start (memory space name width size addr_width value addr when) = refl
  length_stored start (net name width value) = refl
  length_stored start (bus name width drivers) = refl
  length_stored start (module_item name ports equations) = refl
  length_stored start (part name of links) = refl

  pub length_coded : (e : UnitModel) → length (item_codes text e) ≡ count_codes e
  length_coded (code name bits size counter) = refl
  length_coded (register kind name width input when) = refl
  length_coded (memory space name width size addr_width value addr when) = refl
  length_coded (net name width value) = refl
  length_coded (bus name width drivers) = refl
  length_coded (module_item name ports equations) = refl
  length_coded (part name of links) = refl
