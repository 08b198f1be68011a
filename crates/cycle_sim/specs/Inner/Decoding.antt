-- A netlist decoded: where the value of each net stands, and what its gate becomes, over those
-- places.
use Rattle.std.specs.Prelude.{ℕ, zero, suc, ◌+◌, ◌-◌, ◌^◌, ◌==◌, nat_le, if◌then◌else◌, List, [], ◌∷◌, ◌++◌, map, Option, Some, None, slice_index_or}
use Rattle.rec_bits.specs.declared.operator.Op2.{Op2}
use Rattle.rec_bits.specs.declared.operator.Op2.TheVariants.{Add, Sub, Mul, And, Or, Xor, Eq, Ltu}
use Rattle.net_model.specs.declared.hardware.Netlist.{Netlist}
use Rattle.net_model.specs.declared.hardware.Net.{Net}
use Rattle.net_model.specs.declared.hardware.Storage.{Storage}
use Rattle.net_model.specs.declared.hardware.Storage.TheVariants.{Register, Memory, File}
use Rattle.net_model.specs.declared.hardware.Gate.{Gate}
use Rattle.net_model.specs.declared.hardware.Gate.TheVariants.{Word, Reg, Read, Const, Wire, Un, Bin, Slice, Cat, Zext, Sext, Case, Bus}
use Rattle.net_model.specs.Nets.{width_at, space_at}
use Rattle.cycle_sim.specs.declared.edge.BusDrivers.{BusDrivers}
use Rattle.cycle_sim.specs.declared.edge.Latch.{Latch}
use Rattle.cycle_sim.specs.declared.edge.Latch.TheVariants.{Input, Held}
use Rattle.cycle_sim.specs.declared.edge.Port.{Port}
use Rattle.cycle_sim.specs.declared.operation.Inlet.{Inlet}
use Rattle.cycle_sim.specs.declared.operation.Operation.{Operation}
use Rattle.cycle_sim.specs.declared.operation.Operation.TheVariants.{Recall, Sum, Difference, Product, Conjunction, Disjunction, Exclusion, Sameness, Below, Unary, Binary, Field, Pair, Extension, Table, Search, Drive}

-- the place of a net's value, by the list of places
abbrev pub source_in : List ℕ → ℕ → ℕ
source_in sources n = slice_index_or sources n 4294967295

-- where a net's value stands, by the places of those before it: a wire's and that of zeros above a
-- net stand at their source
abbrev pub source_of : (ℕ → ℕ) → ℕ → Gate → ℕ
source_of f n (Wire a) = f a
source_of f n (Zext a) = f a
source_of f n _ = n

-- ---- operations over places, where f gives the place of each net

abbrev pub optional : (ℕ → ℕ) → Option ℕ → Option ℕ
optional f None = None
optional f (Some n) = Some (f n)

-- the place of the first row with this number, or of the rest
abbrev pub chosen : (ℕ → ℕ) → ℕ → List (ℕ × ℕ) → Option ℕ → ℕ
chosen f key [] None = 4294967295
chosen f key [] (Some rest) = f rest
chosen f key (row ∷ rows) rest = if row.0 == key then f row.1 else chosen f key rows rest

-- the places for all keys below a number
abbrev pub table_of : (ℕ → ℕ) → List (ℕ × ℕ) → Option ℕ → ℕ → List ℕ
table_of f rows rest zero = []
table_of f rows rest (suc key) = table_of f rows rest key ++ chosen f key rows rest ∷ []

abbrev pub rows_by : (ℕ → ℕ) → List (ℕ × ℕ) → List (ℕ × ℕ)
rows_by f rows = map (λ (row : ℕ × ℕ). (row.0, f row.1)) rows

abbrev pub drivers_by : (ℕ → ℕ) → List (ℕ × ℕ) → List (ℕ × ℕ)
drivers_by f drivers = map (λ (driver : ℕ × ℕ). (f driver.0, f driver.1)) drivers

-- a case has a table where its selector has at most 8 bits
abbrev pub choice_of : (ℕ → ℕ) → ℕ → ℕ → List (ℕ × ℕ) → Option ℕ → Operation
choice_of f bits sel rows rest =
    if nat_le bits 8
    then Table (f sel) (table_of f rows rest (2 ^ bits))
    else Search (f sel) (rows_by f rows) (optional f rest)

-- an operator by the width of its operands and that of its result
abbrev pub binary_of : Op2 → ℕ → ℕ → ℕ → ℕ → Operation
binary_of Add from width a b = Sum a b (2 ^ width - 1)
binary_of Sub from width a b = Difference a b (2 ^ width - 1)
binary_of Mul from width a b = Product a b (2 ^ width - 1)
binary_of And from width a b = Conjunction a b
binary_of Or from width a b = Disjunction a b
binary_of Xor from width a b = Exclusion a b
binary_of Eq from width a b = Sameness a b
binary_of Ltu from width a b = Below a b
binary_of op from width a b = Binary op from a b

-- what a gate does at a clock; a constant and what an inlet takes stand in their places, and a
-- wire's value at its source
abbrev pub decoded : Netlist → (ℕ → ℕ) → ℕ → Gate → Option Operation
decoded netlist f width (Word code) = None
decoded netlist f width (Reg id) = None
decoded netlist f width (Read memory addr) = Some (Recall (space_at netlist memory) (f addr))
decoded netlist f width (Const c) = None
decoded netlist f width (Wire a) = None
decoded netlist f width (Un op a) = Some (Unary op width (f a))
decoded netlist f width (Bin op a b) = Some (binary_of op (width_at netlist a) width (f a) (f b))
decoded netlist f width (Slice of hi lo) = Some (Field (f of) lo (2 ^ width - 1))
decoded netlist f width (Cat a b) = Some (Pair (f a) (f b) (width_at netlist b))
decoded netlist f width (Zext a) = None
decoded netlist f width (Sext a) = Some (Extension (f a) (width_at netlist a) width)
decoded netlist f width (Case sel rows rest) = Some (choice_of f (width_at netlist sel) sel rows rest)
decoded netlist f width (Bus drivers) = Some (Drive (drivers_by f drivers))

-- ---- constants

abbrev pub constant_of : Gate → ℕ
constant_of (Const c) = c
constant_of _ = 0

abbrev pub constants_of : List Net → List ℕ
constants_of nets = map (λ (net : Net). constant_of net.gate) nets

-- ---- inlets

-- the inlets of a list of nets, the first of which has the number n
abbrev pub inlets_with : ℕ → Gate → List Inlet → List Inlet
inlets_with n (Word code) inlets = record { place = n; storage = None } ∷ inlets
inlets_with n (Reg id) inlets = record { place = n; storage = Some id } ∷ inlets
inlets_with n _ inlets = inlets

abbrev pub inlets_from : ℕ → List Net → List Inlet
inlets_from n [] = []
inlets_from n (net ∷ nets) = inlets_with n net.gate (inlets_from (n + 1) nets)

-- ---- buses and storages

abbrev pub latch_by : (ℕ → ℕ) → Storage → Latch
latch_by f (Register name width input when) = Input (f input) (optional f when)
latch_by f (Memory cells) = Held
latch_by f (File cells) = Held

abbrev pub latches_by : (ℕ → ℕ) → List Storage → List Latch
latches_by f storages = map (latch_by f) storages

abbrev pub port_by : (ℕ → ℕ) → Option Port → Option Port
port_by f None = None
port_by f (Some port) =
    Some (record { width = port.width; value = f port.value; addr = f port.addr; when = optional f port.when })

-- the buses of a list of nets, the first of which has the number n
abbrev pub buses_with : (ℕ → ℕ) → ℕ → Gate → List BusDrivers → List BusDrivers
buses_with f n (Bus drivers) buses = record { net = n; drivers = drivers_by f drivers } ∷ buses
buses_with f n _ buses = buses

abbrev pub buses_from : (ℕ → ℕ) → ℕ → List Net → List BusDrivers
buses_from f n [] = []
buses_from f n (net ∷ nets) = buses_with f n net.gate (buses_from f (n + 1) nets)
