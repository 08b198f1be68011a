-- What instructions do, each by itself and one after the other.
use Rattle.std.specs.Prelude.{ℕ, ◌+◌, ◌-◌, ◌*◌, ◌/◌, ◌%◌, ◌^◌, ◌<◌, ◌≤◌, ◌==◌, nat_lt, bit_and, bit_or, bit_xor, List, [], ◌∷◌, Option, Some, None, slice_index, slice_index_or, slice_set}
use Rattle.std.specs.List.{AllByRecursion}
use Rattle.rec_bits.specs.Operators.{apply1_of, apply2_of, bit_of, sext_of}
use Rattle.net_model.specs.declared.states.State.{State}
use Rattle.net_model.specs.Nets.{held}
use Rattle.net_model.specs.Value.{bus_value, case_value}
use Rattle.cycle_sim.specs.declared.operation.Inlet.{Inlet}
use Rattle.cycle_sim.specs.declared.operation.Instruction.{Instruction}
use Rattle.cycle_sim.specs.declared.operation.Operation.{Operation}
use Rattle.cycle_sim.specs.declared.operation.Operation.TheVariants.{Recall, Sum, Difference, Product, Conjunction, Disjunction, Exclusion, Sameness, Below, Unary, Binary, Field, Pair, Extension, Table, Search, Drive}

-- the number that an operation gives, where v gives the number at each place
abbrev pub operation_value : (ℕ → ℕ) → State → Operation → ℕ
operation_value v s (Recall space addr) = slice_index (held s space) (v addr)
operation_value v s (Sum a b mask) = bit_and ((v a + v b) % 2 ^ 64) mask
operation_value v s (Difference a b mask) = bit_and ((v a + (2 ^ 64 - v b)) % 2 ^ 64) mask
operation_value v s (Product a b mask) = bit_and ((v a * v b) % 2 ^ 64) mask
operation_value v s (Conjunction a b) = bit_and (v a) (v b)
operation_value v s (Disjunction a b) = bit_or (v a) (v b)
operation_value v s (Exclusion a b) = bit_xor (v a) (v b)
operation_value v s (Sameness a b) = bit_of (v a == v b)
operation_value v s (Below a b) = bit_of (nat_lt (v a) (v b))
operation_value v s (Unary op width a) = apply1_of op width (v a % 2 ^ width)
operation_value v s (Binary op width a b) = apply2_of op width (v a % 2 ^ width) (v b % 2 ^ width)
operation_value v s (Field of lowest mask) = bit_and (v of / 2 ^ lowest) mask
operation_value v s (Pair high low low_width) = (v high * 2 ^ low_width % 2 ^ 64 + v low) % 2 ^ 64
operation_value v s (Extension a from to) = sext_of (v a % 2 ^ from) from to
operation_value v s (Table key places) = v (slice_index_or places (v key) 4294967295)
operation_value v s (Search key rows rest) = case_value v (v key) rows rest
operation_value v s (Drive drivers) = bus_value v drivers

-- the number of an inlet
abbrev pub inlet_value : List ℕ → ℕ → Option ℕ → ℕ
inlet_value regs word None = word
inlet_value regs word (Some id) = slice_index regs id

-- the array after the inlets
abbrev pub filled : List ℕ → ℕ → List Inlet → List ℕ → List ℕ
filled regs word [] values = values
filled regs word (inlet ∷ inlets) values =
    filled regs word inlets (slice_set values inlet.place (inlet_value regs word inlet.storage))

-- the array after the instructions
abbrev pub run_of : State → List Instruction → List ℕ → List ℕ
run_of s [] values = values
run_of s (instruction ∷ instructions) values =
    run_of s instructions
    (slice_set values instruction.place (operation_value (slice_index values) s instruction.operation))

-- operands are among so many places, and the widths are those of numbers of at most 64 bits
abbrev pub HasOperands : ℕ → Operation → Type 0
HasOperands n (Recall space addr) = addr < n
HasOperands n (Sum a b mask) = (a < n) × (b < n)
HasOperands n (Difference a b mask) = (a < n) × (b < n)
HasOperands n (Product a b mask) = (a < n) × (b < n)
HasOperands n (Conjunction a b) = (a < n) × (b < n)
HasOperands n (Disjunction a b) = (a < n) × (b < n)
HasOperands n (Exclusion a b) = (a < n) × (b < n)
HasOperands n (Sameness a b) = (a < n) × (b < n)
HasOperands n (Below a b) = (a < n) × (b < n)
HasOperands n (Unary op width a) = (a < n) × (1 ≤ width) × (width ≤ 64)
HasOperands n (Binary op width a b) = (a < n) × (b < n) × (1 ≤ width) × (width ≤ 64)
HasOperands n (Field of lowest mask) = (of < n) × (lowest ≤ 63)
HasOperands n (Pair high low low_width) = (high < n) × (low < n) × (low_width ≤ 63)
HasOperands n (Extension a from to) = (a < n) × (1 ≤ from) × (from ≤ to) × (to ≤ 64)
HasOperands n (Table key places) = key < n
HasOperands n (Search key rows rest) = key < n
HasOperands n (Drive drivers) = Unit {0}

-- inlets among so many places
abbrev pub AreWithin : ℕ → List Inlet → Type 0
AreWithin n inlets = AllByRecursion (λ (inlet : Inlet). inlet.place < n) inlets

-- instructions over so many places
abbrev pub AreReady : ℕ → List Instruction → Type 0
AreReady n instructions =
    AllByRecursion
    (λ (instruction : Instruction). (instruction.place < n) × HasOperands n instruction.operation)
    instructions
