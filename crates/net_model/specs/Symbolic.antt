-- The symbolic value of a net under one instruction word: an expression over registers, the
-- memory, the register file, constants and the word. Static selectors and bus enables are decided
-- by the word; a selector of one bit that isn't static becomes a choice; a slice of a slice is one
-- slice, one of the whole width its operand; nothing else is simplified.
use Rattle.std.specs.Prelude.{ℕ, zero, suc, ◌+◌, ◌==◌, ◌&&◌, if◌then◌else◌, List, [], ◌∷◌, length, Option, Some, None, slice_get, Bool, true, false}
use Rattle.net_model.specs.declared.hardware.Netlist.{Netlist}
use Rattle.net_model.specs.declared.hardware.Net.{Net}
use Rattle.net_model.specs.declared.hardware.Gate.{Gate}
use Rattle.net_model.specs.declared.hardware.Gate.TheVariants.{Word, Reg, Read, Const, Wire, Un, Bin, Slice, Cat, Zext, Sext, Case, Bus}
use Rattle.net_model.specs.declared.states.State.{State}
use Rattle.net_model.specs.Exprs.{ExprModel, word, reg, const, read, un, bin, slice, cat, zext, sext, select, expr_width}
use Rattle.net_model.specs.Nets.{width_at, gate_nets, space_at}
use Rattle.net_model.specs.Value.{value_within}

-- ---- static nets: all that they depend on is the instruction word and constants

abbrev pub reads_state : Gate → Bool
reads_state (Reg id) = true
reads_state (Read memory addr) = true
reads_state _ = false

abbrev pub all_nets : (ℕ → Bool) → List ℕ → Bool
all_nets f [] = true
all_nets f (m ∷ ms) = f m && all_nets f ms

-- where f tells of the nets that the gate names
abbrev pub gate_static : (ℕ → Bool) → Gate → Bool
gate_static f gate = if reads_state gate then false else all_nets f (gate_nets gate)

abbrev pub net_static : (ℕ → Bool) → Option Net → Bool
net_static f None = true
net_static f (Some net) = gate_static f net.gate

abbrev pub static_within : ℕ → Netlist → ℕ → Bool
static_within zero netlist n = true
static_within (suc k) netlist n = net_static (static_within k netlist) (slice_get netlist.nets n)

abbrev pub is_static : Netlist → ℕ → Bool
is_static netlist n = static_within (length netlist.nets) netlist n

-- a state with nothing in it, in which the values of static nets are read
abbrev pub no_state : State
no_state = record { regs = []; cells = []; file = [] }

-- ---- symbolic values

-- a slice, where a slice of a slice is one slice and a slice of the full width is its operand
abbrev pub sliced : ExprModel → ℕ → ℕ → ExprModel
sliced (slice a h l) hi lo = slice a (l + hi) (l + lo)
sliced a hi lo = if (lo == 0) && (hi + 1 == expr_width a) then a else slice a hi lo

-- the row that a case takes at this number
abbrev pub case_expr : (ℕ → ExprModel) → ℕ → ℕ → List (ℕ × ℕ) → Option ℕ → ExprModel
case_expr t width key [] None = const width 0
case_expr t width key [] (Some rest) = t rest
case_expr t width key (row ∷ rows) rest = if row.0 == key then t row.1 else case_expr t width key rows rest

-- the first driver whose enable is 1, and the constant 0 where there is none
abbrev pub bus_expr : (ℕ → ExprModel) → (ℕ → ℕ) → ℕ → List (ℕ × ℕ) → ExprModel
bus_expr t u width [] = const width 0
bus_expr t u width (driver ∷ drivers) = if u driver.1 == 1 then t driver.0 else bus_expr t u width drivers

-- a gate of this width: t gives the symbolic values of the nets that it names, u the values of
-- static ones, f which are static
abbrev pub gate_expr : (ℕ → ExprModel) → (ℕ → ℕ) → (ℕ → Bool) → Netlist → ℕ → Gate → ExprModel
gate_expr t u f netlist width (Word code) = word width
gate_expr t u f netlist width (Reg id) = reg id width
gate_expr t u f netlist width (Read memory addr) = read (space_at netlist memory) (t addr) width
gate_expr t u f netlist width (Const c) = const width c
gate_expr t u f netlist width (Wire a) = t a
gate_expr t u f netlist width (Un op a) = un op (t a)
gate_expr t u f netlist width (Bin op a b) = bin op (t a) (t b)
gate_expr t u f netlist width (Slice of hi lo) = sliced (t of) hi lo
gate_expr t u f netlist width (Cat a b) = cat (t a) (t b)
gate_expr t u f netlist width (Zext a) = zext (t a) width
gate_expr t u f netlist width (Sext a) = sext (t a) width
gate_expr t u f netlist width (Case sel rows rest) =
    if f sel then case_expr t width (u sel) rows rest
    else select (t sel) (case_expr t width 1 rows rest) (case_expr t width 0 rows rest)
gate_expr t u f netlist width (Bus drivers) = bus_expr t u width drivers

abbrev pub net_expr : (ℕ → ExprModel) → (ℕ → ℕ) → (ℕ → Bool) → Netlist → Option Net → ExprModel
net_expr t u f netlist None = const 0 0
net_expr t u f netlist (Some net) = gate_expr t u f netlist net.width net.gate

abbrev pub sym_within : ℕ → Netlist → ℕ → ℕ → ExprModel
sym_within zero netlist i n = const (width_at netlist n) 0
sym_within (suc k) netlist i n =
    net_expr (sym_within k netlist i) (value_within k netlist no_state i) (is_static netlist) netlist (slice_get netlist.nets n)

-- the symbolic value of net n under the word i
abbrev pub sym_of : Netlist → ℕ → ℕ → ExprModel
sym_of netlist i n = sym_within (length netlist.nets) netlist i n
