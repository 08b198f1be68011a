-- Which view of an image isn't right first, in the order of the views. A view says what a variable is, and
-- must not do the program's work: it is *modest* where it has eight nodes at most, and each of its
-- operators stands in the netlist. Registers, numbers and operators are nodes. Slices, extensions and
-- joins only place bits: they count nothing, and no net has to be one.
use Rattle.std.specs.Prelude.{ℕ, ◌+◌, ◌≡◌, ◌≤◌, ◌==◌, ◌&&◌, ◌<◌, Bool, true, false, List, length, Some, slice_get}
use Rattle.std.specs.List.{list_any}
use Rattle.net_model.specs.declared.hardware.Gate.{Gate}
use Rattle.net_model.specs.declared.hardware.Gate.TheVariants.{Un, Bin, Case}
use Rattle.net_model.specs.declared.hardware.Net.{Net}
use Rattle.net_model.specs.declared.hardware.Netlist.{Netlist}
use Rattle.net_model.specs.Exprs.{ExprModel, word, reg, const, read, un, bin, slice, cat, zext, sext, select, model_of_expr}
use Rattle.rec_bits.specs.Faults.{same_name}
use Rattle.rec_bits.specs.declared.operator.Op1.{Op1}
use Rattle.rec_bits.specs.declared.operator.Op2.{Op2}
use Rattle.code_model.specs.declared.image.Image.{Image}
use Rattle.code_model.specs.declared.views.View.{View}
use Rattle.code_model.specs.Views.{IsPlainView}
use Rattle.form_model.specs.Matches.{same_op1, same_op2}

-- ---- modest views

-- the registers, the numbers and the operators of an expression
abbrev pub nodes_of : ExprModel → ℕ
nodes_of (word w) = 1
nodes_of (reg r w) = 1
nodes_of (const w v) = 1
nodes_of (read space a w) = nodes_of a + 1
nodes_of (un o a) = nodes_of a + 1
nodes_of (bin o a b) = nodes_of a + nodes_of b + 1
nodes_of (slice a hi lo) = nodes_of a
nodes_of (cat a b) = nodes_of a + nodes_of b
nodes_of (zext a w) = nodes_of a
nodes_of (sext a w) = nodes_of a
nodes_of (select c a b) = nodes_of c + nodes_of a + nodes_of b + 1

-- the most nodes of a view
abbrev pub most_nodes : ℕ
most_nodes = 8

-- whether a gate is this operator of one operand, this one of two, or a choice
abbrev pub is_unary : Op1 → Gate → Bool
is_unary op (Un other a) = same_op1 other op
is_unary op _ = false

abbrev pub is_binary : Op2 → Gate → Bool
is_binary op (Bin other a b) = same_op2 other op
is_binary op _ = false

abbrev pub is_choice : Gate → Bool
is_choice (Case sel rows rest) = true
is_choice _ = false

-- whether one of these nets is so
abbrev pub has_unary : List Net → Op1 → Bool
has_unary nets op = list_any (λ net. is_unary op net.gate) nets

abbrev pub has_binary : List Net → Op2 → Bool
has_binary nets op = list_any (λ net. is_binary op net.gate) nets

abbrev pub has_choice : List Net → Bool
has_choice nets = list_any (λ net. is_choice net.gate) nets

-- whether each operator of an expression is that of one of these nets
abbrev pub is_made_of : List Net → ExprModel → Bool
is_made_of nets (word w) = true
is_made_of nets (reg r w) = true
is_made_of nets (const w v) = true
is_made_of nets (read space a w) = is_made_of nets a
is_made_of nets (un o a) = has_unary nets o && is_made_of nets a
is_made_of nets (bin o a b) = has_binary nets o && (is_made_of nets a && is_made_of nets b)
is_made_of nets (slice a hi lo) = is_made_of nets a
is_made_of nets (cat a b) = is_made_of nets a && is_made_of nets b
is_made_of nets (zext a w) = is_made_of nets a
is_made_of nets (sext a w) = is_made_of nets a
is_made_of nets (select c a b) = has_choice nets && (is_made_of nets c && (is_made_of nets a && is_made_of nets b))

pub record IsModest (netlist : Netlist) (value : ExprModel) : Type 0 where
  pub small : nodes_of value ≤ most_nodes
  pub made : is_made_of netlist.nets value ≡ true

-- ---- right views

-- no later view is of the variable at the mark of the view of this number
abbrev pub IsLastAt : List View → ℕ → View → Type 0
IsLastAt views at view =
    (later : ℕ) (other : View) → at < later → slice_get views later ≡ Some other →
    ((view.address == other.address) && same_name view.name other.name) ≡ false

-- the view of a number is plain and modest, and the only one of its variable at its mark from there on
pub record IsRightView (netlist : Netlist) (image : Image) (views : List View) (at : ℕ) : Type 0 where
  pub view : View
  pub there : slice_get views at ≡ Some view
  pub plain : IsPlainView netlist image view
  pub modest : IsModest netlist (model_of_expr view.value)
  pub only : IsLastAt views at view

-- the first view that isn't right is that of this variable at this address
pub record IsViewFault (netlist : Netlist) (image : Image) (views : List View) (address : ℕ) (name : List ℕ) : Type 0 where
  pub at : ℕ
  pub view : View
  pub there : slice_get views at ≡ Some view
  pub address_is : address ≡ view.address
  pub name_is : name ≡ view.name
  pub before : (k : ℕ) → k < at → IsRightView netlist image views k
  pub wrong : IsRightView netlist image views at → ⊥

abbrev pub AreViewsRight : Netlist → Image → List View → Type 0
AreViewsRight netlist image views = (k : ℕ) → k < length views → IsRightView netlist image views k
