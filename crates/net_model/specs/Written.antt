-- What the items and expressions of a netlist text say, apart from where they lie in memory.
use Rattle.std.specs.Prelude.{ℕ, List, [], ◌∷◌, map, Option, Some, None}
use Rattle.std.specs.Global.{Vec, Box}
use Rattle.rec_bits.specs.declared.operator.Op1.{Op1}
use Rattle.rec_bits.specs.declared.operator.Op2.{Op2}
use Rattle.grammar.specs.declared.words.Ident.{Ident}
use Rattle.net_model.specs.declared.units.Port.{Port}
use Rattle.net_model.specs.declared.units.Units.{Units}
use Rattle.net_model.specs.declared.units.RegisterKind.{RegisterKind}
use Rattle.net_model.specs.declared.hardware.Space.{Space}
use Rattle.net_model.specs.declared.units.Unit.{Unit as Item}
use Rattle.net_model.specs.declared.units.Unit.TheVariants.{Code, Register, Memory, Net, Bus, Module, Part}
use Rattle.net_model.specs.declared.units.NetExpr.{NetExpr, Named, Const, Un', Bin', Cat', Slice', Zext', Sext', Read', Case', Row_of-NetExpr-Case-1-2, end_of-NetExpr-Case-1-2, more_of-NetExpr-Case-1-2, Held-NetExpr-Case-2, None', Some'}

-- ---- expressions

mutual
  pub data NetExprModel : Type 0 where
    named : Ident → Option Ident → Option (ℕ × ℕ) → NetExprModel
    const : ℕ → ℕ → NetExprModel
    un : Op1 → NetExprModel → NetExprModel
    bin : Op2 → NetExprModel → NetExprModel → NetExprModel
    cat : NetExprModel → NetExprModel → NetExprModel
    slice : NetExprModel → ℕ → ℕ → NetExprModel
    zext : NetExprModel → ℕ → NetExprModel
    sext : NetExprModel → ℕ → NetExprModel
    read : Ident → NetExprModel → NetExprModel
    case : NetExprModel → CaseRowsModel → CaseRestModel → NetExprModel

  pub data CaseRowsModel : Type 0 where
    no_rows : CaseRowsModel
    row : List ℕ → NetExprModel → CaseRowsModel → CaseRowsModel

  pub data CaseRestModel : Type 0 where
    no_rest : CaseRestModel
    rest : NetExprModel → CaseRestModel

abbrev mutual
  pub model_of_net_expr : NetExpr → NetExprModel
  model_of_net_expr (Named name field bits) = named name field bits
  model_of_net_expr (Const value width) = const value width
  model_of_net_expr (Un' op p a) = un op (model_of_net_expr a)
  model_of_net_expr (Bin' op p a q b) = bin op (model_of_net_expr a) (model_of_net_expr b)
  model_of_net_expr (Cat' p a q b) = cat (model_of_net_expr a) (model_of_net_expr b)
  model_of_net_expr (Slice' p a hi lo) = slice (model_of_net_expr a) hi lo
  model_of_net_expr (Zext' p a width) = zext (model_of_net_expr a) width
  model_of_net_expr (Sext' p a width) = sext (model_of_net_expr a) width
  model_of_net_expr (Read' memory p a) = read memory (model_of_net_expr a)
  model_of_net_expr (Case' p sel n rows held) = case (model_of_net_expr sel) (model_of_case_rows rows) (model_of_case_rest held)

  pub model_of_case_rows : {n : _} → Row_of-NetExpr-Case-1-2 n → CaseRowsModel
  model_of_case_rows end_of-NetExpr-Case-1-2 = no_rows
  model_of_case_rows (more_of-NetExpr-Case-1-2 numbers e others) = row numbers.items (model_of_net_expr e) (model_of_case_rows others)

  pub model_of_case_rest : Held-NetExpr-Case-2 → CaseRestModel
  model_of_case_rest None' = no_rest
  model_of_case_rest (Some' p e) = rest (model_of_net_expr e)

-- a row, and a rest, as the code holds them
abbrev pub model_of_case_row : Vec ℕ × NetExpr → List ℕ × NetExprModel
model_of_case_row r = (r.0.items, model_of_net_expr r.1)

abbrev pub other_of : Option (Box NetExpr) → Option NetExprModel
other_of None = None
other_of (Some b) = Some (model_of_net_expr b.value)

-- rows and a rest from a list of rows and an option
abbrev pub case_rows_of : List (List ℕ × NetExprModel) → CaseRowsModel
case_rows_of [] = no_rows
case_rows_of (r ∷ rs) = row r.0 r.1 (case_rows_of rs)

abbrev pub case_rest_of : Option NetExprModel → CaseRestModel
case_rest_of None = no_rest
case_rest_of (Some a) = rest a

-- ---- items

pub data UnitModel : Type 0 where
  code : Ident → ℕ → ℕ → Ident → UnitModel
  register : RegisterKind → Ident → ℕ → NetExprModel → Option NetExprModel → UnitModel
  memory : Space → Ident → ℕ → ℕ → ℕ → NetExprModel → NetExprModel → Option NetExprModel → UnitModel
  net : Ident → ℕ → NetExprModel → UnitModel
  bus : Ident → ℕ → List (NetExprModel × NetExprModel) → UnitModel
  module_item : Ident → List Port → List (Ident × NetExprModel) → UnitModel
  part : Ident → Ident → List (Ident × NetExprModel) → UnitModel

abbrev pub when_of : Option NetExpr → Option NetExprModel
when_of None = None
when_of (Some e) = Some (model_of_net_expr e)

abbrev pub driver_of : NetExpr × NetExpr → NetExprModel × NetExprModel
driver_of d = (model_of_net_expr d.0, model_of_net_expr d.1)

abbrev pub binding_of : Ident × NetExpr → Ident × NetExprModel
binding_of b = (b.0, model_of_net_expr b.1)

abbrev pub model_of_unit : Item → UnitModel
model_of_unit (Code name bits size counter) = code name bits size counter
model_of_unit (Register kind name width input when) = register kind name width (model_of_net_expr input) (when_of when)
model_of_unit (Memory space name width size addr_width value addr when) =
    memory space name width size addr_width (model_of_net_expr value) (model_of_net_expr addr) (when_of when)
model_of_unit (Net name width value) = net name width (model_of_net_expr value)
model_of_unit (Bus name width drivers) = bus name width (map driver_of drivers)
model_of_unit (Module name ports equations) = module_item name ports (map binding_of equations)
model_of_unit (Part name of links) = part name of (map binding_of links)

-- ---- texts

-- the edition of a text, and its items
pub record UnitsModel : Type 0 where
  pub edition : ℕ
  pub items : List UnitModel

abbrev pub model_of_units : Units → UnitsModel
model_of_units units = record { edition = units.edition; items = map model_of_unit units.items }
