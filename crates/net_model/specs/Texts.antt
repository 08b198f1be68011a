-- How expressions and transfers are written: without spaces, with the names of the netlist.
use Rattle.std.specs.Prelude.{ℕ, List, [], ◌∷◌, codes, Option, Some, None, slice_get}
use Rattle.std.specs.List.{concat}
use Rattle.std.specs.Fmt.{decimal}
use Rattle.rec_bits.specs.declared.operator.Op1.{Op1}
use Rattle.rec_bits.specs.declared.operator.Op1.TheVariants.{Not, Neg}
use Rattle.rec_bits.specs.declared.operator.Op2.{Op2}
use Rattle.rec_bits.specs.declared.operator.Op2.TheVariants.{Add, Sub, Mul, And, Or, Xor, Shl, Shr, Sar, Eq, Ltu, Lts}
use Rattle.net_model.specs.declared.hardware.Netlist.{Netlist}
use Rattle.net_model.specs.declared.hardware.Code.{Code}
use Rattle.net_model.specs.declared.hardware.Storage.{Storage}
use Rattle.net_model.specs.declared.hardware.Space.{Space}
use Rattle.net_model.specs.declared.hardware.Space.TheVariants.{Memory as InMemory}
use Rattle.net_model.specs.Exprs.{ExprModel, word, reg, const, read, un, bin, slice, cat, zext, sext, select, TransferModel, keep, write, write_at}
use Rattle.net_model.specs.Nets.{storage_name, place_in}

abbrev pub name_in : Option Storage → List ℕ
name_in None = []
name_in (Some storage) = storage_name storage

-- the name of the storage of this number, of that with the cells of a space, of the data memory,
-- and of the instruction word
abbrev pub name_of : Netlist → ℕ → List ℕ
name_of netlist id = name_in (slice_get netlist.storages id)

abbrev pub space_name : Netlist → Space → List ℕ
space_name netlist space = name_of netlist (place_in space netlist.storages)

abbrev pub memory_name : Netlist → List ℕ
memory_name netlist = space_name netlist InMemory

abbrev pub first_name : List Code → List ℕ
first_name [] = []
first_name (code ∷ codes) = code.name

abbrev pub op1_text : Op1 → List ℕ
op1_text Not = codes "not"
op1_text Neg = codes "neg"

abbrev pub op2_text : Op2 → List ℕ
op2_text Add = codes "add"
op2_text Sub = codes "sub"
op2_text Mul = codes "mul"
op2_text And = codes "and"
op2_text Or = codes "or"
op2_text Xor = codes "xor"
op2_text Shl = codes "shl"
op2_text Shr = codes "shr"
op2_text Sar = codes "sar"
op2_text Eq = codes "eq"
op2_text Ltu = codes "ltu"
op2_text Lts = codes "lts"

-- an expression
abbrev pub expr_text : Netlist → ExprModel → List ℕ
expr_text netlist (word w) = first_name netlist.codes
expr_text netlist (reg r w) = name_of netlist r
expr_text netlist (const w v) = concat (decimal v ∷ codes "#" ∷ decimal w ∷ [])
expr_text netlist (read space a w) =
    concat (codes "read(" ∷ space_name netlist space ∷ codes "," ∷ expr_text netlist a ∷ codes ")" ∷ [])
expr_text netlist (un op a) = concat (op1_text op ∷ codes "(" ∷ expr_text netlist a ∷ codes ")" ∷ [])
expr_text netlist (bin op a b) =
    concat (op2_text op ∷ codes "(" ∷ expr_text netlist a ∷ codes "," ∷ expr_text netlist b ∷ codes ")" ∷ [])
expr_text netlist (slice a hi lo) =
    concat (codes "slice(" ∷ expr_text netlist a ∷ codes "," ∷ decimal hi ∷ codes "," ∷ decimal lo ∷ codes ")" ∷ [])
expr_text netlist (cat a b) =
    concat (codes "cat(" ∷ expr_text netlist a ∷ codes "," ∷ expr_text netlist b ∷ codes ")" ∷ [])
expr_text netlist (zext a w) = concat (codes "zext(" ∷ expr_text netlist a ∷ codes "," ∷ decimal w ∷ codes ")" ∷ [])
expr_text netlist (sext a w) = concat (codes "sext(" ∷ expr_text netlist a ∷ codes "," ∷ decimal w ∷ codes ")" ∷ [])
expr_text netlist (select c a b) =
    concat (codes "select(" ∷ expr_text netlist c ∷ codes "," ∷ expr_text netlist a ∷ codes ","
    ∷ expr_text netlist b ∷ codes ")" ∷ [])

-- a transfer of the storage of this number
abbrev pub text_of_transfer : Netlist → ℕ → TransferModel → List ℕ
text_of_transfer netlist id keep = []
text_of_transfer netlist id (write e) = concat (name_of netlist id ∷ codes " := " ∷ expr_text netlist e ∷ [])
text_of_transfer netlist id (write_at a e) =
    concat (name_of netlist id ∷ codes "[" ∷ expr_text netlist a ∷ codes "] := " ∷ expr_text netlist e ∷ [])
