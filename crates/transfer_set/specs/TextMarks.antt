-- When texts of expressions tell the expressions apart.
use Rattle.std.specs.Prelude.{◌≡◌, ℕ, ◌^◌, ◌<◌, ◌==◌, ◌||◌, Bool, true, false, List, [], ◌∷◌, length, slice_get}
use Rattle.net_model.specs.declared.hardware.Netlist.{Netlist}
use Rattle.net_model.specs.Nets.{width_in, place_in, storage_bits, word_width}
use Rattle.net_model.specs.Exprs.{ExprModel, word, reg, const, read, un, bin, slice, cat, zext, sext, select, TransferModel, keep, write, write_at}
use Rattle.net_model.specs.Texts.{first_name, name_of}

-- a comma, or a bracket that closes
abbrev pub is_close : ℕ → Bool
is_close b = (b == 44) || (b == 41) || (b == 93)

-- such a byte, `#`, a bracket that opens, or a blank
abbrev pub is_mark : ℕ → Bool
is_mark b = is_close b || ((b == 35) || (b == 40) || (b == 91) || (b == 32))

-- none of these bytes
abbrev pub Plain : List ℕ → Type 0
Plain [] = Unit {0}
Plain (b ∷ bs) = (is_mark b ≡ false) × Plain bs

-- nothing, or a byte first that closes
abbrev pub Closes : List ℕ → Type 0
Closes [] = Unit {0}
Closes (b ∷ bs) = is_close b ≡ true

-- nothing, or a mark first
abbrev pub Marks : List ℕ → Type 0
Marks [] = Unit {0}
Marks (b ∷ bs) = is_mark b ≡ true

-- the names of a netlist have no marks
pub record HasPlainNames (netlist : Netlist) : Type 0 where
  pub storages : (id : ℕ) → Plain (name_of netlist id)
  pub code : Plain (first_name netlist.codes)

-- what an expression names is the netlist's, with its width, and its numbers are below 2 to the 64
abbrev pub IsExprOf : Netlist → ExprModel → Type 0
IsExprOf netlist (word w) = w ≡ word_width netlist
IsExprOf netlist (reg r w) = (r < length netlist.storages) × (w ≡ storage_bits (slice_get netlist.storages r))
IsExprOf netlist (const w v) = (w < 2 ^ 64) × (v < 2 ^ 64)
IsExprOf netlist (read space a w) =
    IsExprOf netlist a × (w ≡ width_in space netlist.storages) × (place_in space netlist.storages < length netlist.storages)
IsExprOf netlist (un o a) = IsExprOf netlist a
IsExprOf netlist (bin o a b) = IsExprOf netlist a × IsExprOf netlist b
IsExprOf netlist (slice a hi lo) = IsExprOf netlist a × (hi < 2 ^ 64) × (lo < 2 ^ 64)
IsExprOf netlist (cat a b) = IsExprOf netlist a × IsExprOf netlist b
IsExprOf netlist (zext a w) = IsExprOf netlist a × (w < 2 ^ 64)
IsExprOf netlist (sext a w) = IsExprOf netlist a × (w < 2 ^ 64)
IsExprOf netlist (select c a b) = IsExprOf netlist c × IsExprOf netlist a × IsExprOf netlist b

-- so are the expressions of a transfer
abbrev pub IsTransferOf : Netlist → TransferModel → Type 0
IsTransferOf netlist keep = Unit {0}
IsTransferOf netlist (write e) = IsExprOf netlist e
IsTransferOf netlist (write_at a e) = IsExprOf netlist a × IsExprOf netlist e
