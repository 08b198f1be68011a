-- The static parts of expressions, which the instruction word settles, and the addresses of the
-- register file in them.
use Rattle.std.specs.Prelude.{ℕ, Bool, true, false, ◌==◌, ◌&&◌, if◌then◌else◌}
use Rattle.net_model.specs.declared.hardware.Netlist.{Netlist}
use Rattle.net_model.specs.declared.hardware.Space.TheVariants.{Memory as InMemory, File as InFile}
use Rattle.net_model.specs.Nets.{place_in, size_in}
use Rattle.net_model.specs.Patterns.{Pattern}
use Rattle.net_model.specs.Exprs.{ExprModel, word, reg, const, read, un, bin, slice, cat, zext, sext, select, TransferModel, keep, write, write_at}
use Rattle.form_model.specs.Shapes.{is_shape, is_shape_in, shows_below}

-- an expression over the instruction word and constants
abbrev pub is_static_expr : ExprModel → Bool
is_static_expr (word w) = true
is_static_expr (reg r w) = false
is_static_expr (const w v) = true
is_static_expr (read space a w) = false
is_static_expr (un o a) = is_static_expr a
is_static_expr (bin o a b) = is_static_expr a && is_static_expr b
is_static_expr (slice a hi lo) = is_static_expr a
is_static_expr (cat a b) = is_static_expr a && is_static_expr b
is_static_expr (zext a w) = is_static_expr a
is_static_expr (sext a w) = is_static_expr a
is_static_expr (select c a b) = is_static_expr c && (is_static_expr a && is_static_expr b)

-- an outermost static part has to be a field shape; where an expression isn't static, its operands
-- decide
abbrev pub shaped : ℕ → ExprModel → Bool → Bool
shaped edition t operands = if is_static_expr t then is_shape_in edition t else operands

-- each static part of an expression that isn't inside another one is a field shape
abbrev pub has_shapes : ℕ → ExprModel → Bool
has_shapes edition (word w) = true
has_shapes edition (reg r w) = true
has_shapes edition (const w v) = true
has_shapes edition (read space a w) = has_shapes edition a
has_shapes edition (un o a) = shaped edition (un o a) (has_shapes edition a)
has_shapes edition (bin o a b) = shaped edition (bin o a b) (has_shapes edition a && has_shapes edition b)
has_shapes edition (slice a hi lo) = shaped edition (slice a hi lo) (has_shapes edition a)
has_shapes edition (cat a b) = shaped edition (cat a b) (has_shapes edition a && has_shapes edition b)
has_shapes edition (zext a w) = shaped edition (zext a w) (has_shapes edition a)
has_shapes edition (sext a w) = shaped edition (sext a w) (has_shapes edition a)
has_shapes edition (select c a b) =
    shaped edition (select c a b) (has_shapes edition c && (has_shapes edition a && has_shapes edition b))

abbrev pub transfer_shaped : ℕ → TransferModel → Bool
transfer_shaped edition keep = true
transfer_shaped edition (write e) = has_shapes edition e
transfer_shaped edition (write_at a e) = has_shapes edition a && has_shapes edition e

-- ---- addresses of the file

-- the address is a field shape that shows each of so many cells
abbrev pub shows_cells : ℕ → ExprModel → Bool
shows_cells size a = is_shape a && shows_below a size

-- so is the address of each read of the file in an expression
abbrev pub reads_shown : ℕ → ExprModel → Bool
reads_shown size (word w) = true
reads_shown size (reg r w) = true
reads_shown size (const w v) = true
reads_shown size (read InMemory a w) = reads_shown size a
reads_shown size (read InFile a w) = shows_cells size a
reads_shown size (un o a) = reads_shown size a
reads_shown size (bin o a b) = reads_shown size a && reads_shown size b
reads_shown size (slice a hi lo) = reads_shown size a
reads_shown size (cat a b) = reads_shown size a && reads_shown size b
reads_shown size (zext a w) = reads_shown size a
reads_shown size (sext a w) = reads_shown size a
reads_shown size (select c a b) = reads_shown size c && (reads_shown size a && reads_shown size b)

-- and in a transfer, with the address that it writes, where it writes the file
abbrev pub transfer_shown : Bool → ℕ → TransferModel → Bool
transfer_shown filed size keep = true
transfer_shown filed size (write e) = reads_shown size e
transfer_shown filed size (write_at a e) =
    (if filed then shows_cells size a else reads_shown size a) && reads_shown size e

-- whether a storage is the register file
abbrev pub is_file_at : Netlist → ℕ → Bool
is_file_at netlist storage = storage == place_in InFile netlist.storages

-- each address of the file in a pattern shows every cell of the file
abbrev pub cells_shown : Netlist → Pattern → Bool
cells_shown netlist pattern =
    transfer_shown (is_file_at netlist pattern.storage) (size_in InFile netlist.storages) pattern.move
