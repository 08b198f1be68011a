-- The tied read: in a pattern that writes the register file, the read of it at the address that is
-- written. The *tied read* of a pattern that writes the file is the leftmost read of the file at
-- the address that is written, term for term, and is known by its place among the operands. The
-- bits of that address count once, so where there is a tied read the pattern's value alone has to
-- be linear (`counted`).
use Rattle.std.specs.Prelude.{ℕ, ◌+◌, ◌==◌, ◌&&◌, ◌||◌, Bool, true, false, if◌then◌else◌, is_some, option_map, Option, Some, None}
use Rattle.net_model.specs.declared.hardware.Space.TheVariants.{Memory as InMemory, File as InFile}
use Rattle.net_model.specs.Exprs.{ExprModel, word, reg, const, read, un, bin, slice, cat, zext, sext, select, TransferModel, keep, write, write_at}
use Rattle.form_model.specs.Effects.{same_space}
use Rattle.form_model.specs.Matches.{same_op1, same_op2}
use Rattle.operand_swaps.specs.Swaps.{SidesModel}
use Rattle.form_set.specs.Targets.{first_of}

-- two expressions are one
abbrev pub same_expr : ExprModel → ExprModel → Bool
same_expr (word w) (word x) = w == x
same_expr (reg r w) (reg q x) = r == q && w == x
same_expr (const w v) (const x u) = w == x && v == u
same_expr (read s a w) (read t b x) = same_space s t && (same_expr a b && w == x)
same_expr (un o a) (un p b) = same_op1 o p && same_expr a b
same_expr (bin o a b) (bin p c d) = same_op2 o p && (same_expr a c && same_expr b d)
same_expr (slice a hi lo) (slice b top low) = same_expr a b && (hi == top && lo == low)
same_expr (cat a b) (cat c d) = same_expr a c && same_expr b d
same_expr (zext a w) (zext b x) = same_expr a b && w == x
same_expr (sext a w) (sext b x) = same_expr a b && w == x
same_expr (select c a b) (select d e f) = same_expr c d && (same_expr a e && same_expr b f)
same_expr _ _ = false

-- an operand is a register or a read of the file: how many there are in an expression
abbrev pub operand_count : ExprModel → ℕ
operand_count (word w) = 0
operand_count (reg r w) = 1
operand_count (const w v) = 0
operand_count (read InMemory a w) = operand_count a
operand_count (read InFile a w) = 1
operand_count (un o a) = operand_count a
operand_count (bin o a b) = operand_count a + operand_count b
operand_count (slice a hi lo) = operand_count a
operand_count (cat a b) = operand_count a + operand_count b
operand_count (zext a w) = operand_count a
operand_count (sext a w) = operand_count a
operand_count (select c a b) = operand_count c + (operand_count a + operand_count b)

-- a place among the operands of the second of two expressions, as one among those of both
abbrev pub behind : ExprModel → Option ℕ → Option ℕ
behind a place = option_map (λ k. operand_count a + k) place

-- the place among an expression's operands, from the left, of its first read of the file at this
-- address
abbrev pub tied_place : ExprModel → ExprModel → Option ℕ
tied_place at (word w) = None
tied_place at (reg r w) = None
tied_place at (const w v) = None
tied_place at (read InMemory a w) = tied_place at a
tied_place at (read InFile a w) = if same_expr a at then Some 0 else None
tied_place at (un o a) = tied_place at a
tied_place at (bin o a b) = first_of (tied_place at a) (behind a (tied_place at b))
tied_place at (slice a hi lo) = tied_place at a
tied_place at (cat a b) = first_of (tied_place at a) (behind a (tied_place at b))
tied_place at (zext a w) = tied_place at a
tied_place at (sext a w) = tied_place at a
tied_place at (select c a b) =
    first_of (tied_place at c) (behind c (first_of (tied_place at a) (behind a (tied_place at b))))

-- the place of a transfer's tied read; only a transfer of the file has one
abbrev pub tied_at : Bool → Option ExprModel → ExprModel → Option ℕ
tied_at filed None value = None
tied_at filed (Some addr) value = if filed then tied_place addr value else None

abbrev pub tied_of : Bool → SidesModel → Option ℕ
tied_of filed sides = tied_at filed sides.addr sides.value

-- what is counted of a transfer to see whether it is linear: the tied read has the address that is
-- written as its own, and so that is counted once
abbrev pub counted : Bool → TransferModel → TransferModel
counted filed keep = keep
counted filed (write e) = write e
counted filed (write_at a e) = if filed && is_some (tied_place a e) then write e else write_at a e
