-- What occurs in an expression and in a transfer: registers, reads of the memory and of the file,
-- and instruction bits, and how often.
use Rattle.std.specs.Prelude.{ℕ, ◌+◌, ◌^◌, ◌≡◌, ◌≤◌, ◌==◌, ◌&&◌, ◌||◌, if◌then◌else◌, nat_le, nat_lt, Bool, true, false, bit_or, slice_index}
use Rattle.std.specs.Int.{bit_at}
use Rattle.net_model.specs.declared.states.State.{State}
use Rattle.net_model.specs.declared.hardware.Space.{Space}
use Rattle.net_model.specs.Nets.{held}
use Rattle.net_model.specs.Exprs.{ExprModel, word, reg, const, read, un, bin, slice, cat, zext, sext, select, TransferModel, keep, write, write_at}

-- ---- whether something occurs

-- the register occurs in the expression
abbrev pub occurs : ℕ → ExprModel → Bool
occurs q (word w) = false
occurs q (reg r w) = r == q
occurs q (const w v) = false
occurs q (read space a w) = occurs q a
occurs q (un o a) = occurs q a
occurs q (bin o a b) = occurs q a || occurs q b
occurs q (slice a hi lo) = occurs q a
occurs q (cat a b) = occurs q a || occurs q b
occurs q (zext a w) = occurs q a
occurs q (sext a w) = occurs q a
occurs q (select c a b) = occurs q c || (occurs q a || occurs q b)

abbrev pub transfer_occurs : ℕ → TransferModel → Bool
transfer_occurs q keep = false
transfer_occurs q (write e) = occurs q e
transfer_occurs q (write_at a e) = occurs q a || occurs q e

-- a read of the memory or of the file occurs in the expression
abbrev pub has_read : ExprModel → Bool
has_read (word w) = false
has_read (reg r w) = false
has_read (const w v) = false
has_read (read space a w) = true
has_read (un o a) = has_read a
has_read (bin o a b) = has_read a || has_read b
has_read (slice a hi lo) = has_read a
has_read (cat a b) = has_read a || has_read b
has_read (zext a w) = has_read a
has_read (sext a w) = has_read a
has_read (select c a b) = has_read c || (has_read a || has_read b)

abbrev pub transfer_has_read : TransferModel → Bool
transfer_has_read keep = false
transfer_has_read (write e) = has_read e
transfer_has_read (write_at a e) = has_read a || has_read e

-- the registers that occur in an expression, one bit for each
abbrev pub registers : ExprModel → ℕ
registers (word w) = 0
registers (reg r w) = 2 ^ r
registers (const w v) = 0
registers (read space a w) = registers a
registers (un o a) = registers a
registers (bin o a b) = bit_or (registers a) (registers b)
registers (slice a hi lo) = registers a
registers (cat a b) = bit_or (registers a) (registers b)
registers (zext a w) = registers a
registers (sext a w) = registers a
registers (select c a b) = bit_or (bit_or (registers c) (registers a)) (registers b)

abbrev pub transfer_registers : TransferModel → ℕ
transfer_registers keep = 0
transfer_registers (write e) = registers e
transfer_registers (write_at a e) = bit_or (registers a) (registers e)

-- ---- how often

-- how often a register occurs in an expression
abbrev pub register_uses : ℕ → ExprModel → ℕ
register_uses q (word w) = 0
register_uses q (reg r w) = if r == q then 1 else 0
register_uses q (const w v) = 0
register_uses q (read space a w) = register_uses q a
register_uses q (un o a) = register_uses q a
register_uses q (bin o a b) = register_uses q a + register_uses q b
register_uses q (slice a hi lo) = register_uses q a
register_uses q (cat a b) = register_uses q a + register_uses q b
register_uses q (zext a w) = register_uses q a
register_uses q (sext a w) = register_uses q a
register_uses q (select c a b) = register_uses q c + register_uses q a + register_uses q b

abbrev pub transfer_register_uses : ℕ → TransferModel → ℕ
transfer_register_uses q keep = 0
transfer_register_uses q (write e) = register_uses q e
transfer_register_uses q (write_at a e) = register_uses q a + register_uses q e

-- and how often an instruction bit
abbrev pub bit_uses : ℕ → ExprModel → ℕ
bit_uses k (word w) = if nat_lt k w then 1 else 0
bit_uses k (reg r w) = 0
bit_uses k (const w v) = 0
bit_uses k (read space a w) = bit_uses k a
bit_uses k (un o a) = bit_uses k a
bit_uses k (bin o a b) = bit_uses k a + bit_uses k b
bit_uses k (slice (word w) hi lo) = if nat_le lo k && nat_le k hi then 1 else 0
bit_uses k (slice a hi lo) = bit_uses k a
bit_uses k (cat a b) = bit_uses k a + bit_uses k b
bit_uses k (zext a w) = bit_uses k a
bit_uses k (sext a w) = bit_uses k a
bit_uses k (select c a b) = bit_uses k c + bit_uses k a + bit_uses k b

abbrev pub transfer_bit_uses : ℕ → TransferModel → ℕ
transfer_bit_uses k keep = 0
transfer_bit_uses k (write e) = bit_uses k e
transfer_bit_uses k (write_at a e) = bit_uses k a + bit_uses k e

-- no register but the free ones, which are the bits of a mask, and no instruction bit occurs twice
-- in a transfer, address and value together
pub record IsLinear (free : ℕ) (move : TransferModel) : Type 0 where
  pub registers : (r : ℕ) → bit_at free r ≡ 0 → transfer_register_uses r move ≤ 1
  pub bits : (k : ℕ) → transfer_bit_uses k move ≤ 1

-- ---- states that can't be told apart

-- two states that agree on these registers, and on the memory and the file where one is read
pub record AgreeOn (reads : ℕ → Bool) (memory : Bool) (s t : State) : Type 0 where
  pub regs : (r : ℕ) → reads r ≡ true → slice_index s.regs r ≡ slice_index t.regs r
  pub cells : memory ≡ true → (space : Space) → held s space ≡ held t space
