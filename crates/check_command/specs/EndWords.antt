-- Which words plainly end an image: one that clashes nowhere, leaves the memory as it is, and makes the
-- program counter its own address, which the word's bits or a number tell.
use Rattle.std.specs.Prelude.{ℕ, ◌≡◌, Option, Some, None, option_map}
use Rattle.net_model.specs.declared.hardware.Netlist.{Netlist}
use Rattle.net_model.specs.Exprs.{ExprModel, word, reg, const, read, un, bin, slice, cat, zext, sext, select, write}
use Rattle.net_model.specs.Transfers.{IsClean, counter_transfer}
use Rattle.rec_bits.specs.Operators.{slice_of}
use Rattle.code_model.specs.Words.{KeepsMemory}

-- the address that an expression tells under a word: the word, a number, or bits of such an address
abbrev pub plain_address : ℕ → ExprModel → Option ℕ
plain_address i (word w) = Some i
plain_address i (const w v) = Some v
plain_address i (slice a hi lo) = option_map (λ address. slice_of address hi lo) (plain_address i a)
plain_address i (zext a w) = plain_address i a
plain_address i (reg r w) = None
plain_address i (read space a w) = None
plain_address i (un o a) = None
plain_address i (bin o a b) = None
plain_address i (cat a b) = None
plain_address i (sext a w) = None
plain_address i (select c a b) = None

-- the word makes the program counter this address
pub record PlainlyGoes (netlist : Netlist) (i address : ℕ) : Type 0 where
  pub to : ExprModel
  pub move : counter_transfer netlist i ≡ write to
  pub there : plain_address i to ≡ Some address

-- a word that plainly goes to its own address
pub record IsEndWord (netlist : Netlist) (i address : ℕ) : Type 0 where
  pub clean : IsClean netlist i
  pub goes : PlainlyGoes netlist i address
  pub keeps : KeepsMemory netlist i
