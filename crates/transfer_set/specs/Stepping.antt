-- Transfers that step, and the words that give them.
use Rattle.std.specs.Prelude.{ℕ, ◌==◌, ◌&&◌, ◌||◌, Bool, false}
use Rattle.net_model.specs.Exprs.{ExprModel, reg, const, bin}
use Rattle.rec_bits.specs.declared.operator.Op2.TheVariants.{Add}
use Rattle.transfer_set.specs.declared.stepping.Counter.{Counter}

-- the register as it stands
abbrev pub is_reg : Counter → ExprModel → Bool
is_reg counter (reg id width) = (id == counter.storage) && (width == counter.width)
is_reg counter _ = false

-- the constant 1 of so many bits
abbrev pub is_one : ℕ → ExprModel → Bool
is_one bits (const width value) = (width == bits) && (value == 1)
is_one bits _ = false

-- the register plus 1, in either order
abbrev pub is_next : Counter → ExprModel → Bool
is_next counter (bin Add a b) =
    (is_reg counter a && is_one counter.width b) || (is_one counter.width a && is_reg counter b)
is_next counter _ = false
