-- Addresses that are the sum of an index and an array's address.
use Rattle.std.specs.Prelude.{ℕ, ◌≡◌}
use Rattle.rec_bits.specs.declared.operator.Op2.TheVariants.{Add}
use Rattle.net_model.specs.Exprs.{ExprModel, bin, const, slice}
use Rattle.dual_bank.specs.Banked.{banked_address, banked_tree}

pub record IsSum (address index : ExprModel) (width base : ℕ) : Type 0 where
  pub hi : ℕ
  pub lo : ℕ
  pub is : address ≡ slice (bin Add index (const width base)) hi lo

-- no address is made of it but its own
abbrev pub IsNoSum : ExprModel → Type 0
IsNoSum address = (k : ℕ) → banked_address k (banked_tree k address) ≡ banked_tree k address
