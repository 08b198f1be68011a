-- Addresses that are the sum of an index and an array's address.
use Rattle.std.proofs.Common.{◌≡◌, ℕ, ◌<◌, ap, arith}
use Rattle.net_model.specs.Exprs.{ExprModel, size_of}
use Rattle.dual_bank.specs.Banked.{banked_address, banked_tree, summed}
use Rattle.dual_bank.specs.Inner.Sums.{IsSum}

-- the index is a part of it
pub index_below : (address index : ExprModel) (width base : ℕ) → IsSum address index width base → size_of index < size_of address
index_below address index width base h = let e = ap size_of h.is in omega (arith, e)

pub sum_banked : (k : ℕ) (address index : ExprModel) (width base : ℕ) → IsSum address index width base → banked_address k (banked_tree k address) ≡ summed k width (banked_tree k index) base
sum_banked k address index width base h = ap (λ t. banked_address k (banked_tree k t)) h.is
