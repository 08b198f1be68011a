-- The operators of some expressions that can be swapped, and what swaps make of them.
use Rattle.std.specs.Prelude.{◌≡◌, refl, [], ◌∷◌, Some, None}
use Rattle.rec_bits.specs.declared.operator.Op2.TheVariants.{Add, Sub, Mul, And, Or, Xor, Ltu}
use Rattle.net_model.specs.Exprs.{ExprModel, reg, bin, select}
use Rattle.operand_swaps.specs.Swaps.{operator_paths, same_path, swap_at, swap_count, swap_paths, swapped, SidesModel}

-- a sum in a sum: the outer one is operator 0
abbrev sums : ExprModel
sums = bin Add (bin Add (reg 1 4) (reg 2 4)) (reg 3 4)

sums_paths : operator_paths sums ≡ [] ∷ (0 ∷ []) ∷ []
sums_paths = refl

sums_outer : swapped 1 (record { addr = None; value = sums })
    ≡ record { addr = None; value = bin Add (reg 3 4) (bin Add (reg 1 4) (reg 2 4)) }
sums_outer = refl

-- the inner one is swapped where the outer one carried it
sums_both : swapped 3 (record { addr = None; value = sums })
    ≡ record { addr = None; value = bin Add (reg 3 4) (bin Add (reg 2 4) (reg 1 4)) }
sums_both = refl

-- by levels: the product at the root is 0, the two sums below are 1 and 2, and the product below
-- the second sum is 3
abbrev deep : ExprModel
deep = bin Mul (bin Add (reg 1 4) (reg 2 4)) (bin Add (bin Mul (reg 3 4) (reg 4 4)) (reg 5 4))

deep_paths : operator_paths deep ≡ [] ∷ (0 ∷ []) ∷ (1 ∷ []) ∷ (1 ∷ 0 ∷ []) ∷ []
deep_paths = refl

deep_count : swap_count (record { addr = None; value = deep }) ≡ 4
deep_count = refl

-- a root that is swapped carries its operands along, and their numbers stay as they were
deep_swapped : swapped 11 (record { addr = None; value = deep })
    ≡ record {
      addr = None;
      value = bin Mul (bin Add (bin Mul (reg 4 4) (reg 3 4)) (reg 5 4)) (bin Add (reg 2 4) (reg 1 4));
    }
deep_swapped = refl

-- operators that have no other order have no number, and those in them do
abbrev others : ExprModel
others = select (bin Ltu (reg 1 4) (bin Xor (reg 2 4) (reg 3 4))) (bin Sub (bin And (reg 1 4) (reg 2 4)) (reg 3 4))
    (bin Or (reg 4 4) (reg 5 4))

others_paths : operator_paths others ≡ (2 ∷ []) ∷ (0 ∷ 1 ∷ []) ∷ (1 ∷ 0 ∷ []) ∷ []
others_paths = refl

others_swapped : swapped 5 (record { addr = None; value = others })
    ≡ record {
      addr = None;
      value = select (bin Ltu (reg 1 4) (bin Xor (reg 2 4) (reg 3 4)))
          (bin Sub (bin And (reg 2 4) (reg 1 4)) (reg 3 4)) (bin Or (reg 5 4) (reg 4 4));
    }
others_swapped = refl

-- operators of the address come first, also those below the root of the value
abbrev both : SidesModel
both = record { addr = Some (bin Add (reg 1 4) (bin Mul (reg 2 4) (reg 3 4))); value = bin Add (reg 4 4) (reg 5 4) }

both_paths : swap_paths both ≡ (0 ∷ []) ∷ (0 ∷ 1 ∷ []) ∷ (1 ∷ []) ∷ []
both_paths = refl

both_swapped : swapped 5 both
    ≡ record { addr = Some (bin Add (bin Mul (reg 2 4) (reg 3 4)) (reg 1 4)); value = bin Add (reg 5 4) (reg 4 4) }
both_swapped = refl

-- a ninth operator keeps its operands in their order
abbrev sum : ExprModel → ExprModel
sum t = bin Add t (reg 1 4)

nine_count : swap_count (record { addr = None; value = sum (sum (sum (sum (sum (sum (sum (sum (sum (reg 2 4))))))))) }) ≡ 8
nine_count = refl

abbrev turned : ExprModel → ExprModel
turned t = bin Add (reg 1 4) t

nine_swapped : swapped 511 (record { addr = None; value = sum (sum (sum (sum (sum (sum (sum (sum (sum (reg 2 4))))))))) })
    ≡ record { addr = None; value = turned (turned (turned (turned (turned (turned (turned (turned (sum (reg 2 4))))))))) }
nine_swapped = refl

-- by its path alone
ninth_swapped : swap_at (λ path. same_path (0 ∷ 0 ∷ []) path) (sum (sum (sum (reg 2 4)))) ≡ sum (sum (turned (reg 2 4)))
ninth_swapped = refl
