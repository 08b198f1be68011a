-- Modest views, computed on a16, which adds, subtracts and compares, and has no multiplier.
use Rattle.std.specs.Prelude.{◌≡◌, refl, true, false}
use Rattle.std.proofs.Common.{arith}
use Rattle.rec_bits.specs.declared.operator.Op1.TheVariants.{Not}
use Rattle.rec_bits.specs.declared.operator.Op2.TheVariants.{Add, Sub, Mul, Sar}
use Rattle.net_model.specs.Exprs.{ExprModel, reg, const, un, bin, slice, cat, sext, select}
use Rattle.net_model.specs.Worked.{a16}
use Rattle.check_command.specs.Views.{IsModest, is_made_of, nodes_of}

abbrev acc : ExprModel
acc = reg 1 16

-- a counter down from 8
abbrev down : ExprModel
down = bin Sub (const 16 8) acc

pub down_modest : IsModest a16 down
down_modest = record { small = omega arith; made = refl }

-- a sum with the high half of a product: seven nodes, of which a16 has the sum alone
abbrev scaled : ExprModel
scaled = bin Add acc (slice (bin Sar (bin Mul (sext acc 32) (sext acc 32)) (const 32 15)) 15 0)

pub scaled_nodes : nodes_of scaled ≡ 7
scaled_nodes = refl

pub scaled_unmade : is_made_of a16.nets scaled ≡ false
scaled_unmade = refl

-- five registers in one sum have nine nodes
abbrev long : ExprModel
long = bin Add acc (bin Add acc (bin Add acc (bin Add acc acc)))

pub long_made : is_made_of a16.nets long ≡ true
long_made = refl

pub long_nodes : nodes_of long ≡ 9
long_nodes = refl

pub long_refused : IsModest a16 long → ⊥
long_refused h = let few = h.small in omega (arith, few)

-- slices, extensions and joins count nothing; a16 complements nothing, and it chooses
pub joined_nodes : nodes_of (cat (slice acc 7 0) (slice acc 15 8)) ≡ 2
joined_nodes = refl

pub not_unmade : is_made_of a16.nets (un Not acc) ≡ false
not_unmade = refl

pub chosen_made : is_made_of a16.nets (select (slice acc 0 0) acc (const 16 0)) ≡ true
chosen_made = refl
