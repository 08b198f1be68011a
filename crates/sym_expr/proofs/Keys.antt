-- The derived `==` of nodes tells all values apart.
use Rattle.std.proofs.Common.{◌≡◌, true, ◌&&◌, true≢false, sym, nat_eq}
use borrow.Author.Tests.{eqb-true}
use Rattle.rec_bits.proofs.Booleans.{both}
use Rattle.rec_bits.specs.contracts.operator.Op1PartialEq.TheImpl.{ghosts as op1_eq}
use Rattle.rec_bits.specs.contracts.operator.Op2PartialEq.TheImpl.{ghosts as op2_eq}
use Rattle.rec_bits.proofs.Equality.{number_self, op1_is, op2_is, op1_self, op2_self, of_number, of_two_numbers, of_three_numbers}
use Rattle.sym_expr.specs.declared.pool.Node.{Node}
use Rattle.sym_expr.specs.declared.pool.Node.TheVariants.{Word, Reg, Const, Read, Cell, Un, Bin, Slice, Cat, Zext, Sext, Select}
use Rattle.sym_expr.specs.contracts.pool.NodePartialEq.TheImpl.{ghosts as node_eq}

pub exact_node : (a b : Node) → node_eq.eq a b ≡ true → a ≡ b
exact_node (Word w) (Word w') h = of_number Word w w' h
exact_node (Reg r w) (Reg r' w') h = of_two_numbers Reg r w r' w' h
exact_node (Const w v) (Const w' v') h = of_two_numbers Const w v w' v' h
exact_node (Read a w) (Read a' w') h = of_two_numbers Read a w a' w' h
exact_node (Cell a w) (Cell a' w') h = of_two_numbers Cell a w a' w' h
exact_node (Un o a) (Un o' a') h =
    let p = both (op1_eq.eq o o') (nat_eq a a') h in
    let eo : o ≡ o' = op1_is o o' p.0 in
    let ea : a ≡ a' = eqb-true a a' p.1 in
    (λ j. Un (eo j) (ea j))
exact_node (Bin o a b) (Bin o' a' b') h =
    let p = both (op2_eq.eq o o') (nat_eq a a' && nat_eq b b') h in
    let q = both (nat_eq a a') (nat_eq b b') p.1 in
    let eo : o ≡ o' = op2_is o o' p.0 in
    let ea : a ≡ a' = eqb-true a a' q.0 in
    let eb : b ≡ b' = eqb-true b b' q.1 in
    (λ j. Bin (eo j) (ea j) (eb j))
exact_node (Slice a h l) (Slice a' h' l') e = of_three_numbers Slice a h l a' h' l' e
exact_node (Cat a b) (Cat a' b') h = of_two_numbers Cat a b a' b' h
exact_node (Zext a w) (Zext a' w') h = of_two_numbers Zext a w a' w' h
exact_node (Sext a w) (Sext a' w') h = of_two_numbers Sext a w a' w' h
exact_node (Select c a b) (Select c' a' b') h = of_three_numbers Select c a b c' a' b' h
exact_node a b h = absurd (true≢false (sym h))

pub alike_node : (a : Node) → node_eq.eq a a ≡ true
alike_node (Word w) = number_self w
alike_node (Reg r w) = (λ j. number_self r j && number_self w j)
alike_node (Const w v) = (λ j. number_self w j && number_self v j)
alike_node (Read a w) = (λ j. number_self a j && number_self w j)
alike_node (Cell a w) = (λ j. number_self a j && number_self w j)
alike_node (Un o a) = (λ j. op1_self o j && number_self a j)
alike_node (Bin o a b) = (λ j. op2_self o j && (number_self a j && number_self b j))
alike_node (Slice a h l) = (λ j. number_self a j && (number_self h j && number_self l j))
alike_node (Cat a b) = (λ j. number_self a j && number_self b j)
alike_node (Zext a w) = (λ j. number_self a j && number_self w j)
alike_node (Sext a w) = (λ j. number_self a j && number_self w j)
alike_node (Select c a b) = (λ j. number_self c j && (number_self a j && number_self b j))
