-- The derived `==` of nodes and of operations tells all values apart.
use Rattle.std.proofs.Common.{◌≡◌, true, false, ◌&&◌, true≢false, refl, sym, nat_eq}
use Rattle.std.proofs.lemmas.Bool.{eqb-true}
use Rattle.rec_bits.proofs.Booleans.{both}
use Rattle.rec_bits.proofs.Equality.{number_self}
use Rattle.bit_bdd.specs.declared.Node.{Node}
use Rattle.bit_bdd.specs.declared.Node.TheVariants.{Never, Always, Ask}
use Rattle.bit_bdd.specs.contracts.NodePartialEq.TheImpl.{ghosts as node_eq}
use Rattle.bit_bdd.specs.declared.Operation.{Operation}
use Rattle.bit_bdd.specs.declared.Operation.TheVariants.{Choose, Exists}
use Rattle.bit_bdd.specs.contracts.OperationPartialEq.TheImpl.{ghosts as operation_eq}

-- equal nodes are the same
pub exact_node : (a b : Node) → node_eq.eq a b ≡ true → a ≡ b
exact_node Never Never h = refl
exact_node Never Always h = absurd (true≢false (sym h))
exact_node Never (Ask b z o) h = absurd (true≢false (sym h))
exact_node Always Never h = absurd (true≢false (sym h))
exact_node Always Always h = refl
exact_node Always (Ask b z o) h = absurd (true≢false (sym h))
exact_node (Ask b z o) Never h = absurd (true≢false (sym h))
exact_node (Ask b z o) Always h = absurd (true≢false (sym h))
exact_node (Ask b z o) (Ask b' z' o') h =
    let p = both (nat_eq b b') _ h in
    let q = both (nat_eq z z') (nat_eq o o') p.1 in
    let eb : b ≡ b' = eqb-true b b' p.0 in
    let ez : z ≡ z' = eqb-true z z' q.0 in
    let eo : o ≡ o' = eqb-true o o' q.1 in
    (λ j. Ask (eb j) (ez j) (eo j))

-- a node is equal to itself
pub alike_node : (a : Node) → node_eq.eq a a ≡ true
alike_node Never = refl
alike_node Always = refl
alike_node (Ask b z o) = (λ j. number_self b j && (number_self z j && number_self o j))

-- equal operations are the same
pub exact_operation : (a b : Operation) → operation_eq.eq a b ≡ true → a ≡ b
exact_operation (Choose t y n) (Exists s m) h = absurd (true≢false (sym h))
exact_operation (Exists s m) (Choose t y n) h = absurd (true≢false (sym h))
exact_operation (Choose t y n) (Choose t' y' n') h =
    let p = both (nat_eq t t') _ h in
    let q = both (nat_eq y y') (nat_eq n n') p.1 in
    let et : t ≡ t' = eqb-true t t' p.0 in
    let ey : y ≡ y' = eqb-true y y' q.0 in
    let en : n ≡ n' = eqb-true n n' q.1 in
    (λ j. Choose (et j) (ey j) (en j))
exact_operation (Exists s m) (Exists s' m') h =
    let p = both (nat_eq s s') (nat_eq m m') h in
    let es : s ≡ s' = eqb-true s s' p.0 in
    let em : m ≡ m' = eqb-true m m' p.1 in
    (λ j. Exists (es j) (em j))
