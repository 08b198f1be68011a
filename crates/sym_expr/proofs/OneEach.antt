-- In one pool, ids with equal expressions are equal.
use Rattle.std.proofs.Common.{◌≡◌, ℕ, zero, suc, ◌<◌, ◌≤◌, max, List, [], ◌∷◌, length, map, slice_get, slice_index, Some, refl, sym, ap, ◌∙◌, arith}
use Rattle.std.proofs.lemmas.Option.{slice_get-get_or}
use Rattle.std.specs.List.{slice_index_or}
use Rattle.rec_bits.proofs.Lists.{all_weaker}
use Rattle.net_model.specs.declared.hardware.Space.TheVariants.{Memory as InMemory, File as InFile}
use Rattle.net_model.specs.Exprs.{ExprModel, word, reg, const, read, un, bin, slice, cat, zext, sext, select}
use Rattle.sym_expr.specs.declared.pool.Node.{Node}
use Rattle.sym_expr.specs.declared.pool.Node.TheVariants.{Word, Reg, Const, Read, Cell, Un, Bin, Slice, Cat, Zext, Sext, Select}
use Rattle.sym_expr.specs.Pools.{node_expr, children_of, AllBelow, expr_of_id, IsPool, IsOneEach}
use Rattle.sym_expr.proofs.Trees.{expr_of_id-node}

-- a node without its ids, and with other ids in their places
abbrev with_parts : Node → List ℕ → Node
with_parts (Word w) is = Word w
with_parts (Reg r w) is = Reg r w
with_parts (Const w v) is = Const w v
with_parts (Read a w) is = Read (slice_index is 0) w
with_parts (Cell a w) is = Cell (slice_index is 0) w
with_parts (Un o a) is = Un o (slice_index is 0)
with_parts (Bin o a b) is = Bin o (slice_index is 0) (slice_index is 1)
with_parts (Slice a h l) is = Slice (slice_index is 0) h l
with_parts (Cat a b) is = Cat (slice_index is 0) (slice_index is 1)
with_parts (Zext a w) is = Zext (slice_index is 0) w
with_parts (Sext a w) is = Sext (slice_index is 0) w
with_parts (Select c a b) is = Select (slice_index is 0) (slice_index is 1) (slice_index is 2)

-- the operator at the head of an expression, and its operands
abbrev head_of : ExprModel → Node
head_of (word w) = Word w
head_of (reg r w) = Reg r w
head_of (const w v) = Const w v
head_of (read InMemory a w) = Read 0 w
head_of (read InFile a w) = Cell 0 w
head_of (un o a) = Un o 0
head_of (bin o a b) = Bin o 0 0
head_of (slice a h l) = Slice 0 h l
head_of (cat a b) = Cat 0 0
head_of (zext a w) = Zext 0 w
head_of (sext a w) = Sext 0 w
head_of (select c a b) = Select 0 0 0

abbrev operands : ExprModel → List ExprModel
operands (word w) = []
operands (reg r w) = []
operands (const w v) = []
operands (read space a w) = a ∷ []
operands (un o a) = a ∷ []
operands (bin o a b) = a ∷ b ∷ []
operands (slice a h l) = a ∷ []
operands (cat a b) = a ∷ b ∷ []
operands (zext a w) = a ∷ []
operands (sext a w) = a ∷ []
operands (select c a b) = c ∷ a ∷ b ∷ []

head_node : (node : Node) (t : ℕ → ExprModel) (is : List ℕ) → with_parts (head_of (node_expr node t)) is ≡ with_parts node is
head_node (Word w) t is = refl
head_node (Reg r w) t is = refl
head_node (Const w v) t is = refl
head_node (Read a w) t is = refl
head_node (Cell a w) t is = refl
head_node (Un o a) t is = refl
head_node (Bin o a b) t is = refl
head_node (Slice a h l) t is = refl
head_node (Cat a b) t is = refl
head_node (Zext a w) t is = refl
head_node (Sext a w) t is = refl
head_node (Select c a b) t is = refl

operands_node : (node : Node) (t : ℕ → ExprModel) → operands (node_expr node t) ≡ map t (children_of node)
operands_node (Word w) t = refl
operands_node (Reg r w) t = refl
operands_node (Const w v) t = refl
operands_node (Read a w) t = refl
operands_node (Cell a w) t = refl
operands_node (Un o a) t = refl
operands_node (Bin o a b) t = refl
operands_node (Slice a h l) t = refl
operands_node (Cat a b) t = refl
operands_node (Zext a w) t = refl
operands_node (Sext a w) t = refl
operands_node (Select c a b) t = refl

own_parts : (node : Node) → with_parts node (children_of node) ≡ node
own_parts (Word w) = refl
own_parts (Reg r w) = refl
own_parts (Const w v) = refl
own_parts (Read a w) = refl
own_parts (Cell a w) = refl
own_parts (Un o a) = refl
own_parts (Bin o a b) = refl
own_parts (Slice a h l) = refl
own_parts (Cat a b) = refl
own_parts (Zext a w) = refl
own_parts (Sext a w) = refl
own_parts (Select c a b) = refl

-- lists of ids are equal where the lists of their expressions are
same_parts : (t : ℕ → ExprModel) (n : ℕ) → ((i j : ℕ) → i < n → j < n → t i ≡ t j → i ≡ j) → (is js : List ℕ) → AllBelow n is → AllBelow n js → map t is ≡ map t js → is ≡ js
same_parts t n known [] [] b c e = refl
same_parts t n known [] (j ∷ js) b c e = absurd (cc)
same_parts t n known (i ∷ is) [] b c e = absurd (cc)
same_parts t n known (i ∷ is) (j ∷ js) b c e =
    let x : t i ≡ t j = cc in
    let y : map t is ≡ map t js = cc in
    let p : i ≡ j = known i j b.0 c.0 x in
    let q : is ≡ js = same_parts t n known is js b.1 c.1 y in
    (λ k. p k ∷ q k)

all_below : (m n : ℕ) → m ≤ n → (is : List ℕ) → AllBelow m is → AllBelow n is
all_below m n h is b = all_weaker (λ i. i < m) (λ i. i < n) (λ i l. omega (arith, h, l)) is b

same_node : (t : ℕ → ExprModel) (n : ℕ) → ((i j : ℕ) → i < n → j < n → t i ≡ t j → i ≡ j) → (a b : Node) → AllBelow n (children_of a) → AllBelow n (children_of b) → node_expr a t ≡ node_expr b t → a ≡ b
same_node t n known a b below_a below_b e =
    let parts : children_of a ≡ children_of b =
    same_parts t n known (children_of a) (children_of b) below_a below_b (sym (operands_node a t) ∙ ap operands e ∙ operands_node b t) in
    sym (own_parts a) ∙ ap (λ is. with_parts a is) parts
    ∙ sym (head_node a t (children_of b)) ∙ ap (λ x. with_parts (head_of x) (children_of b)) e ∙ head_node b t (children_of b) ∙ own_parts b

module _ (nodes : List Node) (pool : IsPool nodes) where
  node_there : (id : ℕ) → id < length nodes → (node : Node) × (slice_get nodes id ≡ Some node)
  node_there id h = (slice_index_or nodes id (Word 0), slice_get-get_or nodes id (Word 0) h)

  same_id : (n i j : ℕ) → i < n → j < n → i < length nodes → j < length nodes → expr_of_id nodes i ≡ expr_of_id nodes j → i ≡ j
  same_id zero i j bi bj wi wj e = absurd (omega arith)
  same_id (suc n) i j bi bj wi wj e = by (λ a b ha hb. same_id n a b ha hb)
    where
      by : ((a b : ℕ) → a < n → b < n → a < length nodes → b < length nodes → expr_of_id nodes a ≡ expr_of_id nodes b → a ≡ b) → i ≡ j
      by known =
          let a = node_there i wi in
          let b = node_there j wj in
          let below_a = pool.below i a.0 a.1 in
          let below_b = pool.below j b.0 b.1 in
          let m : ℕ = max i j in
          let same : a.0 ≡ b.0 = same_node (expr_of_id nodes) m
          (λ x y hx hy. known x y (omega (arith, bi, bj, hx)) (omega (arith, bi, bj, hy)) (omega (arith, wi, wj, hx)) (omega (arith, wi, wj, hy)))
          a.0 b.0 (all_below i m (omega arith) _ below_a) (all_below j m (omega arith) _ below_b)
          (sym (expr_of_id-node nodes i a.0 a.1 below_a) ∙ e ∙ expr_of_id-node nodes j b.0 b.1 below_b) in
          pool.distinct i j b.0 (a.1 ∙ ap Some same) b.1

  pub one_each : IsOneEach nodes
  one_each i j wi wj = (λ e. same_id (suc (max i j)) i j (omega arith) (omega arith) wi wj e, λ e. ap (expr_of_id nodes) e)
