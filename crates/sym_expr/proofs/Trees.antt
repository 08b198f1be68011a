-- The expressions of ids while a pool grows.
use Rattle.std.proofs.Common.{◌≡◌, ℕ, ◌<◌, ◌==◌, Bool, true, false, List, [], ◌∷◌, ◌++◌, length, reverse, slice_get, Some, refl, sym, ap, ◌∙◌, append_assoc, length-append, arith}
use Rattle.std.proofs.lemmas.List.{reverse-append, length-reverse}
use Rattle.net_model.specs.declared.hardware.Space.TheVariants.{Memory as InMemory}
use Rattle.net_model.specs.Exprs.{ExprModel, read, cell, un, bin, slice, cat, zext, sext, select}
use Rattle.sym_expr.specs.declared.pool.Node.{Node}
use Rattle.sym_expr.specs.declared.pool.Node.TheVariants.{Word, Reg, Const, Read, Cell, Un, Bin, Slice, Cat, Zext, Sext, Select}
use Rattle.sym_expr.specs.Pools.{node_expr, children_of, AllBelow, expr_of_newest, expr_of_id}
use Rattle.rec_bits.proofs.Lists.{around}
use borrow.Author.Tests.{eqb-true, eq-eqb}

not_equal : (i n : ℕ) → i < n → (i == n) ≡ false
not_equal i n h = by (i == n) refl
  where
    by : (b : Bool) → (i == n) ≡ b → b ≡ false
    by true e = (let s : i ≡ n = eqb-true i n e in absurd (omega arith))
    by false e = refl

newest-older : (xs older : List Node) (id : ℕ) → id < length older → expr_of_newest (xs ++ older) id ≡ expr_of_newest older id
unfolding expr_of_newest
newest-older [] older id h = refl
newest-older (x ∷ xs) older id h =
    let apart : (id == length (xs ++ older)) ≡ false = not_equal id (length (xs ++ older)) (grind (arith, length-append)) in
    rw apart (newest-older xs older id h)

newest-here : (node : Node) (older : List Node) (id : ℕ) → id ≡ length older → expr_of_newest (node ∷ older) id ≡ node_expr node (expr_of_newest older)
unfolding expr_of_newest
newest-here node older id h =
    let here : (id == length older) ≡ true = eq-eqb id (length older) h in
    rw here

-- a pool that grows changes no id's expression
pub expr_of_id-append : (nodes more : List Node) (id : ℕ) → id < length nodes → expr_of_id (nodes ++ more) id ≡ expr_of_id nodes id
unfolding expr_of_id
expr_of_id-append nodes more id h = rw reverse-append (newest-older (reverse more) (reverse nodes) id (rw length-reverse h))

pub expr_of_id-push : (nodes : List Node) (node : Node) (id : ℕ) → id ≡ length nodes → expr_of_id (nodes ++ node ∷ []) id ≡ node_expr node (expr_of_id nodes)
unfolding expr_of_id
expr_of_id-push nodes node id h = rw reverse-append (newest-here node (reverse nodes) id (rw length-reverse h))

-- a node's expression depends on those of its parts alone
AllSame : (ℕ → ExprModel) → (ℕ → ExprModel) → List ℕ → Type 0
AllSame t u [] = Unit {0}
AllSame t u (i ∷ is) = (t i ≡ u i) × AllSame t u is

node_expr-same : (t u : ℕ → ExprModel) (node : Node) → AllSame t u (children_of node) → node_expr node t ≡ node_expr node u
unfolding AllSame
node_expr-same t u (Word w) h = refl
node_expr-same t u (Reg r w) h = refl
node_expr-same t u (Const w v) h = refl
node_expr-same t u (Read a w) h = let e : t a ≡ u a = h.0 in (λ j. read InMemory (e j) w)
node_expr-same t u (Cell a w) h = let e : t a ≡ u a = h.0 in (λ j. cell (e j) w)
node_expr-same t u (Un o a) h = let e : t a ≡ u a = h.0 in (λ j. un o (e j))
node_expr-same t u (Bin o a b) h = let e : t a ≡ u a = h.0 in let f : t b ≡ u b = h.1.0 in (λ j. bin o (e j) (f j))
node_expr-same t u (Slice a i l) h = let e : t a ≡ u a = h.0 in (λ j. slice (e j) i l)
node_expr-same t u (Cat a b) h = let e : t a ≡ u a = h.0 in let f : t b ≡ u b = h.1.0 in (λ j. cat (e j) (f j))
node_expr-same t u (Zext a w) h = let e : t a ≡ u a = h.0 in (λ j. zext (e j) w)
node_expr-same t u (Sext a w) h = let e : t a ≡ u a = h.0 in (λ j. sext (e j) w)
node_expr-same t u (Select c a b) h =
    let d : t c ≡ u c = h.0 in let e : t a ≡ u a = h.1.0 in let f : t b ≡ u b = h.1.1.0 in (λ j. select (d j) (e j) (f j))

all_same : (t u : ℕ → ExprModel) (n : ℕ) → ((i : ℕ) → i < n → t i ≡ u i) → (is : List ℕ) → AllBelow n is → AllSame t u is
unfolding AllSame
all_same t u n h [] b = tt
all_same t u n h (i ∷ is) b = (h i b.0, all_same t u n h is b.1)

-- the expression of the node at a place
pub expr_of_id-node : (nodes : List Node) (id : ℕ) (node : Node) → slice_get nodes id ≡ Some node → AllBelow id (children_of node) → expr_of_id nodes id ≡ node_expr node (expr_of_id nodes)
expr_of_id-node nodes id node at below =
    let r = around nodes id node at in
    let split : nodes ≡ (r.before ++ node ∷ []) ++ r.after = r.is ∙ sym (append_assoc r.before (node ∷ []) r.after) in
    let place = r.place in
    let within : id < length (r.before ++ node ∷ []) = grind (arith, length-append) in
    ap (λ l. expr_of_id l id) split ∙ expr_of_id-append (r.before ++ node ∷ []) r.after id within ∙ expr_of_id-push r.before node id (sym r.place)
    ∙ node_expr-same (expr_of_id r.before) (expr_of_id nodes) node
    (all_same (expr_of_id r.before) (expr_of_id nodes) id (λ i less. sym (ap (λ l. expr_of_id l i) r.is ∙ expr_of_id-append r.before (node ∷ r.after) i (omega (arith, place, less)))) (children_of node) below)
