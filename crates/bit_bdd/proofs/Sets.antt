-- The sets and the levels of ids while a book grows.
use Rattle.std.proofs.Common.{◌≡◌, ℕ, ◌<◌, ◌==◌, true, false, List, [], ◌∷◌, ◌++◌, length, reverse, slice_get, Some, refl, sym, ap, ◌∙◌, append_assoc, length-append, arith}
use Rattle.std.proofs.lemmas.List.{reverse-append, length-reverse}
use Rattle.bit_bdd.specs.declared.Node.{Node}
use Rattle.bit_bdd.specs.declared.Node.TheVariants.{Never, Always, Ask}
use Rattle.bit_bdd.specs.Diagrams.{branch, node_set, set_of_newest, set_of}
use Rattle.bit_bdd.specs.Shape.{level_of, level_at, level}
use Rattle.rec_bits.proofs.Lists.{get_left, Around, around}
use Rattle.std.proofs.lemmas.Bool.{eq-eqb, ne_eqb}

-- newer nodes do not change the set of an older id
newest-older : (xs older : List Node) (id : ℕ) → id < length older → set_of_newest (xs ++ older) id ≡ set_of_newest older id
unfolding set_of_newest
newest-older [] older id h = refl
newest-older (x ∷ xs) older id h =
    let apart : (id == length (xs ++ older)) ≡ false = ne_eqb id (length (xs ++ older)) (λ e. absurd (grind (arith, length-append, e))) in
    rw apart (newest-older xs older id h)

-- the newest id has the set of its node
newest-here : (node : Node) (older : List Node) (id : ℕ) → id ≡ length older → set_of_newest (node ∷ older) id ≡ node_set node (set_of_newest older)
unfolding set_of_newest
newest-here node older id h =
    let here : (id == length older) ≡ true = eq-eqb id (length older) h in
    rw here

-- a book that grows changes no id's set
pub set_of-append : (nodes more : List Node) (id : ℕ) → id < length nodes → set_of (nodes ++ more) id ≡ set_of nodes id
unfolding set_of
set_of-append nodes more id h = rw reverse-append (newest-older (reverse more) (reverse nodes) id (rw length-reverse h))

-- so has the id of a node that is added
set_of-push : (nodes : List Node) (node : Node) (id : ℕ) → id ≡ length nodes → set_of (nodes ++ node ∷ []) id ≡ node_set node (set_of nodes)
unfolding set_of
set_of-push nodes node id h = rw reverse-append (newest-here node (reverse nodes) id (rw length-reverse h))

-- the set of an id is that of its node, over the nodes before it
set_of-at : (nodes : List Node) (id : ℕ) (node : Node) (r : Around nodes id node) → set_of nodes id ≡ node_set node (set_of r.before)
set_of-at nodes id node r =
    let split : nodes ≡ (r.before ++ node ∷ []) ++ r.after = r.is ∙ sym (append_assoc r.before (node ∷ []) r.after) in
    let place = r.place in
    let within : id < length (r.before ++ node ∷ []) = grind (arith, length-append) in
    ap (λ l. set_of l id) split ∙ set_of-append (r.before ++ node ∷ []) r.after id within ∙ set_of-push r.before node id (sym r.place)

-- the set of an earlier id is that in the nodes before
set_of-before : (nodes : List Node) (id : ℕ) (node : Node) (r : Around nodes id node) (earlier : ℕ) → earlier < id → set_of r.before earlier ≡ set_of nodes earlier
set_of-before nodes id node r earlier h =
    let place = r.place in
    sym (ap (λ l. set_of l earlier) r.is ∙ set_of-append r.before (node ∷ r.after) earlier (omega arith))

-- the set of each kind of node
pub set_of-ask : (nodes : List Node) (id bit low high : ℕ) → slice_get nodes id ≡ Some (Ask bit low high) → low < id → high < id → set_of nodes id ≡ branch bit (set_of nodes low) (set_of nodes high)
set_of-ask nodes id bit low high at low_before high_before =
    let r = around nodes id (Ask bit low high) at in
    let e0 = set_of-before nodes id (Ask bit low high) r low low_before in
    let e1 = set_of-before nodes id (Ask bit low high) r high high_before in
    set_of-at nodes id (Ask bit low high) r ∙ (λ j. branch bit (e0 j) (e1 j))

pub set_of-never : (nodes : List Node) (id : ℕ) → slice_get nodes id ≡ Some Never → set_of nodes id ≡ (λ _. false)
set_of-never nodes id at = set_of-at nodes id Never (around nodes id Never at)

pub set_of-always : (nodes : List Node) (id : ℕ) → slice_get nodes id ≡ Some Always → set_of nodes id ≡ (λ _. true)
set_of-always nodes id at = set_of-at nodes id Always (around nodes id Always at)

-- levels
pub level-append : (nodes more : List Node) (id : ℕ) → id < length nodes → level (nodes ++ more) id ≡ level nodes id
unfolding level
level-append nodes more id h = ap level_at (get_left nodes more id h)

pub level-at : (nodes : List Node) (id : ℕ) (node : Node) → slice_get nodes id ≡ Some node → level nodes id ≡ level_of node
unfolding level
level-at nodes id node at = ap level_at at
