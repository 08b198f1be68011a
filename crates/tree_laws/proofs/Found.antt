-- Where nodes and trees are listed, and classes for which one class stands.
use Rattle.std.proofs.Common.{◌≡◌, ℕ, ◌+◌, ◌<◌, ◌≤◌, ◌==◌, List, [], ◌∷◌, ◌++◌, length, drop, map, true, false, cond, Option, Some, None, slice_get, refl, sym, ◌∙◌, ap, subst, arith, inl, inr, append_assoc}
use Rattle.std.specs.Prelude.{IfSome, option_and_then}
use Rattle.std.proofs.NetLemmas.Options.{and_then_some}
use Rattle.std.proofs.Math.Logic.{∥∥₁_elim}
use Rattle.std.proofs.Math.Bridge.{le_prop}
use Rattle.std.proofs.Math.Nat.{ℕ_set}
use Rattle.std.proofs.lemmas.Bool.{cases_lt, ne_eqb}
use Rattle.std.proofs.lemmas.Option.{get_or_from_slice_get, slice_get_past, slice_get_within}
use Rattle.std.proofs.lemmas.List.{drop_more}
use Rattle.net_model.specs.Exprs.{expr_width}
use Rattle.form_model.specs.Trees.{model_of_tree}
use Rattle.form_model.specs.declared.trees.Tree.{Tree}
use Rattle.form_model.specs.declared.trees.Tree.TheVariants.{Lit, Read', Un', Bin', Slice', Zext', Sext'}
use Rattle.sym_expr.specs.declared.pool.Node.{Node}
use Rattle.sym_expr.specs.declared.pool.Node.TheVariants.{Word, Reg, Const, Read, Cell, Un, Bin, Slice, Cat, Zext, Sext, Select}
use Rattle.sym_expr.specs.Pools.{children_of}
use Rattle.tree_laws.specs.declared.classes.Class.{Class}
use Rattle.tree_laws.specs.declared.classes.Classes.{Classes}
use Rattle.tree_laws.specs.Meanings.{Entries, Means, NodeFits, canon_of, class_head, head_of}
use Rattle.tree_laws.specs.Classes.{FitsIn, NodeStands, Stands, are_joined, class_count, class_of, found_in, head_in, width_in}
use Rattle.tree_laws.specs.Spelled.{bare, nodes_of, spells}
use Rattle.tree_laws.specs.Inner.Reading.{IsRead, IsRoot, IsUnread}
use Rattle.tree_laws.proofs.Meanings.{found_stands}
use Rattle.tree_laws.proofs.Standing.{read_node, un_node, bin_node, slice_node, zext_node, sext_node}
use Rattle.tree_laws.proofs.TreeLaws.{no_cells}

-- a class whose head is there is there
head_back : (classes : List Class) (a : ℕ) → head_of classes a < length classes → a < length classes
head_back classes a h = elim (cases_lt a (length classes)) [
  | inl there ↦ there
  | inr past ↦ absurd (omega (arith, past, subst (λ o. class_head a o < length classes) (slice_get_past classes a past) h))
]

module _ (cell : ℕ) (classes : List Class) (entries : Entries) (cells regs : List ℕ) (m : Means cell classes entries cells regs) where
  pub canon_back : (n : Node) → NodeFits cell classes (canon_of classes n) → NodeFits cell classes n
  canon_back (Const w v) h = h
  canon_back (Read a w) h = (h.0, (head_back classes a h.1.0, tt), h.2)
  canon_back (Un o a) h = (tt, (head_back classes a h.1.0, tt), tt)
  canon_back (Bin o a b) h =
      let la : a < length classes = head_back classes a h.1.0 in
      let lb : b < length classes = head_back classes b h.1.1.0 in
      (tt, (la, (lb, tt)), sym (m.heads b lb).width ∙ h.2 ∙ (m.heads a la).width)
  canon_back (Slice a hi lo) h =
      let la : a < length classes = head_back classes a h.1.0 in
      (tt, (la, tt), (h.2.0, subst (λ w. hi < w) (m.heads a la).width h.2.1))
  canon_back (Zext a w) h =
      let la : a < length classes = head_back classes a h.1.0 in
      (tt, (la, tt), (subst (λ x. x < w) (m.heads a la).width h.2.0, h.2.1))
  canon_back (Sext a w) h =
      let la : a < length classes = head_back classes a h.1.0 in
      (tt, (la, tt), (subst (λ x. x < w) (m.heads a la).width h.2.0, h.2.1))
  canon_back (Word w) h = absurd h.0
  canon_back (Reg r w) h = absurd h.0
  canon_back (Cell a w) h = absurd h.0
  canon_back (Cat a b) h = absurd h.0
  canon_back (Select d a b) h = absurd h.0

-- a node that doesn't fit isn't listed
pub unfit_unlisted : (table : Classes) (n : Node) → (FitsIn table n → ⊥) → found_in table n ≡ None
unfit_unlisted table n unfit = by (found_in table n) refl
  where
    by : (o : Option ℕ) → found_in table n ≡ o → o ≡ None
    by None e = refl
    by (Some c) e = absurd (∥∥₁_elim table.meanings (λ x. absurd x)
        (λ m. let x = m [] (no_cells table.cell) in
        unfit (canon_back table.cell table.classes.items table.nodes.entries [] x.0 x.1 n (x.1.nodes (canon_of table.classes.items n) c e).fits)))

-- what is listed is of its class
module _ (table : Classes) where
  pub found_of : (n : Node) (c : ℕ) → found_in table n ≡ Some c → NodeStands table n c
  found_of n c e cells regs m =
      found_stands table n c (canon_back table.cell table.classes.items table.nodes.entries cells regs m n (m.nodes (canon_of table.classes.items n) c e).fits) e cells regs m

  pub found_below : (n : Node) (c : ℕ) → found_in table n ≡ Some c → c < class_count table
  found_below n c e = ∥∥₁_elim table.meanings le_prop (λ m. let x = m [] (no_cells table.cell) in (found_of n c e [] x.0 x.1).below)

  pub class_stands_of : (tree : Tree) (c : ℕ) → class_of table tree ≡ Some c → Stands table (model_of_tree tree) c
  class_stands_of (Lit w v) c e = found_of (Const w v) c e
  class_stands_of (Read' p a w) c e = and_then_some (λ x. found_in table (Read x w)) (class_of table a) c e
      (λ x f g. read_node table (model_of_tree a) x w (class_stands_of a x f) c (found_of (Read x w) c g))
  class_stands_of (Un' o p a) c e = and_then_some (λ x. found_in table (Un o x)) (class_of table a) c e
      (λ x f g. un_node table o (model_of_tree a) x (class_stands_of a x f) c (found_of (Un o x) c g))
  class_stands_of (Bin' o p a q b) c e = and_then_some (λ x. option_and_then (λ y. found_in table (Bin o x y)) (class_of table b)) (class_of table a) c e
      (λ x f k. and_then_some (λ y. found_in table (Bin o x y)) (class_of table b) c k
      (λ y g h. bin_node table o (model_of_tree a) (model_of_tree b) x y (class_stands_of a x f) (class_stands_of b y g) c (found_of (Bin o x y) c h)))
  class_stands_of (Slice' p a hi lo) c e = and_then_some (λ x. found_in table (Slice x hi lo)) (class_of table a) c e
      (λ x f g. slice_node table (model_of_tree a) x hi lo (class_stands_of a x f) c (found_of (Slice x hi lo) c g))
  class_stands_of (Zext' p a w) c e = and_then_some (λ x. found_in table (Zext x w)) (class_of table a) c e
      (λ x f g. zext_node table (model_of_tree a) x w (class_stands_of a x f) c (found_of (Zext x w) c g))
  class_stands_of (Sext' p a w) c e = and_then_some (λ x. found_in table (Sext x w)) (class_of table a) c e
      (λ x f g. sext_node table (model_of_tree a) x w (class_stands_of a x f) c (found_of (Sext x w) c g))

  pub some_stands : (tree : Tree) (o : Option ℕ) → o ≡ class_of table tree → IfSome o (Stands table (model_of_tree tree))
  some_stands tree None e = tt
  some_stands tree (Some c) e = class_stands_of tree c (sym e)

  pub found_there : (tree : Tree) (c : ℕ) → class_of table tree ≡ Some c → c < class_count table
  found_there tree c e = ∥∥₁_elim table.meanings le_prop (λ m. let x = m [] (no_cells table.cell) in (class_stands_of tree c e [] x.0 x.1).below)

  pub found_width : (tree : Tree) (c : ℕ) → class_of table tree ≡ Some c → width_in table c ≡ expr_width (model_of_tree tree)
  found_width tree c e = ∥∥₁_elim table.meanings (ℕ_set _ _) (λ m. let x = m [] (no_cells table.cell) in sym (class_stands_of tree c e [] x.0 x.1).width)

-- the class that stands for one that is there is there
head_there : (table : Classes) (a : ℕ) → a < class_count table → head_in table a < class_count table
head_there table a la = ∥∥₁_elim table.meanings le_prop (λ m. let x = m [] (no_cells table.cell) in (x.1.heads a la).below)

-- a class for which one stands that is there is there too
pub joined_there : (table : Classes) (a b : ℕ) → b < class_count table → head_in table a ≡ head_in table b → a < class_count table
joined_there table a b lb e = head_back table.classes.items a (subst (λ h. h < class_count table) (sym e) (head_there table b lb))

-- classes aren't joined with one that isn't there
pub apart_there : (table : Classes) (a b : ℕ) → a < class_count table → class_count table ≤ b → (head_in table a == head_in table b) ≡ false
apart_there table a b la past = ne_eqb (head_in table a) (head_in table b)
    (λ e. absurd (omega (arith, past, head_back table.classes.items b (subst (λ h. h < class_count table) e (head_there table a la)))))

module _ (table : Classes) (nodes : List Node) (class at : ℕ) where
  module _ (node : Node) (here : slice_get nodes at ≡ Some node) where
    this_first : drop at nodes ≡ node ∷ drop (at + 1) nodes
    this_first = drop_more nodes at node (slice_get_within nodes at node here) ∙ ap (λ n. n ∷ drop (at + 1) nodes) (get_or_from_slice_get nodes at node node here)

    -- a node of another class
    pub other_unread : are_joined table (found_in table node) (Some class) ≡ false → IsUnread table nodes class at
    other_unread e rest = ap (spells table (class ∷ rest)) this_first ∙ ap (λ b. cond b (spells table (children_of node ++ rest) (drop (at + 1) nodes)) false) e

    -- and one of the class
    pub is_root : FitsIn table node → are_joined table (found_in table node) (Some class) ≡ true → IsRoot table nodes class at node
    is_root fit e = record {
      fits = fit;
      follows = λ rest. ap (spells table (class ∷ rest)) this_first ∙ ap (λ b. cond b (spells table (children_of node ++ rest) (drop (at + 1) nodes)) false) e;
      names = ap (map bare) this_first;
    }

  -- ---- a node and its operands

  module _ (node : Node) (root : IsRoot table nodes class at node) where
    pub leaf_read : (tree : Tree) → children_of node ≡ [] → nodes_of tree ≡ bare node ∷ [] → IsRead table nodes class at (at + 1) tree
    leaf_read tree kids own = record {
      follows = λ rest. root.follows rest ∙ ap (λ ks. spells table (ks ++ rest) (drop (at + 1) nodes)) kids;
      names = root.names ∙ ap (λ ns. ns ++ map bare (drop (at + 1) nodes)) (sym own);
    }

    pub one_read : (a next : ℕ) (x tree : Tree) → children_of node ≡ a ∷ [] → nodes_of tree ≡ bare node ∷ nodes_of x → IsRead table nodes a (at + 1) next x
        → IsRead table nodes class at next tree
    one_read a next x tree kids own r = record {
      follows = λ rest. root.follows rest ∙ ap (λ ks. spells table (ks ++ rest) (drop (at + 1) nodes)) kids ∙ r.follows rest;
      names = root.names ∙ ap (λ ns. bare node ∷ ns) r.names ∙ ap (λ ns. ns ++ map bare (drop next nodes)) (sym own);
    }

    pub two_read : (a b mid next : ℕ) (x y tree : Tree) → children_of node ≡ a ∷ b ∷ [] → nodes_of tree ≡ bare node ∷ nodes_of x ++ nodes_of y
        → IsRead table nodes a (at + 1) mid x → IsRead table nodes b mid next y → IsRead table nodes class at next tree
    two_read a b mid next x y tree kids own r s = record {
      follows = λ rest. root.follows rest ∙ ap (λ ks. spells table (ks ++ rest) (drop (at + 1) nodes)) kids ∙ r.follows (b ∷ rest) ∙ s.follows rest;
      names = root.names ∙ ap (λ ns. bare node ∷ ns) (r.names ∙ ap (λ ns. nodes_of x ++ ns) s.names ∙ sym (append_assoc (nodes_of x) (nodes_of y) (map bare (drop next nodes))))
          ∙ ap (λ ns. ns ++ map bare (drop next nodes)) (sym own);
    }
