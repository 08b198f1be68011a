-- A table that grows: what was listed is listed for the same class.
use Rattle.std.proofs.Common.{◌≡◌, ℕ, ◌<◌, [], ◌∷◌, ◌++◌, Box, length, length-append, Bool, true, false, cond, Option, Some, None, Result, Ok, Err, refl, sym, ◌∙◌, ap, subst, arith}
use Rattle.std.specs.Prelude.{IfOk, IfSome, option_and_then}
use Rattle.std.specs.declared.alloc.Global.{Global}
use Rattle.std.proofs.NetLemmas.Options.{and_then_some}
use Rattle.std.proofs.Math.Logic.{∥∥₁_elim}
use Rattle.std.proofs.Math.Bridge.{le_prop}
use Rattle.std.proofs.Math.Nat.{ℕ_set}
use Rattle.std.proofs.lemmas.Option.{none-some, same_Some}
use Rattle.rec_bits.proofs.Lists.{get_left}
use Rattle.net_model.specs.Exprs.{expr_width}
use Rattle.form_model.specs.Trees.{model_of_tree}
use Rattle.form_model.specs.declared.trees.Tree.{Tree}
use Rattle.form_model.specs.declared.trees.Tree.TheVariants.{Lit, Read', Un', Bin', Slice', Zext', Sext', Read as ReadTree, Un as UnTree, Bin as BinTree, Slice as SliceTree, Zext as ZextTree, Sext as SextTree}
use Rattle.rec_bits.specs.declared.operator.Op1.{Op1}
use Rattle.rec_bits.specs.declared.operator.Op2.{Op2}
use Rattle.rec_bits.specs.Operators.{IsWidth}
use Rattle.sym_expr.proofs.Keys.{exact_node}
use Rattle.sym_expr.specs.declared.pool.Node.{Node}
use Rattle.sym_expr.specs.declared.pool.Node.TheVariants.{Word, Reg, Const, Read, Cell, Un, Bin, Slice, Cat, Zext, Sext, Select}
use Rattle.sym_expr.specs.contracts.pool.NodePartialEq.TheImpl.{ghosts as node_eq}
use Rattle.tree_laws.specs.declared.classes.Class.{Class}
use Rattle.tree_laws.specs.declared.classes.Classes.{Classes}
use Rattle.tree_laws.specs.Meanings.{HaveMeanings, class_head, class_width, head_of, width_at}
use Rattle.tree_laws.specs.Classes.{FitsIn, Grows, Stands, canon_in, cell_bits, class_count, class_of, found_in, listed_in, width_in}
use Rattle.tree_laws.specs.Inner.Reading.{IsRootOf}
use Rattle.tree_laws.proofs.Meanings.{IsListed}
use Rattle.tree_laws.proofs.TreeLaws.{no_cells}
use Rattle.tree_laws.proofs.Found.{canon_back, class_stands_of, found_there, found_width}

-- ---- one more class, and its node

module _ (old new : Classes) (k : Class) (bits : cell_bits new ≡ cell_bits old) (items : new.classes.items ≡ old.classes.items ++ k ∷ []) where
  pub node_grows : (key : Node) (class : ℕ) → listed_in old key ≡ None → IsListed old.nodes.entries new.nodes.entries key class → Grows old new
  node_grows key class none l = record {
    bits = bits;
    longer = omega (arith, ap length items ∙ length-append old.classes.items (k ∷ []));
    widths = λ c h. ap (λ cs. width_at cs c) items ∙ ap class_width (get_left old.classes.items (k ∷ []) c h);
    heads = λ c h. ap (λ cs. head_of cs c) items ∙ ap (class_head c) (get_left old.classes.items (k ∷ []) c h);
    listed = λ n c f. l.lists n ∙ by n c f (node_eq.eq key n) refl;
  }
    where
      by : (n : Node) (c : ℕ) → listed_in old n ≡ Some c → (b : Bool) → node_eq.eq key n ≡ b → cond (node_eq.eq key n) (Some class) (listed_in old n) ≡ Some c
      by n c f true e = absurd (none-some c (sym none ∙ ap (listed_in old) (exact_node key n e) ∙ f))
      by n c f false e = ap (λ b. cond b (Some class) (listed_in old n)) e ∙ f

-- ---- what was listed

module _ (old new : Classes) (g : Grows old new) where
  canon_grown : (n : Node) → FitsIn old n → canon_in new n ≡ canon_in old n
  canon_grown (Const w v) h = refl
  canon_grown (Read a w) h = ap (λ x. Read x w) (g.heads a h.1.0)
  canon_grown (Un o a) h = ap (Un o) (g.heads a h.1.0)
  canon_grown (Bin o a b) h = cc (g.heads a h.1.0, g.heads b h.1.1.0)
  canon_grown (Slice a hi lo) h = ap (λ x. Slice x hi lo) (g.heads a h.1.0)
  canon_grown (Zext a w) h = ap (λ x. Zext x w) (g.heads a h.1.0)
  canon_grown (Sext a w) h = ap (λ x. Sext x w) (g.heads a h.1.0)
  canon_grown (Word w) h = absurd h.0
  canon_grown (Reg r w) h = absurd h.0
  canon_grown (Cell a w) h = absurd h.0
  canon_grown (Cat a b) h = absurd h.0
  canon_grown (Select d a b) h = absurd h.0

  module _ (n : Node) (c : ℕ) (e : found_in old n ≡ Some c) where
    kept : HaveMeanings old.cell old.classes.items old.nodes.entries → found_in new n ≡ Some c
    kept m =
        let x = m [] (no_cells old.cell) in
        let fit : FitsIn old n = canon_back old.cell old.classes.items old.nodes.entries [] x.0 x.1 n (x.1.nodes (canon_in old n) c e).fits in
        ap (listed_in new) (canon_grown n fit) ∙ g.listed (canon_in old n) c e

    found_kept : found_in new n ≡ Some c
    found_kept = by (found_in new n) refl
      where
        by : (o : Option ℕ) → found_in new n ≡ o → found_in new n ≡ Some c
        by None f = absurd (∥∥₁_elim old.meanings (λ x. absurd x) (λ m. none-some c (sym f ∙ kept m)))
        by (Some d) f = f ∙ ap Some (∥∥₁_elim old.meanings (ℕ_set d c) (λ m. same_Some d c (sym f ∙ kept m)))

  -- a tree keeps its class
  pub class_kept : (tree : Tree) (c : ℕ) → class_of old tree ≡ Some c → class_of new tree ≡ Some c
  class_kept (Lit w v) c e = found_kept (Const w v) c e
  class_kept (Read' p a w) c e = and_then_some (λ x. found_in old (Read x w)) (class_of old a) c e
      (λ x f h. ap (option_and_then (λ y. found_in new (Read y w))) (class_kept a x f) ∙ found_kept (Read x w) c h)
  class_kept (Un' o p a) c e = and_then_some (λ x. found_in old (Un o x)) (class_of old a) c e
      (λ x f h. ap (option_and_then (λ y. found_in new (Un o y))) (class_kept a x f) ∙ found_kept (Un o x) c h)
  class_kept (Bin' o p a q b) c e = and_then_some (λ x. option_and_then (λ y. found_in old (Bin o x y)) (class_of old b)) (class_of old a) c e
      (λ x f k. and_then_some (λ y. found_in old (Bin o x y)) (class_of old b) c k
      (λ y h l. ap (option_and_then (λ z. option_and_then (λ y. found_in new (Bin o z y)) (class_of new b))) (class_kept a x f)
      ∙ ap (option_and_then (λ y. found_in new (Bin o x y))) (class_kept b y h) ∙ found_kept (Bin o x y) c l))
  class_kept (Slice' p a hi lo) c e = and_then_some (λ x. found_in old (Slice x hi lo)) (class_of old a) c e
      (λ x f h. ap (option_and_then (λ y. found_in new (Slice y hi lo))) (class_kept a x f) ∙ found_kept (Slice x hi lo) c h)
  class_kept (Zext' p a w) c e = and_then_some (λ x. found_in old (Zext x w)) (class_of old a) c e
      (λ x f h. ap (option_and_then (λ y. found_in new (Zext y w))) (class_kept a x f) ∙ found_kept (Zext x w) c h)
  class_kept (Sext' p a w) c e = and_then_some (λ x. found_in old (Sext x w)) (class_of old a) c e
      (λ x f h. ap (option_and_then (λ y. found_in new (Sext y w))) (class_kept a x f) ∙ found_kept (Sext x w) c h)

-- ---- roots of trees

cell_width : (t : Classes) → IsWidth t.cell
cell_width t = (
  ∥∥₁_elim t.meanings le_prop (λ m. (m [] (no_cells t.cell)).1.cell_width.0),
  ∥∥₁_elim t.meanings le_prop (λ m. (m [] (no_cells t.cell)).1.cell_width.1),
)

module _ (table : Classes) (a : Box Tree Global) (x : ℕ) (e : class_of table a.value ≡ Some x) where
  below : x < class_count table
  below = found_there table a.value x e

  wide : width_in table x ≡ expr_width (model_of_tree a.value)
  wide = found_width table a.value x e

  pub read_root : (w : ℕ) → IsRootOf table (ReadTree a w) (Read x w)
  read_root w = record {
    later = λ new g. sym (ap (option_and_then (λ y. found_in new (Read y w))) (class_kept table new g a.value x e));
    fits = λ h. (h.1, (below, tt), subst IsWidth (sym h.1) (cell_width table));
  }

  pub un_root : (o : Op1) → IsRootOf table (UnTree o a) (Un o x)
  un_root o = record {
    later = λ new g. sym (ap (option_and_then (λ y. found_in new (Un o y))) (class_kept table new g a.value x e));
    fits = λ h. (tt, (below, tt), tt);
  }

  pub bin_root : (b : Box Tree Global) (y : ℕ) → class_of table b.value ≡ Some y → (o : Op2) → IsRootOf table (BinTree o a b) (Bin o x y)
  bin_root b y f o = record {
    later = λ new g. sym (ap (option_and_then (λ z. option_and_then (λ k. found_in new (Bin o z k)) (class_of new b.value))) (class_kept table new g a.value x e)
        ∙ ap (option_and_then (λ k. found_in new (Bin o x k))) (class_kept table new g b.value y f));
    fits = λ h. (tt, (below, (found_there table b.value y f, tt)), found_width table b.value y f ∙ h.2 ∙ sym wide);
  }

  pub slice_root : (hi lo : ℕ) → IsRootOf table (SliceTree a hi lo) (Slice x hi lo)
  slice_root hi lo = record {
    later = λ new g. sym (ap (option_and_then (λ y. found_in new (Slice y hi lo))) (class_kept table new g a.value x e));
    fits = λ h. (tt, (below, tt), (h.1.0, subst (λ w. hi < w) (sym wide) h.1.1));
  }

  pub zext_root : (w : ℕ) → IsRootOf table (ZextTree a w) (Zext x w)
  zext_root w = record {
    later = λ new g. sym (ap (option_and_then (λ y. found_in new (Zext y w))) (class_kept table new g a.value x e));
    fits = λ h. (tt, (below, tt), (subst (λ v. v < w) (sym wide) h.1.0, h.1.1));
  }

  pub sext_root : (w : ℕ) → IsRootOf table (SextTree a w) (Sext x w)
  sext_root w = record {
    later = λ new g. sym (ap (option_and_then (λ y. found_in new (Sext y w))) (class_kept table new g a.value x e));
    fits = λ h. (tt, (below, tt), (subst (λ v. v < w) (sym wide) h.1.0, h.1.1));
  }

-- the root's class is the tree's
pub root_stands : {E : Type 0} (old new : Classes) (tree : Tree) (node : Node) (r : Result (Option ℕ) E) → IsRootOf old tree node → Grows old new → IfOk r (λ found. found ≡ found_in new node)
    → IfOk r (λ found. IfSome found (Stands new (model_of_tree tree)))
root_stands old new tree node (Err e) root g f = tt
root_stands old new tree node (Ok None) root g f = tt
root_stands old new tree node (Ok (Some c)) root g f = class_stands_of new tree c (sym (f ∙ root.later new g))
