-- Classes keep their meanings while a table grows and while classes are joined.
use Rattle.std.proofs.Common.{◌≡◌, ℕ, ◌+◌, ◌^◌, ◌<◌, ◌≤◌, ◌==◌, List, [], ◌∷◌, ◌++◌, length, length-append, Bool, true, false, cond, slice_index, refl, sym, ◌∙◌, ap, subst, arith, ◌⊎◌, inl, inr, eqb-true, Some, Result, Ok, Err, is_ok, OnOk, OnErr}
use Rattle.std.proofs.lemmas.Bool.{cases_lt}
use Rattle.std.proofs.Math.ListN.{get_or-append}
use Rattle.std.proofs.Math.Seq.{get_or-append_seam}
use Rattle.rec_bits.proofs.Lists.{get_left, get_seam}
use Rattle.rec_bits.specs.Operators.{IsWidth, slice_of, result_width}
use Rattle.net_model.specs.Exprs.{ExprModel, expr_width}
use Rattle.net_model.specs.Meaning.{mean}
use Rattle.sym_expr.proofs.Fits.{width_fits, value_below}
use Rattle.sym_expr.proofs.Keys.{exact_node}
use Rattle.sym_expr.specs.declared.pool.Node.{Node}
use Rattle.sym_expr.specs.declared.pool.Node.TheVariants.{Word, Reg, Const, Read, Cell, Un, Bin, Slice, Cat, Zext, Sext, Select}
use Rattle.sym_expr.specs.contracts.pool.NodePartialEq.TheImpl.{ghosts as node_eq}
use Rattle.sym_expr.specs.Pools.{ExprFits, Suits}
use Rattle.tree_laws.specs.declared.classes.Class.{Class}
use Rattle.tree_laws.specs.declared.classes.Classes.{Classes}
use Rattle.tree_laws.specs.Meanings.{Entries, HaveMeanings, HeadMeans, Means, NodeFits, NodeMeans, Redirected, canon_of, class_head, class_width, head_of, listed_at, state_of, expr_over, width_at}
use Rattle.tree_laws.specs.Classes.{AreOne, IsOfClass, IsSameIn, NodeStands, StandsIn, TableMeans}

-- ---- tables whose old classes have the same widths and values

record Agrees (old new : List Class) (regs vals : List ℕ) : Type 0 where
  longer : length old ≤ length new
  widths : (c : ℕ) → c < length old → width_at new c ≡ width_at old c
  values : (c : ℕ) → c < length old → slice_index vals c ≡ slice_index regs c

module _ (cell : ℕ) (old new : List Class) (cells regs values : List ℕ) (g : Agrees old new regs values) where
  node_value : (n : Node) → NodeFits cell old n → mean (expr_over new n) (state_of cells values) 0 ≡ mean (expr_over old n) (state_of cells regs) 0
  node_value (Const w v) h = refl
  node_value (Read a w) h = ap (slice_index cells) (g.values a h.1.0)
  node_value (Un o a) h = cc (g.widths a h.1.0, g.values a h.1.0)
  node_value (Bin o a b) h = cc (g.widths a h.1.0, g.values a h.1.0, g.values b h.1.1.0)
  node_value (Slice a hi lo) h = ap (λ x. slice_of x hi lo) (g.values a h.1.0)
  node_value (Zext a w) h = g.values a h.1.0
  node_value (Sext a w) h = cc (g.widths a h.1.0, g.values a h.1.0)
  node_value (Word w) h = absurd h.0
  node_value (Reg r w) h = absurd h.0
  node_value (Cell a w) h = absurd h.0
  node_value (Cat a b) h = absurd h.0
  node_value (Select d a b) h = absurd h.0

  node_width : (n : Node) → NodeFits cell old n → expr_width (expr_over new n) ≡ expr_width (expr_over old n)
  node_width (Const w v) h = refl
  node_width (Read a w) h = refl
  node_width (Un o a) h = g.widths a h.1.0
  node_width (Bin o a b) h = ap (result_width o) (g.widths a h.1.0)
  node_width (Slice a hi lo) h = refl
  node_width (Zext a w) h = refl
  node_width (Sext a w) h = refl
  node_width (Word w) h = absurd h.0
  node_width (Reg r w) h = absurd h.0
  node_width (Cell a w) h = absurd h.0
  node_width (Cat a b) h = absurd h.0
  node_width (Select d a b) h = absurd h.0

  below_new : (c : ℕ) → c < length old → c < length new
  below_new c h = omega (arith, h, g.longer)

  node_fits : (n : Node) → NodeFits cell old n → NodeFits cell new n
  node_fits (Const w v) h = h
  node_fits (Read a w) h = (h.0, (below_new a h.1.0, tt), h.2)
  node_fits (Un o a) h = (tt, (below_new a h.1.0, tt), tt)
  node_fits (Bin o a b) h = (tt, (below_new a h.1.0, (below_new b h.1.1.0, tt)), g.widths b h.1.1.0 ∙ h.2 ∙ sym (g.widths a h.1.0))
  node_fits (Slice a hi lo) h = (tt, (below_new a h.1.0, tt), (h.2.0, subst (λ w. hi < w) (sym (g.widths a h.1.0)) h.2.1))
  node_fits (Zext a w) h = (tt, (below_new a h.1.0, tt), (subst (λ x. x < w) (sym (g.widths a h.1.0)) h.2.0, h.2.1))
  node_fits (Sext a w) h = (tt, (below_new a h.1.0, tt), (subst (λ x. x < w) (sym (g.widths a h.1.0)) h.2.0, h.2.1))
  node_fits (Word w) h = absurd h.0
  node_fits (Reg r w) h = absurd h.0
  node_fits (Cell a w) h = absurd h.0
  node_fits (Cat a b) h = absurd h.0
  node_fits (Select d a b) h = absurd h.0

  node_means : (n : Node) (c : ℕ) → NodeMeans cell old cells regs n c → NodeMeans cell new cells values n c
  node_means n c h = record {
    fits = node_fits n h.fits;
    below = below_new c h.below;
    width = node_width n h.fits ∙ h.width ∙ sym (g.widths c h.below);
    value = node_value n h.fits ∙ h.value ∙ sym (g.values c h.below);
  }

-- ---- nodes as expressions

module _ (cell : ℕ) (classes : List Class) (entries : Entries) (cells regs : List ℕ) (m : Means cell classes entries cells regs) where
  expr_fits : (n : Node) → NodeFits cell classes n → ExprFits (expr_over classes n)
  expr_fits (Const w v) h = h.2
  expr_fits (Read a w) h = (m.widths a h.1.0, h.2)
  expr_fits (Un o a) h = m.widths a h.1.0
  expr_fits (Bin o a b) h = (m.widths a h.1.0, m.widths b h.1.1.0, h.2)
  expr_fits (Slice a hi lo) h = (m.widths a h.1.0, h.2)
  expr_fits (Zext a w) h = (m.widths a h.1.0, h.2)
  expr_fits (Sext a w) h = (m.widths a h.1.0, h.2)
  expr_fits (Word w) h = absurd h.0
  expr_fits (Reg r w) h = absurd h.0
  expr_fits (Cell a w) h = absurd h.0
  expr_fits (Cat a b) h = absurd h.0
  expr_fits (Select d a b) h = absurd h.0

  expr_suits : (n : Node) → NodeFits cell classes n → Suits (expr_over classes n) (state_of cells regs) 0
  expr_suits (Const w v) h = tt
  expr_suits (Read a w) h = (m.values a h.1.0, subst (λ n. slice_index cells (slice_index regs a) < 2 ^ n) (sym h.0) (m.cells_fit (slice_index regs a)))
  expr_suits (Un o a) h = m.values a h.1.0
  expr_suits (Bin o a b) h = (m.values a h.1.0, m.values b h.1.1.0)
  expr_suits (Slice a hi lo) h = m.values a h.1.0
  expr_suits (Zext a w) h = m.values a h.1.0
  expr_suits (Sext a w) h = m.values a h.1.0
  expr_suits (Word w) h = absurd h.0
  expr_suits (Reg r w) h = absurd h.0
  expr_suits (Cell a w) h = absurd h.0
  expr_suits (Cat a b) h = absurd h.0
  expr_suits (Select d a b) h = absurd h.0

  -- a node and the node over the classes that stand for its own
  canon_value : (n : Node) → NodeFits cell classes n → mean (expr_over classes (canon_of classes n)) (state_of cells regs) 0 ≡ mean (expr_over classes n) (state_of cells regs) 0
  canon_value (Const w v) h = refl
  canon_value (Read a w) h = ap (slice_index cells) (m.heads a h.1.0).value
  canon_value (Un o a) h = cc ((m.heads a h.1.0).width, (m.heads a h.1.0).value)
  canon_value (Bin o a b) h = cc ((m.heads a h.1.0).width, (m.heads a h.1.0).value, (m.heads b h.1.1.0).value)
  canon_value (Slice a hi lo) h = ap (λ x. slice_of x hi lo) (m.heads a h.1.0).value
  canon_value (Zext a w) h = (m.heads a h.1.0).value
  canon_value (Sext a w) h = cc ((m.heads a h.1.0).width, (m.heads a h.1.0).value)
  canon_value (Word w) h = absurd h.0
  canon_value (Reg r w) h = absurd h.0
  canon_value (Cell a w) h = absurd h.0
  canon_value (Cat a b) h = absurd h.0
  canon_value (Select d a b) h = absurd h.0

  canon_width : (n : Node) → NodeFits cell classes n → expr_width (expr_over classes (canon_of classes n)) ≡ expr_width (expr_over classes n)
  canon_width (Const w v) h = refl
  canon_width (Read a w) h = refl
  canon_width (Un o a) h = (m.heads a h.1.0).width
  canon_width (Bin o a b) h = ap (result_width o) (m.heads a h.1.0).width
  canon_width (Slice a hi lo) h = refl
  canon_width (Zext a w) h = refl
  canon_width (Sext a w) h = refl
  canon_width (Word w) h = absurd h.0
  canon_width (Reg r w) h = absurd h.0
  canon_width (Cell a w) h = absurd h.0
  canon_width (Cat a b) h = absurd h.0
  canon_width (Select d a b) h = absurd h.0

  canon_fits : (n : Node) → NodeFits cell classes n → NodeFits cell classes (canon_of classes n)
  canon_fits (Const w v) h = h
  canon_fits (Read a w) h = (h.0, ((m.heads a h.1.0).below, tt), h.2)
  canon_fits (Un o a) h = (tt, ((m.heads a h.1.0).below, tt), tt)
  canon_fits (Bin o a b) h = (tt, ((m.heads a h.1.0).below, ((m.heads b h.1.1.0).below, tt)), (m.heads b h.1.1.0).width ∙ h.2 ∙ sym (m.heads a h.1.0).width)
  canon_fits (Slice a hi lo) h = (tt, ((m.heads a h.1.0).below, tt), (h.2.0, subst (λ w. hi < w) (sym (m.heads a h.1.0).width) h.2.1))
  canon_fits (Zext a w) h = (tt, ((m.heads a h.1.0).below, tt), (subst (λ x. x < w) (sym (m.heads a h.1.0).width) h.2.0, h.2.1))
  canon_fits (Sext a w) h = (tt, ((m.heads a h.1.0).below, tt), (subst (λ x. x < w) (sym (m.heads a h.1.0).width) h.2.0, h.2.1))
  canon_fits (Word w) h = absurd h.0
  canon_fits (Reg r w) h = absurd h.0
  canon_fits (Cell a w) h = absurd h.0
  canon_fits (Cat a b) h = absurd h.0
  canon_fits (Select d a b) h = absurd h.0

  -- what a class means is what the node over the standing classes means
  canon_means : (n : Node) (c : ℕ) → NodeFits cell classes n → c < length classes → expr_width (expr_over classes n) ≡ width_at classes c
      → mean (expr_over classes n) (state_of cells regs) 0 ≡ slice_index regs c → NodeMeans cell classes cells regs (canon_of classes n) c
  canon_means n c h below w v = record { fits = canon_fits n h; below = below; width = canon_width n h ∙ w; value = canon_value n h ∙ v }

-- a node that is listed, but for joined classes
pub found_stands : (table : Classes) (n : Node) (c : ℕ) → NodeFits table.cell table.classes.items n → listed_at table.nodes.entries (canon_of table.classes.items n) ≡ Some c → NodeStands table n c
found_stands table n c h e cells regs m =
    let k : NodeMeans table.cell table.classes.items cells regs (canon_of table.classes.items n) c = m.nodes (canon_of table.classes.items n) c e in
    record {
      below = k.below;
      width = sym (canon_width table.cell table.classes.items table.nodes.entries cells regs m n h) ∙ k.width;
      fits = expr_fits table.cell table.classes.items table.nodes.entries cells regs m n h;
      suits = expr_suits table.cell table.classes.items table.nodes.entries cells regs m n h;
      value = sym (canon_value table.cell table.classes.items table.nodes.entries cells regs m n h) ∙ k.value;
    }

-- and one of which the class is known
pub node_stands : (table : Classes) (n : Node) (c : ℕ) → IsOfClass table n c → NodeStands table n c
node_stands table n c is cells regs m =
    let k : NodeMeans table.cell table.classes.items cells regs n c = is cells regs m in
    record {
      below = k.below;
      width = k.width;
      fits = expr_fits table.cell table.classes.items table.nodes.entries cells regs m n k.fits;
      suits = expr_suits table.cell table.classes.items table.nodes.entries cells regs m n k.fits;
      value = k.value;
    }

-- ---- more entries

-- a map with one more entry
pub record IsListed (old new : Entries) (key : Node) (class : ℕ) : Type 0 where
  pub lists : (n : Node) → listed_at new n ≡ cond (node_eq.eq key n) (Some class) (listed_at old n)

entry_cases : (old new : Entries) (key : Node) (class : ℕ) → IsListed old new key class → (n : Node) (c : ℕ) → listed_at new n ≡ Some c → ((n ≡ key) × (c ≡ class)) ⊎ (listed_at old n ≡ Some c)
entry_cases old new key class l n c e = by (node_eq.eq key n) refl
  where
    by : (b : Bool) → node_eq.eq key n ≡ b → ((n ≡ key) × (c ≡ class)) ⊎ (listed_at old n ≡ Some c)
    by true h =
        let found : Some class ≡ Some c = sym (ap (λ b. cond b (Some class) (listed_at old n)) h) ∙ sym (l.lists n) ∙ e in
        inl (sym (exact_node key n h), (cc))
    by false h = inr (sym (ap (λ b. cond b (Some class) (listed_at old n)) h) ∙ sym (l.lists n) ∙ e)

-- a node of a class
pub list_keeps : (table : Classes) (new : Entries) (n : Node) (c : ℕ) → IsOfClass table n c → IsListed table.nodes.entries new (canon_of table.classes.items n) c
    → HaveMeanings table.cell table.classes.items table.nodes.entries → HaveMeanings table.cell table.classes.items new
list_keeps table new n c is l old cells fit =
    let x = old cells fit in
    let m : Means table.cell table.classes.items table.nodes.entries cells x.0 = x.1 in
    let k : NodeMeans table.cell table.classes.items cells x.0 n c = is cells x.0 x.1 in
    let here : NodeMeans table.cell table.classes.items cells x.0 (canon_of table.classes.items n) c =
    canon_means table.cell table.classes.items table.nodes.entries cells x.0 x.1 n c k.fits k.below k.width k.value in (
      x.0,
      record {
        cell_width = m.cell_width;
        cells_fit = m.cells_fit;
        count = m.count;
        widths = m.widths;
        values = m.values;
        nodes = λ q d e. elim (entry_cases table.nodes.entries new (canon_of table.classes.items n) c l q d e) as (λ _. NodeMeans table.cell table.classes.items cells x.0 q d) [
          | inl p ↦ subst (λ i. NodeMeans table.cell table.classes.items cells x.0 i d) (sym p.0) (subst (NodeMeans table.cell table.classes.items cells x.0 (canon_of table.classes.items n)) (sym p.1) here)
          | inr p ↦ m.nodes q d p
        ];
        heads = m.heads;
      },
    )

-- whether there was memory for it or not
pub list_tried : {A B P : Type 0} (table : Classes) (new : Entries) (n key : Node) (c : ℕ) (r : Result A B) → IsOfClass table n c → key ≡ canon_of table.classes.items n
    → OnOk r P → (P → IsListed table.nodes.entries new key c) → OnErr r (new ≡ table.nodes.entries)
    → HaveMeanings table.cell table.classes.items table.nodes.entries → HaveMeanings table.cell table.classes.items new
list_tried table new n key c (Ok x) is e p f u m = list_keeps table new n c is (subst (λ k. IsListed table.nodes.entries new k c) e (f p)) m
list_tried table new n key c (Err x) is e p f u m = subst (HaveMeanings table.cell table.classes.items) (sym u) m

-- ---- a new class

module _ (table : Classes) (n : Node) (fit : NodeFits table.cell table.classes.items n) (k : Class) (ew : k.width ≡ expr_width (expr_over table.classes.items n)) (eh : k.head ≡ length table.classes.items) where
  longer_classes : length (table.classes.items ++ k ∷ []) ≡ length table.classes.items + 1
  longer_classes = length-append table.classes.items (k ∷ [])

  old_width : (c : ℕ) → c < length table.classes.items → width_at (table.classes.items ++ k ∷ []) c ≡ width_at table.classes.items c
  old_width c h = ap class_width (get_left table.classes.items (k ∷ []) c h)

  new_width : width_at (table.classes.items ++ k ∷ []) (length table.classes.items) ≡ k.width
  new_width = ap class_width (get_seam table.classes.items k [])

  last_or : (c : ℕ) → c < length (table.classes.items ++ k ∷ []) → (c < length table.classes.items) ⊎ (c ≡ length table.classes.items)
  last_or c h = elim (cases_lt c (length table.classes.items)) [ inl l ↦ inl l | inr l ↦ inr (omega (arith, l, h, longer_classes)) ]

  module _ (cells regs : List ℕ) (m : Means table.cell table.classes.items table.nodes.entries cells regs) where
    new_value : ℕ
    new_value = mean (expr_over table.classes.items n) (state_of cells regs) 0

    grown_agrees : Agrees table.classes.items (table.classes.items ++ k ∷ []) regs (regs ++ new_value ∷ [])
    grown_agrees = record {
      longer = omega (arith, longer_classes);
      widths = old_width;
      values = λ c h. get_or-append regs (new_value ∷ []) 0 c (omega (arith, h, m.count));
    }

    value_end : slice_index (regs ++ new_value ∷ []) (length table.classes.items) ≡ new_value
    value_end = ap (slice_index (regs ++ new_value ∷ [])) (sym m.count) ∙ get_or-append_seam regs new_value [] 0

    -- the new class's node over the classes that stand for its own
    new_means : NodeMeans table.cell (table.classes.items ++ k ∷ []) cells (regs ++ new_value ∷ []) (canon_of table.classes.items n) (length table.classes.items)
    unfolding new_value
    new_means =
        let f : NodeFits table.cell table.classes.items (canon_of table.classes.items n) = canon_fits table.cell table.classes.items table.nodes.entries cells regs m n fit in
        record {
          fits = node_fits table.cell table.classes.items (table.classes.items ++ k ∷ []) cells regs (regs ++ new_value ∷ []) grown_agrees (canon_of table.classes.items n) f;
          below = omega (arith, longer_classes);
          width = node_width table.cell table.classes.items (table.classes.items ++ k ∷ []) cells regs (regs ++ new_value ∷ []) grown_agrees (canon_of table.classes.items n) f
              ∙ canon_width table.cell table.classes.items table.nodes.entries cells regs m n fit ∙ sym ew ∙ sym new_width;
          value = node_value table.cell table.classes.items (table.classes.items ++ k ∷ []) cells regs (regs ++ new_value ∷ []) grown_agrees (canon_of table.classes.items n) f
              ∙ canon_value table.cell table.classes.items table.nodes.entries cells regs m n fit ∙ sym value_end;
        }

    old_means : (q : Node) (c : ℕ) → listed_at table.nodes.entries q ≡ Some c → NodeMeans table.cell (table.classes.items ++ k ∷ []) cells (regs ++ new_value ∷ []) q c
    old_means q c e = node_means table.cell table.classes.items (table.classes.items ++ k ∷ []) cells regs (regs ++ new_value ∷ []) grown_agrees q c (m.nodes q c e)

    old_head : (c : ℕ) → c < length table.classes.items → HeadMeans (table.classes.items ++ k ∷ []) (regs ++ new_value ∷ []) c (head_of (table.classes.items ++ k ∷ []) c)
    old_head c h =
        let p = m.heads c h in
        subst (HeadMeans (table.classes.items ++ k ∷ []) (regs ++ new_value ∷ []) c) (sym (ap (class_head c) (get_left table.classes.items (k ∷ []) c h))) (record {
          below = omega (arith, p.below, longer_classes);
          width = old_width (head_of table.classes.items c) p.below ∙ p.width ∙ sym (old_width c h);
          value = grown_agrees.values (head_of table.classes.items c) p.below ∙ p.value ∙ sym (grown_agrees.values c h);
        })

    new_head : HeadMeans (table.classes.items ++ k ∷ []) (regs ++ new_value ∷ []) (length table.classes.items) (head_of (table.classes.items ++ k ∷ []) (length table.classes.items))
    new_head = subst (HeadMeans (table.classes.items ++ k ∷ []) (regs ++ new_value ∷ []) (length table.classes.items)) (sym (ap (class_head (length table.classes.items)) (get_seam table.classes.items k []) ∙ eh)) (record {
      below = omega (arith, longer_classes);
      width = refl;
      value = refl;
    })

    grown_means : (new : Entries) → ((q : Node) (c : ℕ) → listed_at new q ≡ Some c → NodeMeans table.cell (table.classes.items ++ k ∷ []) cells (regs ++ new_value ∷ []) q c)
        → Means table.cell (table.classes.items ++ k ∷ []) new cells (regs ++ new_value ∷ [])
    unfolding new_value
    grown_means new all = record {
      cell_width = m.cell_width;
      cells_fit = m.cells_fit;
      count = length-append regs (new_value ∷ []) ∙ ap (λ x. x + 1) m.count ∙ sym longer_classes;
      widths = λ c h. elim (last_or c h) as (λ _. IsWidth (width_at (table.classes.items ++ k ∷ []) c)) [
        | inl l ↦ subst IsWidth (sym (old_width c l)) (m.widths c l)
        | inr e ↦ subst (λ d. IsWidth (width_at (table.classes.items ++ k ∷ []) d)) (sym e)
            (subst IsWidth (sym (new_width ∙ ew)) (width_fits (expr_over table.classes.items n) (expr_fits table.cell table.classes.items table.nodes.entries cells regs m n fit)))
      ];
      values = λ c h. elim (last_or c h) as (λ _. slice_index (regs ++ new_value ∷ []) c < 2 ^ width_at (table.classes.items ++ k ∷ []) c) [
        | inl l ↦ subst (λ x. x < 2 ^ width_at (table.classes.items ++ k ∷ []) c) (sym (grown_agrees.values c l)) (subst (λ w. slice_index regs c < 2 ^ w) (sym (old_width c l)) (m.values c l))
        | inr e ↦ subst (λ d. slice_index (regs ++ new_value ∷ []) d < 2 ^ width_at (table.classes.items ++ k ∷ []) d) (sym e)
            (subst (λ x. x < 2 ^ width_at (table.classes.items ++ k ∷ []) (length table.classes.items)) (sym value_end)
            (value_below (expr_over table.classes.items n) (state_of cells regs) 0 new_value (width_at (table.classes.items ++ k ∷ []) (length table.classes.items)) refl (new_width ∙ ew)
            (expr_fits table.cell table.classes.items table.nodes.entries cells regs m n fit) (expr_suits table.cell table.classes.items table.nodes.entries cells regs m n fit)))
      ];
      nodes = all;
      heads = λ c h. elim (last_or c h) as (λ _. HeadMeans (table.classes.items ++ k ∷ []) (regs ++ new_value ∷ []) c (head_of (table.classes.items ++ k ∷ []) c)) [
        | inl l ↦ old_head c l
        | inr e ↦ subst (λ d. HeadMeans (table.classes.items ++ k ∷ []) (regs ++ new_value ∷ []) d (head_of (table.classes.items ++ k ∷ []) d)) (sym e) new_head
      ];
    }

  -- a class without its node, where there was no memory for that
  pub class_keeps : (classes : List Class) (new : Entries) → classes ≡ table.classes.items ++ k ∷ [] → new ≡ table.nodes.entries → HaveMeanings table.cell table.classes.items table.nodes.entries → HaveMeanings table.cell classes new
  class_keeps classes new ec en old cells cf =
      let x = old cells cf in
      subst (λ cs. (regs : List ℕ) × Means table.cell cs new cells regs) (sym ec)
      (x.0 ++ new_value cells x.0 x.1 ∷ [], grown_means cells x.0 x.1 new (λ q c e. old_means cells x.0 x.1 q c (ap (λ es. listed_at es q) (sym en) ∙ e)))

  -- and with its node
  pub push_keeps : (classes : List Class) (new : Entries) (c : ℕ) → classes ≡ table.classes.items ++ k ∷ [] → c ≡ length table.classes.items → IsListed table.nodes.entries new (canon_of table.classes.items n) c
      → HaveMeanings table.cell table.classes.items table.nodes.entries → HaveMeanings table.cell classes new
  push_keeps classes new c ec is l old cells cf =
      let x = old cells cf in
      let v : List ℕ = x.0 ++ new_value cells x.0 x.1 ∷ [] in
      subst (λ cs. (regs : List ℕ) × Means table.cell cs new cells regs) (sym ec) (
        x.0 ++ new_value cells x.0 x.1 ∷ [],
        grown_means cells x.0 x.1 new (λ q d e. elim (entry_cases table.nodes.entries new (canon_of table.classes.items n) c l q d e)
            as (λ _. NodeMeans table.cell (table.classes.items ++ k ∷ []) cells (x.0 ++ new_value cells x.0 x.1 ∷ []) q d) [
              | inl p ↦ subst (λ i. NodeMeans table.cell (table.classes.items ++ k ∷ []) cells (x.0 ++ new_value cells x.0 x.1 ∷ []) i d) (sym p.0)
                  (subst (NodeMeans table.cell (table.classes.items ++ k ∷ []) cells (x.0 ++ new_value cells x.0 x.1 ∷ []) (canon_of table.classes.items n)) (sym (p.1 ∙ is)) (new_means cells x.0 x.1))
              | inr p ↦ old_means cells x.0 x.1 q d p
            ]),
      )

  -- no head of an old class is changed
  kept_head : (c : ℕ) → c < length table.classes.items → head_of (table.classes.items ++ k ∷ []) c ≡ head_of table.classes.items c
  kept_head c h = ap (class_head c) (get_left table.classes.items (k ∷ []) c h)

  kept_canon : (q : Node) → NodeFits table.cell table.classes.items q → canon_of (table.classes.items ++ k ∷ []) q ≡ canon_of table.classes.items q
  kept_canon (Const w v) h = refl
  kept_canon (Read a w) h = ap (λ x. Read x w) (kept_head a h.1.0)
  kept_canon (Un o a) h = ap (Un o) (kept_head a h.1.0)
  kept_canon (Bin o a b) h = cc (kept_head a h.1.0, kept_head b h.1.1.0)
  kept_canon (Slice a hi lo) h = ap (λ x. Slice x hi lo) (kept_head a h.1.0)
  kept_canon (Zext a w) h = ap (λ x. Zext x w) (kept_head a h.1.0)
  kept_canon (Sext a w) h = ap (λ x. Sext x w) (kept_head a h.1.0)
  kept_canon (Word w) h = absurd h.0
  kept_canon (Reg r w) h = absurd h.0
  kept_canon (Cell a w) h = absurd h.0
  kept_canon (Cat a b) h = absurd h.0
  kept_canon (Select d a b) h = absurd h.0

  -- the node is listed for the new class
  pub push_listed : (classes : List Class) (entries : Entries) (key : Node) (c : ℕ) → classes ≡ table.classes.items ++ k ∷ [] → key ≡ canon_of table.classes.items n
      → listed_at entries key ≡ Some c → listed_at entries (canon_of classes n) ≡ Some c
  push_listed classes entries key c ec ek e = ap (listed_at entries) (ap (λ cs. canon_of cs n) ec ∙ kept_canon n fit ∙ sym ek) ∙ e

  -- whether there was memory for the class or not
  pub class_tried : {A B : Type 0} (classes : List Class) (r : Result A B) → classes ≡ cond (is_ok r) (table.classes.items ++ k ∷ []) table.classes.items
      → HaveMeanings table.cell table.classes.items table.nodes.entries → HaveMeanings table.cell classes table.nodes.entries
  class_tried classes (Ok x) e m = class_keeps classes table.nodes.entries e refl m
  class_tried classes (Err x) e m = subst (λ cs. HaveMeanings table.cell cs table.nodes.entries) (sym e) m

  -- and for its node
  pub push_tried : {A B P : Type 0} (classes : List Class) (new : Entries) (key : Node) (c : ℕ) (r : Result A B) → classes ≡ table.classes.items ++ k ∷ [] → c ≡ length table.classes.items
      → key ≡ canon_of table.classes.items n → OnOk r P → (P → IsListed table.nodes.entries new key c) → OnErr r (new ≡ table.nodes.entries)
      → HaveMeanings table.cell table.classes.items table.nodes.entries → HaveMeanings table.cell classes new
  push_tried classes new key c (Ok x) ec is e p f u m = push_keeps classes new c ec is (subst (λ i. IsListed table.nodes.entries new i c) e (f p)) m
  push_tried classes new key c (Err x) ec is e p f u m = class_keeps classes new ec u m

-- ---- joining

pick_head : (classes : List Class) (regs : List ℕ) (c from to : ℕ) → HeadMeans classes regs c (head_of classes c) → HeadMeans classes regs from to → HeadMeans classes regs c (cond (head_of classes c == from) to (head_of classes c))
pick_head classes regs c from to h k = by (head_of classes c == from) refl
  where
    by : (b : Bool) → (head_of classes c == from) ≡ b → HeadMeans classes regs c (cond b to (head_of classes c))
    by true e =
        let is : head_of classes c ≡ from = eqb-true (head_of classes c) from e in
        record {
          below = k.below;
          width = k.width ∙ ap (width_at classes) (sym is) ∙ h.width;
          value = k.value ∙ ap (slice_index regs) (sym is) ∙ h.value;
        }
    by false e = h

joined : (table : Classes) (new : List Class) (cells regs : List ℕ) (a b : ℕ) → Redirected (head_of table.classes.items b) (head_of table.classes.items a) table.classes.items new
    → TableMeans table cells regs → IsSameIn table a b regs → Means table.cell new table.nodes.entries cells regs
joined table new cells regs a b r m s =
    let oc = table.classes.items in
    let ha : HeadMeans oc regs a (head_of oc a) = m.heads a s.first in
    let hb : HeadMeans oc regs b (head_of oc b) = m.heads b s.second in
    let k : HeadMeans oc regs (head_of oc b) (head_of oc a) = record {
      below = ha.below;
      width = ha.width ∙ s.width ∙ sym hb.width;
      value = ha.value ∙ s.value ∙ sym hb.value;
    } in
    let g : Agrees oc new regs regs = record { longer = omega (arith, r.count); widths = λ c h. r.widths c; values = λ c h. refl } in
    let bound : (c : ℕ) → c < length new → c < length oc = λ c h. omega (arith, r.count, h) in
    record {
      cell_width = m.cell_width;
      cells_fit = m.cells_fit;
      count = m.count ∙ sym r.count;
      widths = λ c h. subst IsWidth (sym (r.widths c)) (m.widths c (bound c h));
      values = λ c h. subst (λ w. slice_index regs c < 2 ^ w) (sym (r.widths c)) (m.values c (bound c h));
      nodes = λ n c e. node_means table.cell oc new cells regs regs g n c (m.nodes n c e);
      heads = λ c h.
          (let p : HeadMeans oc regs c (cond (head_of oc c == head_of oc b) (head_of oc a) (head_of oc c)) = pick_head oc regs c (head_of oc b) (head_of oc a) (m.heads c (bound c h)) k in
          let e : head_of new c ≡ cond (head_of oc c == head_of oc b) (head_of oc a) (head_of oc c) = r.heads c (bound c h) in
          subst (HeadMeans new regs c) (sym e) (record {
            below = subst (λ n. cond (head_of oc c == head_of oc b) (head_of oc a) (head_of oc c) < n) (sym r.count) p.below;
            width = r.widths (cond (head_of oc c == head_of oc b) (head_of oc a) (head_of oc c)) ∙ p.width ∙ sym (r.widths c);
            value = p.value;
          }));
    }

-- two classes of one meaning are joined
pub join_keeps : (table : Classes) (new : List Class) (a b : ℕ) → Redirected (head_of table.classes.items b) (head_of table.classes.items a) table.classes.items new → AreOne table a b
    → HaveMeanings table.cell table.classes.items table.nodes.entries → HaveMeanings table.cell new table.nodes.entries
join_keeps table new a b r same old cells fit =
    let x = old cells fit in
    (x.0, joined table new cells x.0 a b r x.1 (same cells x.0 x.1))

-- classes for which one class stands
pub heads_one : (table : Classes) (a b : ℕ) → a < length table.classes.items → b < length table.classes.items → head_of table.classes.items a ≡ head_of table.classes.items b → AreOne table a b
heads_one table a b la lb e cells regs m =
    let p = m.heads a la in
    let q = m.heads b lb in
    record {
      first = la;
      second = lb;
      width = sym p.width ∙ ap (width_at table.classes.items) e ∙ q.width;
      value = sym p.value ∙ ap (slice_index regs) e ∙ q.value;
    }

-- one expression of two classes
pub stands_one : (table : Classes) (t : ExprModel) (a b : ℕ) → ((cells regs : List ℕ) → TableMeans table cells regs → StandsIn table t a cells regs) → ((cells regs : List ℕ) → TableMeans table cells regs → StandsIn table t b cells regs) → AreOne table a b
stands_one table t a b f g cells regs m =
    let p = f cells regs m in
    let q = g cells regs m in
    record { first = p.below; second = q.below; width = sym p.width ∙ q.width; value = sym p.value ∙ q.value }

-- no class
pub none_mean : (cell : ℕ) → IsWidth cell → HaveMeanings cell [] []
none_mean cell h cells fit = (
  [],
  record {
    cell_width = h;
    cells_fit = fit;
    count = refl;
    widths = λ c l. absurd (omega (arith, l));
    values = λ c l. absurd (omega (arith, l));
    nodes = λ n c e. absurd (cc);
    heads = λ c l. absurd (omega (arith, l));
  },
)
