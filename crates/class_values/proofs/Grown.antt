-- A value that a class always has in a table, it has in one that grew from it.
use Rattle.std.proofs.Common.{◌≡◌, ℕ, ◌^◌, ◌<◌, ◌≤◌, List, [], refl, sym, ◌∙◌, ap, subst, slice_index, arith, take}
use Rattle.std.proofs.Math.Logic.{∥∥₁_elim}
use Rattle.std.proofs.Math.Bridge.{le_prop}
use Rattle.std.proofs.Math.Nat.{ℕ_set}
use Rattle.std.proofs.lemmas.List.{get_or-take, length-take-le}
use Rattle.std.proofs.lemmas.Nat.{pow_pos}
use Rattle.rec_bits.specs.Operators.{IsWidth, apply1_of, apply2_of, slice_of, sext_of}
use Rattle.net_model.specs.Exprs.{expr_width}
use Rattle.net_model.specs.Meaning.{mean}
use Rattle.sym_expr.specs.declared.pool.Node.{Node}
use Rattle.sym_expr.specs.declared.pool.Node.TheVariants.{Word, Reg, Const, Read, Cell, Un, Bin, Slice, Cat, Zext, Sext, Select}
use Rattle.tree_laws.specs.declared.classes.Classes.{Classes}
use Rattle.tree_laws.specs.Equal.{CellsFit}
use Rattle.tree_laws.specs.Meanings.{HaveMeanings, state_of}
use Rattle.tree_laws.specs.Classes.{FitsIn, Grows, NodeStands, TableMeans, class_count, expr_in, head_in, width_in}

no_cells : (cell : ℕ) → CellsFit cell []
no_cells cell k = pow_pos cell

-- a listed node's class is there, and has its width
module _ (t : Classes) (node : Node) (c : ℕ) (s : NodeStands t node c) where
  pub stands_below : c < class_count t
  stands_below = ∥∥₁_elim t.meanings le_prop (λ m. let x = m [] (no_cells t.cell) in (s [] x.0 x.1).below)

  pub stands_width : expr_width (expr_in t node) ≡ width_in t c
  stands_width = ∥∥₁_elim t.meanings (ℕ_set _ _) (λ m. let x = m [] (no_cells t.cell) in (s [] x.0 x.1).width)

module _ (old new : Classes) (g : Grows old new) where
  pub front : List ℕ → List ℕ
  front regs = take (class_count old) regs

  pub at_front : (regs : List ℕ) (c : ℕ) → c < class_count old → slice_index (front regs) c ≡ slice_index regs c
  unfolding front
  at_front regs c h = get_or-take (class_count old) regs c 0 h

  module _ (memory regs : List ℕ) where
    same_mean : (node : Node) → FitsIn old node → mean (expr_in old node) (state_of memory (front regs)) 0 ≡ mean (expr_in new node) (state_of memory regs) 0
    same_mean (Const w v) h = refl
    same_mean (Read a w) h = ap (slice_index memory) (at_front regs a h.1.0)
    same_mean (Un o a) h = (let e = g.widths a h.1.0 in let f = at_front regs a h.1.0 in (λ i. apply1_of o (sym e i) (f i)))
    same_mean (Bin o a b) h = (let e = g.widths a h.1.0 in let f = at_front regs a h.1.0 in let k = at_front regs b h.1.1.0 in (λ i. apply2_of o (sym e i) (f i) (k i)))
    same_mean (Slice a hi lo) h = ap (λ n. slice_of n hi lo) (at_front regs a h.1.0)
    same_mean (Zext a w) h = at_front regs a h.1.0
    same_mean (Sext a w) h = (let e = g.widths a h.1.0 in let f = at_front regs a h.1.0 in (λ i. sext_of (f i) (sym e i) w))
    same_mean (Word w) h = absurd h.0
    same_mean (Reg r w) h = absurd h.0
    same_mean (Cell a w) h = absurd h.0
    same_mean (Cat a b) h = absurd h.0
    same_mean (Select d a b) h = absurd h.0

    module _ (before : HaveMeanings old.cell old.classes.items old.nodes.entries) (m : TableMeans new memory regs) where
      fits : CellsFit old.cell memory
      fits k = subst (λ w. slice_index memory k < 2 ^ w) g.bits (m.cells_fit k)

      -- values of the new table's classes are values of the old one's
      pub was : TableMeans old memory (front regs)
      unfolding front
      was =
          let o = (before memory fits).1 in
          record {
            cell_width = subst IsWidth g.bits m.cell_width;
            cells_fit = fits;
            count = length-take-le (class_count old) regs (subst (λ n. class_count old ≤ n) (sym m.count) g.longer);
            widths = λ c h. o.widths c h;
            values = λ c h. subst (λ w. slice_index (front regs) c < 2 ^ w) (g.widths c h) (subst (λ n. n < 2 ^ width_in new c) (sym (at_front regs c h)) (m.values c (omega (arith, h, g.longer))));
            nodes = λ node c e.
                (let p = o.nodes node c e in
                record {
                  fits = p.fits;
                  below = p.below;
                  width = p.width;
                  value = same_mean node p.fits ∙ (m.nodes node c (g.listed node c e)).value ∙ sym (at_front regs c p.below);
                });
            heads = λ c h.
                (let p = o.heads c h in
                record {
                  below = p.below;
                  width = p.width;
                  value = at_front regs (head_in old c) p.below ∙ ap (slice_index regs) (sym (g.heads c h)) ∙ (m.heads c (omega (arith, h, g.longer))).value ∙ sym (at_front regs c h);
                });
          }

  -- a value that a class of the old table always has, it has in the new one
  pub value_kept : (memory : List ℕ) (c n : ℕ) → c < class_count old → ((regs : List ℕ) → TableMeans old memory regs → slice_index regs c ≡ n) → (regs : List ℕ) → TableMeans new memory regs → slice_index regs c ≡ n
  value_kept memory c n below h regs m =
      ∥∥₁_elim old.meanings (ℕ_set _ _) (λ before. sym (at_front regs c below) ∙ h (front regs) (was memory regs before m))
