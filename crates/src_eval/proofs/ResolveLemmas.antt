-- The formulas of expressions, by their parts.
use Rattle.std.proofs.Common.{lit<, [], ◌∷◌, ◌++◌, slice_set, ◌≡◌, ℕ, ◌+◌, ◌%◌, ◌^◌, ◌≤◌, ◌<◌, List, slice_index, refl, sym, ap, subst, ◌∙◌, arith}
use Rattle.std.specs.Global.{Box}
use Rattle.rec_bits.specs.Operators.{apply2_of}
use Rattle.src_model.specs.declared.program.Var.{Var as Declared}
use Rattle.src_model.specs.declared.program.SrcExpr.{SrcExpr}
use Rattle.src_model.specs.Written.{SrcNodeModel, num, plain, element, un, bin, zext, sext, low, model_of_src_node}
use Rattle.src_model.specs.Meaning.{shape_width, operand_width, first_cell}
use Rattle.src_model.specs.Fitting.{Fitting}
use Rattle.src_model.proofs.FittingLemmas.{width_wide, sides_wide}
use Rattle.src_eval.specs.declared.formula.Formula.{Formula, Number, Cell, Bin, Low}
use Rattle.src_eval.specs.declared.machine.Step.{Step}
use Rattle.src_eval.specs.declared.machine.Step.TheVariants.{Assign}
use Rattle.src_eval.specs.Formulas.{formula_value, FormulaFits}
use Rattle.rec_bits.specs.Operators.{IsWidth}
use Rattle.src_eval.specs.Inner.Laid.{IsDoing, Pushed}
use Rattle.src_model.specs.Trace.{stepped}
use Rattle.std.proofs.lemmas.Nat.{pow_pos}
use Rattle.std.proofs.Math.Nat.{pow-le-pow_right}
use Rattle.rec_bits.specs.declared.operator.Op2.TheVariants.{Add}
use Rattle.rec_bits.proofs.Bits.{low_slice}
use Rattle.src_eval.specs.Inner.Resolved.{Resolves}
use Rattle.src_eval.proofs.FormulaLemmas.{fits_wider}

module _ (word : ℕ) (vars : List Declared) (w : IsWidth word) where
  pub zext_resolves : (asked at : ℕ) (x : SrcNodeModel) (to : ℕ) → Fitting word asked (zext at x to) → (f : Formula) → Resolves word vars word x f → Resolves word vars asked (zext at x to) f
  zext_resolves asked at x to h f r = record { value = r.value; fits = fits_wider word (shape_width word word x) to f (omega (arith, h.1)) r.fits }

  pub low_resolves : (asked at : ℕ) (x : SrcNodeModel) (to : ℕ) → Fitting word asked (low at x to) → (b : Box Formula) → Resolves word vars word x b.value → Resolves word vars asked (low at x to) (Low to b)
  low_resolves asked at x to h b r =
      let i = width_wide word word x w w h.0 in
      record {
        value = λ cells. low_slice (formula_value cells b.value) to h.1 ∙ ap (λ n. n % 2 ^ to) (r.value cells);
        fits = ((h.1, omega (arith, i, h.2)), omega arith, fits_wider word (shape_width word word x) 64 b.value i.1 r.fits);
      }

-- a formula of an expression as it is borrowed, and then held in a box
pub held_resolves : (word : ℕ) (vars : List Declared) (asked : ℕ) (d x : SrcExpr) (f g : Formula) → d ≡ x → g ≡ f → Resolves word vars asked (model_of_src_node d.node) f → Resolves word vars asked (model_of_src_node x.node) g
held_resolves word vars asked d x f g e same r = subst (λ (n : SrcExpr). Resolves word vars asked (model_of_src_node n.node) g) e (subst (λ (h : Formula). Resolves word vars asked (model_of_src_node d.node) h) (sym same) r)

-- the step of a `for`
pub step_pushed : (word : ℕ) (vars : List Declared) (counter : List ℕ) (next f : ℕ) (old new : List Step) (n one : Box Formula) → new ≡ old ++ Assign f (Number 0) (Bin Add word n one) next ∷ [] → f ≡ first_cell vars counter
    → n.value ≡ Cell f → one.value ≡ Number 1 → IsWidth word → Pushed word old new (IsDoing (stepped word vars counter) next)
step_pushed word vars counter next f old new n one is e a b w = record {
  step = Assign f (Number 0) (Bin Add word n one) next;
  pushed = is;
  is = (refl, λ cells. λ j. slice_set cells (at j) (apply2_of Add word (count cells j) (formula_value cells (b j))));
  fits = (pow_pos word, (w, omega arith, subst (FormulaFits word word) (sym a) (omega arith), subst (FormulaFits word word) (sym b) small_one));
}
  where
    at : f + 0 ≡ first_cell vars counter
    at = omega (arith, e)

    count : (cells : List ℕ) → formula_value cells n.value ≡ slice_index cells (first_cell vars counter)
    count cells = ap (formula_value cells) a ∙ ap (slice_index cells) e

    small_one : 1 < 2 ^ word
    small_one = let p : 2 ^ 1 ≤ 2 ^ word = pow-le-pow_right (lit< tt) w.0 in omega (arith, p)
