-- What classes of cells, trees and expressions have.
use Rattle.std.proofs.Common.{◌≡◌, ℕ, List, ◌∙◌, sym, ap, subst, slice_index}
use Rattle.net_model.specs.Exprs.{ExprModel}
use Rattle.tree_laws.specs.declared.classes.Classes.{Classes}
use Rattle.tree_laws.specs.Classes.{Grows, NodeStands}
use Rattle.tree_laws.specs.Equal.{memory_alone}
use Rattle.sym_expr.specs.declared.pool.Node.TheVariants.{Read}
use Rattle.class_values.specs.declared.facts.Fact.{Fact}
use Rattle.sym_run.specs.declared.known.Known.{Known}
use Rattle.class_values.specs.Values.{AreFacts, IsNumber}
use Rattle.sym_run.specs.Known.{Evaluates}
use Rattle.sym_run.specs.Reading.{IsCell}
use Rattle.class_values.proofs.Grown.{stands_below}
use Rattle.class_values.proofs.Keeping.{facts_kept, holds_kept}
use Rattle.sym_run.proofs.Keeping.{known_kept}
use Rattle.mark_start.specs.declared.run.Run.{Run}
use Rattle.mark_start.specs.Runs.{IsExprOf, IsInCell, IsKeptClass, IsTreeOf}

-- the class of a cell at a number
pub in_cell : (first middle last : Classes) → Grows first middle → (facts : List Fact) (known : Known) (width address at c wide : ℕ) → IsNumber middle width address at → IsCell middle last facts known at wide c → IsInCell first last facts known address c
in_cell first middle last g facts known width address at c wide is cell memory s f k =
    (cell memory s address (facts_kept first middle g memory facts f) (known_kept first middle g memory known s k) (is memory).holds).holds

pub kept_class : (middle last : Classes) → Grows middle last → (width address at wide c : ℕ) → IsNumber middle width address at → NodeStands last (Read at wide) c → IsKeptClass last address c
kept_class middle last g width address at wide c is stands memory = record {
  below = stands_below last (Read at wide) c stands;
  value = λ regs m. sym (stands memory regs m).value ∙ ap (slice_index memory) ((holds_kept middle last g memory at address (is memory).holds).value regs m);
}

pub tree_of : (old new : Classes) (run : Run) (facts : List Fact) (tree : ExprModel) (c : ℕ) → facts ≡ run.facts → Evaluates old new facts run.vars 0 tree c → IsTreeOf old new run tree c
tree_of old new run facts tree c e is memory now f k = (is memory (memory_alone now) (subst (AreFacts old memory) (sym e) f) k).holds

pub expr_of : (old new : Classes) (run : Run) (facts : List Fact) (expr : ExprModel) (c : ℕ) → facts ≡ run.facts → Evaluates old new facts run.machine 0 expr c → IsExprOf old new run expr c
expr_of old new run facts expr c e is memory s f k = (is memory s (subst (AreFacts old memory) (sym e) f) k).holds
