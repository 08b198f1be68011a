-- The steps of a block, one statement further.
use Rattle.std.proofs.Common.{◌≡◌, ℕ, ◌+◌, ◌≤◌, List, [], ◌∷◌, length, refl, sym, ap, subst, ◌∙◌, arith}
use Rattle.src_model.specs.declared.program.Var.{Var as Declared}
use Rattle.src_model.specs.declared.program.Stmt.{Stmt}
use Rattle.src_model.specs.Written.{model_of_stmt}
use Rattle.src_model.specs.Sizes.{statements}
use Rattle.src_model.specs.Inner.Fitting.{FitsStmt, FitsStmts}
use Rattle.src_eval.specs.declared.machine.Step.{Step}
use Rattle.src_eval.specs.Inner.Laid.{Extends, entry, Laid, LaidIn, Ready, Built}
use Rattle.src_model.specs.Ways.{finish}
use Rattle.src_model.specs.Trace.{run_in}
use Rattle.src_eval.specs.Steps.{ahead}
use Rattle.src_eval.proofs.LaidLemmas.{whole_ahead}
use Rattle.src_eval.proofs.BuildLemmas.{block_stmts, trees_of, extends_all, behind_kept, behind_itself}

-- the statements left may be built as a block of their own, and make with what was built the steps
-- of the whole
pub record Going (word : ℕ) (vars : List Declared) (old steps : List Step) (block left : List Stmt) (next : ℕ) : Type 0 where
  pub grown : length steps + trees_of left ≡ length old + trees_of block
  pub longer : length old ≤ length steps
  pub kept : Extends old steps
  pub ready : Ready word steps (trees_of left) next
  pub fits : FitsStmts word (block_stmts left)
  pub laid : (last : List Step) → Extends steps last → LaidIn word vars last (block_stmts left) (length steps) next → LaidIn word vars last (block_stmts block) (length old) next

pub going_from : (word : ℕ) (vars : List Declared) (old : List Step) (block : List Stmt) (next : ℕ) → Ready word old (trees_of block) next → FitsStmts word (block_stmts block) → Going word vars old old block block next
going_from word vars old block next r f = record { grown = refl; longer = omega arith; kept = λ i lt. refl; ready = r; fits = f; laid = λ last more h. h }

module _ (word : ℕ) (vars : List Declared) (old steps : List Step) (block left : List Stmt) (next : ℕ) (s : Stmt) (rest : List Stmt) (is : left ≡ s ∷ rest) (g : Going word vars old steps block left next) where
  pub parts : trees_of left ≡ statements (model_of_stmt s) + trees_of rest
  parts = ap trees_of is

  pub first_fits : FitsStmt word (model_of_stmt s)
  first_fits = (subst (λ l. FitsStmts word (block_stmts l)) is g.fits).0

  pub first_ready : Ready word steps (statements (model_of_stmt s)) (entry (block_stmts rest) (length steps + statements (model_of_stmt s)) next)
  first_ready = by rest (ap trees_of is)
    where
      by : (rest : List Stmt) → trees_of left ≡ statements (model_of_stmt s) + trees_of rest → Ready word steps (statements (model_of_stmt s)) (entry (block_stmts rest) (length steps + statements (model_of_stmt s)) next)
      by [] e = record {
        width = g.ready.width;
        few = omega (arith, g.ready.few, e);
        all = g.ready.all;
        target = behind_kept steps steps (λ i lt. refl) (length steps + trees_of left) (length steps + statements (model_of_stmt s)) next (omega (arith, e)) g.ready.target;
      }
      by (r ∷ rest) e = record {
        width = g.ready.width;
        few = omega (arith, g.ready.few, e);
        all = g.ready.all;
        target = behind_itself steps (length steps + statements (model_of_stmt s)) (length steps + statements (model_of_stmt s)) (omega arith);
      }

  pub going_on : (new : List Step) → Built word steps new (statements (model_of_stmt s)) (λ last. Laid word vars last (model_of_stmt s) (length steps) (entry (block_stmts rest) (length steps + statements (model_of_stmt s)) next))
      → Going word vars old new block rest next
  going_on new b = record {
    grown = omega (arith, b.grown, g.grown, parts);
    longer = omega (arith, b.grown, g.longer);
    kept = extends_all old steps new g.kept g.longer b.kept;
    ready = record {
      width = g.ready.width;
      few = omega (arith, g.ready.few, parts, b.grown);
      all = b.all;
      target = behind_kept steps new b.kept (length steps + trees_of left) (length new + trees_of rest) next (omega (arith, parts, b.grown)) g.ready.target;
    };
    fits = (subst (λ l. FitsStmts word (block_stmts l)) is g.fits).1;
    laid = λ last more h. g.laid last (extends_all steps new last b.kept (omega (arith, b.grown)) more)
        (subst (λ l. LaidIn word vars last (block_stmts l) (length steps) next) (sym is) (b.laid last more, subst (λ n. LaidIn word vars last (block_stmts rest) n next) b.grown h));
  }

pub going_end : (word : ℕ) (vars : List Declared) (old steps : List Step) (block left : List Stmt) (next : ℕ) → length left ≡ 0 → Going word vars old steps block left next
    → Built word old steps (trees_of block) (λ last. LaidIn word vars last (block_stmts block) (length old) next)
going_end word vars old steps block [] next e g = record { grown = omega (arith, g.grown); kept = g.kept; all = g.ready.all; laid = λ last more. g.laid last more tt }
going_end word vars old steps block (s ∷ rest) next e g = absurd (omega (arith, e))

-- the steps of a whole program
pub new_ahead : (word word' : ℕ) (vars vars' : List Declared) (none new : List Step) (d l : List Stmt) (past : ℕ) → word ≡ word' → vars ≡ vars' → none ≡ [] → d ≡ l
    → Built word none new (trees_of d) (λ last. LaidIn word vars last (block_stmts d) (length none) past) → trees_of l ≤ past
    → (m : ℕ) (cells : List ℕ) → ahead new m 0 cells ≡ run_in word' vars' (block_stmts l) 0 finish m cells
new_ahead word word' vars vars' none new d l past ew ev en ed b le m cells =
    let nothing = ap length en in
    let count : length new ≡ trees_of d = omega (arith, b.grown, nothing) in
    let same = ap trees_of ed in
    whole_ahead word vars new b.all (block_stmts d) past (subst (λ n. LaidIn word vars new (block_stmts d) n past) nothing (b.laid new (λ i lt. refl))) count (omega (arith, count, same, le)) m cells
    ∙ (λ j. run_in (ew j) (ev j) (block_stmts (ed j)) 0 finish m cells)
