-- Jobs that do what a program's statements say still do so where they are respelled.
use Rattle.std.proofs.Common.{◌≡◌, ℕ, ◌+◌, ◌<◌, Bool, true, false, List, length, Some, get_or, inl, inr, sym, ◌∙◌, ap, subst, arith, slice_get}
use Rattle.std.specs.Option.{option_map}
use Rattle.std.proofs.lemmas.Option.{slice_get-get_or, slice_get_within}
use Rattle.rec_bits.specs.Operators.{bit_of}
use Rattle.src_model.specs.declared.program.Var.{Var as Declared}
use Rattle.src_model.specs.Written.{SrcTestModel, StmtModel, assign, choice, while, count, StmtsModel, no_acts, act, ElseModel, without, otherwise, ProgramModel, stmts_of}
use Rattle.src_model.specs.Sizes.{statements, statements_in}
use Rattle.src_trees.specs.Lowered.{MemoryMap, JobModel}
use Rattle.src_trees.specs.Seen.{seen_store}
use Rattle.src_trees.specs.Meant.{Does, Tells, HasJob, DoStmt, DoStmts, DoElse, DoProgram}
use Rattle.src_trees.specs.Turned.{Turns, job_of_told, jobs_of_told}
use Rattle.src_trees.proofs.TurnedTests.{told_there}
use Rattle.respell.specs.Respelled.{AreRespelled, StandsFor}
use Rattle.respell.proofs.EqualJobs.{told_are, told_done, told_less, told_lies}

bit_below : (b : Bool) → bit_of b < 2
bit_below true = omega arith
bit_below false = omega arith

module _ (m : MemoryMap) (temps : ℕ) where
  does_kept : (Can : List ℕ → Type 0) (change : List ℕ → List ℕ) (t : Bool) (a b : JobModel) → StandsFor m.word t a b → Does m temps Can change a → Does m temps Can change (job_of_told t b)
  does_kept Can change t a b (inl s) d = subst (λ u. Does m temps Can change (job_of_told u b)) (sym s.0) (subst (Does m temps Can change) (sym s.1) d)
  does_kept Can change t a b (inr s) d = record {
    lies = λ cells c h. told_lies m.word cells c.words a b temps t s (d.lies cells c h);
    store = λ cells c h. ap (seen_store m) (told_done m.word cells c.words a b t s) ∙ d.store cells c h;
    fits = λ cells c h.
        (let le = told_less m.word cells c.words a b t s in
        let lt = d.fits cells c h in
        omega (arith, le, lt));
  }

  tells_kept : (vars : List Declared) (test : SrcTestModel) (t : Bool) (a b : JobModel) → StandsFor m.word t a b → Tells m temps vars test a → Tells m temps vars test (job_of_told t b)
  tells_kept vars test t a b (inl s) d = subst (λ u. Tells m temps vars test (job_of_told u b)) (sym s.0) (subst (Tells m temps vars test) (sym s.1) d)
  tells_kept vars test t a b (inr s) d = record {
    lies = λ cells c h. told_lies m.word cells c.words a b temps t s (d.lies cells c h);
    value = λ cells c h. told_are m.word cells c.words a b _ t s (bit_below _) (d.value cells c h);
  }

  module _ (vars : List Declared) (turned : Turns) (own new : List JobModel) (r : AreRespelled m.word turned own new) where
    there : (k : ℕ) (a : JobModel) → slice_get own k ≡ Some a → slice_get new k ≡ Some (get_or new k a)
    there k a e =
        let within : k < length own = slice_get_within own k a e in
        let same = r.count in
        slice_get-get_or new k a (omega (arith, within, same))

    told_job : (Is : JobModel → Type 0) → ((t : Bool) (a b : JobModel) → StandsFor m.word t a b → Is a → Is (job_of_told t b)) → (number : ℕ) → HasJob own number Is → HasJob (jobs_of_told turned new) number Is
    told_job Is kept number h =
        let at = there number h.job h.at in
        record {
          job = job_of_told (turned number) (get_or new number h.job);
          at = told_there turned new number ∙ ap (option_map (job_of_told (turned number))) at;
          is = kept (turned number) h.job (get_or new number h.job) (r.each number h.job (get_or new number h.job) h.at at) h.is;
        }

    mutual
      stmt_told : (a : StmtModel) (tree : ℕ) → DoStmt m temps vars own tree a → DoStmt m temps vars (jobs_of_told turned new) tree a
      stmt_told (assign place e) tree d = told_job _ (does_kept _ _) tree d
      stmt_told (choice test taken other) tree d = (told_job _ (tells_kept vars test) tree d.0, stmts_told taken (tree + 1) d.1, else_told other (tree + 1 + statements_in taken) d.2)
      stmt_told (while test body) tree d = (told_job _ (tells_kept vars test) tree d.0, stmts_told body (tree + 1) d.1)
      stmt_told (count counter at from to body) tree d = (
        told_job _ (does_kept _ _) tree d.0,
        told_job _ (tells_kept vars _) (tree + 1) d.1,
        stmts_told body (tree + 2) d.2,
        told_job _ (does_kept _ _) (tree + 2 + statements_in body) d.3,
      )

      stmts_told : (list : StmtsModel) (tree : ℕ) → DoStmts m temps vars own tree list → DoStmts m temps vars (jobs_of_told turned new) tree list
      stmts_told no_acts tree d = tt
      stmts_told (act a rest) tree d = (stmt_told a tree d.0, stmts_told rest (tree + statements a) d.1)

      else_told : (o : ElseModel) (tree : ℕ) → DoElse m temps vars own tree o → DoElse m temps vars (jobs_of_told turned new) tree o
      else_told without tree d = tt
      else_told (otherwise body) tree d = stmts_told body tree d

pub program_told : (m : MemoryMap) (temps : ℕ) (l : ProgramModel) (turned : Turns) (own new : List JobModel) → AreRespelled m.word turned own new → DoProgram m temps l own → DoProgram m temps l (jobs_of_told turned new)
program_told m temps l turned own new r d = stmts_told m temps l.vars turned own new r (stmts_of l.body) 0 d
