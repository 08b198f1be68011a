-- The steps of a statement pass the checkpoints of the statement.
use Rattle.std.proofs.Common.{◌≡◌, ℕ, zero, suc, ◌+◌, ◌≤◌, Bool, List, length, sym, ◌∙◌, arith, slice_get, Some}
use Rattle.std.proofs.lemmas.Option.{slice_get_past}
use Rattle.src_model.specs.declared.checkpoint.Checkpoint.TheVariants.{At}
use Rattle.src_model.specs.declared.program.Var.{Var as Declared}
use Rattle.src_model.specs.Written.{StmtModel, assign, choice, while, count, StmtsModel, no_acts, act, ElseModel, without, otherwise}
use Rattle.src_model.specs.Sizes.{statements, statements_in}
use Rattle.src_model.specs.Ways.{Onward, pass, choose, loop, finish}
use Rattle.src_model.specs.Meaning.{assigned, holds}
use Rattle.src_model.specs.Trace.{started, stepped, counting, after_change, run_stmt, run_in, run_else}
use Rattle.src_model.proofs.WayLemmas.{Agree, Keeps, pass_agree, choose_agree, agree_less, loop_step}
use Rattle.src_model.proofs.TraceLemmas.{body_keeps, counted_body, counted_keeps}
use Rattle.src_eval.specs.declared.machine.Step.{Step}
use Rattle.src_eval.specs.declared.machine.Step.TheVariants.{Assign, Test}
use Rattle.src_eval.specs.Steps.{ahead}
use Rattle.src_eval.specs.Inner.Steps.{StepsFit}
use Rattle.src_eval.specs.Inner.Laid.{IsDoing, IsAsking, Has, entry, entry_else, Laid, LaidIn, LaidElse}
use Rattle.src_eval.proofs.FlowLemmas.{over_assign, over_test, over_end}

-- the way on from a step
abbrev pub way : List Step → ℕ → Onward
way steps at m cells = ahead steps m at cells

module _ (word : ℕ) (steps : List Step) (fits : StepsFit word steps) where
  -- a step that changes the store
  pub does : (at : ℕ) (change : List ℕ → List ℕ) (next : ℕ) → Has steps at (IsDoing change next) → (m : ℕ) (cells : List ℕ) → way steps at m cells ≡ after_change change (way steps next) m cells
  does at change next h m cells = by h.step h.there h.is
    where
      by : (s : Step) → slice_get steps at ≡ Some s → IsDoing change next s → ahead steps m at cells ≡ ahead steps m next (change cells)
      by (Test test on_true on_false) is d = absurd d
      by (Assign first index value to) is d =
          over_assign word steps fits at first index value to is m cells ∙ (λ j. ahead steps m (d.0 j) (d.1 cells j))

  pub does_agree : (at : ℕ) (change : List ℕ → List ℕ) (next : ℕ) → Has steps at (IsDoing change next) → (m : ℕ) (k : Onward) → Agree m (way steps next) k → Agree m (way steps at) (after_change change k)
  does_agree at change next h m k a j le cells = does at change next h j cells ∙ a j le (change cells)

-- a step that asks
pub asks : (steps : List Step) (at : ℕ) (question : List ℕ → Bool) (yes_to no_to : ℕ) → Has steps at (IsAsking question yes_to no_to) → (m : ℕ) (cells : List ℕ)
    → way steps at m cells ≡ pass (At at) (choose question (way steps yes_to) (way steps no_to)) m cells
asks steps at question yes_to no_to h m cells = by h.step h.there h.is m
  where
    by : (s : Step) → slice_get steps at ≡ Some s → IsAsking question yes_to no_to s → (n : ℕ) → ahead steps n at cells ≡ pass (At at) (choose question (way steps yes_to) (way steps no_to)) n cells
    by (Assign first index value to) is d n = absurd d
    by (Test test on_true on_false) is d zero = over_test steps at test on_true on_false is zero cells
    by (Test test on_true on_false) is d (suc n) =
        over_test steps at test on_true on_false is (suc n) cells
        ∙ (λ j. pass (At at) (λ asked now. choose (λ cs. d.2 now j) (way steps (d.0 j)) (way steps (d.1 j)) asked now) (suc n) cells)

pub asks_agree : (steps : List Step) (at : ℕ) (question : List ℕ → Bool) (yes_to no_to : ℕ) → Has steps at (IsAsking question yes_to no_to) → (m : ℕ) (k k' : Onward)
    → Agree m (way steps yes_to) k → Agree m (way steps no_to) k' → Agree (suc m) (way steps at) (pass (At at) (choose question k k'))
asks_agree steps at question yes_to no_to h m k k' a b j le cells =
    asks steps at question yes_to no_to h j cells
    ∙ pass_agree m (At at) (choose question (way steps yes_to) (way steps no_to)) (choose question k k') (choose_agree m question (way steps yes_to) k (way steps no_to) k' a b) j le cells

nothing : (steps : List Step) (at : ℕ) (k : Onward) → ((cells : List ℕ) → ahead steps 0 at cells ≡ k 0 cells) → Agree 0 (way steps at) k
nothing steps at k h zero le cells = h cells
nothing steps at k h (suc j) le cells = absurd (omega (arith, le))

-- a loop, whose body goes back to the test
pub loop_agrees : (steps : List Step) (at : ℕ) (question : List ℕ → Bool) (yes_to no_to : ℕ) (body : Onward → Onward) (next : Onward) → Has steps at (IsAsking question yes_to no_to) → Keeps body
    → ((i : ℕ) (r : Onward) → Agree i (way steps at) r → Agree i (way steps yes_to) (body r)) → (m : ℕ) → Agree m (way steps no_to) next → Agree m (way steps at) (loop (At at) question body next)
loop_agrees steps at question yes_to no_to body next h keeps inner zero b = nothing steps at (loop (At at) question body next) (λ cells. asks steps at question yes_to no_to h 0 cells)
loop_agrees steps at question yes_to no_to body next h keeps inner (suc m) b = λ j le cells.
    let less = agree_less (suc m) m (way steps no_to) next (omega arith) b in
    let again = loop_agrees steps at question yes_to no_to body next h keeps inner m less in
    asks_agree steps at question yes_to no_to h m (body (loop (At at) question body next)) next (inner m (loop (At at) question body next) again) less j le cells
    ∙ sym (loop_step j (At at) question body next keeps cells)

module _ (word : ℕ) (vars : List Declared) (steps : List Step) (fits : StepsFit word steps) where
  mutual
    unfolding run_stmt run_in run_else

    pub laid_agrees : (a : StmtModel) (tree next : ℕ) → Laid word vars steps a tree next → (m : ℕ) (k : Onward) → Agree m (way steps next) k → Agree m (way steps tree) (run_stmt word vars a tree k)
    laid_agrees (assign place e) tree next h m k a = does_agree word steps fits tree (assigned word vars place e) next h m k a
    laid_agrees (choice test taken other) tree next h m k a =
        agree_less (suc m) m (way steps tree)
        (pass (At tree) (choose (holds word vars test) (run_in word vars taken (tree + 1) k) (run_else word vars other (tree + 1 + statements_in taken) k)))
        (omega arith)
        (asks_agree steps tree (holds word vars test) (entry taken (tree + 1) next) (entry_else other (tree + 1 + statements_in taken) next) h.0 m
        (run_in word vars taken (tree + 1) k) (run_else word vars other (tree + 1 + statements_in taken) k)
        (in_agrees taken (tree + 1) next h.1 m k a) (else_agrees other (tree + 1 + statements_in taken) next h.2 m k a))
    laid_agrees (while test body) tree next h m k a =
        loop_agrees steps tree (holds word vars test) (entry body (tree + 1) tree) next (run_in word vars body (tree + 1)) k h.0 (body_keeps word vars body (tree + 1))
        (λ i r b. in_agrees body (tree + 1) tree h.1 i r b) m a
    laid_agrees (count counter at from to body) tree next h m k a =
        does_agree word steps fits tree (started vars counter from) (tree + 1) h.0 m (loop (At (tree + 1)) (counting vars counter to) (counted_body word vars counter body (tree + 2)) k)
        (loop_agrees steps (tree + 1) (counting vars counter to) (entry body (tree + 2) (tree + 2 + statements_in body)) next (counted_body word vars counter body (tree + 2)) k h.1
        (counted_keeps word vars counter body (tree + 2))
        (λ i r b. in_agrees body (tree + 2) (tree + 2 + statements_in body) h.2 i (after_change (stepped word vars counter) r)
        (does_agree word steps fits (tree + 2 + statements_in body) (stepped word vars counter) (tree + 1) h.3 i r b)) m a)

    pub in_agrees : (list : StmtsModel) (tree next : ℕ) → LaidIn word vars steps list tree next → (m : ℕ) (k : Onward) → Agree m (way steps next) k → Agree m (way steps (entry list tree next)) (run_in word vars list tree k)
    in_agrees no_acts tree next h m k a = a
    in_agrees (act s rest) tree next h m k a =
        laid_agrees s tree (entry rest (tree + statements s) next) h.0 m (run_in word vars rest (tree + statements s) k) (in_agrees rest (tree + statements s) next h.1 m k a)

    pub else_agrees : (o : ElseModel) (tree next : ℕ) → LaidElse word vars steps o tree next → (m : ℕ) (k : Onward) → Agree m (way steps next) k → Agree m (way steps (entry_else o tree next)) (run_else word vars o tree k)
    else_agrees without tree next h m k a = a
    else_agrees (otherwise body) tree next h m k a = in_agrees body tree next h m k a

-- a program's steps, behind which there is none
pub whole_ahead : (word : ℕ) (vars : List Declared) (steps : List Step) → StepsFit word steps → (list : StmtsModel) (past : ℕ) → LaidIn word vars steps list 0 past → length steps ≡ statements_in list → length steps ≤ past
    → (m : ℕ) (cells : List ℕ) → ahead steps m 0 cells ≡ run_in word vars list 0 finish m cells
unfolding run_in
whole_ahead word vars steps fits no_acts past h e le m cells = over_end steps 0 (slice_get_past steps 0 (omega (arith, e))) m cells
whole_ahead word vars steps fits (act a rest) past h e le m cells =
    in_agrees word vars steps fits (act a rest) 0 past h m finish (λ j k now. over_end steps past (slice_get_past steps past le) j now) m (omega arith) cells
