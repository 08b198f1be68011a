-- In each run of a program that keeps its rules every index lies in its array.
use Rattle.std.proofs.Common.{ℕ, zero, suc, ◌≡◌, ◌≤◌, ◌+◌, Bool, true, false, if◌then◌else◌, List, [], ◌∷◌, None, refl, sym, ◌∙◌, ap, arith}
use Rattle.std.specs.Cmp.Derive.{both_true}
use Rattle.src_model.specs.declared.checkpoint.Checkpoint.{Checkpoint}
use Rattle.src_model.specs.declared.checkpoint.Checkpoint.TheVariants.{At}
use Rattle.src_model.specs.declared.program.Var.{Var as Declared}
use Rattle.src_model.specs.Written.{SrcExprModel, SpotModel, SrcTestModel, StmtModel, assign, choice, while, count, StmtsModel, no_acts, act, ElseModel, without, otherwise, ProgramModel, stmts_of}
use Rattle.src_model.specs.Sizes.{statements, statements_in}
use Rattle.src_model.specs.Loops.{Round, place_shape}
use Rattle.src_model.specs.Rules.{first_fault}
use Rattle.src_model.specs.Meaning.{FitsStore, assigned, holds}
use Rattle.src_model.specs.Ways.{Passed, Onward, pass, choose, turns, loop, finish}
use Rattle.src_model.specs.Trace.{started, stepped, counting, after_change, run_stmt, run_in, run_else, strace}
use Rattle.src_model.specs.Inside.{assign_inside, test_inside, if_holds, run_inside, all_inside, else_inside, strace_inside}
use Rattle.src_model.specs.Inner.Sound.{Holds, Turns, SoundAssign, SoundTest, Sound, SoundIn, SoundElse}
use Rattle.src_model.proofs.RangeLemmas.{inside}
use Rattle.src_model.proofs.CounterLemmas.{assign_holds, start_turns, turn_holds, step_turns}
use Rattle.src_model.proofs.SoundLemmas.{program_sound}
use Rattle.src_model.proofs.TraceLemmas.{counted_body}

-- ---- ways on that agree from some stores

-- up to m checkpoints, from the stores that keep P
abbrev Agree : ℕ → (List ℕ → Type 0) → Onward → Onward → Type 0
Agree m P k k' = (j : ℕ) → j ≤ m → (cells : List ℕ) → P cells → k j cells ≡ k' j cells

pass_agree : (m : ℕ) (label : Checkpoint) (P : List ℕ → Type 0) (k k' : Onward) → Agree m P k k' → Agree m P (pass label k) (pass label k')
pass_agree m label P k k' h zero le cells p = refl
pass_agree m label P k k' h (suc j) le cells p = ap (λ (rest : List Passed). record { label = label; cells = cells } ∷ rest) (h j (omega arith) cells p)

-- a question that is answered with yes
only_agree : (m : ℕ) (question : List ℕ → Bool) (P : List ℕ → Type 0) (k k' : Onward) → ((cells : List ℕ) → P cells → question cells ≡ true) → Agree m P k k' → Agree m P (if_holds question k) k'
only_agree m question P k k' yes_to h j le cells p = ap (λ b. if b then k j cells else []) (yes_to cells p) ∙ h j le cells p

-- what a store keeps that passes a test, or doesn't
abbrev Passing : (List ℕ → Type 0) → (List ℕ → Bool) → Bool → List ℕ → Type 0
Passing P test b cells = P cells × (test cells ≡ b)

choose_agree : (m : ℕ) (test : List ℕ → Bool) (P : List ℕ → Type 0) (a a' b b' : Onward) → Agree m (Passing P test true) a a' → Agree m (Passing P test false) b b' → Agree m P (choose test a b) (choose test a' b')
choose_agree m test P a a' b b' f g j le cells p = by (test cells) refl
  where
    by : (t : Bool) → test cells ≡ t → choose test a b j cells ≡ choose test a' b' j cells
    by true e = ap (λ t. if t then a j cells else b j cells) e ∙ f j le cells (p, e) ∙ sym (ap (λ t. if t then a' j cells else b' j cells) e)
    by false e = ap (λ t. if t then a j cells else b j cells) e ∙ g j le cells (p, e) ∙ sym (ap (λ t. if t then a' j cells else b' j cells) e)

turns_agree : (n m : ℕ) (label : Checkpoint) (test : List ℕ → Bool) (P : List ℕ → Type 0) (body body' : Onward → Onward) (k k' : Onward) → ((i : ℕ) (r r' : Onward) → Agree i P r r' → Agree i (Passing P test true) (body r) (body' r'))
    → Agree m (Passing P test false) k k' → Agree m P (turns n label test body k) (turns n label test body' k')
turns_agree zero m label test P body body' k k' keeps h = λ j le cells p. refl
turns_agree (suc n) m label test P body body' k k' keeps h =
    pass_agree m label P (choose test (body (turns n label test body k)) k) (choose test (body' (turns n label test body' k')) k')
    (choose_agree m test P (body (turns n label test body k)) (body' (turns n label test body' k')) k k'
    (keeps m (turns n label test body k) (turns n label test body' k') (turns_agree n m label test P body body' k k' keeps h)) h)

loop_agree : (m : ℕ) (label : Checkpoint) (test : List ℕ → Bool) (P : List ℕ → Type 0) (body body' : Onward → Onward) (k k' : Onward) → ((i : ℕ) (r r' : Onward) → Agree i P r r' → Agree i (Passing P test true) (body r) (body' r'))
    → Agree m (Passing P test false) k k' → Agree m P (loop label test body k) (loop label test body' k')
loop_agree m label test P body body' k k' keeps h j le cells p = turns_agree j m label test P body body' k k' keeps h j le cells p

-- ---- statements

module _ (bits : ℕ) (vars : List Declared) where
  assign_is : (rounds : List Round) (place : SpotModel) (e : SrcExprModel) → SoundAssign bits vars rounds place e → (cells : List ℕ) → Holds bits vars rounds cells → assign_inside bits vars place e cells ≡ true
  assign_is rounds place e f cells h = both_true (inside bits vars cells h.fits.below rounds h.counts bits (place_shape place) f.left.fits f.left.known f.left.within) (inside bits vars cells h.fits.below rounds h.counts bits e.shape f.right.fits f.right.known f.right.within)

  test_is : (rounds : List Round) (test : SrcTestModel) → SoundTest bits vars rounds test → (cells : List ℕ) → Holds bits vars rounds cells → test_inside bits vars test cells ≡ true
  test_is rounds test f cells h = both_true (inside bits vars cells h.fits.below rounds h.counts _ test.left.shape f.sides.left f.left_known f.left_within) (inside bits vars cells h.fits.below rounds h.counts _ test.right.shape f.sides.right f.right_known f.right_within)

  mutual
    unfolding run_stmt run_in run_else run_inside all_inside else_inside

    run_agree : (rounds : List Round) (a : StmtModel) → Sound bits vars rounds a → (tree m : ℕ) (k k' : Onward) → Agree m (Holds bits vars rounds) k k' → Agree m (Holds bits vars rounds) (run_inside bits vars a tree k) (run_stmt bits vars a tree k')
    run_agree rounds (assign place e) f tree m k k' h =
        only_agree m (assign_inside bits vars place e) (Holds bits vars rounds) (after_change (assigned bits vars place e) k) (after_change (assigned bits vars place e) k') (assign_is rounds place e f)
        (λ j le cells p. h j le (assigned bits vars place e cells)
        (assign_holds bits vars rounds place e cells f (inside bits vars cells p.fits.below rounds p.counts bits (place_shape place) f.left.fits f.left.known f.left.within) p))
    run_agree rounds (choice test taken other) f tree m k k' h =
        pass_agree m (At tree) (Holds bits vars rounds) (if_holds (test_inside bits vars test) (choose (holds bits vars test) (all_inside bits vars taken (tree + 1) k) (else_inside bits vars other (tree + 1 + statements_in taken) k)))
        (choose (holds bits vars test) (run_in bits vars taken (tree + 1) k') (run_else bits vars other (tree + 1 + statements_in taken) k'))
        (only_agree m (test_inside bits vars test) (Holds bits vars rounds) _ _ (test_is rounds test f.0)
        (choose_agree m (holds bits vars test) (Holds bits vars rounds) _ _ _ _
        (λ j le cells p. in_agree rounds taken f.1 (tree + 1) m k k' h j le cells p.0)
        (λ j le cells p. else_agree rounds other f.2 (tree + 1 + statements_in taken) m k k' h j le cells p.0)))
    run_agree rounds (while test body) f tree m k k' h =
        loop_agree m (At tree) (holds bits vars test) (Holds bits vars rounds) (λ again. if_holds (test_inside bits vars test) (all_inside bits vars body (tree + 1) again)) (run_in bits vars body (tree + 1)) (if_holds (test_inside bits vars test) k) k'
        (λ i r r' a. only_agree i (test_inside bits vars test) (Passing (Holds bits vars rounds) (holds bits vars test) true) (all_inside bits vars body (tree + 1) r) (run_in bits vars body (tree + 1) r') (λ cells p. test_is rounds test f.0 cells p.0)
        (λ j le cells p. in_agree rounds body f.1 (tree + 1) i r r' a j le cells p.0))
        (only_agree m (test_inside bits vars test) (Passing (Holds bits vars rounds) (holds bits vars test) false) k k' (λ cells p. test_is rounds test f.0 cells p.0) (λ j le cells p. h j le cells p.0))
    run_agree rounds (count counter at from to body) f tree m k k' h = λ j le cells p.
        loop_agree m (At (tree + 1)) (counting vars counter to) (Turns bits vars rounds counter from to) (λ again. all_inside bits vars body (tree + 2) (after_change (stepped bits vars counter) again)) (counted_body bits vars counter body (tree + 2)) k k'
        (λ i r r' a j le cells q. in_agree (record { counter = counter; from = from; to = to } ∷ rounds) body f.1 (tree + 2) i (after_change (stepped bits vars counter) r) (after_change (stepped bits vars counter) r')
        (λ j le cells t. a j le (stepped bits vars counter cells) (step_turns bits vars rounds counter from to f.0 cells t)) j le cells (turn_holds bits vars rounds counter from to f.0 cells q.0 q.1))
        (λ j le cells q. h j le cells q.0.holds)
        j le (started vars counter from cells) (start_turns bits vars rounds counter from to f.0 cells p)

    in_agree : (rounds : List Round) (list : StmtsModel) → SoundIn bits vars rounds list → (tree m : ℕ) (k k' : Onward) → Agree m (Holds bits vars rounds) k k' → Agree m (Holds bits vars rounds) (all_inside bits vars list tree k) (run_in bits vars list tree k')
    in_agree rounds no_acts f tree m k k' h = h
    in_agree rounds (act a rest) f tree m k k' h =
        run_agree rounds a f.0 tree m (all_inside bits vars rest (tree + statements a) k) (run_in bits vars rest (tree + statements a) k') (in_agree rounds rest f.1 (tree + statements a) m k k' h)

    else_agree : (rounds : List Round) (o : ElseModel) → SoundElse bits vars rounds o → (tree m : ℕ) (k k' : Onward) → Agree m (Holds bits vars rounds) k k' → Agree m (Holds bits vars rounds) (else_inside bits vars o tree k) (run_else bits vars o tree k')
    else_agree rounds without f tree m k k' h = h
    else_agree rounds (otherwise body) f tree m k k' h = in_agree rounds body f tree m k k' h

-- ---- programs

pub indexes_inside : (word : ℕ) (l : ProgramModel) → first_fault word l ≡ None → (cells : List ℕ) → FitsStore word l.vars cells → (m : ℕ) → strace_inside word l cells m ≡ strace word l cells m
indexes_inside word l h cells fits m =
    in_agree word l.vars [] (stmts_of l.body) (program_sound word l h) 0 m finish finish (λ j le cells p. refl) m (omega arith) cells (record { fits = fits; counts = tt })
