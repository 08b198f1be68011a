-- The steps that are built for a statement.
use Rattle.std.proofs.Common.{◌≡◌, ℕ, zero, suc, ◌+◌, ◌≤◌, ◌<◌, ◌||◌, nat_le, nat_lt, Bool, true, false, IsTrue, List, [], ◌∷◌, ◌++◌, map, length, slice_get, Option, Some, None, refl, sym, ap, subst, ◌∙◌, arith, length-append}
use Rattle.std.proofs.lemmas.Option.{slice_get_past}
use Rattle.std.proofs.lemmas.Bool.Decides.{nat_tests}
use Rattle.std.specs.declared.alloc.Global.{Global}
use Rattle.std.specs.declared.vec.Vec.{Vec}
use Rattle.rec_bits.proofs.Booleans.{or_right, or_left}
use Rattle.src_model.specs.declared.program.Var.{Var as Declared}
use Rattle.src_model.specs.declared.program.SrcTest.{SrcTest}
use Rattle.src_model.specs.declared.program.Stmt.{Stmt, If, While, For}
use Rattle.src_model.specs.Written.{assign, choice, while, count, StmtsModel, without, otherwise, model_of_stmt, stmts_of, SpotModel, SrcExprModel, SrcTestModel}
use Rattle.src_model.specs.Sizes.{statements, statements_in, statements_else}
use Rattle.src_model.specs.Meaning.{assigned, holds}
use Rattle.src_model.specs.Trace.{started, stepped, counting}
use Rattle.src_model.proofs.Views.{stmt_If, stmt_While, stmt_For, else_stmts}
use Rattle.src_eval.specs.declared.machine.Step.{Step}
use Rattle.src_eval.specs.declared.machine.Step.TheVariants.{Assign, Test as Asking}
use Rattle.src_eval.specs.Inner.Steps.{StepsFit, FitsStep, is_test}
use Rattle.src_eval.specs.Inner.Laid.{IsDoing, IsAsking, Has, entry, Laid, LaidIn, Extends, FitsParts, Pushed, IsBehind, Ready, Built}
use Rattle.src_eval.proofs.FlowLemmas.{within}

-- ---- how many trees

abbrev pub block_stmts : List Stmt → StmtsModel
block_stmts l = stmts_of (map model_of_stmt l)

abbrev pub trees_of : List Stmt → ℕ
trees_of l = statements_in (block_stmts l)

pub trees_If : (s : Stmt) (test : SrcTest) (v : Vec Stmt Global) (o : Option (Vec Stmt Global)) → s ≡ If test v o → statements (model_of_stmt s) ≡ 1 + trees_of v.items + statements_else (else_stmts o)
trees_If s test v o is = ap (λ x. statements (model_of_stmt x)) is ∙ ap statements (stmt_If test v o)

pub trees_While : (s : Stmt) (test : SrcTest) (v : Vec Stmt Global) → s ≡ While test v → statements (model_of_stmt s) ≡ 1 + trees_of v.items
trees_While s test v is = ap (λ x. statements (model_of_stmt x)) is ∙ ap statements (stmt_While test v)

pub trees_For : (s : Stmt) (counter : List ℕ) (at from to : ℕ) (v : Vec Stmt Global) → s ≡ For counter at from to v → statements (model_of_stmt s) ≡ 3 + trees_of v.items
trees_For s counter at from to v is = ap (λ x. statements (model_of_stmt x)) is ∙ ap statements (stmt_For counter at from to v)

-- ---- one step more

before : (xs ys : List Step) (i : ℕ) → i < length xs → slice_get (xs ++ ys) i ≡ slice_get xs i
before [] ys i h = absurd (omega (arith, h))
before (x ∷ xs) ys zero h = refl
before (x ∷ xs) ys (suc i) h = before xs ys i (omega (arith, h))

last_one : (xs : List Step) (s : Step) → slice_get (xs ++ s ∷ []) (length xs) ≡ Some s
last_one [] s = refl
last_one (x ∷ xs) s = last_one xs s

module _ (old new : List Step) (s : Step) (is : new ≡ old ++ s ∷ []) where
  pub pushed_keeps : Extends old new
  pushed_keeps i h = ap (λ l. slice_get l i) is ∙ before old (s ∷ []) i h

  pub pushed_there : slice_get new (length old) ≡ Some s
  pushed_there = ap (λ l. slice_get l (length old)) is ∙ last_one old s

  pub pushed_length : length new ≡ length old + 1
  pushed_length = ap length is ∙ length-append old (s ∷ [])

pub extends_all : (a b c : List Step) → Extends a b → length a ≤ length b → Extends b c → Extends a c
extends_all a b c h le k i lt = k i (omega (arith, lt, le)) ∙ h i lt

-- a test stays a test
test_kept : (old new : List Step) → Extends old new → (at : ℕ) → is_test (slice_get old at) ≡ true → is_test (slice_get new at) ≡ true
test_kept old new ext at h = by (slice_get old at) refl h
  where
    by : (o : Option Step) → slice_get old at ≡ o → is_test o ≡ true → is_test (slice_get new at) ≡ true
    by None is t = absurd (cc t)
    by (Some s) is t = ap is_test (ext at (within old at s is) ∙ is) ∙ t

-- where a run may go on, in a longer list
pub behind_kept : (old new : List Step) → Extends old new → (end end' next : ℕ) → end' ≤ end → IsBehind old end next → IsBehind new end' next
behind_kept old new ext end end' next le h = by (nat_le end next) (is_test (slice_get old next)) refl refl h
  where
    by : (a b : Bool) → nat_le end next ≡ a → is_test (slice_get old next) ≡ b → IsTrue (a || b) → IsBehind new end' next
    by true b is t h = (let e : nat_le end' next ≡ true = grind (arith, nat_tests, is, le) in or_left (nat_le end' next) (is_test (slice_get new next)) e)
    by false true is t h = or_right (nat_le end' next) (is_test (slice_get new next)) (test_kept old new ext next t)
    by false false is t h = absurd (cc h)

-- so a step before the end goes on well
goes_on : (steps : List Step) (at end next : ℕ) → at < end → IsBehind steps end next → IsTrue (nat_lt at next || is_test (slice_get steps next))
goes_on steps at end next lt h = by (nat_le end next) (is_test (slice_get steps next)) refl h
  where
    by : (a b : Bool) → nat_le end next ≡ a → IsTrue (a || b) → IsTrue (nat_lt at next || b)
    by true b is h = (let e : nat_lt at next ≡ true = grind (arith, nat_tests, is, lt) in or_left (nat_lt at next) b e)
    by false b is h = or_right (nat_lt at next) b h

fits_kept : (word : ℕ) (old new : List Step) → Extends old new → (at : ℕ) (o : Option Step) → FitsStep word old at o → FitsStep word new at o
fits_kept word old new ext at None f = tt
fits_kept word old new ext at (Some (Asking test on_true on_false)) f = f
fits_kept word old new ext at (Some (Assign first index value next)) f = (f.0, f.1, by (nat_lt at next) (is_test (slice_get old next)) refl f.2)
  where
    by : (a b : Bool) → is_test (slice_get old next) ≡ b → IsTrue (a || b) → IsTrue (a || is_test (slice_get new next))
    by true b is h = refl
    by false true is h = test_kept old new ext next is
    by false false is h = absurd (cc h)

-- a longer list fits, where its last step does
pub all_pushed : (word : ℕ) (old new : List Step) (s : Step) → new ≡ old ++ s ∷ [] → StepsFit word old → FitsStep word new (length old) (Some s) → StepsFit word new
all_pushed word old new s is all f at = by (nat_lt at (length old)) (nat_lt (length old) at) refl refl
  where
    by : (a b : Bool) → nat_lt at (length old) ≡ a → nat_lt (length old) at ≡ b → FitsStep word new at (slice_get new at)
    by true b e g =
        let lt : at < length old = grind (arith, nat_tests, e) in
        subst (FitsStep word new at) (sym (pushed_keeps old new s is at lt)) (fits_kept word old new (pushed_keeps old new s is) at (slice_get old at) (all at))
    by false true e g =
        let le : length new ≤ at = grind (arith, nat_tests, g, pushed_length old new s is) in
        subst (FitsStep word new at) (sym (slice_get_past new at le)) tt
    by false false e g =
        let same : length old ≡ at = grind (arith, nat_tests, e, g) in
        subst (λ n. FitsStep word new n (slice_get new n)) same (subst (FitsStep word new (length old)) (sym (pushed_there old new s is)) f)

fits_assign : (word : ℕ) (steps : List Step) (at next : ℕ) (change : List ℕ → List ℕ) (s : Step) → IsDoing change next s → FitsParts word s → IsTrue (nat_lt at next || is_test (slice_get steps next)) → FitsStep word steps at (Some s)
fits_assign word steps at next change (Asking test on_true on_false) d f h = absurd d
fits_assign word steps at next change (Assign first index value to) d f h = (f.0, f.1, subst (λ n. IsTrue (nat_lt at n || is_test (slice_get steps n))) (sym d.0) h)

asks_test : (question : List ℕ → Bool) (yes_to no_to : ℕ) (s : Step) → IsAsking question yes_to no_to s → is_test (Some s) ≡ true
asks_test question yes_to no_to (Asking test on_true on_false) d = refl
asks_test question yes_to no_to (Assign first index value to) d = absurd d

fits_test : (word : ℕ) (steps : List Step) (at : ℕ) (question : List ℕ → Bool) (yes_to no_to : ℕ) (s : Step) → IsAsking question yes_to no_to s → FitsParts word s → FitsStep word steps at (Some s)
fits_test word steps at question yes_to no_to (Asking test on_true on_false) d f = f
fits_test word steps at question yes_to no_to (Assign first index value to) d f = absurd d

-- ---- what one step more is

pub record One (word : ℕ) (old new : List Step) (Is : Step → Type 0) : Type 0 where
  pub longer : length new ≡ length old + 1
  pub keeps : Extends old new
  pub all : StepsFit word new
  pub has : (last : List Step) → Extends new last → Has last (length old) Is

pub doing_one : (word : ℕ) (old new : List Step) (change : List ℕ → List ℕ) (next : ℕ) → Pushed word old new (IsDoing change next) → StepsFit word old → IsBehind old (length old + 1) next → One word old new (IsDoing change next)
doing_one word old new change next p all good =
    let ext = pushed_keeps old new p.step p.pushed in
    let longer = pushed_length old new p.step p.pushed in
    record {
      longer = longer;
      keeps = ext;
      all = all_pushed word old new p.step p.pushed all (fits_assign word new (length old) next change p.step p.is p.fits
          (goes_on new (length old) (length old + 1) next (omega arith) (behind_kept old new ext (length old + 1) (length old + 1) next (omega arith) good)));
      has = λ last more. record { step = p.step; there = more (length old) (omega (arith, longer)) ∙ pushed_there old new p.step p.pushed; is = p.is };
    }

pub asking_one : (word : ℕ) (old new : List Step) (question : List ℕ → Bool) (yes_to no_to : ℕ) → Pushed word old new (IsAsking question yes_to no_to) → StepsFit word old → One word old new (IsAsking question yes_to no_to)
asking_one word old new question yes_to no_to p all =
    let longer = pushed_length old new p.step p.pushed in
    record {
      longer = longer;
      keeps = pushed_keeps old new p.step p.pushed;
      all = all_pushed word old new p.step p.pushed all (fits_test word new (length old) question yes_to no_to p.step p.is p.fits);
      has = λ last more. record { step = p.step; there = more (length old) (omega (arith, longer)) ∙ pushed_there old new p.step p.pushed; is = p.is };
    }

-- a test is a step behind which a run may go on
pub behind_test : (word : ℕ) (old new : List Step) (question : List ℕ → Bool) (yes_to no_to end : ℕ) → One word old new (IsAsking question yes_to no_to) → IsBehind new end (length old)
behind_test word old new question yes_to no_to end one =
    let h = one.has new (λ i lt. refl) in
    or_right (nat_le end (length old)) (is_test (slice_get new (length old))) (ap is_test h.there ∙ asks_test question yes_to no_to h.step h.is)

pub behind_itself : (steps : List Step) (end next : ℕ) → end ≤ next → IsBehind steps end next
behind_itself steps end next le = let e : nat_le end next ≡ true = grind (arith, nat_tests, le) in or_left (nat_le end next) (is_test (slice_get steps next)) e

-- ---- statements

pub assign_built : (word : ℕ) (vars : List Declared) (old new : List Step) (place : SpotModel) (e : SrcExprModel) (next : ℕ) → Pushed word old new (IsDoing (assigned word vars place e) next) → Ready word old 1 next
    → Built word old new 1 (λ last. Laid word vars last (assign place e) (length old) next)
assign_built word vars old new place e next p r =
    let one = doing_one word old new (assigned word vars place e) next p r.all r.target in
    record { grown = one.longer; kept = one.keeps; all = one.all; laid = one.has }

-- the body of a `while` may be built
pub while_ready : (word : ℕ) (vars : List Declared) (old mid : List Step) (test : SrcTestModel) (body : StmtsModel) (next yes_to : ℕ) → Pushed word old mid (IsAsking (holds word vars test) yes_to next)
    → Ready word old (1 + statements_in body) next → Ready word mid (statements_in body) (length old)
while_ready word vars old mid test body next yes_to p r =
    let one = asking_one word old mid (holds word vars test) yes_to next p r.all in
    record { width = r.width; few = omega (arith, r.few, one.longer); all = one.all; target = behind_test word old mid (holds word vars test) yes_to next (length mid + statements_in body) one }

pub while_built : (word : ℕ) (vars : List Declared) (old mid new : List Step) (test : SrcTestModel) (body : StmtsModel) (next : ℕ) → Pushed word old mid (IsAsking (holds word vars test) (entry body (length old + 1) (length old)) next)
    → Ready word old (1 + statements_in body) next → Built word mid new (statements_in body) (λ last. LaidIn word vars last body (length mid) (length old))
    → Built word old new (1 + statements_in body) (λ last. Laid word vars last (while test body) (length old) next)
while_built word vars old mid new test body next p r b =
    let one = asking_one word old mid (holds word vars test) (entry body (length old + 1) (length old)) next p r.all in
    record {
      grown = omega (arith, b.grown, one.longer);
      kept = extends_all old mid new one.keeps (omega (arith, one.longer)) b.kept;
      all = b.all;
      laid = λ last more. (one.has last (extends_all mid new last b.kept (omega (arith, b.grown)) more), subst (λ n. LaidIn word vars last body n (length old)) one.longer (b.laid last more));
    }

-- the first part of a choice may be built
pub taken_ready : (word : ℕ) (vars : List Declared) (old mid : List Step) (test : SrcTestModel) (taken : StmtsModel) (others next yes_to no_to : ℕ) → Pushed word old mid (IsAsking (holds word vars test) yes_to no_to)
    → Ready word old (1 + statements_in taken + others) next → Ready word mid (statements_in taken) next
taken_ready word vars old mid test taken others next yes_to no_to p r =
    let one = asking_one word old mid (holds word vars test) yes_to no_to p r.all in
    record {
      width = r.width;
      few = omega (arith, r.few, one.longer);
      all = one.all;
      target = behind_kept old mid one.keeps (length old + (1 + statements_in taken + others)) (length mid + statements_in taken) next (omega (arith, one.longer)) r.target;
    }

pub if_built : (word : ℕ) (vars : List Declared) (old mid new : List Step) (test : SrcTestModel) (taken : StmtsModel) (next : ℕ) → Pushed word old mid (IsAsking (holds word vars test) (entry taken (length old + 1) next) next)
    → Ready word old (1 + statements_in taken + 0) next → Built word mid new (statements_in taken) (λ last. LaidIn word vars last taken (length mid) next)
    → Built word old new (1 + statements_in taken + 0) (λ last. Laid word vars last (choice test taken without) (length old) next)
if_built word vars old mid new test taken next p r b =
    let one = asking_one word old mid (holds word vars test) (entry taken (length old + 1) next) next p r.all in
    record {
      grown = omega (arith, b.grown, one.longer);
      kept = extends_all old mid new one.keeps (omega (arith, one.longer)) b.kept;
      all = b.all;
      laid = λ last more. (one.has last (extends_all mid new last b.kept (omega (arith, b.grown)) more), subst (λ n. LaidIn word vars last taken n next) one.longer (b.laid last more), tt);
    }

-- the other part
pub other_ready : (word : ℕ) (old mid high : List Step) (n others next : ℕ) (A : List Step → Type 0) → length mid ≡ length old + 1 → Extends old mid → Built word mid high n A
    → Ready word old (1 + n + others) next → Ready word high others next
other_ready word old mid high n others next A longer keeps b r =
    record {
      width = r.width;
      few = omega (arith, r.few, longer, b.grown);
      all = b.all;
      target = behind_kept old high (extends_all old mid high keeps (omega (arith, longer)) b.kept) (length old + (1 + n + others)) (length high + others) next (omega (arith, longer, b.grown)) r.target;
    }

pub else_built : (word : ℕ) (vars : List Declared) (old mid high new : List Step) (test : SrcTestModel) (taken other : StmtsModel) (next : ℕ)
    → Pushed word old mid (IsAsking (holds word vars test) (entry taken (length old + 1) next) (entry other (length old + 1 + statements_in taken) next))
    → Ready word old (1 + statements_in taken + statements_in other) next → Built word mid high (statements_in taken) (λ last. LaidIn word vars last taken (length mid) next)
    → Built word high new (statements_in other) (λ last. LaidIn word vars last other (length high) next)
    → Built word old new (1 + statements_in taken + statements_in other) (λ last. Laid word vars last (choice test taken (otherwise other)) (length old) next)
else_built word vars old mid high new test taken other next p r b d =
    let one = asking_one word old mid (holds word vars test) (entry taken (length old + 1) next) (entry other (length old + 1 + statements_in taken) next) p r.all in
    let low : Extends old high = extends_all old mid high one.keeps (omega (arith, one.longer)) b.kept in
    let at : length high ≡ length old + 1 + statements_in taken = omega (arith, b.grown, one.longer) in
    record {
      grown = omega (arith, d.grown, b.grown, one.longer);
      kept = extends_all old high new low (omega (arith, b.grown, one.longer)) d.kept;
      all = d.all;
      laid = λ last more.
          let high_on = extends_all high new last d.kept (omega (arith, d.grown)) more in
          let mid_on = extends_all mid high last b.kept (omega (arith, b.grown)) high_on in
          (one.has last mid_on, subst (λ n. LaidIn word vars last taken n next) one.longer (b.laid last high_on), subst (λ n. LaidIn word vars last other n next) at (d.laid last more));
    }

-- the body of a `for`
pub record Started (word : ℕ) (vars : List Declared) (old low mid : List Step) (counter : List ℕ) (from to yes_to next : ℕ) : Type 0 where
  pub start : One word old low (IsDoing (started vars counter from) (length old + 1))
  pub test : One word low mid (IsAsking (counting vars counter to) yes_to next)

pub for_started : (word : ℕ) (vars : List Declared) (old low mid : List Step) (counter : List ℕ) (from to yes_to next more : ℕ) → Pushed word old low (IsDoing (started vars counter from) (length old + 1))
    → Pushed word low mid (IsAsking (counting vars counter to) yes_to next) → Ready word old more next → Started word vars old low mid counter from to yes_to next
for_started word vars old low mid counter from to yes_to next more p q r =
    let one = doing_one word old low (started vars counter from) (length old + 1) p r.all (behind_itself old (length old + 1) (length old + 1) (omega arith)) in
    record { start = one; test = asking_one word low mid (counting vars counter to) yes_to next q one.all }

pub for_ready : (word : ℕ) (vars : List Declared) (old low mid : List Step) (counter : List ℕ) (from to yes_to next n step : ℕ) → Started word vars old low mid counter from to yes_to next → step ≡ length old + 2 + n
    → Ready word old (3 + n) next → Ready word mid n step
for_ready word vars old low mid counter from to yes_to next n step s e r =
    record { width = r.width; few = omega (arith, r.few, s.start.longer, s.test.longer); all = s.test.all; target = behind_itself mid (length mid + n) step (omega (arith, e, s.start.longer, s.test.longer)) }

pub for_built : (word : ℕ) (vars : List Declared) (old low mid high new : List Step) (counter : List ℕ) (at from to next : ℕ) (body : StmtsModel)
    → Started word vars old low mid counter from to (entry body (length old + 2) (length old + 2 + statements_in body)) next
    → Ready word old (3 + statements_in body) next → Built word mid high (statements_in body) (λ last. LaidIn word vars last body (length mid) (length old + 2 + statements_in body))
    → Pushed word high new (IsDoing (stepped word vars counter) (length old + 1))
    → Built word old new (3 + statements_in body) (λ last. Laid word vars last (count counter at from to body) (length old) next)
for_built word vars old low mid high new counter at from to next body s r b p =
    let target : IsBehind high (length high + 1) (length low) =
    behind_kept mid high b.kept (length high + 1) (length high + 1) (length low) (omega arith)
    (behind_test word low mid (counting vars counter to) (entry body (length old + 2) (length old + 2 + statements_in body)) next (length high + 1) s.test) in
    let one = doing_one word high new (stepped word vars counter) (length old + 1) p b.all (subst (IsBehind high (length high + 1)) s.start.longer target) in
    let second : length mid ≡ length old + 2 = omega (arith, s.start.longer, s.test.longer) in
    let third : length high ≡ length old + 2 + statements_in body = omega (arith, b.grown, second) in
    let low_high : Extends low high = extends_all low mid high s.test.keeps (omega (arith, s.test.longer)) b.kept in
    record {
      grown = omega (arith, one.longer, third);
      kept = extends_all old low new s.start.keeps (omega (arith, s.start.longer)) (extends_all low high new low_high (omega (arith, b.grown, s.test.longer)) one.keeps);
      all = one.all;
      laid = λ last more.
          let high_on = extends_all high new last one.keeps (omega (arith, one.longer)) more in
          let mid_on = extends_all mid high last b.kept (omega (arith, b.grown)) high_on in
          let low_on = extends_all low mid last s.test.keeps (omega (arith, s.test.longer)) mid_on in (
            s.start.has last low_on,
            subst (λ n. Has last n (IsAsking (counting vars counter to) (entry body (length old + 2) (length old + 2 + statements_in body)) next)) s.start.longer (s.test.has last mid_on),
            subst (λ n. LaidIn word vars last body n (length old + 2 + statements_in body)) second (b.laid last high_on),
            subst (λ n. Has last n (IsDoing (stepped word vars counter) (length old + 1))) third (one.has last more),
          );
    }
