-- The cuts of a block, one after the other: neighbouring jobs of mode 0, or one job of another mode.
use Rattle.std.proofs.Common.{◌≡◌, ◌≢◌, ◌<◌, ◌≤◌, ◌+◌, ℕ, zero, suc, List, [], ◌∷◌, ◌++◌, Option, Some, None, length, slice_get, refl, sym, ◌∙◌, ap, subst, append-nil, append_assoc, arith}
use Rattle.form_model.specs.Covers.{JobCoverModel, StockModel}
use Rattle.form_model.specs.declared.flow.Flow.{Flow}
use Rattle.form_model.specs.declared.flow.Flow.TheVariants.{Assign, Test, Jump, End}
use Rattle.form_model.specs.declared.forms.Step.{Step}
use Rattle.src_trees.specs.Blocks.{job_at, job_list, jobs_at}
use Rattle.src_trees.specs.Lowered.{JobModel}
use Rattle.mode_set.specs.Costs.{PlanModel}
use Rattle.mode_set.specs.Keeping.{Isas}
use Rattle.right_code.specs.Cuts.{AreBlockCuts, AreCutWords, Cut, alone, cuts_of, join_cut, join_first, join_zero, plan_at, plan_choices, plans_at, plans_of}
use Rattle.right_code.specs.Jobs.{job_steps, jobs_steps}
use Rattle.right_code.specs.Tasks.{Task}
use Rattle.right_code.proofs.Chosen.{AllMode}
use Rattle.code_gen.specs.Inner.Planning.{steps_in}
use Rattle.code_gen.specs.Inner.Views.{mode_of_place, mode_of_plan}
use Rattle.code_gen.proofs.Packing.{groups_few}
use Rattle.code_gen.proofs.Stepping.{even_place}

-- ---- plans of one mode

both_mode : (v : ℕ) (xs ys : List PlanModel) → AllMode v xs → AllMode v ys → AllMode v (xs ++ ys)
both_mode v [] ys p q = q
both_mode v (x ∷ xs) ys p q = (p.0, both_mode v xs ys p.1 q)

plan_mode : (v : ℕ) (o : Option PlanModel) → mode_of_plan o ≡ v → AllMode v (plans_of o)
plan_mode v None e = tt
plan_mode v (Some planned) e = (e, tt)

place_one : (v : ℕ) (plans : List PlanModel) (o : Option Flow) → mode_of_place plans o ≡ v → AllMode v (plan_at plans o)
place_one v plans None e = tt
place_one v plans (Some (Assign tree)) e = plan_mode v (slice_get plans tree) e
place_one v plans (Some (Test tree one none)) e = tt
place_one v plans (Some (Jump to)) e = tt
place_one v plans (Some End) e = tt

-- places whose jobs have one mode
pub places_mode : (v : ℕ) (plans : List PlanModel) (flow : List Flow) (at n : ℕ) → ((k : ℕ) → k < n → mode_of_place plans (slice_get flow (at + k)) ≡ v) → AllMode v (plans_at flow plans at n)
places_mode v plans flow at zero each = tt
places_mode v plans flow at (suc n) each =
    both_mode v (plans_at flow plans at n) (plan_at plans (slice_get flow (at + n))) (places_mode v plans flow at n (λ k lt. each k (omega (arith, lt))))
    (place_one v plans (slice_get flow (at + n)) (each n (omega arith)))

-- their steps are those of covers by the forms of that mode
pub mode_steps : (stock : ℕ → StockModel) (v : ℕ) (jobs : List JobModel) (plans : List PlanModel) → AllMode v plans → steps_in stock jobs plans ≡ jobs_steps (stock v) jobs (plan_choices plans)
mode_steps stock v [] [] all = refl
mode_steps stock v [] (planned ∷ plans) all = refl
mode_steps stock v (job ∷ jobs) [] all = refl
mode_steps stock v (job ∷ jobs) (planned ∷ plans) all =
    (λ i. job_steps (stock (all.0 i)) job planned.choice ++ steps_in stock jobs plans)
    ∙ ap (λ (steps : List Step). job_steps (stock v) job planned.choice ++ steps) (mode_steps stock v jobs plans all.1)

-- ---- the places before one and those behind it

pub jobs_apart : (flow : List Flow) (models : List JobModel) (at m n : ℕ) → jobs_at flow models at (m + n) ≡ jobs_at flow models at m ++ jobs_at flow models (at + m) n
jobs_apart flow models at m zero = ap (jobs_at flow models at) (let z : m + 0 ≡ m = omega arith in z) ∙ sym (append-nil (jobs_at flow models at m))
jobs_apart flow models at m (suc n) =
    ap (jobs_at flow models at) (let z : m + suc n ≡ suc (m + n) = omega arith in z)
    ∙ ap (λ (jobs : List JobModel). jobs ++ job_at models (slice_get flow (at + (m + n)))) (jobs_apart flow models at m n)
    ∙ append_assoc (jobs_at flow models at m) (jobs_at flow models (at + m) n) (job_at models (slice_get flow (at + (m + n))))
    ∙ ap (λ k. jobs_at flow models at m ++ (jobs_at flow models (at + m) n ++ job_at models (slice_get flow k))) (let z : at + (m + n) ≡ at + m + n = omega arith in z)

pub plans_apart : (flow : List Flow) (plans : List PlanModel) (at m n : ℕ) → plans_at flow plans at (m + n) ≡ plans_at flow plans at m ++ plans_at flow plans (at + m) n
plans_apart flow plans at m zero = ap (plans_at flow plans at) (let z : m + 0 ≡ m = omega arith in z) ∙ sym (append-nil (plans_at flow plans at m))
plans_apart flow plans at m (suc n) =
    ap (plans_at flow plans at) (let z : m + suc n ≡ suc (m + n) = omega arith in z)
    ∙ ap (λ (list : List PlanModel). list ++ plan_at plans (slice_get flow (at + (m + n)))) (plans_apart flow plans at m n)
    ∙ append_assoc (plans_at flow plans at m) (plans_at flow plans (at + m) n) (plan_at plans (slice_get flow (at + (m + n))))
    ∙ ap (λ k. plans_at flow plans at m ++ (plans_at flow plans (at + m) n ++ plan_at plans (slice_get flow k))) (let z : at + (m + n) ≡ at + m + n = omega arith in z)

-- ---- one cut more

-- jobs of a mode before cuts, where there are any
abbrev pub cut_front : ℕ → List JobModel → List JobCoverModel → List Cut → List Cut
cut_front v [] choices cuts = cuts
cut_front v (job ∷ jobs) choices cuts = record { mode = v; jobs = job ∷ jobs; choices = choices } ∷ cuts

-- the first cut is of another mode than 0
abbrev pub StartsAway : List Cut → Type 0
StartsAway [] = Unit {0}
StartsAway (x ∷ cuts) = x.mode ≢ 0

zero_joins : (job : JobModel) (planned : PlanModel) (jobs : List JobModel) (plans : List PlanModel) (cuts : List Cut) → length plans ≡ length jobs → StartsAway cuts
    → join_zero job planned.choice (cut_front 0 jobs (plan_choices plans) cuts) ≡ record { mode = 0; jobs = job ∷ jobs; choices = planned.choice ∷ plan_choices plans } ∷ cuts
zero_joins job planned [] [] [] even away = refl
zero_joins job planned [] [] (x ∷ cuts) even away = by x.mode refl
  where
    by : (n : ℕ) → x.mode ≡ n → join_zero job planned.choice (x ∷ cuts) ≡ alone 0 job planned.choice ∷ x ∷ cuts
    by zero e = absurd (away e)
    by (suc n) e = ap (λ k. join_first k job planned.choice x cuts) e
zero_joins job planned [] (other ∷ plans) cuts even away = absurd (omega (arith, even))
zero_joins job planned (next ∷ jobs) plans cuts even away = refl

-- neighbouring jobs of mode 0 are one cut
pub zeros_first : (jobs : List JobModel) (plans : List PlanModel) (later : List JobModel) (rest : List PlanModel) → length plans ≡ length jobs → AllMode 0 plans → StartsAway (cuts_of later rest)
    → cuts_of (jobs ++ later) (plans ++ rest) ≡ cut_front 0 jobs (plan_choices plans) (cuts_of later rest)
zeros_first [] [] later rest even all away = refl
zeros_first [] (planned ∷ plans) later rest even all away = absurd (omega (arith, even))
zeros_first (job ∷ jobs) [] later rest even all away = absurd (omega (arith, even))
zeros_first (job ∷ jobs) (planned ∷ plans) later rest even all away =
    (λ i. join_cut (all.0 i) job planned.choice (cuts_of (jobs ++ later) (plans ++ rest)))
    ∙ ap (join_zero job planned.choice) (zeros_first jobs plans later rest (omega (arith, even)) all.1 away)
    ∙ zero_joins job planned jobs plans (cuts_of later rest) (omega (arith, even)) away

-- a job of another mode is one
pub alone_first : (v : ℕ) (jobs : List JobModel) (plans : List PlanModel) (job : JobModel) (planned : PlanModel) (later : List JobModel) (rest : List PlanModel) → jobs ≡ job ∷ [] → plans ≡ planned ∷ [] → planned.mode ≡ suc v
    → cuts_of (jobs ++ later) (plans ++ rest) ≡ cut_front (suc v) jobs (plan_choices plans) (cuts_of later rest)
alone_first v jobs plans job planned later rest e f mode =
    (λ i. cuts_of (e i ++ later) (f i ++ rest))
    ∙ (λ i. join_cut (mode i) job planned.choice (cuts_of later rest))
    ∙ (λ i. cut_front (suc v) (sym e i) (plan_choices (sym f i)) (cuts_of later rest))

-- ---- the place of a job of another mode

-- it has a job and a plan
pub record IsAway (models : List JobModel) (list : List PlanModel) (o : Option Flow) (v : ℕ) : Type 0 where
  pub job : JobModel
  pub planned : PlanModel
  pub jobs : job_at models o ≡ job ∷ []
  pub plans : plan_at list o ≡ planned ∷ []
  pub mode : planned.mode ≡ v
  pub number : ℕ
  pub has_job : slice_get models number ≡ Some job
  pub has_plan : slice_get list number ≡ Some planned

away_job : (jobs : List JobModel) (plans : List PlanModel) (tree v : ℕ) → length plans ≡ length jobs → (o : Option PlanModel) → slice_get plans tree ≡ o → mode_of_plan o ≡ suc v
    → (p : Option JobModel) → slice_get jobs tree ≡ p → length (plans_of (slice_get plans tree)) ≡ length (job_list (slice_get jobs tree)) → IsAway jobs plans (Some (Assign tree)) (suc v)
away_job jobs plans tree v even None at e p has long = absurd (omega (arith, e))
away_job jobs plans tree v even (Some planned) at e None has long = absurd (some_none (sym (ap (λ o. length (plans_of o)) at) ∙ long ∙ ap (λ o. length (job_list o)) has))
  where
    some_none : ◌≡◌ {A = ℕ} 1 0 → ⊥
    some_none e = cc
away_job jobs plans tree v even (Some planned) at e (Some job) has long = record {
  job = job;
  planned = planned;
  jobs = ap job_list has;
  plans = ap plans_of at;
  mode = e;
  number = tree;
  has_job = has;
  has_plan = at;
}

pub away_place : (jobs : List JobModel) (plans : List PlanModel) (o : Option Flow) (v : ℕ) → length plans ≡ length jobs → mode_of_place plans o ≡ suc v → IsAway jobs plans o (suc v)
away_place jobs plans None v even e = absurd (omega (arith, e))
away_place jobs plans (Some (Assign tree)) v even e =
    away_job jobs plans tree v even (slice_get plans tree) refl e (slice_get jobs tree) refl (even_place jobs plans even (Some (Assign tree)))
away_place jobs plans (Some (Test tree one none)) v even e = absurd (omega (arith, e))
away_place jobs plans (Some (Jump to)) v even e = absurd (omega (arith, e))
away_place jobs plans (Some End) v even e = absurd (omega (arith, e))

-- cuts from such a place on begin with it
pub starts_away : (models : List JobModel) (plans : List PlanModel) (flow : List Flow) (at n v : ℕ) → length plans ≡ length models → mode_of_place plans (slice_get flow at) ≡ suc v
    → StartsAway (cuts_of (jobs_at flow models at n) (plans_at flow plans at n))
starts_away models plans flow at zero v even e = tt
starts_away models plans flow at (suc n) v even e =
    let a : IsAway models plans (slice_get flow at) (suc v) = away_place models plans (slice_get flow at) v even e in
    let same : slice_get flow (at + 0) ≡ slice_get flow at = ap (slice_get flow) (let z : at + 0 ≡ at = omega arith in z) in
    let next : suc n ≡ 1 + n = omega arith in
    let jobs : jobs_at flow models at (suc n) ≡ a.job ∷ jobs_at flow models (at + 1) n =
    ap (jobs_at flow models at) next ∙ jobs_apart flow models at 1 n ∙ ap (λ (list : List JobModel). list ++ jobs_at flow models (at + 1) n) (ap (job_at models) same ∙ a.jobs) in
    let cover : plans_at flow plans at (suc n) ≡ a.planned ∷ plans_at flow plans (at + 1) n =
    ap (plans_at flow plans at) next ∙ plans_apart flow plans at 1 n ∙ ap (λ (list : List PlanModel). list ++ plans_at flow plans (at + 1) n) (ap (plan_at plans) same ∙ a.plans) in
    let path : cuts_of (jobs_at flow models at (suc n)) (plans_at flow plans at (suc n)) ≡ join_cut (suc v) a.job a.planned.choice (cuts_of (jobs_at flow models (at + 1) n) (plans_at flow plans (at + 1) n)) =
    (λ i. cuts_of (jobs i) (cover i)) ∙ (λ i. join_cut (a.mode i) a.job a.planned.choice (cuts_of (jobs_at flow models (at + 1) n) (plans_at flow plans (at + 1) n))) in
    subst StartsAway (sym path) (some v)
  where
    some : (v : ℕ) → suc v ≢ 0
    some v f = omega (arith, f)

-- ---- words of cuts

module _ (task : Task) (isas : Isas task.netlist) where
  -- without jobs there is no group
  none_packed : (choices : List JobCoverModel) (groups : List (List Step)) (words : List ℕ) → AreCutWords task isas 0 [] choices groups words → (groups ≡ []) × (words ≡ [])
  none_packed choices groups words c =
      let few : length groups ≤ 0 = groups_few c.packing in
      let long = c.least.long in
      (no_items groups (omega (arith, few)), no_items words (omega (arith, few, long)))
    where
      no_items : {X : Type 0} (xs : List X) → length xs ≡ 0 → xs ≡ []
      no_items [] e = refl
      no_items (x ∷ xs) e = absurd (omega (arith, e))

  -- a cut before cuts
  pub zeros_words : (jobs : List JobModel) (choices : List JobCoverModel) (cuts : List Cut) (groups later : List (List Step)) (words rest : List ℕ) → AreCutWords task isas 0 jobs choices groups words
      → AreBlockCuts task isas cuts later rest → AreBlockCuts task isas (cut_front 0 jobs choices cuts) (groups ++ later) (words ++ rest)
  zeros_words [] choices cuts groups later words rest c more =
      let none = none_packed choices groups words c in
      subst (λ (gs : List (List Step)). AreBlockCuts task isas cuts (gs ++ later) (words ++ rest)) (sym none.0)
      (subst (λ (ws : List ℕ). AreBlockCuts task isas cuts later (ws ++ rest)) (sym none.1) more)
  zeros_words (job ∷ jobs) choices cuts groups later words rest c more = (groups, later, words, rest, refl, refl, c, more)

  pub alone_words : (v : ℕ) (jobs : List JobModel) (choices : List JobCoverModel) (job : JobModel) (cuts : List Cut) (groups later : List (List Step)) (words rest : List ℕ) → jobs ≡ job ∷ [] → AreCutWords task isas v jobs choices groups words
      → AreBlockCuts task isas cuts later rest → AreBlockCuts task isas (cut_front v jobs choices cuts) (groups ++ later) (words ++ rest)
  alone_words v [] choices job cuts groups later words rest e c more = absurd (cc)
  alone_words v (first ∷ jobs) choices job cuts groups later words rest e c more = (groups, later, words, rest, refl, refl, c, more)
