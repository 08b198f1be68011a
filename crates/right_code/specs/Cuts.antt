-- The code of a block: its jobs cut at the mode words, and the groups and words of each cut. A
-- block's jobs are cut into the longest runs of neighbours of mode 0 and single jobs of another
-- mode. The steps of a cut are packed by themselves, by the netlist and the patterns of its mode,
-- with the mode live behind them. Before a cut of another mode stands a *mode word* that puts the
-- mode, of mode 0, and behind it one that puts 0, of that mode; each is a group of its own. A
-- netlist without modes has one cut a block, and no mode word.
use Rattle.std.specs.Prelude.{ℕ, zero, suc, ◌+◌, ◌==◌, ◌||◌, ◌≡◌, nat_lt, true, List, [], ◌∷◌, ◌++◌, Option, Some, None, map, slice_get}
use Rattle.net_model.specs.declared.hardware.Netlist.{Netlist}
use Rattle.net_model.specs.Patterns.{Pattern}
use Rattle.form_model.specs.declared.flow.Flow.{Flow}
use Rattle.form_model.specs.declared.flow.Flow.TheVariants.{Assign}
use Rattle.form_model.specs.declared.forms.Step.{Step}
use Rattle.form_model.specs.Covers.{JobCoverModel, StockModel}
use Rattle.form_model.specs.Live.{Regs, no_regs}
use Rattle.mode_set.specs.Keeping.{Isas, held}
use Rattle.net_model.specs.ModeRules.{base_at, modes_in}
use Rattle.mode_set.specs.Costs.{PlanModel}
use Rattle.mode_set.specs.ModeWords.{IsModeWord}
use Rattle.src_trees.specs.Lowered.{JobModel}
use Rattle.right_code.specs.Covered.{mode_stock}
use Rattle.right_code.specs.Jobs.{jobs_steps}
use Rattle.right_code.specs.Tasks.{Task}
use Rattle.right_code.specs.Words.{AreGroupWords, IsPackingOf}

-- the registers of a set, and the mode
abbrev pub with_mode : Option ℕ → Regs → Regs
with_mode None live = live
with_mode (Some mode) live = λ r. live r || (r == mode)

-- the plans at so many places of a flow from one on, as `jobs_at` has the jobs
abbrev pub plans_of : Option PlanModel → List PlanModel
plans_of None = []
plans_of (Some planned) = planned ∷ []

abbrev pub plan_at : List PlanModel → Option Flow → List PlanModel
plan_at plans (Some (Assign tree)) = plans_of (slice_get plans tree)
plan_at plans _ = []

abbrev pub plans_at : List Flow → List PlanModel → ℕ → ℕ → List PlanModel
plans_at flow plans at zero = []
plans_at flow plans at (suc n) = plans_at flow plans at n ++ plan_at plans (slice_get flow (at + n))

-- the covers of plans
abbrev pub plan_choices : List PlanModel → List JobCoverModel
plan_choices plans = map (λ (planned : PlanModel). planned.choice) plans

-- ---- cuts: the jobs of a block, cut at the mode words

-- neighbouring jobs of mode 0 with their covers, or one job of another mode
pub record Cut : Type 0 where
  pub mode : ℕ
  pub jobs : List JobModel
  pub choices : List JobCoverModel

abbrev pub alone : ℕ → JobModel → JobCoverModel → Cut
alone v job choice = record { mode = v; jobs = job ∷ []; choices = choice ∷ [] }

-- a job of mode 0 before cuts: it joins a first one of mode 0
abbrev pub join_first : ℕ → JobModel → JobCoverModel → Cut → List Cut → List Cut
join_first zero job choice x cuts = record { mode = 0; jobs = job ∷ x.jobs; choices = choice ∷ x.choices } ∷ cuts
join_first (suc v) job choice x cuts = alone 0 job choice ∷ x ∷ cuts

abbrev pub join_zero : JobModel → JobCoverModel → List Cut → List Cut
join_zero job choice [] = alone 0 job choice ∷ []
join_zero job choice (x ∷ cuts) = join_first x.mode job choice x cuts

abbrev pub join_cut : ℕ → JobModel → JobCoverModel → List Cut → List Cut
join_cut zero job choice cuts = join_zero job choice cuts
join_cut (suc v) job choice cuts = alone (suc v) job choice ∷ cuts

abbrev pub cuts_of : List JobModel → List PlanModel → List Cut
cuts_of (job ∷ jobs) (planned ∷ plans) = join_cut planned.mode job planned.choice (cuts_of jobs plans)
cuts_of _ _ = []

-- ---- words

-- a word with the step that it lists
pub record ModeWord : Type 0 where
  pub step : Step
  pub word : ℕ

-- so many words are those of groups that the steps of jobs of a mode are packed into, with the mode
-- live behind them
pub record AreJobWords (netlist : Netlist) (special : Option ℕ) (patterns : List Pattern)
    (stock : StockModel) (jobs : List JobModel) (choices : List JobCoverModel) (groups : List (List Step))
    (words : List ℕ) : Type 0 where
  pub packing : IsPackingOf netlist patterns (jobs_steps stock jobs choices) (with_mode special no_regs) groups
  pub least : AreGroupWords netlist patterns groups (with_mode special no_regs) words

-- the groups and the words of a cut: a mode word is a group of its own
abbrev pub AreCutWords : (task : Task) → Isas task.netlist →
    ℕ → List JobModel → List JobCoverModel → List (List Step) → List ℕ → Type 0
AreCutWords task isas zero jobs choices groups words =
    AreJobWords (base_at task.netlist 0) task.netlist.special (isas 0).patterns (mode_stock task isas 0)
    jobs choices groups words
AreCutWords task isas (suc v) jobs choices groups words =
    (nat_lt (suc v) (modes_in task.netlist) ≡ true)
    × (first : ModeWord) × (last : ModeWord) × (inner : List (List Step)) × (middle : List ℕ)
    × (groups ≡ (first.step ∷ []) ∷ (inner ++ (last.step ∷ []) ∷ []))
    × (words ≡ first.word ∷ (middle ++ last.word ∷ []))
    × IsModeWord (base_at task.netlist 0) task.netlist.special (isas 0).patterns (isas 0).all (suc v) first.step.pattern first.word
    × AreJobWords (base_at task.netlist (held task.netlist (suc v))) task.netlist.special (isas (suc v)).patterns
    (mode_stock task isas (suc v)) jobs choices inner middle
    × IsModeWord (base_at task.netlist (held task.netlist (suc v))) task.netlist.special (isas (suc v)).patterns (isas (suc v)).all 0 last.step.pattern last.word

abbrev pub AreBlockCuts : (task : Task) → Isas task.netlist →
    List Cut → List (List Step) → List ℕ → Type 0
AreBlockCuts task isas [] groups words = (groups ≡ []) × (words ≡ [])
AreBlockCuts task isas (x ∷ cuts) groups words =
    (own : List (List Step)) × (later : List (List Step)) × (ws : List ℕ) × (rest : List ℕ)
    × (groups ≡ own ++ later) × (words ≡ ws ++ rest)
    × AreCutWords task isas x.mode x.jobs x.choices own ws
    × AreBlockCuts task isas cuts later rest
