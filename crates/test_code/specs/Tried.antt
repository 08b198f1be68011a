-- Which candidates of a netlist's self-test are tested, and the words that test them. Each
-- candidate has its chosen cover, or none where no cover is orderly; the words are those of each
-- candidate that has one, in turn, the least words of groups that its steps are packed into, with
-- no register live behind it. So words are *made for* a netlist.
use Rattle.std.specs.Prelude.{ℕ, ◌+◌, ◌≡◌, List, [], ◌∷◌, ◌++◌, Option, Some, None}
use Rattle.net_model.specs.declared.hardware.Netlist.{Netlist}
use Rattle.net_model.specs.declared.hardware.Space.TheVariants.{File as InFile}
use Rattle.net_model.specs.Nets.{size_in}
use Rattle.net_model.specs.Patterns.{ArePatterns, Pattern}
use Rattle.form_model.specs.Covers.{JobCoverModel, StockModel, job_cost}
use Rattle.form_model.specs.Live.{no_regs}
use Rattle.form_model.specs.Forms.{FormModel}
use Rattle.form_model.specs.declared.forms.Step.{Step}
use Rattle.form_set.specs.Listing.{AreForms}
use Rattle.src_trees.specs.Lowered.{JobModel}
use Rattle.right_code.specs.Jobs.{job_steps}
use Rattle.right_code.specs.Words.{AreGroupWords, IsPackingOf}
use Rattle.code_gen.specs.Trials.{IsTried}
use Rattle.self_test.specs.Cells.{test_temps, test_jobs}

-- ---- which jobs are tested

-- each job has its chosen cover, or none where no cover is orderly
abbrev pub AreTried : StockModel → List JobModel → List (Option JobCoverModel) → Type 0
AreTried stock [] [] = Unit {0}
AreTried stock (job ∷ jobs) (choice ∷ tried) = IsTried stock job choice × AreTried stock jobs tried
AreTried stock _ _ = ⊥

-- how many have a cover
abbrev pub tested_count : List (Option JobCoverModel) → ℕ
tested_count [] = 0
tested_count (None ∷ tried) = tested_count tried
tested_count (Some choice ∷ tried) = tested_count tried + 1

-- and how many have none
abbrev pub skipped_count : List (Option JobCoverModel) → ℕ
skipped_count [] = 0
skipped_count (None ∷ tried) = skipped_count tried + 1
skipped_count (Some choice ∷ tried) = skipped_count tried

-- the sum of the costs of the covers
abbrev pub cost_sum : List JobModel → List (Option JobCoverModel) → ℕ
cost_sum (job ∷ jobs) (None ∷ tried) = cost_sum jobs tried
cost_sum (job ∷ jobs) (Some choice ∷ tried) = job_cost job.destination choice.cover + cost_sum jobs tried
cost_sum _ _ = 0

-- ---- words

-- the words of one job: those of groups that its steps are packed into, with no register live
-- behind it
pub record AreJobWords (netlist : Netlist) (patterns : List Pattern) (stock : StockModel) (job : JobModel)
    (choice : JobCoverModel) (words : List ℕ) : Type 0 where
  pub groups : List (List Step)
  pub packing : IsPackingOf netlist patterns (job_steps stock job choice) no_regs groups
  pub least : AreGroupWords netlist patterns groups no_regs words

-- those of all jobs that have a cover, one after the other
abbrev pub AreWordsOf : Netlist → List Pattern → StockModel → List JobModel → List (Option JobCoverModel) → List ℕ → Type 0
AreWordsOf netlist patterns stock [] [] words = words ≡ []
AreWordsOf netlist patterns stock (job ∷ jobs) (None ∷ tried) words =
    AreWordsOf netlist patterns stock jobs tried words
AreWordsOf netlist patterns stock (job ∷ jobs) (Some choice ∷ tried) words =
    (first : List ℕ) × (rest : List ℕ) × AreJobWords netlist patterns stock job choice first
    × AreWordsOf netlist patterns stock jobs tried rest × (words ≡ first ++ rest)
AreWordsOf netlist patterns stock _ _ words = ⊥

-- ---- of a netlist

-- the forms, with as many temporary cells as the trees of the self-test may need
abbrev pub test_stock : Netlist → List FormModel → List Pattern → StockModel
test_stock netlist forms patterns = record {
  forms = forms;
  temps = test_temps netlist forms patterns;
  file = size_in InFile netlist.storages;
}

-- a self-test that is made for a netlist
pub record IsMadeFor (netlist : Netlist) (tried : List (Option JobCoverModel)) (words : List ℕ) : Type 0 where
  pub patterns : List Pattern
  pub are : ArePatterns netlist patterns
  pub all : List FormModel
  pub reach : ℕ
  pub forms : AreForms netlist patterns all reach
  pub trials : AreTried (test_stock netlist all patterns) (test_jobs netlist all patterns) tried
  pub code :
      AreWordsOf netlist patterns (test_stock netlist all patterns)
      (test_jobs netlist all patterns) tried words
