-- What `test` answers for a netlist that keeps all rules: the first refusal that applies, in the
-- order in which they stand here, or the text.
use Rattle.std.specs.Prelude.{ℕ, ◌*◌, ◌<◌, ◌≤◌, ◌≡◌, List, length, Option}
use Rattle.net_model.specs.declared.hardware.Netlist.{Netlist}
use Rattle.net_model.specs.CheckedRules.{code_size}
use Rattle.net_model.specs.Nets.{memory_size}
use Rattle.net_model.specs.Patterns.{ArePatterns, Pattern}
use Rattle.form_model.specs.Covers.{JobCoverModel}
use Rattle.form_model.specs.Forms.{FormModel}
use Rattle.form_set.specs.Listing.{AreForms}
use Rattle.code_gen.specs.Refusals.{IsStepless}
use Rattle.fault_sim.specs.Reports.{faults_of}
use Rattle.self_test.specs.Cells.{test_need, test_jobs}
use Rattle.test_run.specs.Starts.{test_start}
use Rattle.test_run.specs.Texts.{shown_text}
use Rattle.test_command.specs.Tested.{IsRightTest}
use Rattle.test_code.specs.Tried.{IsMadeFor, cost_sum, skipped_count, tested_count}

-- these are the netlist's patterns and its forms; it has one list of each
pub record HasForms (netlist : Netlist) (patterns : List Pattern) (all : List FormModel) : Type 0 where
  pub are : ArePatterns netlist patterns
  pub reach : ℕ
  pub forms : AreForms netlist patterns all reach

-- ---- cells

-- the self-test needs more cells than the memory has, and these are the numbers
pub record IsTestDataFull (netlist : Netlist) (need have : ℕ) : Type 0 where
  pub patterns : List Pattern
  pub forms : List FormModel
  pub has : HasForms netlist patterns forms
  pub needs : need ≡ test_need netlist forms patterns
  pub size : have ≡ memory_size netlist.storages
  pub more : have < need

-- the memory has the cells that it needs
pub record HasTestCells (netlist : Netlist) : Type 0 where
  pub patterns : List Pattern
  pub forms : List FormModel
  pub has : HasForms netlist patterns forms
  pub room : test_need netlist forms patterns ≤ memory_size netlist.storages

-- ---- steps: `IsStepless` of `code_gen`

-- the memory has the cells, and some form is no jump and no branch
pub record IsTestable (netlist : Netlist) : Type 0 where
  pub cells : HasTestCells netlist
  pub steps : ¬ IsStepless netlist

-- ---- words

-- the sum of the costs of the candidates that are tested
abbrev pub test_cost : (netlist : Netlist) (tried : List (Option JobCoverModel)) (words : List ℕ) → IsMadeFor netlist tried words → ℕ
test_cost netlist tried words made = cost_sum (test_jobs netlist made.all made.patterns) tried

-- words that are made for the netlist are more than the code has, and so is the sum of the costs;
-- these are the numbers
pub record IsTestTooLong (netlist : Netlist) (len size bound : ℕ) : Type 0 where
  pub tried : List (Option JobCoverModel)
  pub words : List ℕ
  pub made : IsMadeFor netlist tried words
  pub long : len ≡ length words
  pub room : size ≡ code_size netlist.codes
  pub sum : bound ≡ test_cost netlist tried words made
  pub above : size < len
  pub most : len ≤ bound

-- ---- evaluations

-- the faults times the words times the nets
abbrev pub test_count : Netlist → ℕ → ℕ
test_count netlist words = length (faults_of netlist) * words * length netlist.nets

abbrev pub test_limit : ℕ
test_limit = 100000000

-- words that are made for the netlist, and that its code has room for, take more evaluations than
-- the limit, and so would as many words as the sum of the costs; these are the numbers
pub record IsBeyondLimit (netlist : Netlist) (count bound : ℕ) : Type 0 where
  pub tried : List (Option JobCoverModel)
  pub words : List ℕ
  pub made : IsMadeFor netlist tried words
  pub room : length words ≤ code_size netlist.codes
  pub is : count ≡ test_count netlist (length words)
  pub limit : bound ≡ test_limit
  pub above : bound < count
  pub costs : bound < test_count netlist (test_cost netlist tried words made)

-- ---- the text

-- the text of a self-test that is right, where no refusal applies to its words
pub record IsTestText (netlist : Netlist) (text : List ℕ) : Type 0 where
  pub testable : IsTestable netlist
  pub tried : List (Option JobCoverModel)
  pub words : List ℕ
  pub good : List ℕ
  pub right : IsRightTest netlist tried words good
  pub room : length words ≤ code_size netlist.codes
  pub few : test_count netlist (length words) ≤ test_limit
  pub is : text ≡ shown_text netlist (tested_count tried) (skipped_count tried) words (test_start netlist) good
