-- The jobs and the code of a netlist's self-test, as the functions of the crate tell them.
use Rattle.std.specs.Prelude.{◌≡◌, ◌≤◌, List, Option}
use Rattle.std.specs.List.{AllByRecursion}
use Rattle.rec_bits.specs.Counts.{capped}
use Rattle.net_model.specs.declared.hardware.Netlist.{Netlist}
use Rattle.net_model.specs.Nets.{memory_size}
use Rattle.net_model.specs.Patterns.{Pattern}
use Rattle.net_model.specs.Widths.{WordFits}
use Rattle.form_model.specs.Covers.{JobCoverModel}
use Rattle.form_model.specs.Forms.{FormModel}
use Rattle.src_trees.specs.Jobs.{models_of_jobs}
use Rattle.code_gen.specs.Refusals.{IsStepless}
use Rattle.self_test.specs.declared.cells.TestJobs.{TestJobs}
use Rattle.self_test.specs.Cells.{test_need, test_temps, test_jobs}
use Rattle.test_code.specs.declared.code.TestCode.{TestCode}
use Rattle.test_code.specs.Tried.{IsMadeFor, skipped_count, tested_count}
use Rattle.test_command.specs.Refusals.{test_cost}

-- the jobs of a netlist with these forms and patterns, whose memory has the cells that they need
pub record AreTestJobs (netlist : Netlist) (forms : List FormModel) (patterns : List Pattern) (tests : TestJobs) : Type 0 where
  pub temps : tests.temps ≡ test_temps netlist forms patterns
  pub jobs : models_of_jobs tests.blocks.jobs.items ≡ test_jobs netlist forms patterns
  pub room : test_need netlist forms patterns ≤ memory_size netlist.storages

-- code that is made for a netlist, whose memory has the cells that it needs, and of whose forms one
-- is no jump and no branch
pub record IsTestCode (netlist : Netlist) (code : TestCode) : Type 0 where
  pub tried : List (Option JobCoverModel)
  pub made : IsMadeFor netlist tried code.words.items
  pub tested : code.tested ≡ tested_count tried
  pub skipped : code.skipped ≡ skipped_count tried
  pub cost : code.cost ≡ capped (test_cost netlist tried code.words.items made)
  pub fit : AllByRecursion (WordFits netlist) code.words.items
  pub cells : test_need netlist made.all made.patterns ≤ memory_size netlist.storages
  pub steps : ¬ IsStepless netlist
