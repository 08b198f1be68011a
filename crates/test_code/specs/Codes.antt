-- The code of a self-test.
use Rattle.std.specs.Prelude.{◌≡◌, List, Option}
use Rattle.std.specs.List.{AllByRecursion}
use Rattle.rec_bits.specs.Counts.{capped}
use Rattle.net_model.specs.declared.hardware.Netlist.{Netlist}
use Rattle.net_model.specs.Patterns.{Pattern}
use Rattle.net_model.specs.Widths.{WordFits}
use Rattle.form_model.specs.Covers.{JobCoverModel, StockModel}
use Rattle.src_trees.specs.Lowered.{JobModel}
use Rattle.test_code.specs.declared.code.TestCode.{TestCode}
use Rattle.test_code.specs.Tried.{AreTried, AreWordsOf, cost_sum, skipped_count, tested_count}

-- the words of all jobs that have a cover, with how many have one, how many have none, and what
-- the covers cost together
pub record IsCodeOf (netlist : Netlist) (patterns : List Pattern) (stock : StockModel)
    (jobs : List JobModel) (code : TestCode) : Type 0 where
  pub tried : List (Option JobCoverModel)
  pub trials : AreTried stock jobs tried
  pub tested : code.tested ≡ tested_count tried
  pub skipped : code.skipped ≡ skipped_count tried
  pub cost : code.cost ≡ capped (cost_sum jobs tried)
  pub words : AreWordsOf netlist patterns stock jobs tried code.words.items
  pub fit : AllByRecursion (WordFits netlist) code.words.items
