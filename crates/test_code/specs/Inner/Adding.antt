-- The code of a self-test, one job after the other.
use Rattle.std.specs.Prelude.{ℕ, ◌+◌, ◌≡◌, List, [], ◌∷◌, ◌++◌, Option}
use Rattle.std.specs.List.{AllByRecursion}
use Rattle.rec_bits.specs.Counts.{capped}
use Rattle.net_model.specs.declared.hardware.Netlist.{Netlist}
use Rattle.net_model.specs.Patterns.{Pattern}
use Rattle.net_model.specs.Widths.{WordFits}
use Rattle.form_model.specs.Covers.{JobCoverModel, StockModel}
use Rattle.src_trees.specs.Lowered.{JobModel}
use Rattle.code_gen.specs.Trials.{IsTried}
use Rattle.test_code.specs.declared.code.TestCode.{TestCode}
use Rattle.test_code.specs.Tried.{AreWordsOf, cost_sum, skipped_count, tested_count}

-- the words of one job more, if it has a cover
pub record HasAdded (netlist : Netlist) (patterns : List Pattern) (stock : StockModel) (job : JobModel)
    (old new : TestCode) : Type 0 where
  pub choice : Option JobCoverModel
  pub trial : IsTried stock job choice
  pub tested : new.tested ≡ old.tested + tested_count (choice ∷ [])
  pub skipped : new.skipped ≡ old.skipped + skipped_count (choice ∷ [])
  pub cost : new.cost ≡ capped (old.cost + cost_sum (job ∷ []) (choice ∷ []))
  pub added : List ℕ
  pub words : AreWordsOf netlist patterns stock (job ∷ []) (choice ∷ []) added
  pub fit : AllByRecursion (WordFits netlist) added
  pub are : new.words.items ≡ old.words.items ++ added
