-- The jobs of a self-test.
use Rattle.std.specs.Prelude.{ℕ, ◌≡◌, ◌≤◌, true, [], ◌∷◌}
use Rattle.net_model.specs.Exprs.{ExprModel}
use Rattle.form_model.specs.Forms.{cell}
use Rattle.form_model.specs.Trees.{is_tree}
use Rattle.src_trees.specs.Lowered.{JobModel}
use Rattle.form_model.specs.WideNodes.{wide_below}

-- a job of one tree, to a cell, which needs at most so many temporary cells of so many bits
pub record IsCellJob (bits temps : ℕ) (job : JobModel) : Type 0 where
  pub address : ℕ
  pub tree : ExprModel
  pub is : job ≡ record { destination = cell address; trees = tree ∷ [] }
  pub plain : is_tree tree ≡ true
  pub few : wide_below bits tree ≤ temps
