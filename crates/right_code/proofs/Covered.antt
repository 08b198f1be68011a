-- A chosen cover of a small tree has cells for all its cuts.
use Rattle.std.proofs.Common.{ℕ, ◌≡◌, ◌≤◌, List, [], ◌∷◌, Some, slice_get, subst, arith, zero, suc}
use Rattle.rec_bits.proofs.Options.{same_Some}
use Rattle.net_model.specs.Exprs.{ExprModel}
use Rattle.form_model.specs.Forms.{DestinationModel, into, cell, filed, stored, temporary, tested}
use Rattle.form_model.specs.Covers.{StockModel, JobCoverModel, IsChosen}
use Rattle.form_model.specs.Steps.{cut_count}
use Rattle.emit_seq.specs.ReadWords.{AllReadWords}
use Rattle.emit_seq.specs.Leaves.{IsOfJob}
use Rattle.emit_seq.proofs.Few.{chosen_few}
use Rattle.src_trees.specs.Lowered.{JobModel}
use Rattle.form_model.specs.WideNodes.{tree_temps}
use Rattle.src_trees.specs.Measures.{IsTreeGoal, TreesAre, IsSmall}
use Rattle.right_code.specs.Jobs.{AreTrees, IsTreeDestination, IsCovered}

of_job : (destination : DestinationModel) → IsTreeGoal destination → IsOfJob destination
of_job (cell a) h = tt
of_job (stored a) h = tt
of_job tested h = tt
of_job (into id) h = absurd h
of_job temporary h = absurd h
of_job filed h = absurd h

tree_destination : (destination : DestinationModel) → IsTreeGoal destination → IsTreeDestination destination
tree_destination (cell a) h = tt
tree_destination (stored a) h = h
tree_destination tested h = tt
tree_destination (into id) h = absurd h
tree_destination temporary h = absurd h
tree_destination filed h = absurd h

all_trees : (bits temps most : ℕ) (destination : DestinationModel) (trees : List ExprModel) → TreesAre bits temps most destination trees → AreTrees trees
all_trees bits temps most destination [] h = tt
all_trees bits temps most destination (t ∷ trees) h = (h.0, all_trees bits temps most destination trees h.3)

cells_for : (bits temps most : ℕ) (destination : DestinationModel) (trees : List ExprModel) (k : ℕ) (t : ExprModel) → TreesAre bits temps most destination trees → slice_get trees k ≡ Some t → tree_temps bits destination t ≤ temps
cells_for bits temps most destination [] k t h e = absurd (cc e)
cells_for bits temps most destination (x ∷ trees) zero t h e = subst (λ y. tree_temps bits destination y ≤ temps) (same_Some x t e) h.1
cells_for bits temps most destination (x ∷ trees) (suc k) t h e = cells_for bits temps most destination trees k t h.3 e

-- the chosen cover of a job of small trees
pub covered_of : (bits : ℕ) (stock : StockModel) → AllReadWords bits stock.forms → (most : ℕ) (job : JobModel) (choice : JobCoverModel) → IsSmall bits stock.temps most job → IsChosen stock job.destination job.trees choice → IsCovered stock job choice
covered_of bits stock reads most job choice small c =
    let few : cut_count choice.cover ≤ tree_temps bits job.destination c.covers.tree = chosen_few bits stock reads job.destination job.trees choice c in
    let t : tree_temps bits job.destination c.covers.tree ≤ stock.temps = cells_for bits stock.temps most job.destination job.trees choice.which c.covers.tree small.trees c.covers.used in
    record {
      trees = all_trees bits stock.temps most job.destination job.trees small.trees;
      destination = tree_destination job.destination small.destination;
      goes = of_job job.destination small.destination;
      covers = c.covers;
      few = omega (arith, few, t);
    }
