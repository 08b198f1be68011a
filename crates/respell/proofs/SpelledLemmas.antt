-- A job whose first tree is spelled another way.
use Rattle.std.proofs.Common.{◌≡◌, ℕ, Bool, List, [], ◌∷◌, Some, slice_get, ap}
use Rattle.net_model.specs.Exprs.{ExprModel}
use Rattle.form_model.specs.Forms.{DestinationModel}
use Rattle.src_trees.specs.Lowered.{JobModel}
use Rattle.respell.specs.Respelled.{IsRespelled, IsSameDestination, IsSpelled, ReadsNoMore}

-- a list by its first element
first_of : (xs : List ExprModel) (x : ExprModel) → slice_get xs 0 ≡ Some x → (rest : List ExprModel) × (xs ≡ x ∷ rest)
first_of [] x e = absurd (cc)
first_of (y ∷ ys) x e = let same : y ≡ x = cc in (ys, ap (λ t. t ∷ ys) same)

pub job_spelled : (width : ℕ) (turned : Bool) (old : JobModel) (destination : DestinationModel) (trees : List ExprModel) (first tree : ExprModel) → slice_get old.trees 0 ≡ Some first → trees ≡ tree ∷ []
    → IsSameDestination width old.destination destination → IsSpelled width turned old.destination first tree → ReadsNoMore width first tree
    → IsRespelled width turned old (record { destination = destination; trees = trees })
job_spelled width turned old destination trees first tree e one same spelled reads =
    let f = first_of old.trees first e in
    record {
      destination = same;
      first = first;
      rest = f.0;
      was = f.1;
      tree = tree;
      one = one;
      spelled = spelled;
      reads = reads;
    }
