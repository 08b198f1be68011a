-- Respelled jobs: equal trees in place of a program's, and a test's opposite.
use Rattle.std.specs.Prelude.{ℕ, ◌≡◌, ◌⊎◌, Bool, true, false, List, [], ◌∷◌, length, Some, slice_get}
use Rattle.net_model.specs.declared.hardware.Space.TheVariants.{Memory as InMemory}
use Rattle.net_model.specs.Exprs.{ExprModel, const, read, un, bin, slice, zext, sext}
use Rattle.form_model.specs.Forms.{DestinationModel, stored, tested}
use Rattle.src_trees.specs.Lowered.{JobModel}
use Rattle.src_trees.specs.Turned.{Turns}
use Rattle.tree_laws.specs.Equal.{AreEqual, AreOpposite}

-- ---- reads: code that does a job may rely on the cells that its trees read being those of
-- variables, so a tree that stands for another reads no further ones

-- a tree reads at an address
abbrev pub ReadsAt : ℕ → ExprModel → ExprModel → Type 0
ReadsAt width address (read InMemory a w) = AreEqual width a address ⊎ ReadsAt width address a
ReadsAt width address (un o a) = ReadsAt width address a
ReadsAt width address (bin o a b) = ReadsAt width address a ⊎ ReadsAt width address b
ReadsAt width address (slice a hi lo) = ReadsAt width address a
ReadsAt width address (zext a w) = ReadsAt width address a
ReadsAt width address (sext a w) = ReadsAt width address a
ReadsAt width address _ = ⊥

-- the new tree reads only at addresses at which the old tree reads
abbrev pub ReadsNoMore : ℕ → ExprModel → ExprModel → Type 0
ReadsNoMore width old (const w v) = Unit {0}
ReadsNoMore width old (read InMemory a w) = ReadsAt width a old × ReadsNoMore width old a
ReadsNoMore width old (un o a) = ReadsNoMore width old a
ReadsNoMore width old (bin o a b) = ReadsNoMore width old a × ReadsNoMore width old b
ReadsNoMore width old (slice a hi lo) = ReadsNoMore width old a
ReadsNoMore width old (zext a w) = ReadsNoMore width old a
ReadsNoMore width old (sext a w) = ReadsNoMore width old a
ReadsNoMore width old _ = ⊥

-- ---- jobs

-- the same destination, but for a store's address, which is an equal tree that reads no more
abbrev pub IsSameDestination : ℕ → DestinationModel → DestinationModel → Type 0
IsSameDestination width (stored a) (stored b) = AreEqual width a b × ReadsNoMore width a b
IsSameDestination width (stored a) _ = ⊥
IsSameDestination width d e = d ≡ e

-- a tree in place of another: an equal one, or for a test its opposite
abbrev pub IsSpelled : ℕ → Bool → DestinationModel → ExprModel → ExprModel → Type 0
IsSpelled width false destination old new = AreEqual width old new
IsSpelled width true destination old new = (destination ≡ tested) × AreOpposite width new old

-- a job in place of another: the same aim, and one tree, which stands for the first of the other's
-- and reads no more
pub record IsRespelled (width : ℕ) (turned : Bool) (old new : JobModel) : Type 0 where
  pub destination : IsSameDestination width old.destination new.destination
  pub first : ExprModel
  pub rest : List ExprModel
  pub was : old.trees ≡ first ∷ rest
  pub tree : ExprModel
  pub one : new.trees ≡ tree ∷ []
  pub spelled : IsSpelled width turned old.destination first tree
  pub reads : ReadsNoMore width first tree

-- ---- the jobs of a program

-- a job that stays, or a respelled one
abbrev pub StandsFor : ℕ → Bool → JobModel → JobModel → Type 0
StandsFor width turned old new = ((turned ≡ false) × (new ≡ old)) ⊎ IsRespelled width turned old new

-- each job stays or is respelled, and these tests are turned. Numbers and order stay
pub record AreRespelled (width : ℕ) (turned : Turns) (old new : List JobModel) : Type 0 where
  pub count : length new ≡ length old
  pub each : (k : ℕ) (a b : JobModel) → slice_get old k ≡ Some a → slice_get new k ≡ Some b →
      StandsFor width (turned k) a b
