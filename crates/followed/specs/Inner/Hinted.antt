-- When hints are said of marks.
use Rattle.std.specs.Prelude.{ℕ, ◌≡◌, ◌≢◌, List, [], ◌∷◌, Some}
use Rattle.src_model.specs.declared.program.Var.{Var as Declared}
use Rattle.code_model.specs.declared.views.Viewed.{Viewed}
use Rattle.code_model.specs.Places.{checkpoint_of, label_at}
use Rattle.code_model.specs.Views.{hidden_in, view_at}
use Rattle.sym_expr.specs.declared.pool.Node.{Node}
use Rattle.mark_start.specs.declared.hints.Hint.{Hint}
use Rattle.segment.specs.Asked.{AreArrays, AreSpots}

-- no hint is of this address
abbrev pub IsNew : ℕ → List Hint → Type 0
IsNew address [] = Unit {0}
IsNew address (hint ∷ hints) = (hint.address ≢ address) × IsNew address hints

abbrev pub AreNew : List Hint → Type 0
AreNew [] = Unit {0}
AreNew (hint ∷ hints) = IsNew hint.address hints × AreNew hints

-- the hint is of a mark, has its label, and its spots are the places with the views there, and say what
-- is hidden
pub record IsHere (viewed : Viewed) (vars : List Declared) (pool : List Node) (hint : Hint) : Type 0 where
  pub labelled : label_at viewed.image.marks hint.address ≡ Some (checkpoint_of hint.label)
  pub spots : AreSpots (hidden_in viewed hint.address) (view_at viewed.views hint.address) pool viewed.image.places hint.spots
  pub arrays : AreArrays vars hint.spots

abbrev pub AreHere : Viewed → List Declared → List Node → List Hint → Type 0
AreHere viewed vars pool [] = Unit {0}
AreHere viewed vars pool (hint ∷ hints) = IsHere viewed vars pool hint × AreHere viewed vars pool hints
