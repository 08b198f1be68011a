-- What a walk over the nets keeps.
use Rattle.std.specs.Prelude.{ℕ, ◌+◌, ◌-◌, ◌*◌, ◌<◌, ◌≡◌, ◌≢◌, List, [], ◌∷◌, length, take, slice_index, slice_index_or, Option, Some, None}
use Rattle.std.specs.List.{AllByRecursion}
use Rattle.net_model.specs.Order.{position_of}
use Rattle.net_model.specs.Depends.{Among, Depends}
use Rattle.net_check.specs.Inner.Graphs.{named_in}
use Rattle.net_check.specs.declared.walk.Stage.{Stage}
use Rattle.net_check.specs.declared.walk.Stage.TheVariants.{New, Open, Placed}
use Rattle.net_check.specs.declared.walk.Walk.{Walk}
use Rattle.net_check.specs.declared.walk.Sorted.{Sorted}
use Rattle.net_check.specs.declared.walk.Sorted.TheVariants.{Order, Cycle}

abbrev pub stage_at : List Stage → ℕ → Stage
stage_at stages n = slice_index_or stages n New

-- each net of a path names the next one
abbrev pub LeadsTo : List (List ℕ) → ℕ → List ℕ → Type 0
LeadsTo graph x [] = Unit {0}
LeadsTo graph x (y ∷ ys) = Among y (named_in graph x)

abbrev pub Linked : List (List ℕ) → List ℕ → Type 0
Linked graph [] = Unit {0}
Linked graph (x ∷ xs) = LeadsTo graph x xs × Linked graph xs

-- how many nets aren't placed yet
abbrev pub unplaced : List Stage → ℕ
unplaced [] = 0
unplaced (New ∷ stages) = unplaced stages + 1
unplaced (Open k ∷ stages) = unplaced stages + 1
unplaced (Placed ∷ stages) = unplaced stages

-- what is placed stands in the order behind what it names, and what is open stands on the path and
-- has placed what it named so far
pub record IsWalk (graph : List (List ℕ)) (stages : List Stage) (path order : List ℕ) : Type 0 where
  pub long : length stages ≡ length graph
  pub whole : unplaced stages + length order ≡ length stages
  pub placed : (m : ℕ) → stage_at stages m ≡ Placed → position_of order m < length order
  pub first : (m : ℕ) → position_of order m < length order → stage_at stages m ≡ Placed
  pub falls : (m : ℕ) → stage_at stages m ≡ Placed →
      AllByRecursion (λ d. position_of order d < position_of order m) (named_in graph m)
  pub seen : (m k : ℕ) → stage_at stages m ≡ Open k →
      AllByRecursion (λ d. stage_at stages d ≡ Placed) (take k (named_in graph m))
  pub kept : (m k : ℕ) → stage_at stages m ≡ Open k → Among m path
  pub linked : Linked graph path
  pub inside : (m : ℕ) → Among m path → m < length graph
  pub range : (i : ℕ) → i < length order → slice_index order i < length graph

-- what is left to do at a net that names n nets, and at all
abbrev pub left : Stage → ℕ → ℕ
left New n = n + 2
left (Open k) n = n + 1 - k
left Placed n = 0

abbrev pub work : List (List ℕ) → List Stage → ℕ
work [] stages = 0
work (named ∷ graph) [] = 0
work (named ∷ graph) (s ∷ stages) = left s (length named) + work graph stages

-- no net is new again
abbrev pub Later : List Stage → List Stage → Type 0
Later old new = (m : ℕ) → stage_at new m ≡ New → stage_at old m ≡ New

pub record GoesOn (graph : List (List ℕ)) (path : List ℕ) (old new : Walk) : Type 0 where
  pub kept : IsWalk graph new.stages new.path new.order
  pub later : Later old.stages new.stages
  pub less : 2 * work graph new.stages + length new.path < 2 * work graph old.stages + length path

abbrev pub Stepped : List (List ℕ) → List ℕ → Walk → Walk → Option ℕ → Type 0
Stepped graph path old new None = GoesOn graph path old new
Stepped graph path old new (Some n) = Depends (named_in graph) n n

pub record IsDone (graph : List (List ℕ)) (root : ℕ) (old new : Walk) : Type 0 where
  pub kept : IsWalk graph new.stages new.path new.order
  pub empty : new.path ≡ []
  pub later : Later old.stages new.stages
  pub here : stage_at new.stages root ≢ New

abbrev pub Walked : List (List ℕ) → ℕ → Walk → Walk → Option ℕ → Type 0
Walked graph root old new None = IsDone graph root old new
Walked graph root old new (Some n) = Depends (named_in graph) n n

-- each net once, behind the nets that it names
pub record IsOrdering (graph : List (List ℕ)) (order : List ℕ) : Type 0 where
  pub long : length order ≡ length graph
  pub nets : (i : ℕ) → i < length order → slice_index order i < length graph
  pub places : (n : ℕ) → n < length graph → position_of order n < length order
  pub falls : (n : ℕ) → AllByRecursion (λ m. position_of order m < position_of order n) (named_in graph n)

abbrev pub IsSorted : List (List ℕ) → Sorted → Type 0
IsSorted graph (Order order) = IsOrdering graph order
IsSorted graph (Cycle n) = Depends (named_in graph) n n
