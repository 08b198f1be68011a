-- What a mark's relation says of a state and of the cells of a memory that holds the variables, each
-- in its place: each variable that isn't hidden at the mark is seen in the state, through its view or
-- in its place, as those cells have it; some registers and temporary cells have the values of trees
-- over the cells; and some cells hold known numbers. Of a hidden variable the state may have anything
-- in its place; the cells have the program's value all the same, which trees may read. A relation is
-- a hint: no promise speaks of it.
use Rattle.std.specs.Prelude.{ℕ, ◌+◌, ◌<◌, ◌≡◌, Bool, true, false, List, [], ◌∷◌, Option, Some, None, slice_index}
use Rattle.net_model.specs.declared.states.State.{State}
use Rattle.net_model.specs.Exprs.{ExprModel}
use Rattle.net_model.specs.Meaning.{mean}
use Rattle.code_model.specs.declared.image.Place.{Place}
use Rattle.code_model.specs.declared.views.Viewed.{Viewed}
use Rattle.code_model.specs.Views.{hidden_in, is_one_of, view_at}
use Rattle.src_trees.specs.Lowered.{MemoryMap}
use Rattle.src_trees.specs.Seen.{tree_value}

-- ---- variables

-- a variable is seen as these cells have it: in its place, or through its view, if it is one cell
abbrev pub IsSeenAs : Option ExprModel → Place → State → List ℕ → Type 0
IsSeenAs None place s cells =
    (k : ℕ) → k < place.len → slice_index s.cells (place.address + k) ≡ slice_index cells (place.address + k)
IsSeenAs (Some value) place s cells = (place.len ≡ 1) × (mean value s 0 ≡ slice_index cells place.address)

-- and so it is, if it isn't hidden
abbrev pub IsShownAs : Bool → Option ExprModel → Place → State → List ℕ → Type 0
IsShownAs true view place s cells = Unit {0}
IsShownAs false view place s cells = IsSeenAs view place s cells

-- all are but those of these names
abbrev pub AreShownAs : List (List ℕ) → (List ℕ → Option ExprModel) → List Place → State → List ℕ → Type 0
AreShownAs names view [] s cells = Unit {0}
AreShownAs names view (place ∷ places) s cells =
    IsShownAs (is_one_of names place.name) (view place.name) place s cells × AreShownAs names view places s cells

-- ---- hints

-- what the machine has somewhere, in a register or a temporary cell, and what it is: a tree over the
-- program's cells
pub record Holding : Type 0 where
  pub place : ExprModel
  pub tree : ExprModel

-- the cell at an address, and its number
pub record Known : Type 0 where
  pub address : ℕ
  pub number : ℕ

-- a relation
pub record Relation : Type 0 where
  pub holdings : List Holding
  pub known : List Known

abbrev pub AllHold : List Holding → State → List ℕ → Type 0
AllHold [] s cells = Unit {0}
AllHold (holding ∷ holdings) s cells =
    (mean holding.place s 0 ≡ tree_value cells holding.tree) × AllHold holdings s cells

abbrev pub AllKnown : List Known → List ℕ → Type 0
AllKnown [] cells = Unit {0}
AllKnown (one ∷ known) cells = (slice_index cells one.address ≡ one.number) × AllKnown known cells

-- ---- relations

-- a state at an address and cells that are related by the relation of that address
pub record IsRelated (viewed : Viewed) (m : MemoryMap) (relation : ℕ → Relation) (address : ℕ) (s : State)
    (cells : List ℕ) : Type 0 where
  pub seen : AreShownAs (hidden_in viewed address) (view_at viewed.views address) m.places s cells
  pub holds : AllHold (relation address).holdings s cells
  pub known : AllKnown (relation address).known cells
