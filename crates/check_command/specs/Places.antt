-- Where the variables of a program stand in an image, and which place is wrong first. The place of a
-- number is right where it is that of the variable of this number, lies behind the temporary cells
-- and within the memory, and has no cell of another place. A place too many is wrong.
use Rattle.std.specs.Prelude.{ℕ, ◌+◌, ◌≡◌, ◌≢◌, ◌≤◌, ◌<◌, ◌⊎◌, List, Some, None, length, slice_get}
use Rattle.src_model.specs.declared.program.Var.{Var as Declared}
use Rattle.src_model.specs.Meaning.{cells_in}
use Rattle.code_model.specs.declared.image.Image.{Image}
use Rattle.code_model.specs.declared.image.Place.{Place}

-- the place is the variable's: it has its name and its cells
pub record IsPlaceOf (var : Declared) (place : Place) : Type 0 where
  pub name : place.name ≡ var.name
  pub cells : place.len ≡ cells_in var

-- it lies behind so many temporary cells, in a memory of so many
pub record LiesIn (temps size : ℕ) (place : Place) : Type 0 where
  pub behind : temps ≤ place.address
  pub within : place.address + place.len ≤ size

-- one place ends before the other begins
abbrev pub AreApart : Place → Place → Type 0
AreApart p q = (p.address + p.len ≤ q.address) ⊎ (q.address + q.len ≤ p.address)

-- no other of these places has a cell of the place of this number
abbrev pub IsAloneAt : List Place → ℕ → Place → Type 0
IsAloneAt places at place =
    (other : ℕ) (q : Place) → slice_get places other ≡ Some q → other ≢ at → AreApart place q

-- the place of a number is right
pub record IsRightPlace (vars : List Declared) (image : Image) (size at : ℕ) : Type 0 where
  pub var : Declared
  pub place : Place
  pub declared : slice_get vars at ≡ Some var
  pub there : slice_get image.places at ≡ Some place
  pub stands : IsPlaceOf var place
  pub lies : LiesIn image.temps size place
  pub alone : IsAloneAt image.places at place

-- the variable of a number has this name, or the place where there are no more variables
abbrev pub IsNameAt : List Declared → List Place → ℕ → List ℕ → Type 0
IsNameAt vars places at name =
    ((var : Declared) × (slice_get vars at ≡ Some var) × (name ≡ var.name))
    ⊎ ((slice_get vars at ≡ None) × (place : Place) × (slice_get places at ≡ Some place) × (name ≡ place.name))

-- the first place that isn't right is that of this name
pub record IsPlaceFault (vars : List Declared) (image : Image) (size : ℕ) (name : List ℕ) : Type 0 where
  pub at : ℕ
  pub named : IsNameAt vars image.places at name
  pub before : (k : ℕ) → k < at → IsRightPlace vars image size k
  pub wrong : IsRightPlace vars image size at → ⊥

-- no place is wrong
pub record ArePlacesRight (vars : List Declared) (image : Image) (size : ℕ) : Type 0 where
  pub all : (k : ℕ) → k < length vars → IsRightPlace vars image size k
  pub no_more : length image.places ≡ length vars
