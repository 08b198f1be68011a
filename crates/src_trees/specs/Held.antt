-- When a memory holds variables: each at a place of its own, in the order of the declarations, and
-- none where another is.
use Rattle.std.specs.Prelude.{ℕ, ◌+◌, ◌^◌, ◌≡◌, ◌≤◌, ◌<◌, ◌⊎◌, List, [], ◌∷◌, length, slice_index}
use Rattle.src_model.specs.declared.program.Var.{Var as Declared}
use Rattle.src_model.specs.Meaning.{cells_in}
use Rattle.code_model.specs.declared.image.Place.{Place as VariablePlace}
use Rattle.src_trees.specs.Lowered.{MemoryMap}

-- the places are those of the variables: each has its name and its cells
abbrev pub StandFor : List VariablePlace → List Declared → Type 0
StandFor [] [] = Unit {0}
StandFor (p ∷ places) (v ∷ vars) = (p.name ≡ v.name) × (p.len ≡ cells_in v) × StandFor places vars
StandFor _ _ = ⊥

-- each lies between two addresses
abbrev pub LieWithin : ℕ → ℕ → List VariablePlace → Type 0
LieWithin first end [] = Unit {0}
LieWithin first end (p ∷ places) =
    (first ≤ p.address) × (p.address + p.len ≤ end) × LieWithin first end places

-- a place has no cell that one of others has
abbrev pub IsAlone : VariablePlace → List VariablePlace → Type 0
IsAlone p [] = Unit {0}
IsAlone p (q ∷ places) =
    ((p.address + p.len ≤ q.address) ⊎ (q.address + q.len ≤ p.address)) × IsAlone p places

abbrev pub AreAlone : List VariablePlace → Type 0
AreAlone [] = Unit {0}
AreAlone (p ∷ places) = IsAlone p places × AreAlone places

-- the variables have their cells behind the temporary ones, in reach of the memory's addresses
pub record HoldsVars (temps : ℕ) (vars : List Declared) (m : MemoryMap) : Type 0 where
  pub some : 1 ≤ m.addr
  pub narrow : m.addr ≤ m.word
  pub stand : StandFor m.places vars
  pub within : LieWithin temps (2 ^ m.addr) m.places
  pub alone : AreAlone m.places

-- so many cells are enough for the temporary ones and the variables'
pub record HasCellRoom (temps : ℕ) (m : MemoryMap) (cells : ℕ) : Type 0 where
  pub below : temps ≤ cells
  pub within : LieWithin temps cells m.places

-- cells that hold the variables: they have room for them, and each fits a word
pub record HoldsCells (temps : ℕ) (m : MemoryMap) (cells : List ℕ) : Type 0 where
  pub room : HasCellRoom temps m (length cells)
  pub words : (k : ℕ) → slice_index cells k < 2 ^ m.word
