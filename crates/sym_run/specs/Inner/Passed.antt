-- What writes leave in arrays' cells, by classes.
use Rattle.std.specs.Prelude.{ℕ, ◌<◌, ◌≤◌, ◌≢◌, ◌==◌, if◌then◌else◌, List, [], ◌∷◌, slice_index}
use Rattle.tree_laws.specs.declared.classes.Classes.{Classes}
use Rattle.tree_laws.specs.Classes.{cell_bits}
use Rattle.tree_laws.specs.Equal.{CellsFit}
use Rattle.sym_run.specs.declared.known.Cell.{Cell}
use Rattle.sym_run.specs.declared.known.Element.{Element}
use Rattle.class_values.specs.declared.facts.Fact.{Fact}
use Rattle.sym_run.specs.declared.known.Known.{Known}
use Rattle.sym_run.specs.declared.known.Put.{Put}
use Rattle.class_values.specs.Values.{AreFacts, Holds, HoldsWide}
use Rattle.sym_run.specs.Known.{AreInside, HaveWritten, Wrote, value_after}
use Rattle.sym_run.specs.Arrivals.{AreLeftSame}

-- ---- addresses that differ

-- the class has one of these numbers
abbrev pub IsRange : Classes → List Fact → List Element → ℕ → ℕ → ℕ → Type 0
IsRange table facts elements class first end =
    (memory : List ℕ) (cells : List Cell) (n : ℕ) → CellsFit (cell_bits table) memory → AreFacts table memory facts →
    AreInside table memory cells elements → Holds table memory class n → (first ≤ n) × (n < end)

-- the classes never have one value
abbrev pub AreApart : Classes → List Fact → List Element → ℕ → ℕ → Type 0
AreApart table facts elements a b =
    (memory : List ℕ) (cells : List Cell) (n k : ℕ) → CellsFit (cell_bits table) memory → AreFacts table memory facts →
    AreInside table memory cells elements → Holds table memory a n → Holds table memory b k → n ≢ k

-- ---- cells behind writes

-- the class has one value or another, by a bit
abbrev pub IsChosen : Classes → Classes → List Fact → ℕ → ℕ → ℕ → ℕ → ℕ → Type 0
IsChosen old new facts bit width value was c =
    (memory : List ℕ) (v x : ℕ) → CellsFit (cell_bits old) memory → AreFacts old memory facts →
    HoldsWide old memory value width v → HoldsWide old memory was width x →
    ((Holds old memory bit 1 → HoldsWide new memory c width v)
    × (Holds old memory bit 0 → HoldsWide new memory c width x))

-- the class has what a cell holds behind a write
abbrev pub IsPassed : Classes → Classes → List Fact → List Element → Put → ℕ → ℕ → ℕ → ℕ → Type 0
IsPassed old new facts elements put at width was c =
    (memory : List ℕ) (cells : List Cell) (one : Wrote) (a x : ℕ) → CellsFit (cell_bits old) memory →
    AreFacts old memory facts → AreInside old memory cells elements →
    Holds old memory put.address one.address → Holds old memory put.value one.value →
    Holds old memory at a → HoldsWide old memory was width x →
    HoldsWide new memory c width (if one.address == a then one.value else x)

-- and behind some
abbrev pub ArePassed : Classes → Classes → List Fact → List Element → List Put → ℕ → ℕ → ℕ → ℕ → Type 0
ArePassed old new facts elements puts at width was c =
    (memory : List ℕ) (cells : List Cell) (log : List Wrote) (a x : ℕ) → CellsFit (cell_bits old) memory →
    AreFacts old memory facts → AreInside old memory cells elements → HaveWritten old memory puts log →
    Holds old memory at a → HoldsWide old memory was width x →
    HoldsWide new memory c width (value_after log a x)

-- the class has what all known writes leave in the cell of another class's value
abbrev pub IsLeftAt : Classes → Classes → List Fact → Known → ℕ → ℕ → ℕ → Type 0
IsLeftAt old new facts known at width c =
    (memory : List ℕ) (cells : List Cell) (log : List Wrote) (a : ℕ) → CellsFit (cell_bits old) memory →
    AreFacts old memory facts → AreInside old memory cells known.inside → HaveWritten old memory known.puts log →
    Holds old memory at a → HoldsWide new memory c width (value_after log a (slice_index memory a))

-- ---- two lists of writes

-- they leave one number in the cell of a class's value
abbrev pub LeaveSameIn : Classes → List Fact → Known → Known → ℕ → Type 0
LeaveSameIn table facts near far at =
    (memory : List ℕ) (ones others : List Cell) (a : ℕ) → CellsFit (cell_bits table) memory → AreFacts table memory facts →
    AreInside table memory ones near.inside → AreInside table memory others far.inside → Holds table memory at a →
    AreLeftSame table near far memory a

-- so they do in those to which some writes go
abbrev pub LeaveSameBehind : Classes → List Fact → Known → Known → List Put → Type 0
LeaveSameBehind table facts near far [] = Unit {0}
LeaveSameBehind table facts near far (put ∷ puts) =
    LeaveSameIn table facts near far put.address × LeaveSameBehind table facts near far puts
