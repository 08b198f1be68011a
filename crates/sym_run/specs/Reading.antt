-- Classes of what a state's cells hold.
use Rattle.std.specs.Prelude.{ℕ, List, slice_index}
use Rattle.net_model.specs.declared.states.State.{State}
use Rattle.tree_laws.specs.declared.classes.Classes.{Classes}
use Rattle.class_values.specs.declared.facts.Fact.{Fact}
use Rattle.sym_run.specs.declared.known.Known.{Known}
use Rattle.class_values.specs.Values.{AreFacts, Holds, HoldsWide}
use Rattle.sym_run.specs.Known.{StandsFor}

-- wherever the facts hold, and for every state that what is known stands for, the class of the new
-- table has what the state holds in the cell whose address another class gives
abbrev pub IsCell : Classes → Classes → List Fact → Known → ℕ → ℕ → ℕ → Type 0
IsCell old new facts known addr width c =
    (memory : List ℕ) (s : State) (a : ℕ) → AreFacts old memory facts → StandsFor old memory known s →
    Holds old memory addr a → HoldsWide new memory c width (slice_index s.cells a)
