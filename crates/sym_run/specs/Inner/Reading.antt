-- Classes of what a state holds.
use Rattle.std.specs.Prelude.{ℕ, ◌≡◌, ◌⊎◌, List, [], ◌∷◌, slice_index}
use Rattle.net_model.specs.declared.states.State.{State}
use Rattle.tree_laws.specs.declared.classes.Classes.{Classes}
use Rattle.tree_laws.specs.Classes.{width_in}
use Rattle.sym_run.specs.declared.known.Element.{Element}
use Rattle.class_values.specs.declared.facts.Fact.{Fact}
use Rattle.sym_run.specs.declared.known.Known.{Known}
use Rattle.class_values.specs.Values.{AreFacts, AreSame, Holds, HoldsWide}
use Rattle.sym_run.specs.Known.{StandsFor}

-- a class of this width
pub record IsOfWidth (table : Classes) (class width c : ℕ) : Type 0 where
  pub same : c ≡ class
  pub wide : width_in table class ≡ width

-- a register of this width
abbrev pub IsReg : Classes → Known → ℕ → ℕ → ℕ → Type 0
IsReg table known r width c =
    (memory : List ℕ) (s : State) → StandsFor table memory known s →
    HoldsWide table memory c width (slice_index s.regs r)

-- what the register file has in the cell of a class's value
abbrev pub IsFileCell : Classes → List Fact → Known → ℕ → ℕ → ℕ → Type 0
IsFileCell table facts known addr width c =
    (memory : List ℕ) (s : State) (a : ℕ) → AreFacts table memory facts → StandsFor table memory known s →
    Holds table memory addr a → HoldsWide table memory c width (slice_index s.file a)

-- the class is of an address of one of a list, which is read by another class
abbrev pub IsAlias : Classes → List Element → ℕ → ℕ → Type 0
IsAlias table [] class like = ⊥
IsAlias table (element ∷ elements) class like =
    (AreSame table class element.class × (element.like ≡ like)) ⊎ IsAlias table elements class like

-- the class is of this one's address, which is of a list
abbrev pub IsListedAs : Classes → List Element → ℕ → Element → Type 0
IsListedAs table [] class one = ⊥
IsListedAs table (element ∷ elements) class one =
    (AreSame table class element.class × (element ≡ one)) ⊎ IsListedAs table elements class one

-- the class is of an address of one of a list
abbrev pub SomeAlias : Classes → List Element → ℕ → Type 0
SomeAlias table elements class = (like : ℕ) × IsAlias table elements class like
