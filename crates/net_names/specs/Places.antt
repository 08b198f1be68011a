-- Tables of names.
use Rattle.std.specs.Prelude.{◌≡◌, ℕ, ◌+◌, List, [], ◌∷◌, drop, slice_get, if◌then◌else◌, Option, Some, None, Bool, true, false}
use Rattle.std.specs.Map.{lookup}
use Rattle.std.proofs.Common.{Bor}
use Rattle.grammar.specs.declared.words.Ident.{Ident}
use Rattle.net_model.specs.declared.units.Port.{Port}
use Rattle.net_model.specs.Written.{NetExprModel}
use Rattle.rec_bits.specs.Faults.{same_name}
use Rattle.net_model.specs.Numbering.{port_place}

abbrev pub name_pairs : List (Bor (List ℕ) × ℕ) → List (List ℕ × ℕ)
name_pairs [] = []
name_pairs (e ∷ entries) = (e.0.now, e.1) ∷ name_pairs entries

-- the place of a name in a table, with one more name; the first place counts
abbrev pub entered : Option ℕ → Bool → ℕ → Option ℕ
entered (Some first) same place = Some first
entered None true place = Some place
entered None false place = None

abbrev pub Enters : List (List ℕ × ℕ) → List (List ℕ × ℕ) → List ℕ → ℕ → Type 0
Enters old new own place =
    (name : List ℕ) →
    lookup (same_name name) new ≡ entered (lookup (same_name name) old) (same_name own name) place

-- the place in a table, or one so far behind those before
abbrev pub place_or : Option ℕ → ℕ → ℕ → ℕ
place_or None before behind = before + behind
place_or (Some place) before behind = place

-- the table has the first places of the names before, where the places of all names are these, and
-- of those from there on those
pub record HasPlaces (table : List (List ℕ × ℕ)) (before : ℕ) (rest all : List ℕ → ℕ) : Type 0 where
  pub first : (name : List ℕ) → place_or (lookup (same_name name) table) before (rest name) ≡ all name

-- the place of the first binding of a name, and the number of bindings where there is none
abbrev pub bound_place : List (Ident × NetExprModel) → List ℕ → ℕ
bound_place [] name = 0
bound_place (b ∷ bindings) name = if same_name b.0.name name then 0 else bound_place bindings name + 1

-- two tables of the ports before, one for each direction
pub record HasPortPlaces (inputs outputs : List (List ℕ × ℕ)) (ports : List Port) (before : ℕ) : Type 0 where
  pub inputs_there : HasPlaces inputs before (port_place false (drop before ports)) (port_place false ports)
  pub outputs_there : HasPlaces outputs before (port_place true (drop before ports)) (port_place true ports)

-- what is lent
abbrev pub lent : {A : Type 0} → Bor A → A
lent b = b.now

-- the inputs among some ports, in their order
abbrev pub inputs_of : List Port → List Port
inputs_of [] = []
inputs_of (port ∷ ports) = if port.output then inputs_of ports else port ∷ inputs_of ports

-- the item at a place, if there is a place
abbrev pub item_at : {A : Type 0} → List A → Option ℕ → Option A
item_at xs None = None
item_at xs (Some n) = slice_get xs n
