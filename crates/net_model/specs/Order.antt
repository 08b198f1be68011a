-- An order in which the nets can be evaluated one after the other.
use Rattle.std.specs.Prelude.{ℕ, ◌+◌, ◌<◌, ◌≡◌, ◌==◌, if◌then◌else◌, List, [], ◌∷◌, length, slice_get, slice_index}
use Rattle.std.specs.List.{AllByRecursion}
use Rattle.net_model.specs.declared.hardware.Netlist.{Netlist}
use Rattle.net_model.specs.Nets.{nets_of}

-- the place of a number in a list, and the list's length where it has none
abbrev pub position_of : List ℕ → ℕ → ℕ
position_of [] n = 0
position_of (x ∷ xs) n = if x == n then 0 else position_of xs n + 1

-- each net once, after the nets that its gate names
pub record IsOrder (netlist : Netlist) (order : List ℕ) : Type 0 where
  pub long : length order ≡ length netlist.nets
  pub nets : (i : ℕ) → i < length order → slice_index order i < length netlist.nets
  pub places : (n : ℕ) → n < length netlist.nets → position_of order n < length order
  pub falls : (n : ℕ) →
      AllByRecursion (λ m. position_of order m < position_of order n) (nets_of (slice_get netlist.nets n))
