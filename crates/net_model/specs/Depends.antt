-- What a net depends on without a register between. A net depends on those that its gate names and
-- on what they depend on; a register's output names none, a memory's read its address.
use Rattle.std.specs.Prelude.{ℕ, ◌<◌, ◌≡◌, ◌⊎◌, List, [], ◌∷◌, slice_get}
use Rattle.net_model.specs.declared.hardware.Netlist.{Netlist}
use Rattle.net_model.specs.Nets.{nets_of}

-- one of a list
abbrev pub Among : ℕ → List ℕ → Type 0
Among m [] = ⊥
Among m (x ∷ xs) = (m ≡ x) ⊎ Among m xs

-- where `names` gives the nets that each net names: a net depends on another by one step or more
pub data Depends (names : ℕ → List ℕ) : ℕ → ℕ → Type 0 where
  direct : {a b : ℕ} → Among b (names a) → Depends names a b
  via : {a b c : ℕ} → Among b (names a) → Depends names b c → Depends names a c

-- the least number of a net that lies on a cycle, which is a net that depends on itself
pub record IsLeastOnCycle (names : ℕ → List ℕ) (n : ℕ) : Type 0 where
  pub on : Depends names n n
  pub least : (m : ℕ) → m < n → Depends names m m → ⊥

-- the nets that the gate of a net names: a register's output names none, a read of a memory or a
-- file its address
abbrev pub named_by : Netlist → ℕ → List ℕ
named_by netlist n = nets_of (slice_get netlist.nets n)

-- no net depends on itself
abbrev pub IsAcyclic : Netlist → Type 0
IsAcyclic netlist = (n : ℕ) → Depends (named_by netlist) n n → ⊥
