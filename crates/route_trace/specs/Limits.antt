-- The limits on the symbolic values of nets: none has more than 255 nodes, and no net has more
-- than 4,096 of them. N12 and N13 said of a netlist: a net has under some word without a clash a
-- value of more than 255 nodes; more than 4,096 words without a clash give it different values.
-- The net that is named is the least of those that break one and depend on no other that does.
use Rattle.std.specs.Prelude.{◌≢◌, ◌⊎◌, ℕ, ◌<◌, ◌≤◌, List, [], ◌∷◌, length}
use Rattle.std.specs.List.{AllByRecursion}
use Rattle.net_model.specs.declared.hardware.Netlist.{Netlist}
use Rattle.net_model.specs.Depends.{Depends, named_by}
use Rattle.net_model.specs.Symbolic.{sym_of}
use Rattle.net_model.specs.Exprs.{ExprModel, size_of}
use Rattle.net_model.specs.Transfers.{IsClean}
use Rattle.route_trace.specs.declared.RouteFault.{RouteFault}
use Rattle.route_trace.specs.declared.RouteFault.TheVariants.{PatternLarge, TooMany, Memory}

-- a net has under some word without clash a symbolic value of more than 255 nodes
pub record IsLarge (netlist : Netlist) (n : ℕ) : Type 0 where
  pub word : ℕ
  pub clean : IsClean netlist word
  pub large : 255 < size_of (sym_of netlist word n)

-- words with other values than one word
abbrev pub Differ : (ℕ → ExprModel) → ℕ → List ℕ → Type 0
Differ f word [] = Unit {0}
Differ f word (other ∷ words) = (f word ≢ f other) × Differ f word words

-- words with different values
abbrev pub AllDiffer : (ℕ → ExprModel) → List ℕ → Type 0
AllDiffer f [] = Unit {0}
AllDiffer f (word ∷ words) = Differ f word words × AllDiffer f words

-- a net has more than 4,096 symbolic values over the words without clash: so many words give it
-- different ones
pub record HasMany (netlist : Netlist) (n : ℕ) : Type 0 where
  pub words : List ℕ
  pub many : 4096 < length words
  pub clean : AllByRecursion (IsClean netlist) words
  pub apart : AllDiffer (λ word. sym_of netlist word n) words

-- a net breaks one of the limits
abbrev pub IsBroken : Netlist → ℕ → Type 0
IsBroken netlist n = IsLarge netlist n ⊎ HasMany netlist n

-- it breaks one and depends on no net that does
pub record IsFirstBroken (netlist : Netlist) (n : ℕ) : Type 0 where
  pub net : n < length netlist.nets
  pub broken : IsBroken netlist n
  pub alone : (m : ℕ) → Depends (named_by netlist) n m → IsBroken netlist m → ⊥

-- the net that a refusal names: the least of them
pub record IsNamed (netlist : Netlist) (n : ℕ) : Type 0 where
  pub first : IsFirstBroken netlist n
  pub least : (m : ℕ) → IsFirstBroken netlist m → n ≤ m

-- what a refusal says; want of memory says nothing
abbrev pub IsRouteFault : Netlist → RouteFault → Type 0
IsRouteFault netlist (PatternLarge n) = IsNamed netlist n × IsLarge netlist n × (HasMany netlist n → ⊥)
IsRouteFault netlist (TooMany n) = IsNamed netlist n × HasMany netlist n
IsRouteFault netlist Memory = Unit {0}

-- no net breaks a limit
abbrev pub KeepsLimits : Netlist → Type 0
KeepsLimits netlist = (n : ℕ) → n < length netlist.nets → IsBroken netlist n → ⊥
