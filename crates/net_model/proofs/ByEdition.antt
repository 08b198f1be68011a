-- What holds of netlists of every edition, and of those that have no bank.
use Rattle.std.proofs.Common.{◌≡◌, ◌≤◌, ◌==◌, ℕ, Bool, true, false, if◌then◌else◌, List, [], ◌∷◌, Option, Some, None, subst, arith}
use Rattle.std.specs.List.{AllByRecursion}
use Rattle.net_model.specs.declared.hardware.Netlist.{Netlist}
use Rattle.net_model.specs.declared.hardware.Storage.{Storage}
use Rattle.net_model.specs.declared.hardware.Storage.TheVariants.{Register, Memory, File}
use Rattle.net_model.specs.CheckedRules.{HasFewCells, IsMode, IsSpecial, IsSpecialIf}
use Rattle.net_model.specs.Editions.{is_banked}
use Rattle.net_model.specs.LimitRules.{most_nets}

-- no edition has more nets than the first
pub nets_within : (edition : ℕ) → most_nets edition ≤ 4096
nets_within edition = by (is_banked edition)
  where
    by : (b : Bool) → (if b then 1000 else 4096) ≤ 4096
    by true = omega arith
    by false = omega arith

-- an edition without a bank has the limits of the first
pub few_plain : (edition : ℕ) → is_banked edition ≡ false → (storages : List Storage) → AllByRecursion (HasFewCells edition) storages → AllByRecursion (HasFewCells 1) storages
few_plain edition plain [] h = tt
few_plain edition plain (Register name width input when ∷ storages) h = (tt, few_plain edition plain storages h.1)
few_plain edition plain (Memory cells ∷ storages) h = (h.0, few_plain edition plain storages h.1)
few_plain edition plain (File cells ∷ storages) h =
    (subst (λ (b : Bool). cells.size ≤ (if b then 65536 else 32)) plain h.0, few_plain edition plain storages h.1)

-- and what is special there is the mode
pub mode_of_special : (netlist : Netlist) → is_banked netlist.edition ≡ false → IsSpecial netlist → IsMode netlist netlist.special
mode_of_special netlist plain h = subst (λ (b : Bool). IsSpecialIf b netlist netlist.special) plain h

-- nothing special is a mode
pub no_special : (netlist : Netlist) (special : Option ℕ) → special ≡ None → IsMode netlist special
no_special netlist None none = tt
no_special netlist (Some id) none = absurd cc
