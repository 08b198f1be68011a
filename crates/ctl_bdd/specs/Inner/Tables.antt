-- A list of sets for each net, empty where there are none.
use Rattle.std.specs.Prelude.{◌≡◌, ℕ, ◌^◌, ◌<◌, List, length, Option, None, Some}
use Rattle.std.specs.List.{AllByRecursion}
use Rattle.net_model.specs.declared.hardware.Gate.{Gate}
use Rattle.net_model.specs.declared.hardware.Gate.TheVariants.{Bus}
use Rattle.ctl_bdd.specs.Tables.{sets_at}

-- ---- gates

-- the sets of each row, and a number for it that a selector of so many bits may have
abbrev pub HasRows : List (List ℕ) → ℕ → ℕ → List (ℕ × ℕ) → Type 0
HasRows table bits width rows =
    AllByRecursion (λ (row : ℕ × ℕ). (row.0 < 2 ^ bits) × (length (sets_at table row.1) ≡ width)) rows

abbrev pub HasRest : List (List ℕ) → ℕ → Option ℕ → Type 0
HasRest table width None = Unit {0}
HasRest table width (Some rest) = length (sets_at table rest) ≡ width

-- ---- enables

-- the one set of a driver's enable
abbrev pub HasEnable : List (List ℕ) → ℕ × ℕ → Type 0
HasEnable table driver = length (sets_at table driver.1) ≡ 1

abbrev pub HasEnables : List (List ℕ) → Gate → Type 0
HasEnables table (Bus drivers) = AllByRecursion (HasEnable table) drivers
HasEnables table _ = Unit {0}
