-- The places of a program's variables, and the limits of a netlist's code and memory.
use Rattle.std.proofs.Common.{◌≡◌, ◌≤◌, ◌+◌, ◌∙◌, ℕ, List, [], ◌∷◌, ap, subst, arith}
use Rattle.std.specs.List.{AllByRecursion}
use Rattle.net_model.specs.declared.hardware.Code.{Code}
use Rattle.net_model.specs.declared.hardware.Netlist.{Netlist}
use Rattle.net_model.specs.declared.hardware.Storage.{Storage}
use Rattle.net_model.specs.declared.hardware.Space.TheVariants.{Memory as InMemory}
use Rattle.net_model.specs.CheckedRules.{CodeKeeps}
use Rattle.net_model.specs.ModeRules.{base_at, KeepsModes}
use Rattle.net_model.specs.Nets.{memory_size}
use Rattle.net_model.proofs.Bases.{base_of}
use Rattle.net_model.proofs.Memories.{few_sizes}
use Rattle.net_model.proofs.ModeFaults.{first_keeps}
use Rattle.src_model.specs.declared.program.Var.{Var as Declared}
use Rattle.src_model.specs.Meaning.{cells_in}
use Rattle.code_model.specs.declared.image.Place.{Place}
use Rattle.code_model.specs.ImageFits.{PlaceFits, limits_in, limits_of}
use Rattle.code_model.specs.Layout.{variables_of}
use Rattle.code_model.specs.Places.{Apart, places_from}
use Rattle.src_front.specs.Fronts.{AreNamed}
use Rattle.code_gen.proofs.Memories.{first_storages}

-- a number that the storages of a netlist in mode 0 give is that of the netlist
pub of_first : (count : List Storage → ℕ) (netlist base : Netlist) (n : ℕ) → base ≡ base_at netlist 0 → n ≡ count base.storages → n ≡ count netlist.storages
of_first count netlist base n first is = is ∙ ap count (first_storages netlist base first)

-- an instruction word has at most 64 bits
few_bits : (netlist : Netlist) (codes : List Code) → AllByRecursion (CodeKeeps netlist) codes → (limits_in codes).bits ≤ 64
few_bits netlist [] keeps = omega arith
few_bits netlist (code ∷ codes) keeps = keeps.0.0.1

-- the same of a netlist that keeps its rules in its modes
pub few_code_bits : (netlist : Netlist) → KeepsModes netlist → (limits_of netlist).bits ≤ 64
few_code_bits netlist keeps =
    subst (λ (list : List Code). (limits_in list).bits ≤ 64) (base_of netlist netlist.special 0).codes
    (few_bits (base_at netlist 0) (base_at netlist 0).codes (first_keeps netlist keeps).rules.formed.codes)

pub few_data_cells : (netlist : Netlist) → KeepsModes netlist → memory_size netlist.storages ≤ 65536
few_data_cells netlist keeps =
    let first = first_keeps netlist keeps in
    subst (λ (list : List Storage). memory_size list ≤ 65536) (base_of netlist netlist.special 0).storages
    (few_sizes (base_at netlist 0) first.order first.rules InMemory)

-- places that lie in a memory begin and end in it
apart_within : (from end : ℕ) (places : List Place) → Apart from places end → from ≤ end
apart_within from end [] apart = apart
apart_within from end (place ∷ places) apart = omega (arith, apart.0, apart_within (place.address + place.len) end places apart.1)

pub places_fit : (at end : ℕ) (vars : List Declared) → end ≤ 65536 → AreNamed vars → Apart at (places_from at (variables_of vars)) end → AllByRecursion PlaceFits (places_from at (variables_of vars))
places_fit at end [] few named apart = tt
places_fit at end (var ∷ vars) few named apart =
    let behind = apart_within (at + cells_in var) end (places_from (at + cells_in var) (variables_of vars)) apart.1 in (
      record { name = named.0; address = omega (arith, behind, few); len = omega (arith, behind, few) },
      places_fit (at + cells_in var) end vars few named.1 apart.1,
    )
