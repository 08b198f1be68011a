-- Places in the memory are in reach of its addresses.
use Rattle.std.proofs.Common.{◌≡◌, ℕ, ◌≤◌, ◌^◌, List, [], ◌∷◌, refl, slice_get, arith, ◌<◌, zero, suc, map, length}
use Rattle.std.specs.List.{AllByRecursion}
use Rattle.net_model.specs.declared.hardware.Code.{Code}
use Rattle.net_model.specs.declared.hardware.Netlist.{Netlist}
use Rattle.net_model.specs.Widths.{WordFits}
use Rattle.code_model.specs.declared.image.Word.{Word}
use Rattle.code_model.specs.ImageFits.{CodeFits, limits_in, limits_of}
use Rattle.net_model.specs.declared.hardware.Space.TheVariants.{Memory as InMemory}
use Rattle.net_model.specs.declared.hardware.Storage.{Storage}
use Rattle.net_model.specs.declared.hardware.Storage.TheVariants.{Register, Memory, File}
use Rattle.net_model.specs.CheckedRules.{KeepsRules}
use Rattle.net_model.specs.Nets.{addr_width_in, memory_id, memory_size, code_bits}
use Rattle.net_model.proofs.Memories.{few_sizes}
use Rattle.src_model.specs.Written.{ProgramModel}
use Rattle.code_model.specs.declared.image.Image.{Image}
use Rattle.code_model.specs.declared.image.Place.{Place}
use Rattle.src_trees.specs.Held.{AreAlone, LieWithin, StandFor}
use Rattle.follow.specs.RightByViews.{IsLaidFor}
use Rattle.followed.specs.Inner.Memories.{storage_addr_bits}

pub addresses_found : (storages : List Storage) → storage_addr_bits (slice_get storages (memory_id storages)) ≡ addr_width_in InMemory storages
addresses_found [] = refl
addresses_found (Register name width input when ∷ storages) = addresses_found storages
addresses_found (Memory cells ∷ storages) = refl
addresses_found (File cells ∷ storages) = addresses_found storages

pub lie_further : (first end more : ℕ) → end ≤ more → (places : List Place) → LieWithin first end places → LieWithin first more places
lie_further first end more le [] h = tt
lie_further first end more le (p ∷ places) h = let low = h.0 in let high = h.1 in (low, omega (arith, high, le), lie_further first end more le places h.2)

pub laid : (netlist : Netlist) (order : List ℕ) → KeepsRules netlist order → (width : ℕ) (l : ProgramModel) (image : Image) → 1 ≤ addr_width_in InMemory netlist.storages
    → addr_width_in InMemory netlist.storages ≤ width → image.temps ≤ memory_size netlist.storages → StandFor image.places l.vars → LieWithin image.temps (memory_size netlist.storages) image.places
    → AreAlone image.places → IsLaidFor netlist width l image
laid netlist order k width l image some narrow temps stand within alone = record {
  held = record { some = some; narrow = narrow; stand = stand; within = lie_further _ _ _ k.roles.sizes.1.1 image.places within; alone = alone };
  room = record { below = temps; within = within };
}

-- and below 2 ^ 32
pub lie_few : (netlist : Netlist) (order : List ℕ) → KeepsRules netlist order → (temps : ℕ) (places : List Place) → LieWithin temps (memory_size netlist.storages) places → LieWithin temps (2 ^ 32) places
lie_few netlist order k temps places h = let few = few_sizes netlist order k InMemory in lie_further temps _ _ (omega (arith, few)) places h

-- ---- words of an image that fits

one_code : (codes : List Code) → length codes ≡ 1 → (w : ℕ) → w < 2 ^ (limits_in codes).bits → (k : ℕ) → 0 < code_bits (slice_get codes k) → w < 2 ^ code_bits (slice_get codes k)
one_code [] e w h k p = absurd (omega (arith, e))
one_code (code ∷ []) e w h zero p = h
one_code (code ∷ []) e w h (suc k) p = absurd (omega (arith, p))
one_code (code ∷ d ∷ codes) e w h k p = absurd (omega (arith, e))

pub words_fit : (netlist : Netlist) (order : List ℕ) → KeepsRules netlist order → (words : List Word) → AllByRecursion (CodeFits (limits_of netlist).bits) words
    → AllByRecursion (WordFits netlist) (map (λ (word : Word). word.word) words)
words_fit netlist order k [] h = tt
words_fit netlist order k (word ∷ words) h = (record { fits = one_code netlist.codes k.roles.code word.word h.0.word }, words_fit netlist order k words h.1)
