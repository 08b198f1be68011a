-- A netlist has a net, since each storage takes its next value from one, so it has a fault.
use Rattle.std.proofs.Common.{ℕ, ◌<◌, List, [], ◌∷◌, false, length, slice_get, arith}
use Rattle.std.specs.List.{AllByRecursion}
use Rattle.net_model.specs.declared.hardware.Netlist.{Netlist}
use Rattle.net_model.specs.declared.hardware.Net.{Net}
use Rattle.net_model.specs.declared.hardware.Storage.{Storage}
use Rattle.net_model.specs.declared.hardware.Storage.TheVariants.{Register, Memory, File}
use Rattle.net_model.specs.CheckedRules.{IsCounter, KeepsRules}
use Rattle.net_model.specs.Nets.{counter_of, net_width}
use Rattle.net_model.specs.Widths.{IsTyped, NetFits, StorageFits}
use Rattle.fault_sim.specs.Faulty.{IsFault}

module _ (netlist : Netlist) where
  some_net : (storages : List Storage) (counter : ℕ) → AllByRecursion (StorageFits netlist) storages → IsCounter (slice_get storages counter) → 0 < length netlist.nets
  some_net [] counter h k = absurd k
  some_net (Register name width input when ∷ storages) counter h k = omega (arith, h.0.0.0)
  some_net (Memory cells ∷ storages) counter h k = omega (arith, h.0.0.0)
  some_net (File cells ∷ storages) counter h k = omega (arith, h.0.0.0)

  first_bit : (nets : List Net) → 0 < length nets → NetFits netlist (slice_get nets 0) → 0 < net_width (slice_get nets 0)
  first_bit [] h k = absurd (omega (arith, h))
  first_bit (net ∷ nets) h k = omega (arith, k.0)

  pub first_fault : (order : List ℕ) → KeepsRules netlist order → IsTyped netlist → IsFault netlist (record { net = 0; bit = 0; value = false })
  first_fault order keeps typed =
      let some : 0 < length netlist.nets = some_net netlist.storages (counter_of netlist.codes) typed.storages keeps.roles.counter in
      record { net = some; bit = first_bit netlist.nets some (typed.nets 0) }
