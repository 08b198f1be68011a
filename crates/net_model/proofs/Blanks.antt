-- The state in which everything is 0 fits its netlist.
use Rattle.std.proofs.Common.{◌≡◌, ℕ, ◌<◌, ◌^◌, length, slice_get, slice_index}
use Rattle.std.proofs.Math.ListN.{replicate}
use Rattle.std.proofs.lemmas.List.{length-replicate}
use Rattle.std.proofs.lemmas.Nat.{pow_pos}
use Rattle.rec_bits.proofs.Lists.{zeros_at}
use Rattle.net_model.specs.declared.hardware.Netlist.{Netlist}
use Rattle.net_model.specs.declared.hardware.Space.TheVariants.{Memory as InMemory, File as InFile}
use Rattle.net_model.specs.MemoryText.{blank}
use Rattle.net_model.specs.Nets.{held, size_in, storage_bits, width_in}
use Rattle.net_model.specs.Widths.{IsState}
use Rattle.net_model.proofs.Spaces.{by_space}

pub zeros_below : (n w k : ℕ) → slice_index (replicate n 0) k < 2 ^ w
zeros_below n w k = rw zeros_at (pow_pos w)

pub blank_state : (netlist : Netlist) → IsState netlist (blank netlist.storages)
blank_state netlist = record {
  regs = length-replicate (length netlist.storages) 0;
  cells = by_space (λ space. length (held (blank netlist.storages) space) ≡ size_in space netlist.storages)
      (length-replicate (size_in InMemory netlist.storages) 0) (length-replicate (size_in InFile netlist.storages) 0);
  fits = record {
    regs = λ id. zeros_below (length netlist.storages) (storage_bits (slice_get netlist.storages id)) id;
    cells = by_space (λ space. (a : ℕ) → slice_index (held (blank netlist.storages) space) a < 2 ^ width_in space netlist.storages)
        (zeros_below (size_in InMemory netlist.storages) (width_in InMemory netlist.storages))
        (zeros_below (size_in InFile netlist.storages) (width_in InFile netlist.storages));
  };
}
