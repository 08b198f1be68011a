-- The addresses of memories.
use Rattle.std.specs.Prelude.{ℕ, Option, Some, None}
use Rattle.net_model.specs.declared.hardware.Storage.{Storage}
use Rattle.net_model.specs.declared.hardware.Storage.TheVariants.{Register, Memory, File}

-- the bits of an address of a memory, and 0 where there is none
abbrev pub storage_addr_bits : Option Storage → ℕ
storage_addr_bits None = 0
storage_addr_bits (Some (Register name width input when)) = 0
storage_addr_bits (Some (Memory cells)) = cells.addr_width
storage_addr_bits (Some (File cells)) = 0
