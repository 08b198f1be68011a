-- The addresses of memories, and the place of a variable.
use Rattle.std.specs.Prelude.{ℕ, ◌≡◌, Option, Some, None}
use Rattle.net_model.specs.declared.hardware.Storage.{Storage}
use Rattle.net_model.specs.declared.hardware.Storage.TheVariants.{Register, Memory, File}
use Rattle.src_model.specs.declared.program.Var.{Var as Declared}
use Rattle.src_model.specs.Meaning.{cells_in}
use Rattle.code_model.specs.declared.image.Place.{Place}

-- the bits of an address of a memory, and 0 where there is none
abbrev pub storage_addr_bits : Option Storage → ℕ
storage_addr_bits None = 0
storage_addr_bits (Some (Register name width input when)) = 0
storage_addr_bits (Some (Memory cells)) = cells.addr_width
storage_addr_bits (Some (File cells)) = 0

-- the place has the name of the variable and its cells
abbrev pub Stands : Place → Declared → Type 0
Stands place var = (place.name ≡ var.name) × (place.len ≡ cells_in var)
