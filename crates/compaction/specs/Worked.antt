-- Worked steps: which of them read what others write, and which have one destination.
use Rattle.std.specs.Prelude.{◌≡◌, ℕ, true, false, [], ◌∷◌, refl}
use Rattle.net_model.specs.declared.hardware.Space.TheVariants.{Memory as InMemory, File as InFile}
use Rattle.net_model.specs.Exprs.{word, reg, read, slice, write, write_at}
use Rattle.form_model.specs.Effects.{Operation}
use Rattle.compaction.specs.Packing.{all_differ, is_read_by, reads_across, shares_destination}

-- register 0 takes the cell whose address the low four bits of the word give
abbrev pub fetches : ℕ → Operation
fetches setting = record { storage = 0; space = InMemory; move = write (read InMemory (slice (word 8) 3 0) 16); setting = setting }

-- register 1 takes the cell whose address is in register 2
abbrev pub loads : Operation
loads = record { storage = 1; space = InMemory; move = write (read InMemory (reg 2 8) 16); setting = 0 }

-- the cell whose address the low four bits of the word give takes register 1
abbrev pub stores : ℕ → Operation
stores setting = record { storage = 3; space = InMemory; move = write_at (slice (word 8) 3 0) (reg 1 16); setting = setting }

abbrev pub as_is : Operation → Operation
as_is d = d

-- a store and a read at one address meet, and at two they don't
meet : reads_across as_is (stores 2 ∷ []) (fetches 2 ∷ []) ≡ true
meet = refl

pass : reads_across as_is (stores 2 ∷ []) (fetches 3 ∷ []) ≡ false
pass = refl

-- a read at an address that no setting tells may be anywhere
anywhere : reads_across as_is (stores 2 ∷ []) (loads ∷ []) ≡ true
anywhere = refl

-- a store reads the register that it stores
stored : reads_across as_is (loads ∷ []) (stores 2 ∷ []) ≡ true
stored = refl

read_after : is_read_by as_is loads (fetches 3 ∷ stores 2 ∷ []) ≡ true
read_after = refl

-- two stores have one destination, whatever their addresses
two_stores : all_differ as_is (stores 2 ∷ stores 3 ∷ []) ≡ false
two_stores = refl

two_registers : all_differ as_is (fetches 2 ∷ loads ∷ stores 3 ∷ []) ≡ true
two_registers = refl

same_register : shares_destination as_is (fetches 2) (loads ∷ fetches 3 ∷ []) ≡ true
same_register = refl

-- a cell of the file, whose address the low two bits of the word give, takes register 1
abbrev puts : ℕ → Operation
puts setting = record { storage = 4; space = InFile; move = write_at (slice (word 8) 1 0) (reg 1 16); setting = setting }

-- register 0 takes the cell whose address they give
abbrev gets : ℕ → Operation
gets setting = record { storage = 0; space = InMemory; move = write (read InFile (slice (word 8) 1 0) 16); setting = setting }

-- each cell of the file is a destination of its own, and the memory is another
two_cells : all_differ as_is (puts 1 ∷ puts 2 ∷ stores 1 ∷ []) ≡ true
two_cells = refl

one_cell : all_differ as_is (puts 1 ∷ stores 1 ∷ puts 1 ∷ []) ≡ false
one_cell = refl

-- a read of one cell passes a write of another, and of the memory
file_meets : reads_across as_is (puts 2 ∷ []) (gets 2 ∷ []) ≡ true
file_meets = refl

file_passes : reads_across as_is (puts 2 ∷ stores 1 ∷ []) (gets 1 ∷ []) ≡ false
file_passes = refl
