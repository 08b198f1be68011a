-- Worked groups: their live registers, and what they do at one clock edge.
use Rattle.std.specs.Prelude.{◌≡◌, ℕ, true, false, [], ◌∷◌, refl}
use Rattle.net_model.specs.declared.hardware.Space.TheVariants.{Memory as InMemory, File as InFile}
use Rattle.net_model.specs.Exprs.{word, reg, read, slice, write, write_at}
use Rattle.form_model.specs.Effects.{Operation, group_effect, steps_effect}
use Rattle.form_model.specs.Live.{no_regs, live_before}
use Rattle.word_fit.specs.Fits.{group_stores}

-- register 1 takes the cell whose address is in register 2
abbrev loads : Operation
loads = record { storage = 1; space = InMemory; move = write (read InMemory (reg 2 8) 16); setting = 0 }

-- the cell whose address the low four bits of the word give takes register 1
abbrev stores : ℕ → Operation
stores setting = record { storage = 3; space = InMemory; move = write_at (slice (word 8) 3 0) (reg 1 16); setting = setting }

-- a register takes another one's value
abbrev copies : ℕ → ℕ → Operation
copies to from = record { storage = to; space = InMemory; move = write (reg from 16); setting = 0 }

abbrev as_is : Operation → Operation
as_is d = d

-- one clock edge swaps two registers, and one after the other the steps don't
swapped : (group_effect as_is (copies 0 1 ∷ copies 1 0 ∷ []) (record { regs = 5 ∷ 6 ∷ []; cells = []; file = [] })).regs
    ≡ 6 ∷ 5 ∷ []
swapped = refl

copied : (steps_effect as_is (copies 0 1 ∷ copies 1 0 ∷ []) (record { regs = 5 ∷ 6 ∷ []; cells = []; file = [] })).regs
    ≡ 6 ∷ 6 ∷ []
copied = refl

-- a step under a setting writes the cell that the setting names
stored : (group_effect as_is (stores 2 ∷ []) (record { regs = 5 ∷ 6 ∷ []; cells = 0 ∷ 0 ∷ 0 ∷ []; file = [] })).cells
    ≡ 0 ∷ 0 ∷ 6 ∷ []
stored = refl

-- before a store, what it reads is live, and what an earlier step writes isn't
live_read : live_before as_is ((stores 3 ∷ []) ∷ []) no_regs 1 ≡ true
live_read = refl

dead_written : live_before as_is ((loads ∷ []) ∷ (stores 3 ∷ []) ∷ []) no_regs 1 ≡ false
dead_written = refl

-- a register that a group both reads and writes is live before it
read_and_written : live_before as_is ((copies 0 1 ∷ copies 1 0 ∷ []) ∷ []) no_regs 1 ≡ true
read_and_written = refl

-- which groups write the memory
writes_memory : group_stores InMemory as_is (loads ∷ stores 3 ∷ []) ≡ true
writes_memory = refl

writes_none : group_stores InMemory as_is (loads ∷ []) ≡ false
writes_none = refl

-- a cell of the file, whose address the low bit of the word gives, takes a register: what writes the
-- file doesn't write the memory
abbrev puts : ℕ → Operation
puts setting = record { storage = 4; space = InFile; move = write_at (slice (word 8) 0 0) (reg 1 16); setting = setting }

put : (group_effect as_is (puts 1 ∷ []) (record { regs = 5 ∷ 6 ∷ []; cells = 0 ∷ 0 ∷ []; file = 0 ∷ 0 ∷ [] })).file
    ≡ 0 ∷ 6 ∷ []
put = refl

put_no_memory : group_stores InMemory as_is (puts 1 ∷ []) ≡ false
put_no_memory = refl

put_file : group_stores InFile as_is (puts 1 ∷ []) ≡ true
put_file = refl
