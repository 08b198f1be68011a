-- What a memory text says of a netlist's state. Each line is REGISTER VALUE, or MEMORY ADDRESS
-- VALUE or FILE ADDRESS VALUE, decimal without leading zeros; a later line for the same place
-- counts. What isn't named is 0, and nothing names the program counter, nor the register `still`,
-- where there is one. A line *sets* a register's entry or a cell of the memory or of the register
-- file to a value where it is the line that is written of it: the name, a space, for a cell its
-- address and a space, the value, LF. The register is neither the program counter nor the one that
-- the caller takes out, the mode for `go` and none for `run`; the address lies below the size, and
-- the value below 2 to its width. The lines lead, one after the other, from a state of zeros to
-- the one that bytes say; otherwise the fault is at the first line that sets nothing.
use Rattle.std.specs.Prelude.{ℕ, ◌^◌, ◌≡◌, ◌≢◌, ◌<◌, ◌⊎◌, List, [], ◌∷◌, ◌++◌, Option, Some, length, codes, slice_get, slice_set}
use Rattle.std.proofs.Math.ListN.{replicate}
use Rattle.std.specs.Fmt.{decimal}
use Rattle.std.specs.List.{AllByRecursion, concat}
use Rattle.rec_bits.specs.declared.fault.ParseFault.{ParseFault}
use Rattle.rec_bits.specs.declared.fault.ParseFault.TheVariants as fault
use Rattle.text_lines.specs.Lines.{lines_of}
use Rattle.net_model.specs.declared.hardware.Netlist.{Netlist}
use Rattle.net_model.specs.declared.hardware.Storage.{Storage}
use Rattle.net_model.specs.declared.hardware.Space.{Space}
use Rattle.net_model.specs.declared.hardware.Space.TheVariants.{Memory as InMemory, File as InFile}
use Rattle.net_model.specs.declared.states.State.{State}
use Rattle.net_model.specs.Nets.{counter_of, size_in, width_in, storage_bits, IsRegister}
use Rattle.net_model.specs.Texts.{name_of, space_name}

-- ---- lines

-- REGISTER VALUE
abbrev pub register_line : List ℕ → ℕ → List ℕ
register_line name value = concat (name ∷ codes " " ∷ decimal value ∷ codes "\n" ∷ [])

-- MEMORY ADDRESS VALUE, and so for a file
abbrev pub cell_line : List ℕ → ℕ → ℕ → List ℕ
cell_line name address value = concat (name ∷ codes " " ∷ decimal address ∷ codes " " ∷ decimal value ∷ codes "\n" ∷ [])

-- a name without spaces, as each in a text is
abbrev pub IsOneWord : List ℕ → Type 0
IsOneWord name = AllByRecursion (λ b. b ≢ 32) name

-- the line sets this register, which isn't the program counter and not `still`, to this value, which
-- fits it
pub record SetsRegister (netlist : Netlist) (still : Option ℕ) (line : List ℕ) (id value : ℕ) : Type 0 where
  pub register : IsRegister (slice_get netlist.storages id)
  pub other : id ≢ counter_of netlist.codes
  pub unnamed : still ≢ Some id
  pub name : IsOneWord (name_of netlist id)
  pub fits : value < 2 ^ storage_bits (slice_get netlist.storages id)
  pub line_is : line ≡ register_line (name_of netlist id) value

-- the line sets this cell of the memory, or of the file, to this value, which fits it
pub record SetsCell (netlist : Netlist) (line : List ℕ) (space : Space) (address value : ℕ) : Type 0 where
  pub within : address < size_in space netlist.storages
  pub name : IsOneWord (space_name netlist space)
  pub fits : value < 2 ^ width_in space netlist.storages
  pub line_is : line ≡ cell_line (space_name netlist space) address value

pub record SetsNothing (netlist : Netlist) (still : Option ℕ) (line : List ℕ) : Type 0 where
  pub no_register : (id value : ℕ) → SetsRegister netlist still line id value → ⊥
  pub no_cell : (space : Space) (address value : ℕ) → SetsCell netlist line space address value → ⊥

-- ---- states

-- the state with this value for a register, and for a cell
abbrev pub with_register : State → ℕ → ℕ → State
with_register s id value = record s { regs = slice_set s.regs id value }

abbrev pub with_cell : State → Space → ℕ → ℕ → State
with_cell s InMemory address value = record s { cells = slice_set s.cells address value }
with_cell s InFile address value = record s { file = slice_set s.file address value }

-- the line leads from one state to the other, by a register or by a cell
abbrev pub SetsLine : Netlist → Option ℕ → State → List ℕ → State → Type 0
SetsLine netlist still s line t =
    ((id : ℕ) × (value : ℕ) × SetsRegister netlist still line id value × (t ≡ with_register s id value))
    ⊎ ((space : Space) × (address : ℕ) × (value : ℕ) × SetsCell netlist line space address value
    × (t ≡ with_cell s space address value))

-- the lines, one after the other, do
abbrev pub AllLead : Netlist → Option ℕ → State → List (List ℕ) → State → Type 0
AllLead netlist still s [] t = s ≡ t
AllLead netlist still s (line ∷ lines) t = (next : State) × SetsLine netlist still s line next × AllLead netlist still next lines t

-- nothing but zeros: an entry for each storage, and the cells of the memory and of the file
abbrev pub blank : List Storage → State
blank storages = record {
  regs = replicate (length storages) 0;
  cells = replicate (size_in InMemory storages) 0;
  file = replicate (size_in InFile storages) 0;
}

-- ---- texts

-- the bytes are a memory text, which says this state
pub record IsMemoryText (netlist : Netlist) (still : Option ℕ) (bytes : List ℕ) (s : State) : Type 0 where
  pub lead : AllLead netlist still (blank netlist.storages) (lines_of bytes) s

-- The bytes aren't one: each line before this byte sets something, and the one that begins there
-- sets nothing.
pub record IsMemoryFault (netlist : Netlist) (still : Option ℕ) (bytes : List ℕ) (at : ℕ) : Type 0 where
  pub before : List (List ℕ)
  pub line : List ℕ
  pub after : List (List ℕ)
  pub state : State
  pub lines : lines_of bytes ≡ before ++ (line ∷ after)
  pub place : length (concat before) ≡ at
  pub good : AllLead netlist still (blank netlist.storages) before state
  pub bad : SetsNothing netlist still line

abbrev pub IsMemoryRefusal : Netlist → Option ℕ → List ℕ → ParseFault → Type 0
IsMemoryRefusal netlist still bytes (fault.Text at) = IsMemoryFault netlist still bytes at
IsMemoryRefusal netlist still bytes fault.Memory = Unit {0}
