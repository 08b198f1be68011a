-- The words of each edition; and a small processor with a register file as a value: what its text
-- means, what its nets and storages do at worked words and states, and the faults of texts and
-- netlists like it.
use Rattle.std.specs.Prelude.{ℕ, ◌≡◌, refl, List, [], ◌∷◌, map, Some, None, codes}
use Rattle.rec_bits.specs.declared.operator.Op2.TheVariants.{Add}
use Rattle.rec_bits.specs.Faults.{least}
use Rattle.grammar.specs.declared.words.Ident.{Ident}
use Rattle.grammar.specs.declared.words.Word.TheVariants.{Name, Number, Symbol as Shows, Key as Keyed}
use Rattle.net_model.specs.declared.words.Key.TheVariants.{Item}
use Rattle.net_model.specs.declared.words.ItemWord.TheVariants.{File as ItemFile}
use Rattle.net_model.specs.declared.words.Symbol.TheVariants.{Version}
use Rattle.net_model.specs.Editions.{Lexed, edited, Word as Spelled}
use Rattle.net_model.specs.declared.fault.NetFault.TheVariants.{Limit}
use Rattle.net_model.specs.declared.fault.NetKind.TheVariants.{File as FileCells}
use Rattle.net_model.specs.declared.hardware.Space.TheVariants.{Memory as InMemory, File as InFile}
use Rattle.net_model.specs.declared.hardware.Netlist.{Netlist}
use Rattle.net_model.specs.declared.hardware.Net.{Net}
use Rattle.net_model.specs.declared.hardware.Storage.TheVariants.{Register, Memory, File}
use Rattle.net_model.specs.declared.hardware.Gate.{Gate}
use Rattle.net_model.specs.declared.hardware.Gate.TheVariants.{Word, Reg, Read, Const, Bin, Slice}
use Rattle.net_model.specs.declared.states.State.{State}
use Rattle.net_model.specs.Clock.{clock, run, Next, Reached}
use Rattle.net_model.specs.Elaborated.{netlist_in}
use Rattle.net_model.specs.LimitRules.{limit_fault}
use Rattle.net_model.specs.Meaning.{mean}
use Rattle.net_model.specs.NetFaults.{file_addr_offsets}
use Rattle.net_model.specs.Symbolic.{sym_of}
use Rattle.net_model.specs.Exprs.{cell, word, const, bin, slice, write_at}
use Rattle.net_model.specs.Transfers.{transfer_at, space_transfer}
use Rattle.net_model.specs.Value.{value_of}
use Rattle.net_model.specs.declared.units.RegisterKind.TheVariants.{Plain}
use Rattle.net_model.specs.Written.{UnitModel, NetExprModel, code, register, memory, named}
use Rattle.net_model.specs.Written.{bin as sum_of, const as number, read as read_of}

-- a net of an item at this place of the text
abbrev net_at : ℕ → ℕ → Gate → Net
net_at at width gate = record { width = width; name_at = at; gate = gate }

abbrev ident : List ℕ → ℕ → Ident
ident name at = record { name = name; at = at }

abbrev of : List ℕ → NetExprModel
of name = named (ident name 0) None None

abbrev of_range : List ℕ → ℕ → ℕ → NetExprModel
of_range name hi lo = named (ident name 0) None (Some (hi, lo))

abbrev bits : ℕ → ℕ → NetExprModel
bits = of_range (codes "I")

-- version 2;
-- code I : 5 size 4 at PC;
-- register PC : 2 in add(PC, 1#2);
-- file R : 4 size 3 addr 2 write add(read(R, I[3:2]), 1#4) at I[1:0];
-- memory M : 4 size 1 addr 1 write read(R, I[1:0]) at 0#1 when I[4];
abbrev f4_items : ℕ → NetExprModel → NetExprModel → List UnitModel
f4_items size at from =
    code (ident (codes "I") 16) 5 4 (ident (codes "PC") 0)
    ∷ register Plain (ident (codes "PC") 46) 2 (sum_of Add (of (codes "PC")) (number 1 2)) None
    ∷ memory InFile (ident (codes "R") 75) 4 size 2
    (sum_of Add (read_of (ident (codes "R") 0) (bits 3 2)) (number 1 4)) at None
    ∷ memory InMemory (ident (codes "M") 145) 4 1 1 (read_of (ident (codes "R") 0) from) (number 0 1)
    (Some (bits 4 4))
    ∷ []

abbrev pub f4 : Netlist
f4 = record {
  nets =
      net_at 16 5 (Word 0) ∷ net_at 46 2 (Const 1) ∷ net_at 46 2 (Bin Add 3 1) ∷ net_at 46 2 (Reg 0)
      ∷ net_at 75 2 (Slice 0 3 2) ∷ net_at 75 4 (Read 1 4) ∷ net_at 75 4 (Const 1) ∷ net_at 75 4 (Bin Add 5 6)
      ∷ net_at 75 2 (Slice 0 1 0)
      ∷ net_at 145 2 (Slice 0 1 0) ∷ net_at 145 4 (Read 1 9) ∷ net_at 145 1 (Const 0)
      ∷ net_at 145 1 (Slice 0 4 4) ∷ [];
  storages =
      Register (codes "PC") 2 2 None
      ∷ File (record { name = codes "R"; name_at = 75; width = 4; size = 3; addr_width = 2; value = 7; addr = 8; when = None })
      ∷ Memory (record { name = codes "M"; name_at = 145; width = 4; size = 1; addr_width = 1; value = 10; addr = 11; when = Some 12 })
      ∷ [];
  codes = record { name = codes "I"; bits = 5; words = 4; counter = 0 } ∷ [];
  edition = 2;
  special = None;
}

-- ---- words

abbrev tokens : List Spelled → List Lexed
tokens words = map (λ word. record { word = word; at = 0 }) words

-- `file` is a name in a text that doesn't begin with `version`
pub first_words : edited (tokens (Name (codes "file") ∷ Name (codes "version") ∷ [])) ≡ tokens (Name (codes "file") ∷ Name (codes "version") ∷ [])
first_words = refl

-- in one of the second edition both are reserved
pub second_words : edited (tokens (Name (codes "version") ∷ Number 2 ∷ Name (codes "file") ∷ Name (codes "files") ∷ []))
    ≡ tokens (Shows Version ∷ Number 2 ∷ Keyed (Item ItemFile) ∷ Name (codes "files") ∷ [])
second_words = refl

-- and where there is no edition of this number, `version` alone
pub other_words : edited (tokens (Name (codes "version") ∷ Number 5 ∷ Name (codes "file") ∷ []))
    ≡ tokens (Shows Version ∷ Number 5 ∷ Name (codes "file") ∷ [])
other_words = refl

-- ---- texts

pub f4_elaborated : netlist_in 2 (f4_items 3 (bits 1 0) (bits 1 0)) ≡ f4
f4_elaborated = refl

-- a file may have 32 cells; one more is too many, though a memory may have it
pub f4_limit : limit_fault 2 (f4_items 32 (bits 1 0) (bits 1 0)) ≡ None
f4_limit = refl

pub f4_over : limit_fault 2 (f4_items 33 (bits 1 0) (bits 1 0)) ≡ Some (Limit FileCells 33 32)
f4_over = refl

-- each address of the file depends on the word alone; a slice of the program counter is at fault at
-- the item whose net it is, the file or one that reads it, and the program counter itself at its
-- register
pub f4_static : file_addr_offsets f4 ≡ []
f4_static = refl

pub f4_slice : least (file_addr_offsets (netlist_in 2 (f4_items 3 (of_range (codes "PC") 1 0) (bits 1 0)))) ≡ Some 75
f4_slice = refl

pub f4_read : least (file_addr_offsets (netlist_in 2 (f4_items 3 (bits 1 0) (of_range (codes "PC") 1 0)))) ≡ Some 145
f4_read = refl

pub f4_counter : least (file_addr_offsets (netlist_in 2 (f4_items 3 (of (codes "PC")) (bits 1 0)))) ≡ Some 46
f4_counter = refl

-- ---- clocks

abbrev state : ℕ → List ℕ → ℕ → State
state counter file stored = record { regs = counter ∷ 0 ∷ 0 ∷ []; cells = stored ∷ []; file = file }

-- the word 06 puts cell 1 of the file plus 1 into its cell 2; 14 does so into cell 0, and stores
-- what cell 0 held
pub f4_adds : clock f4 (6 ∷ []) (state 0 (7 ∷ 8 ∷ 3 ∷ []) 5) ≡ Next (state 1 (7 ∷ 8 ∷ 9 ∷ []) 5)
f4_adds = refl

pub f4_stores : clock f4 (20 ∷ []) (state 0 (7 ∷ 8 ∷ 3 ∷ []) 5) ≡ Next (state 1 (9 ∷ 8 ∷ 3 ∷ []) 7)
f4_stores = refl

-- a cell past the file reads as 0, and writing one changes nothing
pub f4_past : value_of f4 (state 0 (7 ∷ 8 ∷ 9 ∷ []) 5) 12 5 ≡ 0
f4_past = refl

pub f4_writes_past : clock f4 (3 ∷ []) (state 0 (7 ∷ 8 ∷ 9 ∷ []) 5) ≡ Next (state 1 (7 ∷ 8 ∷ 9 ∷ []) 5)
f4_writes_past = refl

pub f4_runs : run f4 (6 ∷ 24 ∷ []) (state 0 (7 ∷ 9 ∷ 2 ∷ []) 5) 2 ≡ Reached (state 2 (11 ∷ 9 ∷ 10 ∷ []) 7)
f4_runs = refl

-- ---- symbolic values and transfers

pub f4_reads : sym_of f4 6 5 ≡ cell (slice (word 5) 3 2) 4
f4_reads = refl

pub f4_means : mean (cell (slice (word 5) 3 2) 4) (state 0 (7 ∷ 8 ∷ 9 ∷ []) 5) 6 ≡ 8
f4_means = refl

pub f4_moves : space_transfer f4 InFile 6 ≡ write_at (slice (word 5) 1 0) (bin Add (cell (slice (word 5) 3 2) 4) (const 4 1))
f4_moves = refl

pub f4_loads : transfer_at f4 22 2 ≡ write_at (const 1 0) (cell (slice (word 5) 1 0) 4)
f4_loads = refl
