-- A worked processor with two data memories, of the fourth edition: its words, its items and what is
-- special in them, and the limits of its edition.
use Rattle.std.specs.Prelude.{ℕ, ◌≡◌, refl, List, [], ◌∷◌, map, Some, None, codes}
use Rattle.rec_bits.specs.declared.operator.Op2.TheVariants.{Add}
use Rattle.grammar.specs.declared.words.Ident.{Ident}
use Rattle.grammar.specs.declared.words.Word.TheVariants.{Name, Number, Symbol as Shows, Key as Keyed}
use Rattle.net_model.specs.declared.words.Key.TheVariants.{Item}
use Rattle.net_model.specs.declared.words.ItemWord.TheVariants.{Bank as ItemBank}
use Rattle.net_model.specs.declared.words.Symbol.TheVariants.{Version}
use Rattle.net_model.specs.declared.hardware.Space.TheVariants.{Memory as InMemory, File as InFile}
use Rattle.net_model.specs.declared.fault.NetFault.TheVariants.{Limit}
use Rattle.net_model.specs.declared.fault.NetKind.TheVariants.{Cells}
use Rattle.net_model.specs.declared.units.RegisterKind.TheVariants.{Plain}
use Rattle.net_model.specs.Editions.{Lexed, edited, Word as Spelled}
use Rattle.net_model.specs.Elaborated.{files_from, lone_bank, netlist_in, special_in}
use Rattle.net_model.specs.Grammar.{no_write}
use Rattle.net_model.specs.LimitRules.{limit_fault}
use Rattle.net_model.specs.CheckedRules.{HasBank, file_addrs}
use Rattle.net_model.specs.Written.{UnitModel, NetExprModel, case, code, const, memory, named, no_rest, no_rows, read, register, row}
use Rattle.net_model.specs.Written.{bin as sum_of}

abbrev tokens : List Spelled → List Lexed
tokens words = map (λ word. record { word = word; at = 0 }) words

-- in a text of the fourth edition `bank` is reserved, and `file` and `mode` are names
pub fourth_words : edited (tokens (Name (codes "version") ∷ Number 4 ∷ Name (codes "bank") ∷ Name (codes "file") ∷ Name (codes "mode") ∷ []))
    ≡ tokens (Shows Version ∷ Number 4 ∷ Keyed (Item ItemBank) ∷ Name (codes "file") ∷ Name (codes "mode") ∷ [])
fourth_words = refl

abbrev ident : List ℕ → ℕ → Ident
ident name at = record { name = name; at = at }

abbrev of : List ℕ → NetExprModel
of name = named (ident name 0) None None

abbrev bits : ℕ → ℕ → NetExprModel
bits hi lo = named (ident (codes "I") 0) None (Some (hi, lo))

-- a bank without `write`, at this offset
abbrev bank : ℕ → ℕ → UnitModel
bank at size =
    memory InFile (ident (codes "Y") at) 16 size 8 (no_write 16 8).0 (no_write 16 8).1.0 (no_write 16 8).1.1

-- version 4;
-- code I : 21 size 256 at PC;
-- register PC : 8 in case I[19] { 1: I[7:0]; 0: add(PC, 1#8); };
-- register A : 16 in add(X, T) when I[18];
-- register X : 16 in read(M, I[7:0]) when I[16];
-- register T : 16 in read(Y, I[15:8]) when I[17];
-- memory M : 16 size 256 addr 8 write A at I[7:0] when I[20];
-- bank Y : 16 size 256 addr 8;
abbrev pub y2_items : ℕ → List UnitModel
y2_items size =
    code (ident (codes "I") 17) 21 256 (ident (codes "PC") 0)
    ∷ register Plain (ident (codes "PC") 48) 8
    (case (bits 19 19) (row (1 ∷ []) (bits 7 0) (row (0 ∷ []) (sum_of Add (of (codes "PC")) (const 1 8)) no_rows)) no_rest) None
    ∷ register Plain (ident (codes "A") 112) 16 (sum_of Add (of (codes "X")) (of (codes "T"))) (Some (bits 18 18))
    ∷ register Plain (ident (codes "X") 153) 16 (read (ident (codes "M") 0) (bits 7 0)) (Some (bits 16 16))
    ∷ register Plain (ident (codes "T") 200) 16 (read (ident (codes "Y") 0) (bits 15 8)) (Some (bits 17 17))
    ∷ memory InMemory (ident (codes "M") 248) 16 256 8 (of (codes "A")) (bits 7 0) (Some (bits 20 20))
    ∷ bank 308 size ∷ []

-- the bank is a file behind the registers and the memory, and is what is special
pub y2_special : special_in 4 (y2_items 256) ≡ Some 5
y2_special = refl

-- without a bank nothing is, nor with two
pub no_bank : lone_bank (files_from 0 []) ≡ None
no_bank = refl

pub two_banks : special_in 4 (bank 0 1 ∷ bank 9 1 ∷ []) ≡ None
two_banks = refl

-- ---- limits: a bank may have as many cells as a memory, and counts among these

pub y2_kept : limit_fault 4 (y2_items 65536) ≡ None
y2_kept = refl

pub y2_over : limit_fault 4 (y2_items 65537) ≡ Some (Limit Cells 65537 65536)
y2_over = refl

-- ---- rules: the addresses of a bank may depend on a state

pub y2_addrs : file_addrs (netlist_in 4 (y2_items 256)) ≡ []
y2_addrs = refl

-- a netlist of the edition that has nothing special lacks the bank
pub bankless_breaks : HasBank (record (netlist_in 4 (y2_items 256)) { special = None }) → ⊥
bankless_breaks h = let k = h.special in absurd cc
