-- The faults of small netlist texts, computed.
use Rattle.std.specs.Prelude.{ℕ, ◌≡◌, refl, List, [], ◌∷◌, ◌++◌, Some, None, codes, true, false}
use Rattle.rec_bits.specs.declared.operator.Op2.TheVariants.{Add}
use Rattle.grammar.specs.declared.words.Ident.{Ident}
use Rattle.net_model.specs.declared.hardware.Space.TheVariants.{Memory as InMemory}
use Rattle.net_model.specs.declared.fault.NetFault.TheVariants.{Duplicate, Unknown, Width, Driver, Limit}
use Rattle.net_model.specs.declared.fault.NetKind.TheVariants.{Cells, Words}
use Rattle.net_model.specs.declared.units.RegisterKind.TheVariants.{Plain}
use Rattle.net_model.specs.Written.{UnitModel, code, register, memory, net, module_item, part, NetExprModel, named, const, bin, cat, read, case, no_rows, row, no_rest}
use Rattle.net_model.specs.TextRules.{first_fault}

abbrev ident : List ℕ → ℕ → Ident
ident name at = record { name = name; at = at }

abbrev use_of : List ℕ → ℕ → NetExprModel
use_of name at = named (ident name at) None None

-- code I : 8 size 16 at PC;
-- register PC : 4 in case I[7] { 0: add(PC, 1#4); 1: I[3:0]; };
-- memory M : 5 size 4 addr 2 write I[4:0] at I[6:5];
abbrev control : ℕ → UnitModel
control number =
    register Plain (ident (codes "PC") 35) 4
    (case (named (ident (codes "I") 50) None (Some (7, 7)))
    (row (0 ∷ []) (bin Add (use_of (codes "PC") 64) (const 1 4))
    (row (number ∷ []) (named (ident (codes "I") 78) None (Some (3, 0))) no_rows))
    no_rest)
    None

abbrev cells : ℕ → ℕ → UnitModel
cells size top =
    memory InMemory (ident (codes "M") 97) 5 size 2 (named (ident (codes "I") 121) None (Some (top, 0)))
    (named (ident (codes "I") 131) None (Some (6, 5))) None

abbrev s8 : List UnitModel
s8 = code (ident (codes "I") 5) 8 16 (ident (codes "PC") 22) ∷ control 1 ∷ cells 4 4 ∷ []

kept : first_fault 1 s8 ≡ None
kept = refl

-- N1: the later of two registers, and of a port of each direction
two_registers : first_fault 1 (s8 ++ register Plain (ident (codes "PC") 150) 4 (use_of (codes "I") 160) None ∷ [])
    ≡ Some (Duplicate 150)
two_registers = refl

two_ports : first_fault 1 (module_item (ident (codes "D") 7)
    (record { output = false; name = ident (codes "a") 12; width = 1 }
    ∷ record { output = true; name = ident (codes "a") 23; width = 1 } ∷ []) [] ∷ [])
    ≡ Some (Duplicate 23)
two_ports = refl

-- N2: a name of nothing, also where its width is wrong too; a memory is no register, and a register
-- no memory
no_such_net : first_fault 1 (net (ident (codes "R") 4) 99 (use_of (codes "Q") 12) ∷ []) ≡ Some (Unknown 12)
no_such_net = refl

counter_is_memory : first_fault 1 (code (ident (codes "I") 5) 8 16 (ident (codes "M") 22) ∷ cells 4 4 ∷ [])
    ≡ Some (Unknown 22)
counter_is_memory = refl

reads_register : first_fault 1 (s8 ++ net (ident (codes "R") 152) 4 (read (ident (codes "PC") 165) (const 0 2)) ∷ [])
    ≡ Some (Unknown 165)
reads_register = refl

-- module D (in a : 1, out y : 2) { y = cat(a, a); }
abbrev doubled : NetExprModel → UnitModel
doubled value =
    module_item (ident (codes "D") 7)
    (record { output = false; name = ident (codes "a") 13; width = 1 }
    ∷ record { output = true; name = ident (codes "y") 24; width = 2 } ∷ [])
    ((ident (codes "y") 33, value) ∷ [])

abbrev both : NetExprModel
both = cat (use_of (codes "a") 41) (use_of (codes "a") 44)

abbrev linked : List ℕ → List (Ident × NetExprModel) → List UnitModel
linked output links =
    doubled both ∷ part (ident (codes "p") 55) (ident (codes "D") 59) links
    ∷ net (ident (codes "n") 80) 2 (named (ident (codes "p") 88) (Some (ident output 90)) None) ∷ []

abbrev link : Ident × NetExprModel
link = (ident (codes "a") 62, const 1 1)

part_kept : first_fault 1 (linked (codes "y") (link ∷ [])) ≡ None
part_kept = refl

input_is_no_output : first_fault 1 (linked (codes "a") (link ∷ [])) ≡ Some (Unknown 90)
input_is_no_output = refl

output_is_no_input : first_fault 1 (doubled (use_of (codes "y") 41) ∷ []) ≡ Some (Unknown 41)
output_is_no_input = refl

module_reads : first_fault 1 (s8 ++ doubled (read (ident (codes "M") 46) (use_of (codes "a") 49)) ∷ [])
    ≡ Some (Unknown 46)
module_reads = refl

-- N3: a slice that is one bit too long, a number that doesn't fit, and the first of two faults
too_long : first_fault 1 (code (ident (codes "I") 5) 8 16 (ident (codes "PC") 22) ∷ control 1 ∷ cells 4 5 ∷ [])
    ≡ Some (Width 97)
too_long = refl

too_great : first_fault 1 (code (ident (codes "I") 5) 8 16 (ident (codes "PC") 22) ∷ control 2 ∷ cells 4 5 ∷ [])
    ≡ Some (Width 35)
too_great = refl

wide_net : first_fault 1 (s8 ++ net (ident (codes "R") 152) 70 (use_of (codes "I") 165) ∷ []) ≡ Some (Width 152)
wide_net = refl

-- N4: a part without a link, with two links of one input, and a case with a number twice
no_link : first_fault 1 (linked (codes "y") []) ≡ Some (Driver 55)
no_link = refl

two_links : first_fault 1 (linked (codes "y") (link ∷ link ∷ [])) ≡ Some (Driver 55)
two_links = refl

no_equation : first_fault 1 (module_item (ident (codes "D") 7)
    (record { output = true; name = ident (codes "y") 24; width = 2 } ∷ []) [] ∷ [])
    ≡ Some (Driver 7)
no_equation = refl

number_twice : first_fault 1 (code (ident (codes "I") 5) 8 16 (ident (codes "PC") 22) ∷ control 0 ∷ cells 4 4 ∷ [])
    ≡ Some (Driver 35)
number_twice = refl

-- N11: a memory and a code that are too large
too_many_cells : first_fault 1
    (code (ident (codes "I") 5) 8 16 (ident (codes "PC") 22) ∷ control 1 ∷ cells 65537 4 ∷ [])
    ≡ Some (Limit Cells 65537 65536)
too_many_cells = refl

too_many_words : first_fault 1
    (code (ident (codes "I") 5) 8 65538 (ident (codes "PC") 22) ∷ control 1 ∷ cells 65536 4 ∷ [])
    ≡ Some (Limit Words 65538 65536)
too_many_words = refl
