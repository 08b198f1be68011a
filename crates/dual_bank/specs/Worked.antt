-- A text of a part, a layout of two memories, and the jobs of a worked program over both.
use Rattle.std.specs.Prelude.{ℕ, ◌≡◌, refl, Bool, true, false, List, [], ◌∷◌, Some, None}
use Rattle.rec_bits.specs.declared.operator.Op2.TheVariants.{Add}
use Rattle.net_model.specs.declared.hardware.Space.TheVariants.{Memory as InMemory}
use Rattle.net_model.specs.Exprs.{bin, const, read, slice, zext}
use Rattle.src_model.specs.declared.program.Var.{Var as Declared}
use Rattle.src_model.specs.Written.{num, plain, element, assign, ProgramModel}
use Rattle.form_model.specs.Forms.{cell, stored}
use Rattle.text_lines.specs.Fields.{line_end, parts_at}
use Rattle.dual_bank.specs.Parts.{newly_named}
use Rattle.dual_bank.specs.Layouts.{bank_cells, bank_layout, memory_cells}
use Rattle.dual_bank.specs.Banked.{jobs_of_banked, joined_memory}

abbrev a : List ℕ
a = 97 ∷ []

abbrev x : List ℕ
x = 120 ∷ []

abbrev y : List ℕ
y = 121 ∷ []

abbrev vars : List Declared
vars =
    record { name = a; at = 4; len = None } ∷ record { name = x; at = 7; len = Some 4 }
    ∷ record { name = y; at = 13; len = Some 2 } ∷ []

-- x is in the bank
abbrev in_bank : List Bool
in_bank = false ∷ true ∷ false ∷ []

-- var a, x[4], y[2]; y[a] = x[a]; x[3] = 5;
abbrev moved : ProgramModel
moved = record {
  vars = vars;
  body =
      assign (record { name = y; at = 0; index = Some (record { at = 0; shape = plain a 0 }) })
      (record { at = 0; shape = element x 0 0 (plain a 0) })
      ∷ assign (record { name = x; at = 0; index = Some (record { at = 0; shape = num 3 }) })
      (record { at = 0; shape = num 5 }) ∷ [];
}

-- the line `x` names the second variable, where nothing was named before
named : newly_named vars (false ∷ false ∷ false ∷ []) (120 ∷ 10 ∷ []) ≡ Some 1
unfolding line_end parts_at
named = refl

-- it names none a second time, and none without its LF
named_again : newly_named vars (false ∷ true ∷ false ∷ []) (120 ∷ 10 ∷ []) ≡ None
unfolding line_end parts_at
named_again = refl

not_ended : newly_named vars (false ∷ false ∷ false ∷ []) (120 ∷ []) ≡ None
unfolding line_end parts_at
not_ended = refl

-- five temporary cells, a and y behind them; x at the first address that is of the bank
laid : bank_layout 16 8 in_bank moved ≡ record {
  temps = 5;
  list =
      record { name = a; address = 5; len = 1 } ∷ record { name = x; address = 256; len = 4 }
      ∷ record { name = y; address = 6; len = 2 } ∷ [];
}
laid = refl

in_memory_three : memory_cells in_bank vars ≡ 3
in_memory_three = refl

in_bank_four : bank_cells in_bank vars ≡ 4
in_bank_four = refl

-- an index is added within its memory, and that of the bank put behind; numbers stay
moved_jobs : jobs_of_banked 8 (joined_memory 16 8 (bank_layout 16 8 in_bank moved).list) moved ≡
    record {
      destination = stored (zext (slice (bin Add (read InMemory (const 9 5) 16) (const 16 6)) 7 0) 9);
      trees = read InMemory
          (bin Add (zext (slice (bin Add (read InMemory (const 9 5) 16) (const 16 0)) 7 0) 9) (const 9 256)) 16 ∷ [];
    }
    ∷ record { destination = cell 259; trees = const 16 5 ∷ [] } ∷ []
moved_jobs = refl
