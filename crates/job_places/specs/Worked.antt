-- The places of the jobs of a program.
use Rattle.std.specs.Prelude.{ℕ, ◌+◌, ◌≡◌, refl, List, [], ◌∷◌, None}
use Rattle.src_model.specs.declared.program.Cmp.TheVariants.{Lt}
use Rattle.src_model.specs.Written.{num, SrcExprModel, StmtModel, assign, choice, count, otherwise, stmts_of, ProgramModel}
use Rattle.job_places.specs.Places.{program_job_places, job_place, assigned, chosen, started, counted, stepped}

abbrev a : List ℕ
a = 97 ∷ []

abbrev i : List ℕ
i = 105 ∷ []

abbrev number : ℕ → SrcExprModel
number at = record { at = at; shape = num 0 }

-- a = 0; at this offset
abbrev clear : ℕ → StmtModel
clear at = assign (record { name = a; at = at; index = None }) (number (at + 4))

-- for i = 0 to 3 { if 0 < 0 { a = 0; } else { a = 0; } }
abbrev worked : ProgramModel
worked = record {
  vars = [];
  body = count i 4 0 3 (stmts_of (choice (record { cmp = Lt; left = number 20; right = number 24 })
      (stmts_of (clear 28 ∷ [])) (otherwise (stmts_of (clear 44 ∷ []))) ∷ [])) ∷ [];
}

-- the test stands before both parts, and the counter is counted up behind them
worked_spots : program_job_places worked
    ≡ job_place 4 (started i) ∷ job_place 4 (counted i) ∷ job_place 20 chosen ∷ job_place 28 (assigned a) ∷ job_place 44 (assigned a)
    ∷ job_place 4 (stepped i) ∷ []
worked_spots = refl
