-- The lines of an explanation. Each ends with LF, and fields stand one space apart.
use Rattle.std.specs.Prelude.{ℕ, Bool, true, false, List, [], ◌∷◌, codes, map}
use Rattle.std.specs.List.{concat}
use Rattle.std.specs.Fmt.{decimal}
use Rattle.net_model.specs.declared.hardware.Netlist.{Netlist}
use Rattle.net_model.specs.Exprs.{ExprModel}
use Rattle.net_model.specs.Texts.{expr_text}
use Rattle.form_model.specs.Forms.{DestinationModel, cell, stored, into, filed, temporary, tested}
use Rattle.src_trees.specs.Lowered.{JobModel}
use Rattle.job_places.specs.Places.{RoleModel, assigned, chosen, repeated, started, counted, stepped, JobPlaceModel}
use Rattle.text_places.specs.Places.{column_at, line_at}
use Rattle.compile_command.specs.declared.fault.CompileFault.{CompileFault}
use Rattle.compile_command.specs.declared.fault.CompileFault.TheVariants.{NoCover, NoReach, ImageFull}

-- ---- a job

-- `LINE:COLUMN` of an offset in the program's text
abbrev pub place_text : List ℕ → ℕ → List ℕ
place_text src at = concat (decimal (line_at src at) ∷ codes ":" ∷ decimal (column_at src at) ∷ [])

-- what the job is; the three of a `for` come with its counter
abbrev pub duty_text : RoleModel → List ℕ
duty_text (assigned name) = concat (codes "assign " ∷ name ∷ [])
duty_text chosen = codes "if"
duty_text repeated = codes "while"
duty_text (started name) = concat (codes "for start " ∷ name ∷ [])
duty_text (counted name) = concat (codes "for test " ∷ name ∷ [])
duty_text (stepped name) = concat (codes "for step " ∷ name ∷ [])

-- `job NUMBER LINE:COLUMN DUTY`
abbrev pub job_line : List ℕ → ℕ → JobPlaceModel → List ℕ
job_line src number spot =
    concat (codes "job " ∷ decimal number ∷ codes " " ∷ place_text src spot.at ∷ codes " " ∷ duty_text spot.duty
    ∷ codes "\n" ∷ [])

-- a word before an expression
abbrev pub tree_line : Netlist → List ℕ → ExprModel → List ℕ
tree_line netlist word tree = concat (word ∷ codes " " ∷ expr_text netlist tree ∷ codes "\n" ∷ [])

-- the address of the cell that is assigned, where it is computed: `at ADDRESS`
abbrev pub aim_lines : Netlist → DestinationModel → List ℕ
aim_lines netlist (cell address) = []
aim_lines netlist (stored address) = tree_line netlist (codes "at") address
aim_lines netlist (into id) = []
aim_lines netlist filed = []
aim_lines netlist temporary = []
aim_lines netlist tested = []

-- a line for each tree behind a word
abbrev pub lines_of : Netlist → List ℕ → List ExprModel → List ℕ
lines_of netlist word trees = concat (map (tree_line netlist word) trees)

-- the job's tree, or its two: `tree TREE`
abbrev pub tree_lines : Netlist → List ExprModel → List ℕ
tree_lines netlist trees = lines_of netlist (codes "tree") trees

abbrev pub job_head : Netlist → List ℕ → ℕ → JobPlaceModel → JobModel → List ℕ
job_head netlist src number spot job =
    concat (job_line src number spot ∷ aim_lines netlist job.destination ∷ tree_lines netlist job.trees ∷ [])

-- ---- its cover

-- `cost COST`
abbrev pub cost_line : ℕ → List ℕ
cost_line cost = concat (codes "cost " ∷ decimal cost ∷ codes "\n" ∷ [])

-- `no cover`
abbrev pub bare_line : List ℕ
bare_line = codes "no cover\n"

-- a subtree that nothing makes: `lacks TREE`
abbrev pub lack_line : Netlist → ExprModel → List ℕ
lack_line netlist tree = tree_line netlist (codes "lacks") tree

-- what is told of a near form: `near ` and what follows it
abbrev pub near_line : List ℕ → List ℕ
near_line rest = concat (codes "near " ∷ rest ∷ codes "\n" ∷ [])

-- ---- the job by equal trees that have a cover

-- `equal TREE`, or of a test whose targets are exchanged `opposite TREE`
abbrev pub equal_word : (turned : Bool) → List ℕ
equal_word false = codes "equal"
equal_word true = codes "opposite"

-- the address, where it is computed, the tree, and the cost
abbrev pub equal_lines : Netlist → (turned : Bool) → JobModel → (cost : ℕ) → List ℕ
equal_lines netlist turned job cost =
    concat (aim_lines netlist job.destination ∷ lines_of netlist (equal_word turned) job.trees ∷ cost_line cost ∷ [])

-- ---- the end: what `compile` answers of the two texts

abbrev pub done_line : List ℕ
done_line = codes "done\n"

-- or its refusal, one of those that come behind NoJump
abbrev pub end_line : CompileFault → List ℕ
end_line (NoCover number) = concat (codes "error no cover " ∷ decimal number ∷ codes "\n" ∷ [])
end_line (NoReach bound reach) =
    concat (codes "error no reach " ∷ decimal bound ∷ codes " " ∷ decimal reach ∷ codes "\n" ∷ [])
end_line (ImageFull len size bound) =
    concat (codes "error image full " ∷ decimal len ∷ codes " " ∷ decimal size ∷ codes " "
    ∷ decimal bound ∷ codes "\n" ∷ [])
end_line _ = []
