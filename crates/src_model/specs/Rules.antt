-- The rules S1 to S6: each is the list of the offsets at which it is broken, and the fault is the
-- least of the first list that isn't empty.
use Rattle.std.specs.Prelude.{◌≡◌, ◌≤◌, ℕ, not, nat_lt, if◌then◌else◌, List, [], ◌++◌, Option, Some, None}
use Rattle.rec_bits.specs.Faults.{least, gather, offsets_if}
use Rattle.src_model.specs.declared.program.Program.{Program}
use Rattle.src_model.specs.declared.program.Var.{Var as Declared}
use Rattle.src_model.specs.declared.fault.SrcFault.{SrcFault}
use Rattle.src_model.specs.declared.fault.SrcFault.TheVariants.{Duplicate, Unknown, Width, Index, Counter, Limit}
use Rattle.src_model.specs.declared.fault.SrcKind.{SrcKind}
use Rattle.src_model.specs.declared.fault.SrcKind.TheVariants.{Length, Statements, Nodes}
use Rattle.src_model.specs.Written.{ProgramModel, model_of_program, stmts_of}
use Rattle.src_model.specs.Names.{declared, is_plain, repeats, unknown}
use Rattle.src_model.specs.Widths.{wide, whole, sides, misfit, empty_array}
use Rattle.src_model.specs.Loops.{LoopRuleModel, place_shape, breaks_in, counters}
use Rattle.src_model.specs.Indexes.{loose}
use Rattle.src_model.specs.Sizes.{roots_in, greatest, nodes_of, temps_of, statements_in, longest}
use Rattle.rec_bits.specs.Counts.{capped}
use Rattle.rec_bits.specs.Faults.{or_else}
use Rattle.rec_bits.specs.Faults.{fault_at}

-- S2, statement by statement: a counter is a plain variable
abbrev pub names : List Declared → LoopRuleModel
names vars = record {
  assigned = λ rounds place e. unknown vars (place_shape place) ++ unknown vars e.shape;
  tested = λ rounds test. unknown vars test.left.shape ++ unknown vars test.right.shape;
  counted = λ round at body. offsets_if (not (is_plain (declared vars round.counter))) at;
}

-- S3: a value is as wide as a word
abbrev pub widths : ℕ → LoopRuleModel
widths word = record {
  assigned =
      λ rounds place e. misfit (wide word word place.at (place_shape place))
      ++ misfit (whole word e.at (wide word word e.at e.shape));
  tested = λ rounds test. misfit (sides word test.left test.right);
  counted = λ round at body. [];
}

-- S4
abbrev pub indexes : List Declared → LoopRuleModel
indexes vars = record {
  assigned = λ rounds place e. loose vars rounds (place_shape place) ++ loose vars rounds e.shape;
  tested = λ rounds test. loose vars rounds test.left.shape ++ loose vars rounds test.right.shape;
  counted = λ round at body. [];
}

abbrev pub duplicate_names : ProgramModel → List ℕ
duplicate_names l = repeats [] l.vars

abbrev pub unknown_names : ProgramModel → List ℕ
unknown_names l = breaks_in (names l.vars) [] (stmts_of l.body)

abbrev pub bad_widths : ℕ → ProgramModel → List ℕ
bad_widths word l = gather empty_array l.vars ++ breaks_in (widths word) [] (stmts_of l.body)

abbrev pub bad_indexes : ProgramModel → List ℕ
bad_indexes l = breaks_in (indexes l.vars) [] (stmts_of l.body)

abbrev pub bad_counters : ℕ → ProgramModel → List ℕ
bad_counters word l = breaks_in (counters word) [] (stmts_of l.body)

-- S6: the counts
abbrev pub statement_count : ProgramModel → ℕ
statement_count l = statements_in (stmts_of l.body)

abbrev pub node_count : ProgramModel → ℕ
node_count l = greatest nodes_of (roots_in (stmts_of l.body))

-- the temporary cells: the greatest count over all trees
abbrev pub temp_count : ℕ → ProgramModel → ℕ
temp_count word l = greatest (temps_of word) (roots_in (stmts_of l.body))

abbrev pub above : SrcKind → ℕ → ℕ → Option SrcFault
above kind count bound = if nat_lt bound count then Some (Limit kind count bound) else None

-- the limits, in their order
abbrev pub beyond : ℕ → ℕ → ℕ → Option SrcFault
beyond lengths statements nodes =
    or_else (above Length lengths 65536) (or_else (above Statements statements 65536) (above Nodes nodes 255))

abbrev pub limits : ProgramModel → Option SrcFault
limits l = beyond (longest l.vars) (capped (statement_count l)) (capped (node_count l))

-- the first rule that is broken, at its least offset or with its count; None where S1 to S6 are
-- kept
abbrev pub first_fault : ℕ → ProgramModel → Option SrcFault
first_fault word l =
    or_else (fault_at Duplicate (least (duplicate_names l)))
    (or_else (fault_at Unknown (least (unknown_names l)))
    (or_else (fault_at Width (least (bad_widths word l)))
    (or_else (fault_at Index (least (bad_indexes l)))
    (or_else (fault_at Counter (least (bad_counters word l)))
    (limits l)))))

-- the rules S1 to S6 of a program, one by one
pub record RulesHold (word : ℕ) (l : ProgramModel) : Type 0 where
  pub names_once : duplicate_names l ≡ []
  pub names_known : unknown_names l ≡ []
  pub widths_fit : bad_widths word l ≡ []
  pub indexes_within : bad_indexes l ≡ []
  pub counters_kept : bad_counters word l ≡ []
  pub few_cells : longest l.vars ≤ 65536
  pub few_statements : statement_count l ≤ 65536
  pub few_nodes : node_count l ≤ 255

-- ---- checked programs

-- what a checked program is seen as
pub record Kept : Type 0 where
  pub program : Program
  pub width : ℕ

pub record KeepsSrcRules (width : ℕ) (program : Program) : Type 0 where
  pub some : 1 ≤ width
  pub most : width ≤ 64
  pub kept : first_fault width (model_of_program program) ≡ None
