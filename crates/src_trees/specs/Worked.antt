-- The flow, the jobs and the values of worked programs.
use Rattle.std.specs.Prelude.{ℕ, ◌≡◌, refl, true, false, List, [], ◌∷◌, Some, None}
use Rattle.rec_bits.specs.declared.operator.Op2.TheVariants.{Add, Sub, Eq as Equal, Ltu}
use Rattle.net_model.specs.declared.hardware.Space.TheVariants.{Memory as InMemory}
use Rattle.net_model.specs.Exprs.{const, read, bin, slice, sext}
use Rattle.src_model.specs.declared.program.Cmp.TheVariants.{Eq, Ne, Lt, Le}
use Rattle.src_model.specs.Written.{SrcNodeModel, num, plain, element, bin as bin_of, sext as sext_of, low, SrcExprModel, StmtModel, assign, choice, while, count, without, otherwise, stmts_of, ProgramModel}
use Rattle.form_model.specs.declared.flow.Flow.TheVariants.{Assign, Test, Jump, End}
use Rattle.form_model.specs.Forms.{cell, stored, tested}
use Rattle.src_model.specs.Rules.{node_count, temp_count}
use Rattle.src_trees.specs.Lowered.{MemoryMap, computed_address, tree_of, job_of_assign, job_of_test}
use Rattle.src_trees.specs.Flows.{asked, program_flow, program_jobs}
use Rattle.src_trees.specs.Seen.{memory_map, tree_value}
use Rattle.src_trees.specs.Doing.{done, AllAre}
use Rattle.src_trees.specs.Blocks.{continues}
use Rattle.src_trees.specs.Measures.{most_nodes, most_temps}

abbrev phrase : SrcNodeModel → SrcExprModel
phrase shape = record { at = 0; shape = shape }

abbrev a : List ℕ
a = 97 ∷ []

abbrev x : List ℕ
x = 120 ∷ []

abbrev into : List ℕ → SrcNodeModel → StmtModel
into name e = assign (record { name = name; at = 0; index = None }) (phrase e)

-- var a; while a != 0 { a = a - 1; }
abbrev counted : ProgramModel
counted = record {
  vars = record { name = a; at = 4; len = None } ∷ [];
  body =
      while (record { cmp = Ne; left = phrase (plain a 0); right = phrase (num 0) })
      (stmts_of (into a (bin_of Sub 0 (plain a 0) 0 (num 1)) ∷ [])) ∷ [];
}

counted_flow : program_flow counted ≡ Test 0 3 1 ∷ Assign 1 ∷ Jump 0 ∷ End ∷ []
counted_flow = refl

-- with three temporary cells, in words of 16 bits at addresses of 8
counted_jobs : program_jobs (memory_map 16 8 3 counted.vars) counted ≡
    record {
      destination = tested;
      trees = bin Equal (read InMemory (const 8 3) 16) (const 16 0)
          ∷ bin Equal (bin Sub (read InMemory (const 8 3) 16) (const 16 0)) (const 16 0) ∷ [];
    }
    ∷ record { destination = cell 3; trees = bin Sub (read InMemory (const 8 3) 16) (const 16 1) ∷ [] } ∷ []
counted_jobs = refl

-- var a, x[4]; for a = 0 to 2 { if x[a] < 5 { x[a] = x[3]; } else { } }
abbrev nested : ProgramModel
nested = record {
  vars = record { name = a; at = 4; len = None } ∷ record { name = x; at = 7; len = Some 4 } ∷ [];
  body =
      count a 0 0 2 (stmts_of (choice
      (record { cmp = Lt; left = phrase (element x 0 0 (plain a 0)); right = phrase (num 5) })
      (stmts_of (assign (record { name = x; at = 0; index = Some (phrase (plain a 0)) })
      (phrase (element x 0 0 (num 3))) ∷ []))
      (otherwise (stmts_of [])) ∷ [])) ∷ [];
}

-- the else part has its jump, over nothing
nested_flow : program_flow nested
    ≡ Assign 0 ∷ Test 1 7 2 ∷ Test 2 3 5 ∷ Assign 3 ∷ Jump 5 ∷ Assign 4 ∷ Jump 1 ∷ End ∷ []
nested_flow = refl

-- an index that isn't a literal is added to the array's address, in a word's width
nested_jobs : program_jobs (memory_map 16 8 3 nested.vars) nested ≡
    record { destination = cell 3; trees = const 16 0 ∷ [] }
    ∷ record {
      destination = tested;
      trees = bin Equal (read InMemory (const 8 3) 16) (const 16 3)
          ∷ bin Equal (bin Sub (read InMemory (const 8 3) 16) (const 16 3)) (const 16 0) ∷ [];
    }
    ∷ record {
      destination = tested;
      trees = bin Ltu (read InMemory (slice (bin Add (read InMemory (const 8 3) 16) (const 16 4)) 7 0) 16) (const 16 5) ∷ [];
    }
    ∷ record {
      destination = stored (slice (bin Add (read InMemory (const 8 3) 16) (const 16 4)) 7 0);
      trees = read InMemory (const 8 7) 16 ∷ [];
    }
    ∷ record { destination = cell 3; trees = bin Add (read InMemory (const 8 3) 16) (const 16 1) ∷ [] } ∷ []
nested_jobs = refl

-- three nodes below the read, and the literal beside it
nested_temps : most_temps 16 (program_jobs (memory_map 16 8 3 nested.vars) nested) ≡ 4
nested_temps = refl

nested_count : temp_count 16 nested ≡ 4
nested_count = refl

-- x[a] < 5: the comparison, the read with the four nodes of its address, and the number
nested_nodes : most_nodes (program_jobs (memory_map 16 8 3 nested.vars) nested) ≡ 7
nested_nodes = refl

nested_node_count : node_count nested ≡ 7
nested_node_count = refl

-- a test for equality has its second tree counted, too
counted_nodes : most_nodes (program_jobs (memory_map 16 8 3 counted.vars) counted) ≡ 5
counted_nodes = refl

counted_node_count : node_count counted ≡ 5
counted_node_count = refl

-- an address as wide as a cell is the sum itself
abbrev wide : MemoryMap
wide = memory_map 16 16 3 nested.vars

wide_address : computed_address wide x (const 16 1) ≡ bin Add (const 16 1) (const 16 4)
wide_address = refl

-- sext(low(a, 8) + 255, 16): a literal is as wide as the operand beside it
narrow_literal : tree_of wide 16 (sext_of 0 (bin_of Add 0 (low 0 (plain a 0) 8) 0 (num 255)) 16)
    ≡ sext (bin Add (slice (read InMemory (const 16 3) 16) 7 0) (const 8 255)) 16
narrow_literal = refl

-- a <= 5 is no 5 < a
at_most : job_of_test wide (record { cmp = Le; left = phrase (plain a 0); right = phrase (num 5) })
    ≡ record { destination = tested; trees = bin Ltu (const 16 5) (read InMemory (const 16 3) 16) ∷ [] }
at_most = refl

at_most_targets : asked Le 7 1 2 ≡ Test 7 2 1
at_most_targets = refl

-- ---- values: with a at 2, and x at 10, 20, 30, 40

abbrev cells : List ℕ
cells = 0 ∷ 0 ∷ 0 ∷ 2 ∷ 10 ∷ 20 ∷ 30 ∷ 40 ∷ []

-- x[a]
read_element : tree_value cells (tree_of (memory_map 16 8 3 nested.vars) 16 (element x 0 0 (plain a 0))) ≡ 30
read_element = refl

-- x[a] = x[3];
stored_element : done (job_of_assign (memory_map 16 8 3 nested.vars)
    (record { name = x; at = 0; index = Some (phrase (plain a 0)) })
    (phrase (element x 0 0 (num 3)))) cells
    ≡ 0 ∷ 0 ∷ 0 ∷ 2 ∷ 10 ∷ 20 ∷ 40 ∷ 40 ∷ []
stored_element = refl

-- both trees of a == 2
compared_twice : AllAre 1 cells (job_of_test (memory_map 16 8 3 nested.vars)
    (record { cmp = Eq; left = phrase (plain a 0); right = phrase (num 2) })).trees
compared_twice = (refl, (refl, tt))

-- if a == 1 { a = 2; } a = 3; a = 4;
abbrev joined : ProgramModel
joined = record {
  vars = counted.vars;
  body =
      choice (record { cmp = Eq; left = phrase (plain a 0); right = phrase (num 1) })
      (stmts_of (into a (num 2) ∷ [])) without
      ∷ into a (num 3) ∷ into a (num 4) ∷ [];
}

joined_flow : program_flow joined ≡ Test 0 1 2 ∷ Assign 1 ∷ Assign 2 ∷ Assign 3 ∷ End ∷ []
joined_flow = refl

-- the test enters at a = 3, so a block begins there, which a = 4 continues
block_begins : continues (program_flow joined) 2 ≡ false
block_begins = refl

block_goes_on : continues (program_flow joined) 3 ≡ true
block_goes_on = refl

-- a test whose targets are exchanged is another flow
wrong_targets : program_flow counted ≡ Test 0 1 3 ∷ Assign 1 ∷ Jump 0 ∷ End ∷ [] → ⊥
wrong_targets e = cc e
