-- The nodes that are counted of a program are those of its trees.
use Rattle.std.proofs.Common.{ℕ, ◌≡◌, ◌≤◌, ◌<◌, ◌+◌, ◌-◌, max, nat_lt, Bool, true, false, if◌then◌else◌, List, [], ◌∷◌, ◌++◌, Option, Some, None, arith, refl}
use Rattle.std.proofs.lemmas.Bool.Decides.{nat_tests}
use Rattle.rec_bits.specs.declared.operator.Op2.TheVariants.{Add}
use Rattle.net_model.specs.declared.hardware.Space.TheVariants.{Memory as InMemory}
use Rattle.net_model.specs.Exprs.{ExprModel, const, read, bin, slice}
use Rattle.src_model.specs.declared.program.Cmp.{Cmp}
use Rattle.src_model.specs.declared.program.Cmp.TheVariants.{Eq, Ne, Lt, Le, Gt, Ge, Slt, Sle, Sgt, Sge}
use Rattle.src_model.specs.Written.{SrcNodeModel, num, plain, element, un as un_of, bin as bin_of, zext as zext_of, sext as sext_of, low, SrcExprModel, SrcTestModel, StmtModel, assign, choice, while, count, StmtsModel, no_acts, act, ElseModel, without, otherwise, ProgramModel, stmts_of}
use Rattle.src_model.specs.Indexes.{number_of}
use Rattle.src_model.specs.Meaning.{operand_width}
use Rattle.src_model.specs.Sizes.{Root, assigned_root, indexed_root, compared as compared_roots, tested_roots, start_roots, step_roots, roots, roots_in, roots_else, greatest, read_nodes, nodes, nodes_of}
use Rattle.src_model.specs.Rules.{node_count}
use Rattle.src_model.proofs.Measures.{greatest_append}
use Rattle.form_model.specs.Forms.{tested}
use Rattle.src_trees.specs.Lowered.{MemoryMap, JobModel, base_of, narrowed, element_address, tree_of, element_destination, assigned_destination, compared_trees, job_of_step, stmt_jobs, jobs_in, jobs_else}
use Rattle.src_trees.specs.Flows.{program_jobs}
use Rattle.src_trees.specs.Measures.{node_size, trees_nodes, most_nodes}

most_append : (xs ys : List JobModel) → most_nodes (xs ++ ys) ≡ max (most_nodes xs) (most_nodes ys)
most_append [] ys = omega arith
most_append (x ∷ xs) ys = let h = most_append xs ys in omega (arith, h)

-- so many nodes are counted: as many where addresses are narrower than words, and else at least as
-- many
record Counts (addr word has counted : ℕ) : Type 0 where
  most : has ≤ counted
  same : addr < word → has ≡ counted

module _ (m : MemoryMap) where
  abbrev Has : ℕ → ℕ → Type 0
  Has has counted = Counts m.addr m.word has counted

  -- an address, and what is read there
  address_nodes : (t : ExprModel) (n v : ℕ) → Has (node_size t) n → Has (node_size (narrowed m (bin Add t (const m.word v)))) (3 + n)
  address_nodes t n v h = by (nat_lt m.addr m.word) refl
    where
      by : (b : Bool) → nat_lt m.addr m.word ≡ b → Has (node_size (if b then slice (bin Add t (const m.word v)) (m.addr - 1) 0 else bin Add t (const m.word v))) (3 + n)
      by true e = record { most = omega (arith, h.most); same = λ lt. omega (arith, h.same lt) }
      by false e = record { most = omega (arith, h.most); same = λ lt. (let far : m.word ≤ m.addr = grind (arith, nat_tests, e) in absurd (omega arith)) }

  read_counts : (t : ExprModel) (n v : ℕ) → Has (node_size t) n → Has (node_size (read InMemory (narrowed m (bin Add t (const m.word v))) m.word)) (4 + n)
  read_counts t n v h = by (nat_lt m.addr m.word) refl
    where
      by : (b : Bool) → nat_lt m.addr m.word ≡ b → Has (node_size (read InMemory (if b then slice (bin Add t (const m.word v)) (m.addr - 1) 0 else bin Add t (const m.word v)) m.word)) (4 + n)
      by true e = record { most = omega (arith, h.most); same = λ lt. omega (arith, h.same lt) }
      by false e = record { most = omega (arith, h.most); same = λ lt. (let far : m.word ≤ m.addr = grind (arith, nat_tests, e) in absurd (omega arith)) }

  element_counts : (name : List ℕ) (o : Option ℕ) (t : ExprModel) (n : ℕ) → Has (node_size t) n → Has (node_size (read InMemory (element_address m name o t) m.word)) (read_nodes o n)
  element_counts name (Some k) t n h = record { most = omega arith; same = λ lt. refl }
  element_counts name None t n h = read_counts t n (base_of m.places name) h

  -- expressions
  tree_counts : (asked : ℕ) (e : SrcNodeModel) → Has (node_size (tree_of m asked e)) (nodes e)
  tree_counts asked (num n) = record { most = omega arith; same = λ lt. refl }
  tree_counts asked (plain name at) = record { most = omega arith; same = λ lt. refl }
  tree_counts asked (element name at to x) = element_counts name (number_of x) (tree_of m m.word x) (nodes x) (tree_counts m.word x)
  tree_counts asked (un_of op at x) = let h = tree_counts asked x in record { most = omega (arith, h.most); same = λ lt. omega (arith, h.same lt) }
  tree_counts asked (bin_of op at x to y) =
      let h = tree_counts (operand_width m.word x y) x in
      let k = tree_counts (operand_width m.word x y) y in
      record { most = omega (arith, h.most, k.most); same = λ lt. omega (arith, h.same lt, k.same lt) }
  tree_counts asked (zext_of at x width) = let h = tree_counts m.word x in record { most = omega (arith, h.most); same = λ lt. omega (arith, h.same lt) }
  tree_counts asked (sext_of at x width) = let h = tree_counts m.word x in record { most = omega (arith, h.most); same = λ lt. omega (arith, h.same lt) }
  tree_counts asked (low at x width) = let h = tree_counts m.word x in record { most = omega (arith, h.most); same = λ lt. omega (arith, h.same lt) }

  -- ---- jobs

  stored_counts : (name : List ℕ) (o : Option ℕ) (x e : SrcNodeModel) → Has (trees_nodes (element_destination m name o (tree_of m m.word x)) (tree_of m m.word e ∷ [])) (nodes_of (indexed_root o x e))
  stored_counts name (Some n) x e = let h = tree_counts m.word e in record { most = omega (arith, h.most); same = λ lt. omega (arith, h.same lt) }
  stored_counts name None x e =
      let a = address_nodes (tree_of m m.word x) (nodes x) (base_of m.places name) (tree_counts m.word x) in
      let h = tree_counts m.word e in
      record { most = omega (arith, a.most, h.most); same = λ lt. omega (arith, a.same lt, h.same lt) }

  assign_counts : (name : List ℕ) (index : Option SrcExprModel) (e : SrcNodeModel) → Has (trees_nodes (assigned_destination m name index) (tree_of m m.word e ∷ [])) (nodes_of (assigned_root index e))
  assign_counts name None e = let h = tree_counts m.word e in record { most = omega (arith, h.most); same = λ lt. omega (arith, h.same lt) }
  assign_counts name (Some x) e = stored_counts name (number_of x.shape) x.shape e

  -- a comparison, either way round
  compared_counts : (cmp : Cmp) (width : ℕ) (x y : SrcNodeModel) → Has (trees_nodes tested (compared_trees cmp width (tree_of m width x) (tree_of m width y))) (greatest nodes_of (compared_roots cmp x y))
  compared_counts cmp width x y = by cmp (tree_counts width x) (tree_counts width y)
    where
      by : (cmp : Cmp) → Has (node_size (tree_of m width x)) (nodes x) → Has (node_size (tree_of m width y)) (nodes y)
          → Has (trees_nodes tested (compared_trees cmp width (tree_of m width x) (tree_of m width y))) (greatest nodes_of (compared_roots cmp x y))
      by Eq h k = record { most = omega (arith, h.most, k.most); same = λ lt. omega (arith, h.same lt, k.same lt) }
      by Ne h k = record { most = omega (arith, h.most, k.most); same = λ lt. omega (arith, h.same lt, k.same lt) }
      by Lt h k = record { most = omega (arith, h.most, k.most); same = λ lt. omega (arith, h.same lt, k.same lt) }
      by Le h k = record { most = omega (arith, h.most, k.most); same = λ lt. omega (arith, h.same lt, k.same lt) }
      by Gt h k = record { most = omega (arith, h.most, k.most); same = λ lt. omega (arith, h.same lt, k.same lt) }
      by Ge h k = record { most = omega (arith, h.most, k.most); same = λ lt. omega (arith, h.same lt, k.same lt) }
      by Slt h k = record { most = omega (arith, h.most, k.most); same = λ lt. omega (arith, h.same lt, k.same lt) }
      by Sle h k = record { most = omega (arith, h.most, k.most); same = λ lt. omega (arith, h.same lt, k.same lt) }
      by Sgt h k = record { most = omega (arith, h.most, k.most); same = λ lt. omega (arith, h.same lt, k.same lt) }
      by Sge h k = record { most = omega (arith, h.most, k.most); same = λ lt. omega (arith, h.same lt, k.same lt) }

  test_counts : (test : SrcTestModel) → Has (trees_nodes tested (compared_trees test.cmp (operand_width m.word test.left.shape test.right.shape) (tree_of m (operand_width m.word test.left.shape test.right.shape) test.left.shape) (tree_of m (operand_width m.word test.left.shape test.right.shape) test.right.shape))) (greatest nodes_of (tested_roots test))
  test_counts test = compared_counts test.cmp (operand_width m.word test.left.shape test.right.shape) test.left.shape test.right.shape

  -- ---- statements

  both_count : (xs ys : List JobModel) (p q : List Root) → Has (most_nodes xs) (greatest nodes_of p) → Has (most_nodes ys) (greatest nodes_of q) → Has (most_nodes (xs ++ ys)) (greatest nodes_of (p ++ q))
  both_count xs ys p q h k =
      let a = most_append xs ys in
      let b = greatest_append nodes_of p q in
      record { most = omega (arith, a, b, h.most, k.most); same = λ lt. omega (arith, a, b, h.same lt, k.same lt) }

  mutual
    stmt_counts : (a : StmtModel) → Has (most_nodes (stmt_jobs m a)) (greatest nodes_of (roots a))
    stmt_counts (assign place e) = let h = assign_counts place.name place.index e.shape in record { most = omega (arith, h.most); same = λ lt. omega (arith, h.same lt) }
    stmt_counts (choice test taken other) =
        let t = test_counts test in
        let b = in_counts taken in
        let o = else_counts other in
        let a = most_append (jobs_in m taken) (jobs_else m other) in
        let g = greatest_append nodes_of (tested_roots test ++ roots_in taken) (roots_else other) in
        let k = greatest_append nodes_of (tested_roots test) (roots_in taken) in
        record { most = omega (arith, t.most, b.most, o.most, a, g, k); same = λ lt. omega (arith, t.same lt, b.same lt, o.same lt, a, g, k) }
    stmt_counts (while test body) =
        let t = test_counts test in
        let b = in_counts body in
        let k = greatest_append nodes_of (tested_roots test) (roots_in body) in
        record { most = omega (arith, t.most, b.most, k); same = λ lt. omega (arith, t.same lt, b.same lt, k) }
    stmt_counts (count counter at from to body) =
        let t = compared_counts Ne (operand_width m.word (plain counter at) (num (to + 1))) (plain counter at) (num (to + 1)) in
        let b = in_counts body in
        let a = most_append (jobs_in m body) (job_of_step m counter ∷ []) in
        let g = greatest_append nodes_of (start_roots counter at from to ++ roots_in body) (step_roots counter at) in
        let k = greatest_append nodes_of (start_roots counter at from to) (roots_in body) in
        record { most = omega (arith, t.most, b.most, a, g, k); same = λ lt. omega (arith, t.same lt, b.same lt, a, g, k) }

    in_counts : (list : StmtsModel) → Has (most_nodes (jobs_in m list)) (greatest nodes_of (roots_in list))
    in_counts no_acts = record { most = omega arith; same = λ lt. refl }
    in_counts (act a rest) = both_count (stmt_jobs m a) (jobs_in m rest) (roots a) (roots_in rest) (stmt_counts a) (in_counts rest)

    else_counts : (o : ElseModel) → Has (most_nodes (jobs_else m o)) (greatest nodes_of (roots_else o))
    else_counts without = record { most = omega arith; same = λ lt. refl }
    else_counts (otherwise body) = in_counts body

-- the greatest count over a program's trees
pub program_most : (m : MemoryMap) (l : ProgramModel) → most_nodes (program_jobs m l) ≤ node_count l
program_most m l = (in_counts m (stmts_of l.body)).most

pub program_nodes : (m : MemoryMap) (l : ProgramModel) → m.addr < m.word → node_count l ≡ most_nodes (program_jobs m l)
program_nodes m l lt = (let e = (in_counts m (stmts_of l.body)).same lt in omega (arith, e))
