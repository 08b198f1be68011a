-- The temporary cells of a program are counted over its trees.
use Rattle.std.proofs.Common.{ℕ, ◌≡◌, ◌≤◌, ◌+◌, max, List, [], ◌∷◌, ◌++◌, Option, Some, None, ap, ◌∙◌, sym, arith, refl}
use Rattle.rec_bits.specs.declared.operator.Op2.TheVariants.{Add}
use Rattle.net_model.specs.Exprs.{expr_width}
use Rattle.src_model.specs.declared.program.Cmp.{Cmp}
use Rattle.src_model.specs.declared.program.Cmp.TheVariants.{Eq, Ne, Lt, Le, Gt, Ge, Slt, Sle, Sgt, Sge}
use Rattle.src_model.specs.declared.program.Var.{Var as Declared}
use Rattle.src_model.specs.Written.{SrcNodeModel, num, plain, bin as bin_of, SrcExprModel, SpotModel, node_at, StmtModel, assign, choice, while, count, StmtsModel, no_acts, act, ElseModel, without, otherwise, ProgramModel, stmts_of}
use Rattle.src_model.specs.Indexes.{number_of}
use Rattle.src_model.specs.Loops.{Round, place_shape}
use Rattle.src_model.specs.Meaning.{shape_width, operand_width}
use Rattle.src_model.specs.Fitting.{Fitting}
use Rattle.src_model.specs.Sizes.{value, assigned_root, indexed_root, compared as compared_roots, tested_roots, start_roots, step_roots, roots, roots_in, roots_else, greatest, is_word, side_parts, temps_of}
use Rattle.src_model.specs.Rules.{first_fault, temp_count}
use Rattle.src_model.specs.Inner.Sound.{Sound, SoundIn, SoundElse}
use Rattle.src_model.proofs.Measures.{greatest_append}
use Rattle.src_model.proofs.SoundLemmas.{program_sound}
use Rattle.form_model.specs.Forms.{cell, tested}
use Rattle.src_trees.specs.Lowered.{MemoryMap, JobModel, base_of, tree_of, element_destination, assigned_destination, compared_trees, job_of_step, stmt_jobs, jobs_in, jobs_else}
use Rattle.src_trees.specs.Flows.{program_jobs}
use Rattle.form_model.specs.WideNodes.{wide_nodes}
use Rattle.src_trees.specs.Measures.{trees_temps, most_temps}
use Rattle.src_trees.proofs.Meant.{tree_width}
use Rattle.src_trees.proofs.Measured.{same_part, sides_same, computed_wide}

most_append : (bits : ℕ) (xs ys : List JobModel) → most_temps bits (xs ++ ys) ≡ max (most_temps bits xs) (most_temps bits ys)
most_append bits [] ys = omega arith
most_append bits (x ∷ xs) ys = let h = most_append bits xs ys in omega (arith, h)

module _ (m : MemoryMap) (vars : List Declared) (some : 1 ≤ m.addr) where
  value_temps : (e : SrcNodeModel) (address : ℕ) → Fitting m.word m.word e → trees_temps m.word (cell address) (tree_of m m.word e ∷ []) ≡ temps_of m.word (value e)
  value_temps e address f = let b = (same_part m vars some m.word e f).below in omega (arith, b)

  assign_temps : (place : SpotModel) (e : SrcExprModel) → Fitting m.word m.word (place_shape place) → Fitting m.word m.word e.shape
      → trees_temps m.word (assigned_destination m place.name place.index) (tree_of m m.word e.shape ∷ []) ≡ temps_of m.word (assigned_root place.index e.shape)
  assign_temps place e fp fe = by place.index fp
    where
      stored_temps : (x : SrcNodeModel) (o : Option ℕ) → Fitting m.word m.word x → shape_width m.word m.word x ≡ m.word
          → trees_temps m.word (element_destination m place.name o (tree_of m m.word x)) (tree_of m m.word e.shape ∷ []) ≡ temps_of m.word (indexed_root o x e.shape)
      stored_temps x (Some n) f w = value_temps e.shape (base_of m.places place.name + n) fe
      stored_temps x None f w =
          let c = computed_wide m vars some place.name (tree_of m m.word x) (tree_width m m.word x f ∙ w) in
          let a = (same_part m vars some m.word x f).all in
          let b = (same_part m vars some m.word e.shape fe).all in
          omega (arith, c, a, b)

      by : (index : Option SrcExprModel) → Fitting m.word m.word (node_at place.name place.at index) → trees_temps m.word (assigned_destination m place.name index) (tree_of m m.word e.shape ∷ []) ≡ temps_of m.word (assigned_root index e.shape)
      by None fp = value_temps e.shape (base_of m.places place.name) fe
      by (Some x) fp = stored_temps x.shape (number_of x.shape) fp.0 fp.1

  -- a comparison, either way round
  compared_temps : (cmp : Cmp) (x y : SrcNodeModel) → Fitting m.word (operand_width m.word x y) x → Fitting m.word (operand_width m.word x y) y → shape_width m.word (operand_width m.word x y) x ≡ operand_width m.word x y
      → trees_temps m.word tested (compared_trees cmp (operand_width m.word x y) (tree_of m (operand_width m.word x y) x) (tree_of m (operand_width m.word x y) y)) ≡ greatest (temps_of m.word) (compared_roots cmp x y)
  compared_temps cmp x y f g w =
      let s = sides_same m vars some x y f g in
      by cmp s.0 (ap (is_word m.word) (tree_width m (operand_width m.word x y) x f ∙ w)) (ap (is_word m.word) s.1)
    where
      by : (cmp : Cmp) → wide_nodes m.word (tree_of m (operand_width m.word x y) x) + wide_nodes m.word (tree_of m (operand_width m.word x y) y) ≡ (side_parts m.word x y).below
          → is_word m.word (expr_width (tree_of m (operand_width m.word x y) x)) ≡ is_word m.word (operand_width m.word x y) → is_word m.word (side_parts m.word x y).width ≡ is_word m.word (operand_width m.word x y)
          → trees_temps m.word tested (compared_trees cmp (operand_width m.word x y) (tree_of m (operand_width m.word x y) x) (tree_of m (operand_width m.word x y) y)) ≡ greatest (temps_of m.word) (compared_roots cmp x y)
      by Eq s o p = omega (arith, s, o, p)
      by Ne s o p = omega (arith, s, o, p)
      by Lt s o p = omega (arith, s)
      by Ge s o p = omega (arith, s)
      by Gt s o p = omega (arith, s)
      by Le s o p = omega (arith, s)
      by Slt s o p = omega (arith, s)
      by Sge s o p = omega (arith, s)
      by Sgt s o p = omega (arith, s)
      by Sle s o p = omega (arith, s)

  -- ---- statements

  mutual
    stmt_temps : (rounds : List Round) (a : StmtModel) → Sound m.word vars rounds a → most_temps m.word (stmt_jobs m a) ≡ greatest (temps_of m.word) (roots a)
    stmt_temps rounds (assign place e) f = let h = assign_temps place e f.left.fits f.right.fits in omega (arith, h)
    stmt_temps rounds (choice test taken other) f =
        let h = compared_temps test.cmp test.left.shape test.right.shape f.0.sides.left f.0.sides.right f.0.sides.left_width in
        let t = in_temps rounds taken f.1 in
        let o = else_temps rounds other f.2 in
        let n = most_append m.word (jobs_in m taken) (jobs_else m other) in
        let g = greatest_append (temps_of m.word) (tested_roots test ++ roots_in taken) (roots_else other) in
        let k = greatest_append (temps_of m.word) (tested_roots test) (roots_in taken) in
        omega (arith, h, t, o, n, g, k)
    stmt_temps rounds (while test body) f =
        let h = compared_temps test.cmp test.left.shape test.right.shape f.0.sides.left f.0.sides.right f.0.sides.left_width in
        let t = in_temps rounds body f.1 in
        let k = greatest_append (temps_of m.word) (tested_roots test) (roots_in body) in
        omega (arith, h, t, k)
    stmt_temps rounds (count counter at from to body) f =
        let order = f.0.fits.order in
        let below = f.0.fits.below in
        let a = value_temps (num from) (base_of m.places counter) (omega (arith, order, below)) in
        let h = compared_temps Ne (plain counter at) (num (to + 1)) tt below refl in
        let t = in_temps (record { counter = counter; from = from; to = to } ∷ rounds) body f.1 in
        let b = value_temps (bin_of Add at (plain counter at) at (num 1)) (base_of m.places counter) (tt, omega (arith, below), refl, refl) in
        let n = most_append m.word (jobs_in m body) (job_of_step m counter ∷ []) in
        let g = greatest_append (temps_of m.word) (start_roots counter at from to ++ roots_in body) (step_roots counter at) in
        let k = greatest_append (temps_of m.word) (start_roots counter at from to) (roots_in body) in
        omega (arith, a, h, t, b, n, g, k)

    in_temps : (rounds : List Round) (list : StmtsModel) → SoundIn m.word vars rounds list → most_temps m.word (jobs_in m list) ≡ greatest (temps_of m.word) (roots_in list)
    in_temps rounds no_acts f = refl
    in_temps rounds (act a rest) f =
        let h = stmt_temps rounds a f.0 in
        let t = in_temps rounds rest f.1 in
        omega (arith, h, t, most_append m.word (stmt_jobs m a) (jobs_in m rest), greatest_append (temps_of m.word) (roots a) (roots_in rest))

    else_temps : (rounds : List Round) (o : ElseModel) → SoundElse m.word vars rounds o → most_temps m.word (jobs_else m o) ≡ greatest (temps_of m.word) (roots_else o)
    else_temps rounds without f = refl
    else_temps rounds (otherwise body) f = in_temps rounds body f

-- the temporary cells of a program that keeps the rules are those that one of its trees may need
pub program_temps : (m : MemoryMap) (l : ProgramModel) → first_fault m.word l ≡ None → 1 ≤ m.addr → temp_count m.word l ≡ most_temps m.word (program_jobs m l)
program_temps m l kept some = sym (in_temps m l.vars some [] (stmts_of l.body) (program_sound m.word l kept))
