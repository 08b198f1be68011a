-- The trees of a program's jobs are trees, need at most the program's temporary cells, and are
-- small.
use Rattle.std.proofs.Common.{ℕ, ◌≡◌, ◌≤◌, ◌<◌, ◌+◌, ◌-◌, ◌*◌, Bool, true, false, nat_lt, if◌then◌else◌, List, [], ◌∷◌, ◌++◌, Option, Some, None, refl, sym, ◌∙◌, ap, arith, eq-eqb}
use Rattle.std.proofs.lemmas.Bool.{ne_eqb}
use Rattle.std.proofs.lemmas.Bool.Decides.{nat_tests}
use Rattle.rec_bits.specs.Operators.{result_width}
use Rattle.rec_bits.specs.declared.operator.Op2.TheVariants.{Add, Sub, Eq as Equal, Ltu, Lts}
use Rattle.rec_bits.specs.declared.operator.Op2.{Op2}
use Rattle.rec_bits.proofs.Booleans.{and_from}
use Rattle.src_model.specs.Written.{node_at}
use Rattle.src_model.proofs.Bounds.{rules_hold}
use Rattle.src_trees.specs.Flows.{program_jobs}
use Rattle.src_model.proofs.SoundLemmas.{program_sound}
use Rattle.net_model.specs.declared.hardware.Space.TheVariants.{Memory as InMemory}
use Rattle.net_model.specs.Exprs.{ExprModel, const, read, bin, slice, expr_width, size_of}
use Rattle.src_model.specs.declared.program.Cmp.{Cmp}
use Rattle.src_model.specs.declared.program.Cmp.TheVariants.{Eq, Ne, Lt, Le, Gt, Ge, Slt, Sle, Sgt, Sge}
use Rattle.src_model.specs.declared.program.Var.{Var as Declared}
use Rattle.src_model.specs.Written.{SrcNodeModel, num, plain, element, un as un_of, bin as bin_of, zext as zext_of, sext as sext_of, low, SrcExprModel, SpotModel, StmtModel, assign, choice, while, count, StmtsModel, no_acts, act, ElseModel, without, otherwise, ProgramModel, stmts_of}
use Rattle.src_model.specs.Widths.{is_literal}
use Rattle.src_model.specs.Indexes.{number_of}
use Rattle.src_model.specs.Loops.{Round, place_shape}
use Rattle.src_model.specs.Meaning.{shape_width, operand_width}
use Rattle.src_model.specs.Fitting.{Fitting}
use Rattle.src_model.specs.Sizes.{Root, value, assigned_root, indexed_root, compared as compared_roots, tested_roots, start_roots, step_roots, roots, roots_in, roots_else, greatest, nodes, nodes_of, read_nodes, is_word, node, all_of, part, read_part, sided, side_parts, temps_of}
use Rattle.src_model.specs.Rules.{first_fault, temp_count}
use Rattle.form_model.specs.Trees.{is_tree, is_number}
use Rattle.form_model.specs.Forms.{cell, tested}
use Rattle.src_trees.specs.Lowered.{MemoryMap, JobModel, base_of, narrowed, computed_address, element_address, tree_of, element_destination, assigned_destination, job_of_assign, compared_trees, job_of_step, stmt_jobs, jobs_in, jobs_else}
use Rattle.src_model.specs.Inner.Sound.{Sound, SoundIn, SoundElse}
use Rattle.form_model.specs.WideNodes.{wide_nodes, wide_below}
use Rattle.src_trees.specs.Measures.{TreesAre, IsSmall, AllSmall}
use Rattle.src_trees.proofs.Meant.{tree_width}

own_word : (bits : ℕ) → is_word bits bits ≡ 1
own_word bits = ap (λ b. if b then 1 else 0) (eq-eqb bits bits refl)

module _ (m : MemoryMap) (vars : List Declared) (some : 1 ≤ m.addr) where
  -- ---- trees

  narrowed_tree : (t : ExprModel) → is_tree t ≡ true → is_tree (narrowed m t) ≡ true
  narrowed_tree t h = by (nat_lt m.addr m.word)
    where
      by : (b : Bool) → is_tree (if b then slice t (m.addr - 1) 0 else t) ≡ true
      by true = h
      by false = h

  element_tree : (name : List ℕ) (o : Option ℕ) (t : ExprModel) → is_tree t ≡ true → is_tree (element_address m name o t) ≡ true
  element_tree name (Some n) t h = refl
  element_tree name None t h = narrowed_tree (bin Add t (const m.word (base_of m.places name))) (and_from _ _ h refl)

  pub is_tree_of : (asked : ℕ) (e : SrcNodeModel) → is_tree (tree_of m asked e) ≡ true
  is_tree_of asked (num n) = refl
  is_tree_of asked (plain name at) = refl
  is_tree_of asked (element name at to x) = element_tree name (number_of x) (tree_of m m.word x) (is_tree_of m.word x)
  is_tree_of asked (un_of op at x) = is_tree_of asked x
  is_tree_of asked (bin_of op at x to y) = and_from _ _ (is_tree_of (operand_width m.word x y) x) (is_tree_of (operand_width m.word x y) y)
  is_tree_of asked (zext_of at x width) = is_tree_of m.word x
  is_tree_of asked (sext_of at x width) = is_tree_of m.word x
  is_tree_of asked (low at x width) = is_tree_of m.word x

  -- ---- sizes

  narrowed_size : (t : ExprModel) → size_of (narrowed m t) ≤ size_of t + 1
  narrowed_size t = by (nat_lt m.addr m.word)
    where
      by : (b : Bool) → size_of (if b then slice t (m.addr - 1) 0 else t) ≤ size_of t + 1
      by true = omega arith
      by false = omega arith

  element_size : (name : List ℕ) (o : Option ℕ) (t : ExprModel) (n : ℕ) → size_of t ≤ 2 * n → size_of (element_address m name o t) + 1 ≤ 2 * read_nodes o n
  element_size name (Some k) t n h = omega arith
  element_size name None t n h = let s = narrowed_size (bin Add t (const m.word (base_of m.places name))) in omega (arith, s)

  pub tree_small : (asked : ℕ) (e : SrcNodeModel) → size_of (tree_of m asked e) ≤ 2 * nodes e
  tree_small asked (num n) = omega arith
  tree_small asked (plain name at) = omega arith
  tree_small asked (element name at to x) = element_size name (number_of x) (tree_of m m.word x) (nodes x) (tree_small m.word x)
  tree_small asked (un_of op at x) = let h = tree_small asked x in omega (arith, h)
  tree_small asked (bin_of op at x to y) = let h = tree_small (operand_width m.word x y) x in let k = tree_small (operand_width m.word x y) y in omega (arith, h, k)
  tree_small asked (zext_of at x width) = let h = tree_small m.word x in omega (arith, h)
  tree_small asked (sext_of at x width) = let h = tree_small m.word x in omega (arith, h)
  tree_small asked (low at x width) = let h = tree_small m.word x in omega (arith, h)

  -- ---- temporary cells

  narrowed_wide : (t : ExprModel) → wide_nodes m.word (narrowed m t) ≡ wide_nodes m.word t
  narrowed_wide t = by (nat_lt m.addr m.word) refl
    where
      by : (b : Bool) → nat_lt m.addr m.word ≡ b → wide_nodes m.word (if b then slice t (m.addr - 1) 0 else t) ≡ wide_nodes m.word t
      by true e =
          let lt : m.addr < m.word = grind (arith, nat_tests, e) in
          let one : 1 ≤ m.addr = some in
          let z : is_word m.word (m.addr - 1 + 1 - 0) ≡ 0 = ap (λ b. if b then 1 else 0) (ne_eqb (m.addr - 1 + 1 - 0) m.word (λ s. omega arith)) in
          omega (arith, z)
      by false e = refl

  pub computed_wide : (name : List ℕ) (t : ExprModel) → expr_width t ≡ m.word → wide_nodes m.word (computed_address m name t) ≡ 2 + wide_nodes m.word t
  computed_wide name t w =
      let n = narrowed_wide (bin Add t (const m.word (base_of m.places name))) in
      let o = own_word m.word in
      let p : is_word m.word (expr_width t) ≡ 1 = ap (is_word m.word) w ∙ o in
      omega (arith, n, o, p)

  -- a computed address is no literal
  computed_no_number : (name : List ℕ) (t : ExprModel) → is_number (computed_address m name t) ≡ false
  computed_no_number name t = by (nat_lt m.addr m.word)
    where
      by : (b : Bool) → is_number (if b then slice (bin Add t (const m.word (base_of m.places name))) (m.addr - 1) 0 else bin Add t (const m.word (base_of m.places name))) ≡ false
      by true = refl
      by false = refl

  -- the nodes of a tree as a part counts them: all of them, and those below the root
  pub record Same (t : ExprModel) (n b w : ℕ) : Type 0 where
    pub all : wide_nodes m.word t ≡ n
    pub below : wide_below m.word t ≡ b
    pub width : expr_width t ≡ w

  element_same : (name : List ℕ) (o : Option ℕ) (t : ExprModel) (x : SrcNodeModel) → expr_width t ≡ m.word → wide_nodes m.word t ≡ all_of (part m.word m.word x)
      → Same (read InMemory (element_address m name o t) m.word) (all_of (read_part m.word o (part m.word m.word x))) (read_part m.word o (part m.word m.word x)).below (read_part m.word o (part m.word m.word x)).width
  element_same name (Some n) t x w h = record { all = refl; below = refl; width = refl }
  element_same name None t x w h =
      let c = computed_wide name t w in
      let n = computed_no_number name t in
      record {
        all = ap (λ b. if b then 0 else is_word m.word m.word + wide_nodes m.word (computed_address m name t)) n ∙ omega (arith, c, h);
        below = ap (λ b. if b then 0 else wide_nodes m.word (computed_address m name t)) n ∙ omega (arith, c, h);
        width = refl;
      }

  -- the part at its own width
  at_own : (e : SrcNodeModel) → part m.word (shape_width m.word m.word e) e ≡ part m.word m.word e
  at_own (num n) = refl
  at_own (plain name at) = refl
  at_own (element name at to x) = refl
  at_own (un_of op at x) = ap (λ p. node m.word p.width (all_of p)) (at_own x)
  at_own (bin_of op at x to y) = refl
  at_own (zext_of at x width) = refl
  at_own (sext_of at x width) = refl
  at_own (low at x width) = refl

  part_width : (asked : ℕ) (e : SrcNodeModel) → (part m.word asked e).width ≡ shape_width m.word asked e
  part_width asked (num n) = refl
  part_width asked (plain name at) = refl
  part_width asked (element name at to x) = by (number_of x)
    where
      by : (o : Option ℕ) → (read_part m.word o (part m.word m.word x)).width ≡ m.word
      by (Some n) = refl
      by None = refl
  part_width asked (un_of op at x) = part_width asked x
  part_width asked (bin_of op at x to y) = by (is_literal x) (part_width m.word x) (part_width m.word y)
    where
      by : (b : Bool) → (part m.word m.word x).width ≡ shape_width m.word m.word x → (part m.word m.word y).width ≡ shape_width m.word m.word y
          → result_width op (sided b (part m.word m.word x) (part m.word m.word y) (λ w. part m.word w x) (λ w. part m.word w y)).width ≡ result_width op (if b then shape_width m.word m.word y else shape_width m.word m.word x)
      by true p q = ap (result_width op) q
      by false p q = ap (result_width op) p
  part_width asked (zext_of at x width) = refl
  part_width asked (sext_of at x width) = refl
  part_width asked (low at x width) = refl

  -- two operands at their common width
  sided_is : (x y : SrcNodeModel) (b : Bool) → is_literal x ≡ b
      → ((sided b (part m.word m.word x) (part m.word m.word y) (λ w. part m.word w x) (λ w. part m.word w y)).below ≡ all_of (part m.word (operand_width m.word x y) x) + all_of (part m.word (operand_width m.word x y) y))
      × ((sided b (part m.word m.word x) (part m.word m.word y) (λ w. part m.word w x) (λ w. part m.word w y)).width ≡ operand_width m.word x y)
  sided_is x y true e =
      let o : operand_width m.word x y ≡ shape_width m.word m.word y = ap (λ (b : Bool). if b then shape_width m.word m.word y else shape_width m.word m.word x) e in
      let q = part_width m.word y in
      let l : all_of (part m.word (part m.word m.word y).width x) ≡ all_of (part m.word (operand_width m.word x y) x) = ap (λ w. all_of (part m.word w x)) (q ∙ sym o) in
      let r : all_of (part m.word (operand_width m.word x y) y) ≡ all_of (part m.word m.word y) = ap (λ w. all_of (part m.word w y)) o ∙ ap all_of (at_own y) in
      (omega (arith, l, r), q ∙ sym o)
  sided_is x y false e =
      let o : operand_width m.word x y ≡ shape_width m.word m.word x = ap (λ (b : Bool). if b then shape_width m.word m.word y else shape_width m.word m.word x) e in
      let q = part_width m.word x in
      let r : all_of (part m.word (part m.word m.word x).width y) ≡ all_of (part m.word (operand_width m.word x y) y) = ap (λ w. all_of (part m.word w y)) (q ∙ sym o) in
      let l : all_of (part m.word (operand_width m.word x y) x) ≡ all_of (part m.word m.word x) = ap (λ w. all_of (part m.word w x)) o ∙ ap all_of (at_own x) in
      (omega (arith, l, r), q ∙ sym o)

  pub same_part : (asked : ℕ) (e : SrcNodeModel) → Fitting m.word asked e → Same (tree_of m asked e) (all_of (part m.word asked e)) (part m.word asked e).below (part m.word asked e).width
  same_part asked (num n) f = record { all = omega arith; below = refl; width = refl }
  same_part asked (plain name at) f = record { all = refl; below = refl; width = refl }
  same_part asked (element name at to x) f = element_same name (number_of x) (tree_of m m.word x) x (tree_width m m.word x f.0 ∙ f.1) (same_part m.word x f.0).all
  same_part asked (un_of op at x) f =
      let h = same_part asked x f in
      let w = h.width in
      let a = h.all in
      let o : is_word m.word (expr_width (tree_of m asked x)) ≡ is_word m.word (part m.word asked x).width = ap (is_word m.word) w in
      record { all = omega (arith, o, a); below = a; width = w }
  same_part asked (bin_of op at x to y) f =
      let h = same_part (operand_width m.word x y) x f.0 in
      let k = same_part (operand_width m.word x y) y f.1 in
      let s = sided_is x y (is_literal x) refl in
      let w : result_width op (expr_width (tree_of m (operand_width m.word x y) x)) ≡ result_width op (sided (is_literal x) (part m.word m.word x) (part m.word m.word y) (λ w. part m.word w x) (λ w. part m.word w y)).width =
      ap (result_width op) (tree_width m (operand_width m.word x y) x f.0 ∙ f.2 ∙ sym s.1) in
      let b : wide_nodes m.word (tree_of m (operand_width m.word x y) x) + wide_nodes m.word (tree_of m (operand_width m.word x y) y) ≡ (sided (is_literal x) (part m.word m.word x) (part m.word m.word y) (λ w. part m.word w x) (λ w. part m.word w y)).below =
      (let a = h.all in let c = k.all in let e = s.0 in omega (arith, a, c, e)) in
      let o = ap (is_word m.word) w in
      record { all = (λ j. o j + b j); below = b; width = w }
  same_part asked (zext_of at x width) f = let h = same_part m.word x f.0 in let a = h.all in record { all = omega (arith, a); below = a; width = refl }
  same_part asked (sext_of at x width) f = let h = same_part m.word x f.0 in let a = h.all in record { all = omega (arith, a); below = a; width = refl }
  same_part asked (low at x width) f =
      let h = same_part m.word x f.0 in
      let a = h.all in
      let le = f.1 in
      let w : width - 1 + 1 - 0 ≡ width = omega arith in
      let o : is_word m.word (width - 1 + 1 - 0) ≡ is_word m.word width = ap (is_word m.word) w in
      record { all = omega (arith, a, o); below = a; width = w }

  -- ---- jobs

  -- of two sides
  pub sides_same : (x y : SrcNodeModel) → Fitting m.word (operand_width m.word x y) x → Fitting m.word (operand_width m.word x y) y
      → (wide_nodes m.word (tree_of m (operand_width m.word x y) x) + wide_nodes m.word (tree_of m (operand_width m.word x y) y) ≡ (side_parts m.word x y).below) × ((side_parts m.word x y).width ≡ operand_width m.word x y)
  sides_same x y f g =
      let h = same_part (operand_width m.word x y) x f in
      let k = same_part (operand_width m.word x y) y g in
      let s = sided_is x y (is_literal x) refl in
      (let a = h.all in let c = k.all in let e = s.0 in omega (arith, a, c, e), s.1)

  module _ (t most : ℕ) where
    -- a comparison, either way round
    one_small : (op : Op2) (a b : ExprModel) (n : ℕ) → is_tree a ≡ true → is_tree b ≡ true → wide_nodes m.word a + wide_nodes m.word b ≤ t → size_of a + size_of b ≤ 2 * n → 1 + n ≤ most
        → TreesAre m.word t (2 * most) tested (bin op a b ∷ [])
    one_small op a b n p q h k l = (and_from _ _ p q, h, omega arith, tt)

    two_small : (w : ℕ) (a b : ExprModel) (n : ℕ) → is_tree a ≡ true → is_tree b ≡ true → expr_width a ≡ w → wide_nodes m.word a + wide_nodes m.word b + 2 * is_word m.word w ≤ t → size_of a + size_of b ≤ 2 * n → 3 + n ≤ most
        → TreesAre m.word t (2 * most) tested (bin Equal a b ∷ bin Equal (bin Sub a b) (const w 0) ∷ [])
    two_small w a b n p q e h k l =
        let o : is_word m.word (expr_width a) ≡ is_word m.word w = ap (is_word m.word) e in
        (and_from _ _ p q, omega arith, omega arith, (and_from _ _ (and_from _ _ p q) refl, omega (arith, o), omega arith, tt))

    compared_small : (cmp : Cmp) (x y : SrcNodeModel) → Fitting m.word (operand_width m.word x y) x → Fitting m.word (operand_width m.word x y) y → shape_width m.word (operand_width m.word x y) x ≡ operand_width m.word x y
        → greatest (temps_of m.word) (compared_roots cmp x y) ≤ t → greatest nodes_of (compared_roots cmp x y) ≤ most
        → TreesAre m.word t (2 * most) tested (compared_trees cmp (operand_width m.word x y) (tree_of m (operand_width m.word x y) x) (tree_of m (operand_width m.word x y) y))
    compared_small cmp x y f g w h k =
        by cmp (is_tree_of (operand_width m.word x y) x) (is_tree_of (operand_width m.word x y) y) (tree_width m (operand_width m.word x y) x f ∙ w) (sides_same x y f g) (tree_small (operand_width m.word x y) x) (tree_small (operand_width m.word x y) y) h k
      where
        by : (cmp : Cmp) → is_tree (tree_of m (operand_width m.word x y) x) ≡ true → is_tree (tree_of m (operand_width m.word x y) y) ≡ true → expr_width (tree_of m (operand_width m.word x y) x) ≡ operand_width m.word x y
            → (wide_nodes m.word (tree_of m (operand_width m.word x y) x) + wide_nodes m.word (tree_of m (operand_width m.word x y) y) ≡ (side_parts m.word x y).below) × ((side_parts m.word x y).width ≡ operand_width m.word x y)
            → size_of (tree_of m (operand_width m.word x y) x) ≤ 2 * nodes x → size_of (tree_of m (operand_width m.word x y) y) ≤ 2 * nodes y
            → greatest (temps_of m.word) (compared_roots cmp x y) ≤ t → greatest nodes_of (compared_roots cmp x y) ≤ most
            → TreesAre m.word t (2 * most) tested (compared_trees cmp (operand_width m.word x y) (tree_of m (operand_width m.word x y) x) (tree_of m (operand_width m.word x y) y))
        by Eq p q e s a b h k = let o = ap (is_word m.word) s.1 in two_small (operand_width m.word x y) _ _ (nodes x + nodes y) p q e (omega (arith, s.0, o)) (omega arith) (omega arith)
        by Ne p q e s a b h k = let o = ap (is_word m.word) s.1 in two_small (operand_width m.word x y) _ _ (nodes x + nodes y) p q e (omega (arith, s.0, o)) (omega arith) (omega arith)
        by Lt p q e s a b h k = one_small Ltu _ _ (nodes x + nodes y) p q (omega (arith, s.0)) (omega arith) (omega arith)
        by Ge p q e s a b h k = one_small Ltu _ _ (nodes x + nodes y) p q (omega (arith, s.0)) (omega arith) (omega arith)
        by Gt p q e s a b h k = one_small Ltu _ _ (nodes x + nodes y) q p (omega (arith, s.0)) (omega arith) (omega arith)
        by Le p q e s a b h k = one_small Ltu _ _ (nodes x + nodes y) q p (omega (arith, s.0)) (omega arith) (omega arith)
        by Slt p q e s a b h k = one_small Lts _ _ (nodes x + nodes y) p q (omega (arith, s.0)) (omega arith) (omega arith)
        by Sge p q e s a b h k = one_small Lts _ _ (nodes x + nodes y) p q (omega (arith, s.0)) (omega arith) (omega arith)
        by Sgt p q e s a b h k = one_small Lts _ _ (nodes x + nodes y) q p (omega (arith, s.0)) (omega arith) (omega arith)
        by Sle p q e s a b h k = one_small Lts _ _ (nodes x + nodes y) q p (omega (arith, s.0)) (omega arith) (omega arith)

    value_small : (e : SrcNodeModel) (address : ℕ) → Fitting m.word m.word e → temps_of m.word (value e) ≤ t → nodes_of (value e) ≤ most → IsSmall m.word t (2 * most) (record { destination = cell address; trees = tree_of m m.word e ∷ [] })
    value_small e address f h k =
        let s = same_part m.word e f in
        let b = s.below in
        let z = tree_small m.word e in
        record { destination = tt; trees = (is_tree_of m.word e, omega (arith, b), omega (arith, z), tt) }

    assign_small : (place : SpotModel) (e : SrcExprModel) → Fitting m.word m.word (place_shape place) → Fitting m.word m.word e.shape → temps_of m.word (assigned_root place.index e.shape) ≤ t → nodes_of (assigned_root place.index e.shape) ≤ most
        → IsSmall m.word t (2 * most) (job_of_assign m place e)
    assign_small place e fp fe h k = by place.index fp h k
      where
        stored_small : (x : SrcNodeModel) (o : Option ℕ) → Fitting m.word m.word x → shape_width m.word m.word x ≡ m.word → temps_of m.word (indexed_root o x e.shape) ≤ t → nodes_of (indexed_root o x e.shape) ≤ most
            → IsSmall m.word t (2 * most) (record { destination = element_destination m place.name o (tree_of m m.word x); trees = tree_of m m.word e.shape ∷ [] })
        stored_small x (Some n) f w h k = value_small e.shape (base_of m.places place.name + n) fe h k
        stored_small x None f w h k =
            let c = computed_wide place.name (tree_of m m.word x) (tree_width m m.word x f ∙ w) in
            let a = (same_part m.word x f).all in
            let b = (same_part m.word e.shape fe).all in
            let n = narrowed_size (bin Add (tree_of m m.word x) (const m.word (base_of m.places place.name))) in
            let y = tree_small m.word x in
            let z = tree_small m.word e.shape in
            record {
              destination = narrowed_tree (bin Add (tree_of m m.word x) (const m.word (base_of m.places place.name))) (and_from _ _ (is_tree_of m.word x) refl);
              trees = (is_tree_of m.word e.shape, omega (arith, c, a, b), omega (arith, n, y, z), tt);
            }

        by : (index : Option SrcExprModel) → Fitting m.word m.word (node_at place.name place.at index) → temps_of m.word (assigned_root index e.shape) ≤ t → nodes_of (assigned_root index e.shape) ≤ most
            → IsSmall m.word t (2 * most) (record { destination = assigned_destination m place.name index; trees = tree_of m m.word e.shape ∷ [] })
        by None fp h k = value_small e.shape (base_of m.places place.name) fe h k
        by (Some x) fp h k = stored_small x.shape (number_of x.shape) fp.0 fp.1 h k

    all_small : (xs ys : List JobModel) → AllSmall m.word t (2 * most) xs → AllSmall m.word t (2 * most) ys → AllSmall m.word t (2 * most) (xs ++ ys)
    all_small [] ys p q = q
    all_small (x ∷ xs) ys p q = (p.0, all_small xs ys p.1 q)

    greatest_parts : (f : Root → ℕ) (n : ℕ) (xs ys : List Root) → greatest f (xs ++ ys) ≤ n → (greatest f xs ≤ n) × (greatest f ys ≤ n)
    greatest_parts f n [] ys h = (omega arith, h)
    greatest_parts f n (x ∷ xs) ys h = let r = greatest_parts f n xs ys (omega arith) in (omega (arith, r), r.1)

    mutual
      stmt_small : (rounds : List Round) (a : StmtModel) → Sound m.word vars rounds a → greatest (temps_of m.word) (roots a) ≤ t → greatest nodes_of (roots a) ≤ most → AllSmall m.word t (2 * most) (stmt_jobs m a)
      stmt_small rounds (assign place e) f h k = (assign_small place e f.left.fits f.right.fits (omega arith) (omega arith), tt)
      stmt_small rounds (choice test taken other) f h k =
          let p = greatest_parts (temps_of m.word) t (tested_roots test ++ roots_in taken) (roots_else other) h in
          let p1 = greatest_parts (temps_of m.word) t (tested_roots test) (roots_in taken) p.0 in
          let q = greatest_parts nodes_of most (tested_roots test ++ roots_in taken) (roots_else other) k in
          let q1 = greatest_parts nodes_of most (tested_roots test) (roots_in taken) q.0 in (
            record { destination = tt; trees = compared_small test.cmp test.left.shape test.right.shape f.0.sides.left f.0.sides.right f.0.sides.left_width p1.0 q1.0 },
            all_small (jobs_in m taken) (jobs_else m other) (stmts_small rounds taken f.1 p1.1 q1.1) (else_small rounds other f.2 p.1 q.1),
          )
      stmt_small rounds (while test body) f h k =
          let p1 = greatest_parts (temps_of m.word) t (tested_roots test) (roots_in body) h in
          let q1 = greatest_parts nodes_of most (tested_roots test) (roots_in body) k in
          (record { destination = tt; trees = compared_small test.cmp test.left.shape test.right.shape f.0.sides.left f.0.sides.right f.0.sides.left_width p1.0 q1.0 }, stmts_small rounds body f.1 p1.1 q1.1)
      stmt_small rounds (count counter at from to body) f h k =
          let p = greatest_parts (temps_of m.word) t (start_roots counter at from to ++ roots_in body) (step_roots counter at) h in
          let p1 = greatest_parts (temps_of m.word) t (start_roots counter at from to) (roots_in body) p.0 in
          let q = greatest_parts nodes_of most (start_roots counter at from to ++ roots_in body) (step_roots counter at) k in
          let q1 = greatest_parts nodes_of most (start_roots counter at from to) (roots_in body) q.0 in
          let order = f.0.fits.order in
          let below = f.0.fits.below in (
            value_small (num from) (base_of m.places counter) (omega arith) (omega (arith, p1.0)) (omega (arith, q1.0)),
            (
              record { destination = tt; trees = compared_small Ne (plain counter at) (num (to + 1)) tt below refl (omega (arith, p1.0)) (omega (arith, q1.0)) },
              all_small (jobs_in m body) (job_of_step m counter ∷ []) (stmts_small _ body f.1 p1.1 q1.1)
                  (value_small (bin_of Add at (plain counter at) at (num 1)) (base_of m.places counter) (tt, omega arith, refl, refl) (omega (arith, p.1)) (omega (arith, q.1)), tt),
            ),
          )

      stmts_small : (rounds : List Round) (list : StmtsModel) → SoundIn m.word vars rounds list → greatest (temps_of m.word) (roots_in list) ≤ t → greatest nodes_of (roots_in list) ≤ most → AllSmall m.word t (2 * most) (jobs_in m list)
      stmts_small rounds no_acts f h k = tt
      stmts_small rounds (act a rest) f h k =
          let p = greatest_parts (temps_of m.word) t (roots a) (roots_in rest) h in
          let q = greatest_parts nodes_of most (roots a) (roots_in rest) k in
          all_small (stmt_jobs m a) (jobs_in m rest) (stmt_small rounds a f.0 p.0 q.0) (stmts_small rounds rest f.1 p.1 q.1)

      else_small : (rounds : List Round) (o : ElseModel) → SoundElse m.word vars rounds o → greatest (temps_of m.word) (roots_else o) ≤ t → greatest nodes_of (roots_else o) ≤ most → AllSmall m.word t (2 * most) (jobs_else m o)
      else_small rounds without f h k = tt
      else_small rounds (otherwise body) f h k = stmts_small rounds body f h k

-- the jobs of a program that keeps the rules
pub program_small : (m : MemoryMap) (l : ProgramModel) → first_fault m.word l ≡ None → 1 ≤ m.addr → AllSmall m.word (temp_count m.word l) 510 (program_jobs m l)
program_small m l kept some =
    stmts_small m l.vars some (temp_count m.word l) 255 [] (stmts_of l.body) (program_sound m.word l kept) (omega arith) (rules_hold m.word l kept).few_nodes
