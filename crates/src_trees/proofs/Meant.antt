-- The trees of expressions have the expressions' values.
use Rattle.std.proofs.Common.{ℕ, ◌≡◌, ◌≤◌, ◌<◌, ◌+◌, ◌-◌, ◌%◌, ◌^◌, lit<, Bool, true, false, if◌then◌else◌, nat_lt, List, length, Option, Some, None, refl, sym, ◌∙◌, ap, arith, slice_index}
use Rattle.std.proofs.Math.Nat.{mod-eq_of_lt, pow-le-pow_right}
use Rattle.std.proofs.lemmas.Bool.{ltb-true}
use Rattle.rec_bits.proofs.Booleans.{both}
use Rattle.rec_bits.specs.Operators.{apply1_of, apply2_of, sext_of as extended_of, result_width}
use Rattle.rec_bits.specs.declared.operator.Op2.TheVariants.{Add}
use Rattle.rec_bits.proofs.Bits.{low_slice}
use Rattle.net_model.specs.Exprs.{ExprModel, const, bin, slice, expr_width}
use Rattle.src_model.specs.declared.program.Var.{Var as Declared}
use Rattle.src_model.specs.Written.{SrcNodeModel, num, plain, element, un as un_of, bin as bin_of, zext as zext_of, sext as sext_of, low}
use Rattle.src_model.specs.Names.{declared, is_array}
use Rattle.src_model.specs.Indexes.{number_of, length_of}
use Rattle.src_model.specs.Meaning.{shape_width, operand_width, shape_value, cells_in, first_cell}
use Rattle.src_model.specs.Fitting.{Fitting}
use Rattle.src_trees.specs.Lowered.{MemoryMap, base_of, narrowed, computed_address, element_address, tree_of}
use Rattle.src_model.specs.Inside.{Known, is_inside}
use Rattle.src_trees.specs.Seen.{seen_store, tree_value, ReadsCells}
use Rattle.src_trees.specs.Held.{HoldsVars, HasCellRoom}
use Rattle.src_model.proofs.ValueLemmas.{number_value}
use Rattle.src_model.proofs.CellLemmas.{plain_var, array_var}
use Rattle.src_trees.proofs.Cells.{base_within, seen_at}

module _ (m : MemoryMap) where
  -- ---- widths

  pub tree_width : (asked : ℕ) (e : SrcNodeModel) → Fitting m.word asked e → expr_width (tree_of m asked e) ≡ shape_width m.word asked e
  tree_width asked (num n) f = refl
  tree_width asked (plain name at) f = refl
  tree_width asked (element name at to x) f = refl
  tree_width asked (un_of op at x) f = tree_width asked x f
  tree_width asked (bin_of op at x to y) f = ap (result_width op) (tree_width (operand_width m.word x y) x f.0 ∙ f.2)
  tree_width asked (zext_of at x width) f = refl
  tree_width asked (sext_of at x width) f = refl
  tree_width asked (low at x width) f = let le = f.1 in omega (arith, le)

  -- ---- addresses

  module _ (temps : ℕ) (vars : List Declared) (held : HoldsVars temps vars m) (cells : List ℕ) (room : HasCellRoom temps m (length cells)) where
    narrowed_value : (t : ExprModel) (v : ℕ) → tree_value cells t ≡ v → v < 2 ^ m.addr → tree_value cells (narrowed m t) ≡ v
    narrowed_value t v e lt = by (nat_lt m.addr m.word)
      where
        by : (b : Bool) → tree_value cells (if b then slice t (m.addr - 1) 0 else t) ≡ v
        by true = low_slice (tree_value cells t) m.addr held.some ∙ ap (λ n. n % 2 ^ m.addr) e ∙ mod-eq_of_lt lt
        by false = e

    narrowed_reads : (t : ExprModel) → ReadsCells temps cells t → ReadsCells temps cells (narrowed m t)
    narrowed_reads t r = by (nat_lt m.addr m.word)
      where
        by : (b : Bool) → ReadsCells temps cells (if b then slice t (m.addr - 1) 0 else t)
        by true = r
        by false = r

    -- a sum of an index and an array's address
    pub computed_value : (name : List ℕ) (index : ExprModel) (i : ℕ) → expr_width index ≡ m.word → tree_value cells index ≡ i → base_of m.places name + i < 2 ^ m.addr
        → tree_value cells (computed_address m name index) ≡ base_of m.places name + i
    computed_value name index i w e lt =
        let p : 2 ^ m.addr ≤ 2 ^ m.word = pow-le-pow_right (lit< tt) held.narrow in
        let sum : i + base_of m.places name ≡ base_of m.places name + i = omega arith in
        narrowed_value (bin Add index (const m.word (base_of m.places name))) (base_of m.places name + i)
        ((λ j. (e j + base_of m.places name) % 2 ^ (w j)) ∙ ap (λ n. n % 2 ^ m.word) sum ∙ mod-eq_of_lt (let r : base_of m.places name + i < 2 ^ m.word = omega (arith, p, lt) in r)) lt

    pub computed_reads : (name : List ℕ) (index : ExprModel) → ReadsCells temps cells index → ReadsCells temps cells (computed_address m name index)
    computed_reads name index r = narrowed_reads (bin Add index (const m.word (base_of m.places name))) (r, tt)

    -- where a variable's cell lies, and that it is one of the store
    pub record Placed (name : List ℕ) (i : ℕ) : Type 0 where
      pub behind : temps ≤ base_of m.places name + i
      pub near : base_of m.places name + i < 2 ^ m.addr
      pub within : base_of m.places name + i < length cells
      pub seen : slice_index (seen_store m cells) (first_cell vars name + i) ≡ slice_index cells (base_of m.places name + i)

    pub placed : (name : List ℕ) (v : Declared) (i : ℕ) → declared vars name ≡ Some v → i < cells_in v → Placed name i
    placed name v i e lt =
        let a = base_within temps (2 ^ m.addr) m.places vars name v held.stand held.within e in
        let b = base_within temps (length cells) m.places vars name v held.stand room.within e in
        record {
          behind = omega (arith, a.0);
          near = omega (arith, a.1, lt);
          within = omega (arith, b.1, lt);
          seen = seen_at temps m.places vars cells name v i held.stand room.within e lt;
        }

    -- an array's element: its address, what is read for that, and that it is a cell of the store
    pub record Addressed (name : List ℕ) (x : SrcNodeModel) : Type 0 where
      pub var : Declared
      pub is : declared vars name ≡ Some var
      pub inside : shape_value m.word vars (seen_store m cells) m.word x < cells_in var
      pub cell : Placed name (shape_value m.word vars (seen_store m cells) m.word x)
      pub at : tree_value cells (element_address m name (number_of x) (tree_of m m.word x)) ≡ base_of m.places name + shape_value m.word vars (seen_store m cells) m.word x
      pub reads : ReadsCells temps cells (element_address m name (number_of x) (tree_of m m.word x))

    pub addressed : (name : List ℕ) (x : SrcNodeModel) → is_array (declared vars name) ≡ true → shape_value m.word vars (seen_store m cells) m.word x < length_of (declared vars name) → expr_width (tree_of m m.word x) ≡ m.word
        → tree_value cells (tree_of m m.word x) ≡ shape_value m.word vars (seen_store m cells) m.word x → ReadsCells temps cells (tree_of m m.word x) → Addressed name x
    addressed name x known lt w e r =
        let v = array_var (declared vars name) (shape_value m.word vars (seen_store m cells) m.word x) known lt in
        let here = placed name v.0 (shape_value m.word vars (seen_store m cells) m.word x) v.1 v.2 in
        let all = by here.near (number_of x) refl in
        record { var = v.0; is = v.1; inside = v.2; cell = here; at = all.0; reads = all.1 }
      where
        by : base_of m.places name + shape_value m.word vars (seen_store m cells) m.word x < 2 ^ m.addr → (o : Option ℕ) → number_of x ≡ o
            → (tree_value cells (element_address m name o (tree_of m m.word x)) ≡ base_of m.places name + shape_value m.word vars (seen_store m cells) m.word x)
            × ReadsCells temps cells (element_address m name o (tree_of m m.word x))
        by near (Some n) is = (let k = number_value m.word vars (seen_store m cells) x n is in omega (arith, k), tt)
        by near None is = (computed_value name (tree_of m m.word x) _ w e near, computed_reads name (tree_of m m.word x) r)

    -- ---- values

    -- the tree has the expression's value, and reads the variables' cells alone
    pub record Meant (asked : ℕ) (e : SrcNodeModel) : Type 0 where
      pub value : tree_value cells (tree_of m asked e) ≡ shape_value m.word vars (seen_store m cells) asked e
      pub reads : ReadsCells temps cells (tree_of m asked e)

    -- the first cell of a plain variable
    pub plain_placed : (name : List ℕ) (v : Declared) → declared vars name ≡ Some v → 0 < cells_in v → Placed name 0
    plain_placed name v e some = placed name v 0 e some

    pub plain_seen : (name : List ℕ) → Placed name 0 → slice_index cells (base_of m.places name) ≡ slice_index (seen_store m cells) (first_cell vars name)
    plain_seen name h =
        let a : base_of m.places name ≡ base_of m.places name + 0 = omega arith in
        let b : first_cell vars name + 0 ≡ first_cell vars name = omega arith in
        ap (slice_index cells) a ∙ sym h.seen ∙ ap (slice_index (seen_store m cells)) b

    pub meant : (asked : ℕ) (e : SrcNodeModel) → Fitting m.word asked e → Known vars e → is_inside m.word vars (seen_store m cells) e ≡ true → Meant asked e
    meant asked (num n) f k i = record { value = refl; reads = tt }
    meant asked (plain name at) f k i =
        let v = plain_var (declared vars name) k in
        let h = plain_placed name v.0 v.1 v.2 in
        let b = h.behind in
        record { value = plain_seen name h; reads = (tt, omega (arith, b)) }
    meant asked (element name at to x) f k i =
        let w = both (is_inside m.word vars (seen_store m cells) x) _ i in
        let h = meant m.word x f.0 k.1 w.0 in
        let a = addressed name x k.0 (ltb-true _ _ w.1) (tree_width m.word x f.0 ∙ f.1) h.value h.reads in
        let c = a.cell in
        record {
          value = ap (slice_index cells) a.at ∙ sym c.seen;
          reads = (a.reads, let e = a.at in let b = c.behind in omega (arith, e, b));
        }
    meant asked (un_of op at x) f k i =
        let h = meant asked x f k i in
        record { value = (λ j. apply1_of op (tree_width asked x f j) (h.value j)); reads = h.reads }
    meant asked (bin_of op at x to y) f k i =
        let w = both (is_inside m.word vars (seen_store m cells) x) _ i in
        let h = meant (operand_width m.word x y) x f.0 k.0 w.0 in
        let g = meant (operand_width m.word x y) y f.1 k.1 w.1 in
        record { value = (λ j. apply2_of op ((tree_width (operand_width m.word x y) x f.0 ∙ f.2) j) (h.value j) (g.value j)); reads = (h.reads, g.reads) }
    meant asked (zext_of at x width) f k i = let h = meant m.word x f.0 k i in record { value = h.value; reads = h.reads }
    meant asked (sext_of at x width) f k i =
        let h = meant m.word x f.0 k i in
        record { value = (λ j. extended_of (h.value j) (tree_width m.word x f.0 j) width); reads = h.reads }
    meant asked (low at x width) f k i =
        let h = meant m.word x f.0 k i in
        record { value = low_slice _ width f.1 ∙ ap (λ n. n % 2 ^ width) h.value; reads = h.reads }
