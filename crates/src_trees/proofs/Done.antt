-- Jobs do to the store what the program's assignments do, and tell its tests.
use Rattle.std.proofs.Common.{ℕ, ◌≡◌, ◌<◌, ◌+◌, ◌^◌, ◌==◌, true, nat_lt, List, length, Option, Some, None, sym, ◌∙◌, ap, subst, arith, slice_index, slice_set}
use Rattle.std.specs.Prelude.{int_lt}
use Rattle.std.proofs.lemmas.Bool.{ltb-true}
use Rattle.std.proofs.lemmas.Nat.{pow_pos}
use Rattle.std.proofs.Math.Bool.{not-not}
use Rattle.rec_bits.proofs.Booleans.{both}
use Rattle.rec_bits.specs.Operators.{apply2_of, bit_of, signed_of}
use Rattle.rec_bits.specs.declared.operator.Op2.TheVariants.{Add, Sub}
use Rattle.net_model.specs.Exprs.{ExprModel, expr_width}
use Rattle.src_model.specs.declared.program.Cmp.{Cmp}
use Rattle.src_model.specs.declared.program.Cmp.TheVariants.{Eq, Ne, Lt, Le, Gt, Ge, Slt, Sle, Sgt, Sge}
use Rattle.src_model.specs.declared.program.Var.{Var as Declared}
use Rattle.src_model.specs.Written.{SrcExprModel, SpotModel, SrcTestModel, node_at as shape_as}
use Rattle.src_model.specs.Names.{declared, is_plain}
use Rattle.src_model.specs.Indexes.{number_of}
use Rattle.src_model.specs.Loops.{place_shape}
use Rattle.src_model.specs.Meaning.{operand_width, shape_value, shape_width, index_value, cell_of, assigned, compares, holds, cells_in, first_cell}
use Rattle.src_model.specs.Trace.{counter_value, started, stepped}
use Rattle.src_model.specs.Fitting.{Fitting, FitsSides}
use Rattle.src_trees.specs.Lowered.{MemoryMap, base_of, tree_of, element_address, element_destination, assigned_destination, job_of_assign, compared_trees, answer, job_of_test, job_of_start, job_of_step}
use Rattle.src_model.specs.Inside.{Known, is_inside}
use Rattle.src_trees.specs.Seen.{seen_store, tree_value, ReadsCells}
use Rattle.src_trees.specs.Held.{HoldsVars, HasCellRoom}
use Rattle.src_trees.specs.Doing.{destination_cell, put_at, done, AllRead, DestinationLies, Lies, AllAre}
use Rattle.src_model.proofs.CellLemmas.{plain_var}
use Rattle.src_trees.proofs.Cells.{seen_below, seen_put}
use Rattle.src_trees.proofs.Meant.{Placed, tree_width, plain_placed, plain_seen, addressed, meant}
use Rattle.src_model.proofs.ValueLemmas.{value_fits}
use Rattle.src_trees.proofs.Values.{lt_not_le, int_lt_not_le, difference_zero}

-- the trees of a comparison have its answer
pub compared_are : (cells : List ℕ) (cmp : Cmp) (w : ℕ) (x y : ExprModel) (a b : ℕ) → tree_value cells x ≡ a → tree_value cells y ≡ b → expr_width x ≡ w → expr_width y ≡ w → a < 2 ^ w → b < 2 ^ w
    → AllAre (bit_of (answer cmp (compares cmp w a b))) cells (compared_trees cmp w x y)
compared_are cells Eq w x y a b ea eb wx wy la lb =
    ((λ j. bit_of (ea j == eb j)), ((λ j. bit_of (apply2_of Sub (wx j) (ea j) (eb j) == 0)) ∙ ap bit_of (difference_zero w a b la lb), tt))
compared_are cells Ne w x y a b ea eb wx wy la lb = (
  (λ j. bit_of (ea j == eb j)) ∙ ap bit_of (sym (not-not (a == b))),
  ((λ j. bit_of (apply2_of Sub (wx j) (ea j) (eb j) == 0)) ∙ ap bit_of (difference_zero w a b la lb) ∙ ap bit_of (sym (not-not (a == b))), tt),
)
compared_are cells Lt w x y a b ea eb wx wy la lb = ((λ j. bit_of (nat_lt (ea j) (eb j))), tt)
compared_are cells Le w x y a b ea eb wx wy la lb = ((λ j. bit_of (nat_lt (eb j) (ea j))) ∙ lt_not_le a b, tt)
compared_are cells Gt w x y a b ea eb wx wy la lb = ((λ j. bit_of (nat_lt (eb j) (ea j))), tt)
compared_are cells Ge w x y a b ea eb wx wy la lb = ((λ j. bit_of (nat_lt (ea j) (eb j))) ∙ lt_not_le b a, tt)
compared_are cells Slt w x y a b ea eb wx wy la lb = ((λ j. bit_of (int_lt (signed_of (wx j) (ea j)) (signed_of (wx j) (eb j)))), tt)
compared_are cells Sle w x y a b ea eb wx wy la lb = ((λ j. bit_of (int_lt (signed_of (wy j) (eb j)) (signed_of (wy j) (ea j)))) ∙ int_lt_not_le (signed_of w a) (signed_of w b), tt)
compared_are cells Sgt w x y a b ea eb wx wy la lb = ((λ j. bit_of (int_lt (signed_of (wy j) (eb j)) (signed_of (wy j) (ea j)))), tt)
compared_are cells Sge w x y a b ea eb wx wy la lb = ((λ j. bit_of (int_lt (signed_of (wx j) (ea j)) (signed_of (wx j) (eb j)))) ∙ int_lt_not_le (signed_of w b) (signed_of w a), tt)

pub compared_read : (at : ℕ) (cells : List ℕ) (cmp : Cmp) (w : ℕ) (x y : ExprModel) → ReadsCells at cells x → ReadsCells at cells y → AllRead at cells (compared_trees cmp w x y)
compared_read at cells Eq w x y r q = ((r, q), (((r, q), tt), tt))
compared_read at cells Ne w x y r q = ((r, q), (((r, q), tt), tt))
compared_read at cells Lt w x y r q = ((r, q), tt)
compared_read at cells Le w x y r q = ((q, r), tt)
compared_read at cells Gt w x y r q = ((q, r), tt)
compared_read at cells Ge w x y r q = ((r, q), tt)
compared_read at cells Slt w x y r q = ((r, q), tt)
compared_read at cells Sle w x y r q = ((q, r), tt)
compared_read at cells Sgt w x y r q = ((q, r), tt)
compared_read at cells Sge w x y r q = ((r, q), tt)

module _ (m : MemoryMap) (temps : ℕ) (vars : List Declared) (held : HoldsVars temps vars m) (cells : List ℕ) (room : HasCellRoom temps m (length cells)) where
  -- a value at a cell of a variable
  put_cell : (name : List ℕ) (var : Declared) (i a v : ℕ) → declared vars name ≡ Some var → i < cells_in var → a ≡ base_of m.places name + i
      → seen_store m (slice_set cells a v) ≡ slice_set (seen_store m cells) (first_cell vars name + i) v
  put_cell name var i a v e lt q =
      ap (λ n. seen_store m (slice_set cells n v)) q ∙ seen_put temps m.places vars cells name var i v held.stand room.within held.alone e lt

  -- ---- assignments

  pub record Aimed (name : List ℕ) (index : Option SrcExprModel) : Type 0 where
    pub puts : (v : ℕ) → seen_store m (put_at (assigned_destination m name index) v cells) ≡ slice_set (seen_store m cells) (first_cell vars name + index_value m.word vars (seen_store m cells) index) v
    pub at : destination_cell cells (assigned_destination m name index) ≡ Some (base_of m.places name + index_value m.word vars (seen_store m cells) index)
    pub lies : DestinationLies temps cells (assigned_destination m name index)

  aimed : (name : List ℕ) (at : ℕ) (index : Option SrcExprModel) → Fitting m.word m.word (shape_as name at index) → Known vars (shape_as name at index) → is_inside m.word vars (seen_store m cells) (shape_as name at index) ≡ true → Aimed name index
  aimed name at None f k i =
      let v = plain_var (declared vars name) k in
      let h = plain_placed m temps vars held cells room name v.0 v.1 v.2 in
      let b = h.behind in
      let w = h.within in
      record { puts = λ n. put_cell name v.0 0 (base_of m.places name) n v.1 v.2 (omega arith); at = ap Some (omega arith); lies = (omega (arith, b), omega (arith, w)) }
  aimed name at (Some x) f k i =
      let t = both (is_inside m.word vars (seen_store m cells) x.shape) _ i in
      let h = meant m temps vars held cells room m.word x.shape f.0 k.1 t.0 in
      let a = addressed m temps vars held cells room name x.shape k.0 (ltb-true _ _ t.1) (tree_width m m.word x.shape f.0 ∙ f.1) h.value h.reads in
      let all = by a.var a.is a.inside a.cell (number_of x.shape) a.at a.reads in
      record { puts = all.0; at = all.1; lies = all.2 }
    where
      by : (var : Declared) → declared vars name ≡ Some var → shape_value m.word vars (seen_store m cells) m.word x.shape < cells_in var
          → Placed m temps vars held cells room name (shape_value m.word vars (seen_store m cells) m.word x.shape) → (o : Option ℕ)
          → tree_value cells (element_address m name o (tree_of m m.word x.shape)) ≡ base_of m.places name + shape_value m.word vars (seen_store m cells) m.word x.shape
          → ReadsCells temps cells (element_address m name o (tree_of m m.word x.shape))
          → ((v : ℕ) → seen_store m (put_at (element_destination m name o (tree_of m m.word x.shape)) v cells) ≡ slice_set (seen_store m cells) (first_cell vars name + shape_value m.word vars (seen_store m cells) m.word x.shape) v)
          × (destination_cell cells (element_destination m name o (tree_of m m.word x.shape)) ≡ Some (base_of m.places name + shape_value m.word vars (seen_store m cells) m.word x.shape))
          × DestinationLies temps cells (element_destination m name o (tree_of m m.word x.shape))
      by var is lt c (Some n) e r =
          let b = c.behind in
          let w = c.within in
          (λ v. put_cell name var _ _ v is lt e, ap Some e, (omega (arith, e, b), omega (arith, e, w)))
      by var is lt c None e r =
          let b = c.behind in
          let w = c.within in
          (λ v. put_cell name var _ _ v is lt e, ap Some e, (r, omega (arith, e, b), omega (arith, e, w)))

  pub record Assigned (place : SpotModel) (e : SrcExprModel) : Type 0 where
    pub is : seen_store m (done (job_of_assign m place e) cells) ≡ assigned m.word vars place e (seen_store m cells)
    pub at : destination_cell cells (job_of_assign m place e).destination ≡ Some (base_of m.places place.name + index_value m.word vars (seen_store m cells) place.index)
    pub lies : Lies temps cells (job_of_assign m place e)

  pub assign_done : (place : SpotModel) (e : SrcExprModel) → Fitting m.word m.word (place_shape place) → Fitting m.word m.word e.shape → Known vars (place_shape place) → Known vars e.shape
      → is_inside m.word vars (seen_store m cells) (place_shape place) ≡ true → is_inside m.word vars (seen_store m cells) e.shape ≡ true → Assigned place e
  assign_done place e fp fe kp ke ip ie =
      let a = aimed place.name place.at place.index fp kp ip in
      let h = meant m temps vars held cells room m.word e.shape fe ke ie in
      record {
        is = a.puts (tree_value cells (tree_of m m.word e.shape)) ∙ ap (slice_set (seen_store m cells) (cell_of m.word vars (seen_store m cells) place)) h.value;
        at = a.at;
        lies = record { reads = (h.reads, tt); destination = a.lies; below = room.below };
      }

  -- its value fits a word
  pub assign_fits : ((k : ℕ) → slice_index cells k < 2 ^ m.word) → (e : SrcExprModel) → Fitting m.word m.word e.shape → Known vars e.shape → is_inside m.word vars (seen_store m cells) e.shape ≡ true
      → shape_width m.word m.word e.shape ≡ m.word → tree_value cells (tree_of m m.word e.shape) < 2 ^ m.word
  assign_fits words e f k i w =
      let seen : (c : ℕ) → slice_index (seen_store m cells) c < 2 ^ m.word = seen_below (2 ^ m.word) m.places cells (pow_pos m.word) words in
      subst (λ v. v < 2 ^ m.word) (sym (meant m temps vars held cells room m.word e.shape f k i).value)
      (subst (λ n. shape_value m.word vars (seen_store m cells) m.word e.shape < 2 ^ n) w (value_fits m.word vars (seen_store m cells) seen m.word e.shape f))

  -- ---- the counter of a `for`

  put_plain : (name : List ℕ) (var : Declared) (v : ℕ) → declared vars name ≡ Some var → 0 < cells_in var
      → seen_store m (slice_set cells (base_of m.places name) v) ≡ slice_set (seen_store m cells) (first_cell vars name) v
  put_plain name var v e some =
      let q : first_cell vars name + 0 ≡ first_cell vars name = omega arith in
      put_cell name var 0 (base_of m.places name) v e some (omega arith) ∙ ap (λ n. slice_set (seen_store m cells) n v) q

  pub start_done : (counter : List ℕ) (from : ℕ) → is_plain (declared vars counter) ≡ true
      → (seen_store m (done (job_of_start m counter from) cells) ≡ started vars counter from (seen_store m cells)) × Lies temps cells (job_of_start m counter from)
  start_done counter from k =
      let v = plain_var (declared vars counter) k in
      let h = plain_placed m temps vars held cells room counter v.0 v.1 v.2 in
      let b = h.behind in
      let w = h.within in
      (put_plain counter v.0 from v.1 v.2, record { reads = (tt, tt); destination = (omega (arith, b), omega (arith, w)); below = room.below })

  pub step_done : (counter : List ℕ) → is_plain (declared vars counter) ≡ true
      → (seen_store m (done (job_of_step m counter) cells) ≡ stepped m.word vars counter (seen_store m cells)) × Lies temps cells (job_of_step m counter)
  step_done counter k =
      let v = plain_var (declared vars counter) k in
      let h = plain_placed m temps vars held cells room counter v.0 v.1 v.2 in
      let b = h.behind in
      let w = h.within in
      let r : slice_index cells (base_of m.places counter) ≡ counter_value vars counter (seen_store m cells) = plain_seen m temps vars held cells room counter h in (
        put_plain counter v.0 _ v.1 v.2 ∙ ap (λ n. slice_set (seen_store m cells) (first_cell vars counter) (apply2_of Add m.word n 1)) r,
        record { reads = (((tt, omega (arith, b)), tt), tt); destination = (omega (arith, b), omega (arith, w)); below = room.below },
      )

  -- ---- tests

  pub record Asked (test : SrcTestModel) : Type 0 where
    pub are : AllAre (bit_of (answer test.cmp (holds m.word vars test (seen_store m cells)))) cells (job_of_test m test).trees
    pub lies : Lies temps cells (job_of_test m test)

  pub test_asked : (test : SrcTestModel) → ((cell : ℕ) → slice_index (seen_store m cells) cell < 2 ^ m.word) → FitsSides m.word test.left.shape test.right.shape → Known vars test.left.shape → Known vars test.right.shape
      → is_inside m.word vars (seen_store m cells) test.left.shape ≡ true → is_inside m.word vars (seen_store m cells) test.right.shape ≡ true → Asked test
  test_asked test words f kl kr il ir =
      let w : ℕ = operand_width m.word test.left.shape test.right.shape in
      let l = meant m temps vars held cells room w test.left.shape f.left kl il in
      let r = meant m temps vars held cells room w test.right.shape f.right kr ir in
      record {
        are = compared_are cells test.cmp w _ _ _ _ l.value r.value (tree_width m w test.left.shape f.left ∙ f.left_width) (tree_width m w test.right.shape f.right ∙ f.right_width)
            (subst (λ n. shape_value m.word vars (seen_store m cells) w test.left.shape < 2 ^ n) f.left_width (value_fits m.word vars (seen_store m cells) words w test.left.shape f.left))
            (subst (λ n. shape_value m.word vars (seen_store m cells) w test.right.shape < 2 ^ n) f.right_width (value_fits m.word vars (seen_store m cells) words w test.right.shape f.right));
        lies = record { reads = compared_read temps cells test.cmp w _ _ l.reads r.reads; destination = tt; below = room.below };
      }
