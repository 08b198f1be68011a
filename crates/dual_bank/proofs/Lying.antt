-- Where the program's indexes lie in their arrays, those of its jobs lie in their memories, so that
-- the jobs of two memories do what those of one do.
use Rattle.std.proofs.Common.{ℕ, ◌≡◌, ◌+◌, ◌-◌, ◌^◌, ◌<◌, ◌≤◌, ◌∙◌, ap, arith, subst, sym, nat_lt, refl, Bool, true, false, if◌then◌else◌, List, length, Option, Some, None, inl, inr}
use Rattle.std.proofs.lemmas.Bool.{ltb-true, ltb-false}
use Rattle.std.proofs.lemmas.Grind.{pow_more}
use Rattle.rec_bits.proofs.Booleans.{both, and_left, and_right}
use Rattle.rec_bits.specs.declared.operator.Op2.TheVariants.{Add}
use Rattle.net_model.specs.Exprs.{ExprModel, bin, const, slice, expr_width}
use Rattle.src_model.specs.declared.program.Cmp.{Cmp}
use Rattle.src_model.specs.declared.program.Cmp.TheVariants.{Eq, Ne, Lt, Le, Gt, Ge, Slt, Sle, Sgt, Sge}
use Rattle.src_model.specs.declared.program.Var.{Var as Declared}
use Rattle.src_model.specs.Written.{SrcNodeModel, num, plain, element, un as un_of, bin as bin_of, zext as zext_of, sext as sext_of, low, SrcExprModel, SpotModel, SrcTestModel, node_at, ProgramModel}
use Rattle.src_model.specs.Fitting.{Fitting}
use Rattle.src_model.specs.Indexes.{number_of}
use Rattle.src_model.specs.Inside.{Known, is_inside}
use Rattle.src_model.specs.Meaning.{cells_in, operand_width}
use Rattle.src_model.specs.Names.{declared}
use Rattle.src_model.specs.Rules.{temp_count}
use Rattle.code_model.specs.declared.image.Place.{Place as VariablePlace}
use Rattle.src_trees.specs.Held.{HasCellRoom, HoldsCells, HoldsVars}
use Rattle.src_trees.specs.Lowered.{MemoryMap, JobModel, base_of, computed_address, element_address, element_destination, assigned_destination, job_of_assign, compared_trees, job_of_test, job_of_start, job_of_step, tree_of}
use Rattle.src_trees.specs.Meant.{Does, DoProgram, KeepsMeaning}
use Rattle.src_trees.specs.Seen.{seen_store, tree_value, CanAssign, CanTest}
use Rattle.src_trees.proofs.Following.{own_meaning, program_does}
use Rattle.src_trees.proofs.Meant.{addressed, meant, tree_width}
use Rattle.dual_bank.specs.Banked.{AddressLies, AllIndexesLie, DestinationIndexesLie, IndexesLie, JobIndexesLie, job_of_banked, jobs_of_banked, joined_memory}
use Rattle.dual_bank.specs.Layouts.{FitsBanks, bank_layout}
use Rattle.dual_bank.proofs.Held.{AreInOne, IsInOne, bank_held, bank_in_one, cell_in_one, var_in_one}
use Rattle.dual_bank.proofs.Joined.{all_same, done_same, first_same, job_lies}

-- the trees of a comparison, either way round
compared_lie : (k : ℕ) (cells : List ℕ) (cmp : Cmp) (w : ℕ) (x y : ExprModel) → IndexesLie k cells x → IndexesLie k cells y → AllIndexesLie k cells (compared_trees cmp w x y)
compared_lie k cells Eq w x y a b = ((a, b), (((a, b), tt), tt))
compared_lie k cells Ne w x y a b = ((a, b), (((a, b), tt), tt))
compared_lie k cells Lt w x y a b = ((a, b), tt)
compared_lie k cells Le w x y a b = ((b, a), tt)
compared_lie k cells Gt w x y a b = ((b, a), tt)
compared_lie k cells Ge w x y a b = ((a, b), tt)
compared_lie k cells Slt w x y a b = ((a, b), tt)
compared_lie k cells Sle w x y a b = ((b, a), tt)
compared_lie k cells Sgt w x y a b = ((b, a), tt)
compared_lie k cells Sge w x y a b = ((a, b), tt)

-- a variable's address has a bit more than those of one memory
base_fits : (k base len i : ℕ) → IsInOne (2 ^ k) base len → i < len → base < 2 ^ (k + 1)
base_fits k base len i (inl le) lt = omega (arith, pow_more 2 k, le, lt)
base_fits k base len i (inr le) lt = omega (arith, pow_more 2 k, le.1, lt)

module _ (word k : ℕ) (places : List VariablePlace) (temps : ℕ) (vars : List Declared) (some : 1 ≤ k) (wide : k + 2 ≤ word) (held : HoldsVars temps vars (joined_memory word k places)) (ones : AreInOne (2 ^ k) places) where
  abbrev memory : MemoryMap
  memory = joined_memory word k places

  module _ (cells : List ℕ) (room : HasCellRoom temps memory (length cells)) where
    abbrev store : List ℕ
    store = seen_store memory cells

    abbrev AddressesLie : ExprModel → Type 0
    AddressesLie t = IndexesLie k cells t × AddressLies k cells t

    computed_lies : (name : List ℕ) (index : ExprModel) (var : Declared) → declared vars name ≡ Some var → tree_value cells index < cells_in var → expr_width index ≡ word → IndexesLie k cells index → AddressesLie (computed_address memory name index)
    computed_lies name index var is inside w lies = by (nat_lt (k + 1) word) refl
      where
        one : IsInOne (2 ^ k) (base_of places name) (cells_in var)
        one = var_in_one (2 ^ k) places vars name var held.stand ones is

        by : (b : Bool) → nat_lt (k + 1) word ≡ b → AddressesLie (if b then slice (bin Add index (const word (base_of places name))) (k + 1 - 1) 0 else bin Add index (const word (base_of places name)))
        by true e = (
          (lies, tt),
          record {
            some = some;
            inside = cell_in_one k (base_of places name) (cells_in var) (tree_value cells index) one inside;
            base_fits = base_fits k (base_of places name) (cells_in var) (tree_value cells index) one inside;
            wide = w;
            room = wide;
            high = omega arith;
            low = refl;
          },
        )
        by false e = let ge = ltb-false (k + 1) word e in absurd (omega (arith, ge, wide))

    -- the address of an element, of which the index is a literal or lies in the array
    element_lies : (name : List ℕ) (o : Option ℕ) (index : ExprModel) (var : Declared) → declared vars name ≡ Some var → tree_value cells index < cells_in var → expr_width index ≡ word → IndexesLie k cells index → AddressesLie (element_address memory name o index)
    element_lies name (Some n) index var is inside w lies = (tt, tt)
    element_lies name None index var is inside w lies = computed_lies name index var is inside w lies

    -- what is known of an index that lies in its array
    pub record Indexed (name : List ℕ) (index : ExprModel) : Type 0 where
      pub var : Declared
      pub is : declared vars name ≡ Some var
      pub inside : tree_value cells index < cells_in var
      pub width : expr_width index ≡ word

    indexed : (name : List ℕ) (at to : ℕ) (x : SrcNodeModel) → Fitting word word (element name at to x) → Known vars (element name at to x) → is_inside word vars store (element name at to x) ≡ true → Indexed name (tree_of memory word x)
    indexed name at to x f known inside =
        let t = both (is_inside word vars store x) _ inside in
        let h = meant memory temps vars held cells room word x f.0 known.1 t.0 in
        let w = tree_width memory word x f.0 ∙ f.1 in
        let a = addressed memory temps vars held cells room name x known.0 (ltb-true _ _ t.1) w h.value h.reads in
        record { var = a.var; is = a.is; inside = subst (λ n. n < cells_in a.var) (sym h.value) a.inside; width = w }

    tree_lies : (asked : ℕ) (e : SrcNodeModel) → Fitting word asked e → Known vars e → is_inside word vars store e ≡ true → IndexesLie k cells (tree_of memory asked e)
    tree_lies asked (num n) f known inside = tt
    tree_lies asked (plain name at) f known inside = (tt, tt)
    tree_lies asked (element name at to x) f known inside =
        let i = indexed name at to x f known inside in
        element_lies name (number_of x) (tree_of memory word x) i.var i.is i.inside i.width (tree_lies word x f.0 known.1 (and_left _ _ inside))
    tree_lies asked (un_of op at x) f known inside = tree_lies asked x f known inside
    tree_lies asked (bin_of op at x to y) f known inside =
        (tree_lies (operand_width word x y) x f.0 known.0 (and_left _ _ inside), tree_lies (operand_width word x y) y f.1 known.1 (and_right _ _ inside))
    tree_lies asked (zext_of at x width) f known inside = tree_lies word x f.0 known inside
    tree_lies asked (sext_of at x width) f known inside = tree_lies word x f.0 known inside
    tree_lies asked (low at x width) f known inside = tree_lies word x f.0 known inside

    -- ---- jobs

    aim_lies : (name : List ℕ) (at : ℕ) (index : Option SrcExprModel) → Fitting word word (node_at name at index) → Known vars (node_at name at index) → is_inside word vars store (node_at name at index) ≡ true → DestinationIndexesLie k cells (assigned_destination memory name index)
    aim_lies name at None f known inside = tt
    aim_lies name at (Some x) f known inside =
        let i = indexed name at x.at x.shape f known inside in
        by (number_of x.shape) (computed_lies name (tree_of memory word x.shape) i.var i.is i.inside i.width (tree_lies word x.shape f.0 known.1 (and_left _ _ inside)))
      where
        by : (o : Option ℕ) → AddressesLie (computed_address memory name (tree_of memory word x.shape)) → DestinationIndexesLie k cells (element_destination memory name o (tree_of memory word x.shape))
        by (Some n) h = tt
        by None h = h

    assign_lies : (place : SpotModel) (e : SrcExprModel) → CanAssign word vars store place e → JobIndexesLie k cells (job_of_assign memory place e)
    assign_lies place e h = record {
      trees = (tree_lies word e.shape h.right.fits h.right.known h.right.inside, tt);
      destination = aim_lies place.name place.at place.index h.left.fits h.left.known h.left.inside;
    }

    test_lies : (test : SrcTestModel) → CanTest word vars store test → JobIndexesLie k cells (job_of_test memory test)
    test_lies test h = record {
      trees =
          compared_lie k cells test.cmp (operand_width word test.left.shape test.right.shape) _ _
          (tree_lies (operand_width word test.left.shape test.right.shape) test.left.shape h.sides.left h.left_known (and_left _ _ h.inside))
          (tree_lies (operand_width word test.left.shape test.right.shape) test.right.shape h.sides.right h.right_known (and_right _ _ h.inside));
      destination = tt;
    }

  does : (Can : List ℕ → Type 0) (change : List ℕ → List ℕ) (job : JobModel) → ((cells : List ℕ) → HoldsCells temps memory cells → Can (seen_store memory cells) → JobIndexesLie k cells job) → Does memory temps Can change job
      → Does memory temps Can change (job_of_banked k job)
  does Can change job indexes own = record {
    lies = λ cells c h. job_lies k cells temps job (indexes cells c h) (own.lies cells c h);
    store = λ cells c h. ap (seen_store memory) (done_same k cells job (indexes cells c h)) ∙ own.store cells c h;
    fits = λ cells c h. subst (λ v. v < 2 ^ word) (sym (first_same k cells job.trees (indexes cells c h).trees)) (own.fits cells c h);
  }

  -- jobs that are made from a program's do what its statements say
  pub banked_meaning : KeepsMeaning memory temps vars (job_of_banked k)
  banked_meaning =
      let own = own_meaning memory temps vars held in
      record {
        assigns = λ place e. does _ _ (job_of_assign memory place e) (λ cells c h. assign_lies cells c.room place e h.0) (own.assigns place e);
        tests = λ test. record {
          lies = λ cells c h. job_lies k cells temps (job_of_test memory test) (test_lies cells c.room test h) ((own.tests test).lies cells c h);
          value = λ cells c h. all_same k cells _ (job_of_test memory test).trees (test_lies cells c.room test h).trees ((own.tests test).value cells c h);
        };
        starts = λ counter from. does _ _ (job_of_start memory counter from) (λ cells c h. record { trees = (tt, tt); destination = tt }) (own.starts counter from);
        steps = λ counter. does _ _ (job_of_step memory counter) (λ cells c h. record { trees = (((tt, tt), tt), tt); destination = tt }) (own.steps counter);
      }

pub banked_does : (word k bank : ℕ) (in_bank : List Bool) (l : ProgramModel) → FitsBanks word k bank in_bank l
    → DoProgram (joined_memory word k (bank_layout word k in_bank l).list) (temp_count word l) l (jobs_of_banked k (joined_memory word k (bank_layout word k in_bank l).list) l)
banked_does word k bank in_bank l fits =
    program_does (joined_memory word k (bank_layout word k in_bank l).list) (temp_count word l) l (job_of_banked k)
    (banked_meaning word k (bank_layout word k in_bank l).list (temp_count word l) l.vars fits.some fits.wide (bank_held word k bank in_bank l fits) (bank_in_one word k bank in_bank l fits))
