-- The registers that the forms of a netlist go to and name are registers of the netlist.
use Rattle.std.proofs.Common.{◌≡◌, ℕ, ◌+◌, ◌<◌, ◌==◌, ◌&&◌, Bool, true, false, true≢false, [], ◌∷◌, List, Option, Some, None, slice_get, refl, sym, ap, subst, ◌∙◌, arith, inl, inr}
use Rattle.std.specs.Prelude.{◌⊎◌, ◌||◌, All, if◌then◌else◌}
use Rattle.std.proofs.lemmas.Bool.{cases_lt}
use Rattle.std.proofs.lemmas.List.Elements.{All-get_or}
use Rattle.std.proofs.lemmas.Option.{get_or_from_slice_get, slice_get_within}
use Rattle.net_model.specs.declared.hardware.Netlist.{Netlist}
use Rattle.net_model.specs.CheckedRules.{KeepsRules}
use Rattle.net_model.specs.Nets.{memory_id}
use Rattle.net_model.specs.Occurs.{transfer_occurs, occurs}
use Rattle.net_model.specs.Patterns.{IsPattern, Pattern}
use Rattle.net_model.specs.Exprs.{ExprModel, word, reg, const, read, un, bin, slice, cat, zext, sext, select, TransferModel, keep, write, write_at}
use Rattle.net_model.proofs.Far.{reads_far}
use Rattle.net_model.proofs.KeptRules.{few_storages, sound_of}
use Rattle.net_model.proofs.Storages.{storage_within}
use Rattle.rec_bits.specs.declared.operator.Op2.{Op2}
use Rattle.rec_bits.proofs.Booleans.{or_left, or_right, or_comm}
use Rattle.transfer_set.specs.declared.stepping.Counter.{Counter}
use Rattle.transfer_set.specs.Stepping.{is_next}
use Rattle.form_model.specs.Registers.{AreLow, IsLow, IsLowGoal, IsLowExpr}
use Rattle.form_model.specs.Forms.{TargetModel, FormModel, into_file, into_memory, into_reg}
use Rattle.form_set.specs.Listing.{AreFormModels, counter_at, goal_at, sides_of}
use Rattle.form_set.specs.Static.{is_file_at}
use Rattle.form_set.specs.Promises.{IsFormOf, of_branch, of_jump, of_plain}
use Rattle.operand_swaps.specs.Swaps.{Path, ordered, picks, swap_at, swap_paths, swapped, swaps_here}
use Rattle.form_set.specs.Targets.{Branch, allowed_target, branch_if, first_of, expr_branch}
use Rattle.form_set.proofs.FormLaws.{form_at}

-- ---- swaps

module _ (q : ℕ) where
  turned : (o : Op2) (a b : ExprModel) (swaps : Bool) → occurs q (ordered swaps o a b) ≡ (occurs q a || occurs q b)
  turned o a b true = or_comm (occurs q b) (occurs q a)
  turned o a b false = refl

  -- the same registers occur after swaps
  swap_occurs : (chosen : Path → Bool) (t : ExprModel) → occurs q (swap_at chosen t) ≡ occurs q t
  swap_occurs chosen (word w) = refl
  swap_occurs chosen (reg r w) = refl
  swap_occurs chosen (const w v) = refl
  swap_occurs chosen (read space a w) = swap_occurs (λ path. chosen (0 ∷ path)) a
  swap_occurs chosen (un o a) = swap_occurs (λ path. chosen (0 ∷ path)) a
  swap_occurs chosen (slice a hi lo) = swap_occurs (λ path. chosen (0 ∷ path)) a
  swap_occurs chosen (zext a w) = swap_occurs (λ path. chosen (0 ∷ path)) a
  swap_occurs chosen (sext a w) = swap_occurs (λ path. chosen (0 ∷ path)) a
  swap_occurs chosen (bin o a b) =
      turned o (swap_at (λ path. chosen (0 ∷ path)) a) (swap_at (λ path. chosen (1 ∷ path)) b) (swaps_here o a b && chosen [])
      ∙ (λ j. swap_occurs (λ path. chosen (0 ∷ path)) a j || swap_occurs (λ path. chosen (1 ∷ path)) b j)
  swap_occurs chosen (cat a b) = (λ j. swap_occurs (λ path. chosen (0 ∷ path)) a j || swap_occurs (λ path. chosen (1 ∷ path)) b j)
  swap_occurs chosen (select c a b) =
      (λ j. swap_occurs (λ path. chosen (0 ∷ path)) c j || (swap_occurs (λ path. chosen (1 ∷ path)) a j || swap_occurs (λ path. chosen (2 ∷ path)) b j))

-- ---- the condition of a branch

first_some : {A : Type 0} (x y : Option A) (v : A) → first_of x y ≡ Some v → (x ≡ Some v) ⊎ (y ≡ Some v)
first_some (Some x) y v e = inl e
first_some None y v e = inr e

if_test : (b when_one : Bool) (c : ExprModel) (to : Option TargetModel) (parts : Branch) → branch_if b when_one c to ≡ Some parts → c ≡ parts.test
if_test true when_one c (Some to) parts e =
    let is : ◌≡◌ {A = Branch} (record { when_one = when_one; test = c; to = to }) parts = cc in ap (λ (x : Branch). x.test) is
if_test true when_one c None parts e = absurd (cc)
if_test false when_one c to parts e = absurd (cc)

-- what occurs in it occurs in the value of its pattern
test_occurs : (q edition : ℕ) (pc : Counter) (reach : ℕ) (t : ExprModel) (parts : Branch) → expr_branch edition pc reach t ≡ Some parts → occurs q parts.test ≡ true → occurs q t ≡ true
test_occurs q edition pc reach (select c a b) parts e k = or_left (occurs q c) (occurs q a || occurs q b) (ap (occurs q) test ∙ k)
  where
    test : c ≡ parts.test
    test = elim (first_some (branch_if (is_next pc b) true c (allowed_target edition pc reach a)) (branch_if (is_next pc a) false c (allowed_target edition pc reach b)) parts e) [
      | inl x ↦ if_test (is_next pc b) true c (allowed_target edition pc reach a) parts x
      | inr y ↦ if_test (is_next pc a) false c (allowed_target edition pc reach b) parts y
    ]
test_occurs q edition pc reach _ parts e k = absurd (cc)

-- ---- forms

goal_low : (netlist : Netlist) (storage : ℕ) → storage < 16 → IsLowGoal (goal_at netlist storage)
goal_low netlist storage lt = by (storage == memory_id netlist.storages) (is_file_at netlist storage)
  where
    by : (b c : Bool) → IsLowGoal (if b then into_memory else if c then into_file else into_reg storage)
    by true c q e = absurd (cc)
    by false true q e = absurd (cc)
    by false false q e = let same : storage ≡ q = cc in subst (λ n. n < 16) same lt

-- the registers of an address and of a value
addr_low : (choice : ℕ) (m : TransferModel) → ((q : ℕ) → transfer_occurs q m ≡ true → q < 16) → (a : ExprModel) → (swapped choice (sides_of m)).addr ≡ Some a → IsLowExpr a
addr_low choice keep low a e = absurd (cc)
addr_low choice (write v) low a e = absurd (cc)
addr_low choice (write_at x v) low a e =
    let chosen : Path → Bool = λ path. picks choice (swap_paths (sides_of (write_at x v))) (0 ∷ path) in
    let same : swap_at chosen x ≡ a = cc in
    λ q k. low q (or_left (occurs q x) (occurs q v) (sym (swap_occurs q chosen x) ∙ ap (occurs q) same ∙ k))

value_low : (choice : ℕ) (m : TransferModel) → ((q : ℕ) → transfer_occurs q m ≡ true → q < 16) → IsLowExpr (swapped choice (sides_of m)).value
value_low choice keep low q k = absurd (true≢false (sym k))
value_low choice (write v) low q k = low q (sym (swap_occurs q (λ path. picks choice (swap_paths (sides_of (write v))) (1 ∷ path)) v) ∙ k)
value_low choice (write_at a v) low q k =
    low q (or_right (occurs q a) (occurs q v) (sym (swap_occurs q (λ path. picks choice (swap_paths (sides_of (write_at a v))) (1 ∷ path)) v) ∙ k))

module _ (netlist : Netlist) (order : List ℕ) (keeps : KeepsRules netlist order) where
  pattern_low : (p : Pattern) → IsPattern netlist p → (q : ℕ) → transfer_occurs q p.move ≡ true → q < 16
  pattern_low p is q k = elim (cases_lt q 16) [
    | inl lt ↦ lt
    | inr ge ↦ absurd (true≢false (sym k ∙ sym (ap (transfer_occurs q) is.given.gives)
        ∙ reads_far q netlist (omega (arith, few_storages netlist order keeps, ge)) (sound_of netlist order keeps).typed is.word p.storage))
  ]

  of_low : (reach number : ℕ) (p : Pattern) (form : FormModel) → IsPattern netlist p → IsFormOf netlist reach number p form → IsLow form
  of_low reach number p form is (of_plain choice clobbers plain are e) =
      subst IsLow (sym e) (
        goal_low netlist p.storage (let within = storage_within netlist p is in omega (arith, within, few_storages netlist order keeps)),
        addr_low choice p.move (pattern_low p is),
        value_low choice p.move (pattern_low p is),
      )
  of_low reach number p form is (of_jump h e) =
      subst IsLow (sym e) ((λ q x. absurd (cc)), (λ a x. absurd (cc)), (λ q k. pattern_low p is q (ap (transfer_occurs q) h.move ∙ k)))
  of_low reach number p form is (of_branch choice parts b e) =
      let chosen : Path → Bool = λ path. picks choice (swap_paths (record { addr = None; value = parts.test })) (1 ∷ path) in
      subst IsLow (sym e) (
        (λ q x. absurd (cc)),
        (λ a x. absurd (cc)),
        (λ q k. pattern_low p is q (ap (transfer_occurs q) b.move
            ∙ test_occurs q netlist.edition (counter_at netlist) reach b.value parts b.parts (sym (swap_occurs q chosen parts.test) ∙ k))),
      )

  pattern_at : (patterns : List Pattern) (i : ℕ) (p : Pattern) → All (IsPattern netlist) patterns → slice_get patterns i ≡ Some p → IsPattern netlist p
  pattern_at patterns i p each at =
      subst (IsPattern netlist) (get_or_from_slice_get patterns i p p at) (All-get_or (IsPattern netlist) patterns i p (slice_get_within patterns i p at) each)

  pub forms_low : (reach : ℕ) (patterns : List Pattern) (forms : List FormModel) → All (IsPattern netlist) patterns → AreFormModels netlist reach 0 patterns forms → AreLow forms
  forms_low reach patterns forms each list k form at =
      let f = form_at netlist reach 0 patterns forms list k form at in
      of_low reach (0 + f.place) f.pattern form (pattern_at patterns f.place f.pattern each f.at) f.of
