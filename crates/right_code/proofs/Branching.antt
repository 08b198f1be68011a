-- What branch and jump words do.
use Rattle.std.proofs.Common.{ℕ, ◌≡◌, ◌≤◌, ◌<◌, ◌+◌, ◌%◌, ◌^◌, inl, inr, Bool, true, false, if◌then◌else◌, bit_and, bit_or, nat_lt, List, Option, Some, None, slice_get, refl, ◌∙◌, ap, arith, subst}
use Rattle.std.proofs.Math.Nat.{mod-eq_of_lt}
use Rattle.std.proofs.lemmas.Nat.{and_le_l}
use Rattle.net_model.specs.declared.hardware.Netlist.{Netlist}
use Rattle.net_model.specs.declared.states.State.{State}
use Rattle.net_model.specs.CheckedRules.{KeepsRules}
use Rattle.net_model.specs.Exprs.{ExprModel, word, reg, const, read, un, bin, slice, cat, zext, sext, select, write}
use Rattle.net_model.specs.Meaning.{mean}
use Rattle.net_model.specs.Symbolic.{no_state}
use Rattle.net_model.specs.Nets.{counter_of, counter_width, file_place}
use Rattle.net_model.specs.Clock.{counter_in}
use Rattle.net_model.specs.Patterns.{Pattern}
use Rattle.net_model.specs.Transfers.{IsClean, counter_transfer}
use Rattle.net_model.proofs.KeptRules.{sound_of}
use Rattle.code_model.specs.Machine.{IsAt}
use Rattle.code_model.specs.Words.{is_fixed, DoesGoto, KeepsMode}
use Rattle.net_model.specs.Fields.{fields, WordFitsTransfer, WordFitsExpr}
use Rattle.rec_bits.specs.declared.operator.Op2.{Op2}
use Rattle.rec_bits.specs.declared.operator.Op2.TheVariants.{Add}
use Rattle.std.proofs.lemmas.Bool.{and_from}
use Rattle.form_model.specs.Shapes.{Sum, field_setting, less_by, plain_setting, shape_setting, sum_of, sum_setting, sum_with, summands}
use Rattle.form_model.proofs.SumNumbers.{sum_is_with}
use Rattle.form_model.specs.Forms.{FormModel, TargetModel}
use Rattle.compaction.specs.Laws.{operation_in}
use Rattle.form_model.specs.Effects.{space_in, operation_or_none}
use Rattle.word_fit.specs.Fits.{FitsJump}
use Rattle.net_model.proofs.Masks.{masked_self, both_left, both_right}
use Rattle.net_model.proofs.WordWidths.{less_fits, move_fits}
use Rattle.net_model.proofs.TermLaws.{mean_fields}
use Rattle.branch_fix.specs.Made.{DoesBranch}
use Rattle.form_model.proofs.SettingLaws.{setting_means}
use Rattle.right_code.specs.Inner.Forks.{one_side, IsNextExpr, IsBranchForm, IsJumpMade}
use Rattle.right_code.proofs.Masks.{mask_first, mask_second}

-- ---- meanings under a word and under the bits of a setting

pub mean_under : (t : ExprModel) (s : State) (i j : ℕ) → WordFitsExpr t i → bit_and i (fields t) ≡ j → mean t s i ≡ mean t s j
mean_under t s i j fit e = mean_fields t s i j fit (less_fits t i j (subst (λ n. n ≤ i) e (and_le_l i (fields t))) fit) (masked_self i j (fields t) e)

-- ---- a shape has no registers and reads

field_fixed : (a : ExprModel) (v b : ℕ) → field_setting a v ≡ Some b → is_fixed a ≡ true
field_fixed (word w) v b e = refl
field_fixed (slice (word w) hi lo) v b e = refl
field_fixed a v b e = absurd (cc)

plain_fixed : (t : ExprModel) (v b : ℕ) → plain_setting t v ≡ Some b → is_fixed t ≡ true
plain_fixed (const w c) v b e = refl
plain_fixed (zext a w) v b e = field_fixed a v b e
plain_fixed (sext a w) v b e = by _ _ e
  where
    by : (t : Bool) (n : ℕ) → (if t then field_setting a n else None) ≡ Some b → is_fixed a ≡ true
    by true n e = field_fixed a n b e
    by false n e = absurd (cc e)
plain_fixed (word w) v b e = refl
plain_fixed (slice a hi lo) v b e = field_fixed (slice a hi lo) v b e
plain_fixed t v b e = absurd (cc)

-- a sum of a constant and a shape without them has none
part_fixed : (z : Sum) (v b : ℕ) → sum_setting (Some z) v ≡ Some b → is_fixed z.to ≡ true
part_fixed z v b e = by (nat_lt v (2 ^ z.width)) e
  where
    by : (t : Bool) → (if t then plain_setting z.to (less_by z.width v z.added) else None) ≡ Some b → is_fixed z.to ≡ true
    by true e = plain_fixed z.to (less_by z.width v z.added) b e
    by false e = absurd (cc e)

with_fixed : (w c : ℕ) (t : ExprModel) (v b : ℕ) → sum_setting (sum_with w c t) v ≡ Some b → is_fixed t ≡ true
with_fixed w c t v b e = by (sum_with w c t) refl e
  where
    by : (o : Option Sum) → sum_with w c t ≡ o → sum_setting o v ≡ Some b → is_fixed t ≡ true
    by None q e = absurd (cc e)
    by (Some z) q e = ap (λ (y : Sum). is_fixed y.to) (sum_is_with w c t z q).is ∙ part_fixed z v b e

summands_fixed : (x y : ExprModel) (v b : ℕ) → sum_setting (summands x y) v ≡ Some b → is_fixed (bin Add x y) ≡ true
summands_fixed (const w c) y v b e = with_fixed w c y v b e
summands_fixed x (const w c) v b e = and_from (is_fixed x) true (with_fixed w c x v b e) refl
summands_fixed x y v b e = absurd (cc e)

sum_fixed : (o : Op2) (x y : ExprModel) (v b : ℕ) → sum_setting (sum_of o x y) v ≡ Some b → is_fixed (bin o x y) ≡ true
sum_fixed Add x y v b e = summands_fixed x y v b e
sum_fixed _ x y v b e = absurd (cc e)

pub shape_fixed : (t : ExprModel) (v b : ℕ) → shape_setting t v ≡ Some b → is_fixed t ≡ true
shape_fixed (bin o x y) v b e = sum_fixed o x y v b e
shape_fixed (const w c) v b e = plain_fixed (const w c) v b e
shape_fixed (zext a w) v b e = plain_fixed (zext a w) v b e
shape_fixed (sext a w) v b e = plain_fixed (sext a w) v b e
shape_fixed (word w) v b e = plain_fixed (word w) v b e
shape_fixed (slice a hi lo) v b e = plain_fixed (slice a hi lo) v b e
shape_fixed (reg r w) v b e = plain_fixed (reg r w) v b e
shape_fixed (read space a w) v b e = plain_fixed (read space a w) v b e
shape_fixed (un o a) v b e = plain_fixed (un o a) v b e
shape_fixed (cat x y) v b e = plain_fixed (cat x y) v b e
shape_fixed (select c x y) v b e = plain_fixed (select c x y) v b e

-- ---- a jump or branch word of a pattern

pub jump_opened : (netlist : Netlist) (patterns : List Pattern) (i k j : ℕ) (p : Pattern) → slice_get patterns k ≡ Some p → FitsJump netlist i (operation_in netlist patterns (record { pattern = k; setting = j }))
    → FitsJump netlist i (record { storage = p.storage; space = space_in (file_place netlist.storages) p.storage; move = p.move; setting = j })
jump_opened netlist patterns i k j p e f = subst (λ o. FitsJump netlist i (operation_or_none (file_place netlist.storages) o j)) e f

module _ (netlist : Netlist) (order : List ℕ) (keeps : KeepsRules netlist order) where
  -- the words of what the program counter takes have the code's width
  pub value_fits : (i : ℕ) (e : ExprModel) → IsClean netlist i → counter_transfer netlist i ≡ write e → WordFitsExpr e i
  value_fits i e clean g = subst (λ k. WordFitsTransfer k i) g (move_fits netlist i clean.fits (sound_of netlist order keeps).typed (counter_of netlist.codes))

  -- ---- jumps

  pub jump_does : (special : Option ℕ) (patterns : List Pattern) (i to : ℕ) → IsJumpMade netlist special patterns i to → DoesGoto netlist i to
  jump_does special patterns i to h =
      let f : FitsJump netlist i (record { storage = counter_of netlist.codes; space = space_in (file_place netlist.storages) (counter_of netlist.codes); move = write h.jump.value; setting = h.bits }) =
      jump_opened netlist patterns i h.jump.pattern h.bits _ h.form.is h.word in
      let fit : WordFitsExpr h.jump.value i = value_fits i h.jump.value f.clean f.does.gives in
      record {
        clean = f.clean;
        jump = record {
          to_term = h.jump.value;
          move = f.does.gives;
          to_is = record { fixed = shape_fixed h.jump.value to h.bits h.shown; is = mean_under h.jump.value no_state i h.bits fit f.does.setting ∙ setting_means h.jump.value no_state to h.bits h.shown };
        };
        keeps = record { move = f.memory };
      }

  -- ---- branches

  next_mean : (at i : ℕ) (s : State) (e : ExprModel) → IsNextExpr netlist e → IsAt netlist at s → at + 1 < 2 ^ counter_width netlist → mean e s i ≡ at + 1
  next_mean at i s e n here b =
      let c : counter_in netlist s ≡ at = here.counter in
      elim n as (λ _. mean e s i ≡ at + 1) [
        | inl k ↦ ap (λ t. mean t s i) k ∙ ap (λ m. (m + 1) % 2 ^ counter_width netlist) c ∙ mod-eq_of_lt b
        | inr k ↦ ap (λ t. mean t s i) k ∙ ap (λ m. (1 + m) % 2 ^ counter_width netlist) c ∙ mod-eq_of_lt (omega (arith, b)) ∙ swap at
      ]
    where
      swap : (n : ℕ) → 1 + n ≡ n + 1
      swap n = omega arith

  one_mean : (b : Bool) (x y : ExprModel) (s : State) (i m n : ℕ) → mean x s i ≡ m → mean y s i ≡ n → mean (one_side b x y) s i ≡ (if b then m else n)
  one_mean true x y s i m n p q = p
  one_mean false x y s i m n p q = q

  -- the parts of a select whose sides may be swapped
  record Sides (i j : ℕ) (c x : ExprModel) : Type 0 where
    test : bit_and i (fields c) ≡ bit_and j (fields c)
    side : bit_and i (fields x) ≡ bit_and j (fields x)

  sides_of : (b : Bool) (i j : ℕ) (c x y : ExprModel) → bit_and i (fields (select c (one_side b x y) (one_side b y x))) ≡ j → Sides i j c x
  sides_of true i j c x y e =
      let h : bit_and i (bit_or (fields c) (fields x)) ≡ bit_and j (bit_or (fields c) (fields x)) = both_left i j (bit_or (fields c) (fields x)) (fields y) (masked_self i j (bit_or (bit_or (fields c) (fields x)) (fields y)) e) in
      record { test = both_left i j (fields c) (fields x) h; side = both_right i j (fields c) (fields x) h }
  sides_of false i j c x y e =
      let h : bit_and i (bit_or (fields c) (fields y)) ≡ bit_and j (bit_or (fields c) (fields y)) = both_left i j (bit_or (fields c) (fields y)) (fields x) (masked_self i j (bit_or (bit_or (fields c) (fields y)) (fields x)) e) in
      record { test = both_left i j (fields c) (fields y) h; side = both_right i j (bit_or (fields c) (fields y)) (fields x) (masked_self i j (bit_or (bit_or (fields c) (fields y)) (fields x)) e) }

  sides_fit : (b : Bool) (i : ℕ) (c x y : ExprModel) → WordFitsExpr (select c (one_side b x y) (one_side b y x)) i → WordFitsExpr c i × WordFitsExpr x i
  sides_fit true i c x y f = (f.0, f.1)
  sides_fit false i c x y f = (f.0, f.2)

  -- what a branch word's bits mean: those of the condition and those of the target
  pub record BranchParts (patterns : List Pattern) (branch : FormModel) (when_one : Bool) (way : TargetModel) (form : IsBranchForm netlist patterns branch when_one way) (i setting bits : ℕ) : Type 0 where
    pub clean : IsClean netlist i
    pub jump : FitsJump netlist i (record { storage = counter_of netlist.codes; space = space_in (file_place netlist.storages) (counter_of netlist.codes); move = write (select form.condition (one_side when_one form.target form.step) (one_side when_one form.step form.target)); setting = bit_or setting bits })
    pub test_fits : WordFitsExpr form.condition i
    pub target_fits : WordFitsExpr form.target i
    pub test : bit_and i (fields form.condition) ≡ setting
    pub target : bit_and i (fields form.target) ≡ bits

  pub branch_parts : (patterns : List Pattern) (branch : FormModel) (when_one : Bool) (way : TargetModel) (form : IsBranchForm netlist patterns branch when_one way) (i setting bits : ℕ)
      → bit_and setting (fields form.condition) ≡ setting → bit_and bits (fields form.target) ≡ bits → FitsJump netlist i (operation_in netlist patterns (record { pattern = branch.pattern; setting = bit_or setting bits }))
      → BranchParts patterns branch when_one way form i setting bits
  branch_parts patterns branch when_one way form i setting bits e g h =
      let f : FitsJump netlist i (record { storage = counter_of netlist.codes; space = space_in (file_place netlist.storages) (counter_of netlist.codes); move = write (select form.condition (one_side when_one form.target form.step) (one_side when_one form.step form.target)); setting = bit_or setting bits }) =
      jump_opened netlist patterns i branch.pattern (bit_or setting bits) _ form.is h in
      let w : WordFitsExpr form.condition i × WordFitsExpr form.target i = sides_fit when_one i form.condition form.target form.step (value_fits i _ f.clean f.does.gives) in
      let p : Sides i (bit_or setting bits) form.condition form.target = sides_of when_one i (bit_or setting bits) form.condition form.target form.step f.does.setting in
      record {
        clean = f.clean;
        jump = f;
        test_fits = w.0;
        target_fits = w.1;
        test = p.test ∙ mask_first setting bits (fields form.condition) (fields form.target) g form.apart ∙ e;
        target = p.side ∙ mask_second setting bits (fields form.condition) (fields form.target) e form.apart ∙ g;
      }

  -- a branch word goes to its target, or on
  pub branch_does : (patterns : List Pattern) (branch : FormModel) (when_one : Bool) (way : TargetModel) (form : IsBranchForm netlist patterns branch when_one way) (i setting bits at to : ℕ)
      → BranchParts patterns branch when_one way form i setting bits → ((s : State) → IsAt netlist at s → mean form.target s i ≡ to) → at + 1 < 2 ^ counter_width netlist
      → (special : Option ℕ) → KeepsMode special netlist i → DoesBranch netlist special i form.condition when_one at to
  branch_does patterns branch when_one way form i setting bits at to p leads b special mode = record {
    clean = p.clean;
    keeps = record { move = p.jump.memory };
    mode = mode;
    first = one_side when_one form.target form.step;
    second = one_side when_one form.step form.target;
    move = p.jump.does.gives;
    on_one = λ s here. one_mean when_one form.target form.step s i to (at + 1) (leads s here) (next_mean at i s form.step form.steps here b);
    on_zero = λ s here. one_mean when_one form.step form.target s i (at + 1) to (next_mean at i s form.step form.steps here b) (leads s here);
  }
