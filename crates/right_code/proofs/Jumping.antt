-- Each jump and branch word of a layout is there.
use Rattle.std.proofs.Common.{ℕ, zero, suc, ◌≡◌, ◌≤◌, ◌<◌, ◌+◌, min, unwrap_or, bit_and, bit_or, Bool, true, false, List, [], ◌∷◌, ◌++◌, length, Option, Some, slice_get, slice_index, refl, sym, ◌∙◌, ap, arith, subst}
use Rattle.std.specs.Int.{bit_at}
use Rattle.std.proofs.lemmas.Nat.Bits.{bit_at_and, bit_at_or}
use Rattle.rec_bits.proofs.Options.{same_Some}
use Rattle.rec_bits.proofs.Lists.{slice_get_within}
use Rattle.rec_bits.proofs.Bits.{within_mask}
use Rattle.net_model.specs.declared.hardware.Netlist.{Netlist}
use Rattle.net_model.specs.CheckedRules.{KeepsRules}
use Rattle.net_model.specs.Fields.{fields, transfer_fields}
use Rattle.net_model.specs.Patterns.{IsPattern, IsWordOf, Pattern}
use Rattle.net_model.specs.Exprs.{ExprModel, keep, select}
use Rattle.form_model.specs.declared.flow.Flow.{Flow}
use Rattle.form_model.specs.declared.forms.Step.{Step}
use Rattle.form_model.specs.Covers.{IsOrderly, StockModel}
use Rattle.compaction.specs.Laws.{operation_in}
use Rattle.form_model.specs.CoverModels.{CoverModel}
use Rattle.form_model.specs.Forms.{FormModel, tested}
use Rattle.form_model.specs.Shapes.{shape_setting}
use Rattle.form_model.specs.Steps.{branch_setting}
use Rattle.form_set.specs.Listing.{greatest_reach}
use Rattle.form_set.specs.Promises.{is_control_goal}
use Rattle.form_set.specs.Words.{ForEachSetting, IsSetting}
use Rattle.compaction.proofs.Worded.{jump_fits}
use Rattle.branch_fix.specs.Inner.Flowing.{IsFlow}
use Rattle.branch_fix.specs.Items.{behind, branch_step, groups, items_from, jump_form, jump_step, part_items}
use Rattle.branch_fix.specs.Parts.{address, room, starts}
use Rattle.branch_fix.specs.declared.laid.Item.{Item}
use Rattle.branch_fix.specs.declared.laid.Item.TheVariants.{Group, Jump as Word}
use Rattle.branch_fix.specs.declared.part.BranchedTest.{BranchedTest}
use Rattle.branch_fix.specs.declared.part.LayoutPart.{LayoutPart}
use Rattle.branch_fix.specs.declared.part.LayoutPart.TheVariants.{Block, Inner, Test, Jump, End}
use Rattle.right_code.specs.Forks.{cover_form}
use Rattle.right_code.specs.Inner.Forks.{IsBranchForm, one_side}
use Rattle.right_code.specs.Laid.{IsLayout}
use Rattle.right_code.specs.Inner.Laid.{AreTurns}
use Rattle.right_code.proofs.Forked.{setting_within}
use Rattle.right_code.proofs.Inside.{Upto}
use Rattle.right_code.proofs.Masks.{shape_bits}
use Rattle.branch_fix.proofs.Addresses.{address_is}
use Rattle.right_code.proofs.Layouts.{IsBranchStep, branch_step_is, goals, near, ways}
use Rattle.right_code.proofs.Standing.{shown_some}
use Rattle.right_code.proofs.Turns.{first_jump}
use Rattle.mode_set.specs.Words.{FitsTurn}
use Rattle.code_model.specs.Words.{KeepsMode}
use Rattle.net_model.specs.Transfers.{memory_transfer}
use Rattle.right_code.proofs.Ways.{way_bits}

-- ---- bits of a part of a mask

in_mask : (s f k : ℕ) → bit_and s f ≡ s → bit_at f k ≡ 0 → bit_at s k ≡ 0
in_mask s f k e z =
    let a : bit_at s k ≡ min (bit_at s k) (bit_at f k) = ap (λ n. bit_at n k) (sym e) ∙ bit_at_and s f k in
    omega (arith, a, z)

-- bits of a condition and of a target are bits of the branch
branch_fields : (w : Bool) (c x y : ExprModel) (s b : ℕ) → bit_and s (fields c) ≡ s → bit_and b (fields x) ≡ b
    → bit_and (bit_or s b) (fields (select c (one_side w x y) (one_side w y x))) ≡ bit_or s b
branch_fields true c x y s b p q = within_mask (bit_or s b) (bit_or (bit_or (fields c) (fields x)) (fields y)) at
  where
    at : (k : ℕ) → bit_at (bit_or (bit_or (fields c) (fields x)) (fields y)) k ≡ 0 → bit_at (bit_or s b) k ≡ 0
    at k z =
        let u = bit_at_or (bit_or (fields c) (fields x)) (fields y) k in
        let v = bit_at_or (fields c) (fields x) k in
        let m = in_mask s (fields c) k p (omega (arith, u, v, z)) in
        let n = in_mask b (fields x) k q (omega (arith, u, v, z)) in
        omega (arith, bit_at_or s b k, m, n)
branch_fields false c x y s b p q = within_mask (bit_or s b) (bit_or (bit_or (fields c) (fields y)) (fields x)) at
  where
    at : (k : ℕ) → bit_at (bit_or (bit_or (fields c) (fields y)) (fields x)) k ≡ 0 → bit_at (bit_or s b) k ≡ 0
    at k z =
        let u = bit_at_or (bit_or (fields c) (fields y)) (fields x) k in
        let v = bit_at_or (fields c) (fields y) k in
        let m = in_mask s (fields c) k p (omega (arith, u, v, z)) in
        let n = in_mask b (fields x) k q (omega (arith, u, z)) in
        omega (arith, bit_at_or s b k, m, n)

-- the word is of the pattern's set, and keeps the data memory and the mode
pub record TurnsWith (netlist : Netlist) (o : Option ℕ) (pattern : Pattern) (word : ℕ) : Type 0 where
  pub given : IsWordOf netlist pattern word
  pub memory : memory_transfer netlist word ≡ keep
  pub mode : KeepsMode o netlist word

-- the form's pattern has such a word for each setting
pub record CanTurnWith (netlist : Netlist) (o : Option ℕ) (patterns : List Pattern) (form : FormModel) : Type 0 where
  pub pattern : Pattern
  pub at : slice_get patterns form.pattern ≡ Some pattern
  pub is : IsPattern netlist pattern
  pub can : ForEachSetting (transfer_fields pattern.move) (TurnsWith netlist o pattern)

-- each jump and branch form has
abbrev pub AllTurn : Netlist → Option ℕ → List Pattern → List FormModel → Type 0
AllTurn netlist o patterns forms = (k : ℕ) (form : FormModel) → slice_get forms k ≡ Some form → is_control_goal form.goal ≡ true → CanTurnWith netlist o patterns form

module _ (netlist : Netlist) (order : List ℕ) (keeps : KeepsRules netlist order) (o : Option ℕ) (patterns : List Pattern) (reach : ℕ) (stock : StockModel) (turning : AllTurn netlist o patterns stock.forms) (far : reach ≡ greatest_reach stock.forms)
    (turns : AreTurns netlist patterns stock.forms reach) where
  -- a step has a word that does its jump
  abbrev pub HasWord : Step → Type 0
  HasWord step = (word : ℕ) × FitsTurn netlist o word (operation_in netlist patterns step)

  -- a step of such a form with bits of its pattern
  turn_word : (form : FormModel) (p : Pattern) (setting : ℕ) → CanTurnWith netlist o patterns form → slice_get patterns form.pattern ≡ Some p → IsSetting (transfer_fields p.move) setting
      → HasWord (record { pattern = form.pattern; setting = setting })
  turn_word form p setting can at within =
      let own : IsSetting (transfer_fields can.pattern.move) setting = subst (λ (q : Pattern). IsSetting (transfer_fields q.move) setting) (same_Some p can.pattern (sym at ∙ can.at)) within in
      let w = can.can setting own in (
        w.0,
        record {
          fits = jump_fits netlist patterns (record { pattern = form.pattern; setting = setting }) (record { pattern = can.pattern; at = can.at; is = can.is; setting = own }) w.0 w.2.given w.1 w.2.memory;
          mode = w.2.mode;
        },
      )

  first_turns : 1 ≤ reach → CanTurnWith netlist o patterns turns.form
  first_turns l =
      let f = first_jump stock.forms reach l far in
      let same : turns.form ≡ f.form = same_Some turns.form f.form (sym turns.first ∙ f.first) in
      turning f.place turns.form (f.at ∙ ap Some (sym same)) (ap (λ (r : FormModel). is_control_goal r.goal) same ∙ ap is_control_goal f.goal)

  -- a jump to an address below the reach
  jump_word : (to : ℕ) → to < reach → HasWord (jump_step (jump_form stock.forms reach) to)
  jump_word to lt =
      let bits : ℕ = unwrap_or (shape_setting turns.form.value to) 0 in
      let shown : shape_setting turns.form.value to ≡ Some bits = shown_some (shape_setting turns.form.value to) (turns.shown to lt) in
      subst (λ p. HasWord (jump_step p to)) (sym turns.first)
      (turn_word turns.form _ bits (first_turns (omega (arith, lt))) turns.jump.is (shape_bits turns.form.value to bits shown))

  -- ---- the words of items

  abbrev pub ItemsHave : List Item → Type 0
  ItemsHave [] = Unit {0}
  ItemsHave (Group block at ∷ items) = ItemsHave items
  ItemsHave (Word step ∷ items) = HasWord step × ItemsHave items

  have_on : (xs ys : List Item) → ItemsHave xs → ItemsHave ys → ItemsHave (xs ++ ys)
  have_on [] ys g h = h
  have_on (Group block at ∷ xs) ys g h = have_on xs ys g h
  have_on (Word step ∷ xs) ys g h = (g.0, have_on xs ys g.1 h)

  have_get : (items : List Item) (k : ℕ) (step : Step) → ItemsHave items → slice_get items k ≡ Some (Word step) → HasWord step
  have_get [] k step h e = absurd (cc e)
  have_get (Group block at ∷ items) zero step h e = absurd (cc e)
  have_get (Word x ∷ items) zero step h e = subst HasWord (same x step e) h.0
    where
      same : (x y : Step) → Some (Word x) ≡ Some (Word y) → x ≡ y
      same x y e = cc
  have_get (Group block at ∷ items) (suc k) step h e = have_get items k step h e
  have_get (Word x ∷ items) (suc k) step h e = have_get items k step h.1 e

  groups_have : (block at n : ℕ) → ItemsHave (groups block at n)
  groups_have block at zero = tt
  groups_have block at (suc n) = groups_have block (at + 1) n

  items_have : (forms : List FormModel) (jump : Option FormModel) (addresses : List ℕ) (at : ℕ) (parts : List LayoutPart)
      → ((k : ℕ) (p : LayoutPart) (n : ℕ) → slice_get parts k ≡ Some p → n ≡ at + address parts k → ItemsHave (part_items forms jump addresses n p)) → ItemsHave (items_from forms jump addresses at parts)
  items_have forms jump addresses at [] h = tt
  items_have forms jump addresses at (p ∷ parts) h =
      have_on (part_items forms jump addresses at p) (items_from forms jump addresses (at + room p) parts) (h 0 p at refl (omega arith))
      (items_have forms jump addresses (at + room p) parts (λ k q n e z. h (suc k) q n e (omega (arith, z))))

  module _ (flow : List Flow) (parts : List LayoutPart) (end : ℕ) (f : IsFlow flow end) (upto : Upto end flow) (layout : IsLayout stock.forms flow parts reach) where
    -- a jump to a place
    to_place : (k : ℕ) → k < length parts → HasWord (jump_step (jump_form stock.forms reach) (slice_index (starts parts) k))
    to_place k lt = subst (λ n. HasWord (jump_step (jump_form stock.forms reach) n)) (sym (address_is parts k (omega (arith, lt)))) (jump_word (address parts k) (near netlist order keeps patterns stock reach turns flow parts end f upto layout k lt))

    behind_have : (next long : Bool) (to other : ℕ) → to < length parts → other < length parts
        → ItemsHave (behind (jump_form stock.forms reach) next long (slice_index (starts parts) to) (slice_index (starts parts) other))
    behind_have next true to other lt low = (to_place other low, (to_place to lt, tt))
    behind_have true false to other lt low = tt
    behind_have false false to other lt low = (to_place other low, tt)

    -- each branch has the form and the setting of an orderly cover
    pub record IsAsked (g : BranchedTest) : Type 0 where
      pub tree : ExprModel
      pub cover : CoverModel
      pub orderly : IsOrderly stock tested tree true cover
      pub form : slice_get stock.forms g.form ≡ Some (cover_form stock cover)
      pub setting : g.setting ≡ branch_setting stock tree cover

    branch_word : (at : ℕ) (g : BranchedTest) → slice_get parts at ≡ Some (Test g) → IsAsked g → HasWord (branch_step (slice_get stock.forms g.form) g.setting (address parts at + g.words) (slice_index (starts parts) g.to) g.long)
    branch_word at g e asked =
        let setting : ℕ = branch_setting stock asked.tree asked.cover in
        let s : IsBranchStep netlist order keeps patterns stock reach turns flow parts end f upto layout setting asked.cover g (address parts at + g.words) (address parts g.to) =
        branch_step_is netlist order keeps patterns stock reach turns flow parts end f upto layout at g e asked.tree asked.cover setting asked.orderly asked.form asked.setting in
        let branch : FormModel = cover_form stock asked.cover in
        let form : IsBranchForm netlist patterns branch s.when_one s.way = turns.forks g.form branch s.when_one s.way asked.form s.goal in
        let own : bit_and setting (fields form.condition) ≡ setting = subst (λ k. bit_and setting k ≡ setting) form.same_fields (setting_within stock asked.tree asked.cover asked.orderly) in
        let bits : bit_and s.bits (fields form.target) ≡ s.bits = way_bits netlist s.way form.target (address parts at + g.words) (address parts g.to) g.long s.bits form.goes s.shown in
        subst HasWord (sym s.step)
        (turn_word branch _ (bit_or setting s.bits) (turning g.form branch asked.form (ap is_control_goal s.goal)) form.is
        (branch_fields s.when_one form.condition form.target form.step setting s.bits own bits))

    part_have : ((at : ℕ) (g : BranchedTest) → slice_get parts at ≡ Some (Test g) → IsAsked g) → (k : ℕ) (p : LayoutPart) → slice_get parts k ≡ Some p
        → ItemsHave (part_items stock.forms (jump_form stock.forms reach) (starts parts) (address parts k) p)
    part_have asked k (Block block words) e = groups_have block 0 words
    part_have asked k Inner e = tt
    part_have asked k (Test g) e =
        have_on (groups g.block 0 g.words) _ (groups_have g.block 0 g.words)
        (branch_word k g e (asked k g e), behind_have g.next g.long g.to g.other (ways netlist order keeps patterns stock reach turns flow parts end f upto layout k g e).0 (ways netlist order keeps patterns stock reach turns flow parts end f upto layout k g e).1)
    part_have asked k (Jump to) e = (to_place to (goals netlist order keeps patterns stock reach turns flow parts end f upto layout k to e), tt)
    part_have asked k End e = (jump_word (address parts k) (near netlist order keeps patterns stock reach turns flow parts end f upto layout k (slice_get_within parts k End e)), tt)

    -- each jump and branch word of the layout
    pub layout_words : ((at : ℕ) (g : BranchedTest) → slice_get parts at ≡ Some (Test g) → IsAsked g) → (k : ℕ) (step : Step)
        → slice_get (items_from stock.forms (jump_form stock.forms reach) (starts parts) 0 parts) k ≡ Some (Word step) → HasWord step
    layout_words asked k step e =
        have_get (items_from stock.forms (jump_form stock.forms reach) (starts parts) 0 parts) k step
        (items_have stock.forms (jump_form stock.forms reach) (starts parts) 0 parts
        (λ n p a h z. subst (λ m. ItemsHave (part_items stock.forms (jump_form stock.forms reach) (starts parts) m p)) (let y : address parts n ≡ a = omega (arith, z) in y) (part_have asked n p h))) e
