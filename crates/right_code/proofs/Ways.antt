-- Where a branch word's target bits lead.
use Rattle.std.proofs.Common.{ℕ, ◌≡◌, ◌≤◌, ◌<◌, ◌+◌, ◌%◌, ◌^◌, ◌⊎◌, inl, inr, Bool, true, false, if◌then◌else◌, bit_and, Some, refl, sym, ◌∙◌, ap, arith, subst}
use Rattle.std.proofs.Math.Nat.{mod-eq_of_lt}
use Rattle.net_model.specs.declared.hardware.Netlist.{Netlist}
use Rattle.net_model.specs.declared.states.State.{State}
use Rattle.net_model.specs.Exprs.{ExprModel, reg, bin, expr_width}
use Rattle.rec_bits.specs.declared.operator.Op2.TheVariants.{Add}
use Rattle.net_model.specs.Meaning.{mean}
use Rattle.net_model.specs.Nets.{counter_of, counter_width}
use Rattle.net_model.specs.Clock.{counter_in}
use Rattle.code_model.specs.Machine.{IsAt}
use Rattle.net_model.specs.Fields.{fields, WordFitsExpr}
use Rattle.form_model.specs.Shapes.{shape_setting}
use Rattle.form_model.specs.Forms.{TargetModel, absolute, relative}
use Rattle.branch_fix.specs.Rounds.{distance}
use Rattle.form_model.proofs.SettingLaws.{setting_means}
use Rattle.branch_fix.proofs.Settings.{distance_leads}
use Rattle.right_code.specs.Inner.Forks.{IsTargetExpr, IsTargetShown}
use Rattle.right_code.proofs.Masks.{none_or, or_none, shape_bits}
use Rattle.right_code.proofs.Branching.{mean_under}

-- a shape under a word that has the bits of a value
shape_is : (t : ExprModel) (s : State) (i v b : ℕ) → WordFitsExpr t i → bit_and i (fields t) ≡ b → shape_setting t v ≡ Some b → mean t s i ≡ v
shape_is t s i v b fit e h = mean_under t s i b fit e ∙ setting_means t s v b h

-- a distance that is shown
record Far (w : ℕ) (shape : ExprModel) (from to : ℕ) (long : Bool) (bits : ℕ) : Type 0 where
  v : ℕ
  shown : shape_setting shape v ≡ Some bits
  leads : (from + v) % 2 ^ w ≡ (if long then from + 2 else to)

module _ (netlist : Netlist) where
  far : (shape : ExprModel) (from to : ℕ) (long : Bool) (bits : ℕ) → expr_width shape ≡ counter_width netlist → IsTargetShown netlist (relative shape) from to long bits
      → counter_width netlist ≤ 64 → from < 2 ^ counter_width netlist → from ≤ 2 ^ 64 → (long ≡ true → from + 2 < 2 ^ counter_width netlist) → Far (counter_width netlist) shape from to long bits
  far shape from to true bits w h few at le lt = record { v = 2; shown = h; leads = mod-eq_of_lt (lt refl) }
  far shape from to false bits w h few at le lt = record {
    v = distance (expr_width shape) from to;
    shown = h.1;
    leads = ap (λ n. (from + distance n from to) % 2 ^ counter_width netlist) w ∙ distance_leads (counter_width netlist) from to few h.0;
  }

  relative_bits : (shape e : ExprModel) (b : ℕ) → (e ≡ bin Add (reg (counter_of netlist.codes) (counter_width netlist)) shape) ⊎ (e ≡ bin Add shape (reg (counter_of netlist.codes) (counter_width netlist)))
      → (j : ℕ) → bit_and j (fields e) ≡ bit_and j (fields shape)
  relative_bits shape e b o j = elim o as (λ _. bit_and j (fields e) ≡ bit_and j (fields shape)) [
    | inl k ↦ ap (λ t. bit_and j (fields t)) k ∙ none_or j (fields shape)
    | inr k ↦ ap (λ t. bit_and j (fields t)) k ∙ or_none j (fields shape)
  ]

  some_far : (shape : ExprModel) (from to : ℕ) (long : Bool) (bits : ℕ) → IsTargetShown netlist (relative shape) from to long bits → bit_and bits (fields shape) ≡ bits
  some_far shape from to true bits h = shape_bits shape 2 bits h
  some_far shape from to false bits h = shape_bits shape _ bits h.1

  -- the target's bits are bits of the target
  pub way_bits : (way : TargetModel) (e : ExprModel) (from to : ℕ) (long : Bool) (bits : ℕ) → IsTargetExpr netlist way e → IsTargetShown netlist way from to long bits → bit_and bits (fields e) ≡ bits
  way_bits (absolute shape) e from to long bits g h = ap (λ t. bit_and bits (fields t)) g ∙ shape_bits shape to bits h.1
  way_bits (relative shape) e from to long bits g h = relative_bits shape e bits g.2 bits ∙ some_far shape from to long bits h

  relative_leads : (shape e : ExprModel) (from i v : ℕ) (s : State) → (e ≡ bin Add (reg (counter_of netlist.codes) (counter_width netlist)) shape) ⊎ (e ≡ bin Add shape (reg (counter_of netlist.codes) (counter_width netlist)))
      → WordFitsExpr e i → (WordFitsExpr shape i → mean shape s i ≡ v) → expr_width shape ≡ counter_width netlist → IsAt netlist from s → mean e s i ≡ (from + v) % 2 ^ counter_width netlist
  relative_leads shape e from i v s o fit h w here =
      let c : counter_in netlist s ≡ from = here.counter in
      elim o as (λ _. mean e s i ≡ (from + v) % 2 ^ counter_width netlist) [
        | inl k ↦
            (let m : mean shape s i ≡ v = h (subst (λ t. WordFitsExpr t i) k fit).1 in
            ap (λ t. mean t s i) k ∙ (λ j. (c j + m j) % 2 ^ counter_width netlist))
        | inr k ↦
            (let m : mean shape s i ≡ v = h (subst (λ t. WordFitsExpr t i) k fit).0 in
            ap (λ t. mean t s i) k ∙ (λ j. (m j + c j) % 2 ^ w j) ∙ ap (λ n. n % 2 ^ counter_width netlist) (swap v from))
      ]
    where
      swap : (m n : ℕ) → m + n ≡ n + m
      swap m n = omega arith

  -- and lead there
  pub way_leads : (way : TargetModel) (e : ExprModel) (from to : ℕ) (long : Bool) (bits i : ℕ) (s : State) → IsTargetExpr netlist way e → IsTargetShown netlist way from to long bits → WordFitsExpr e i → bit_and i (fields e) ≡ bits
      → counter_width netlist ≤ 64 → from < 2 ^ counter_width netlist → from ≤ 2 ^ 64 → (long ≡ true → from + 2 < 2 ^ counter_width netlist) → IsAt netlist from s → mean e s i ≡ (if long then from + 2 else to)
  way_leads (absolute shape) e from to long bits i s g h fit b few at le lt here =
      shape_is e s i to bits fit b (ap (λ t. shape_setting t to) g ∙ h.1) ∙ ap (λ (l : Bool). if l then from + 2 else to) (sym h.0)
  way_leads (relative shape) e from to long bits i s g h fit b few at le lt here =
      let f : Far (counter_width netlist) shape from to long bits = far shape from to long bits g.1 h few at le lt in
      relative_leads shape e from i f.v s g.2 fit (λ k. shape_is shape s i f.v bits k (sym (relative_bits shape e bits g.2 i) ∙ b) f.shown) g.1 here ∙ f.leads
