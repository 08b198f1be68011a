-- Where the parts of a layout stand, and the steps of its branch words.
use Rattle.std.proofs.Common.{ℕ, ◌≡◌, ◌≤◌, ◌<◌, ◌+◌, ◌^◌, bit_or, Bool, true, false, List, length, Some, slice_get, slice_index, refl, sym, ◌∙◌, ap, arith, subst}
use Rattle.net_model.specs.declared.hardware.Netlist.{Netlist}
use Rattle.net_model.specs.CheckedRules.{KeepsRules}
use Rattle.net_model.specs.Nets.{counter_width}
use Rattle.net_model.specs.Patterns.{Pattern}
use Rattle.net_model.specs.Exprs.{ExprModel, expr_width}
use Rattle.form_model.specs.declared.flow.Flow.{Flow}
use Rattle.form_model.specs.declared.flow.Flow.TheVariants.{End as Ended}
use Rattle.form_model.specs.Shapes.{shape_setting}
use Rattle.form_model.specs.Forms.{FormModel, GoalModel, into_reg, into_file, into_memory, jumps, branches, TargetModel, absolute, relative, tested}
use Rattle.form_model.specs.CoverModels.{CoverModel, use_form}
use Rattle.form_model.specs.Covers.{StockModel, IsOrderly}
use Rattle.form_model.specs.Matches.{goal_match}
use Rattle.form_model.specs.Steps.{form_at, match_at}
use Rattle.emit_seq.proofs.Opened.{opened_cover}
use Rattle.branch_fix.specs.Parts.{room, total, starts, address, PartsFit}
use Rattle.branch_fix.specs.Rounds.{distance, target_shows, goal_shows, form_shows}
use Rattle.branch_fix.specs.Items.{target_setting, goal_setting, branch_step}
use Rattle.branch_fix.specs.Inner.Flowing.{IsFlow}
use Rattle.branch_fix.specs.declared.part.BranchedTest.{BranchedTest}
use Rattle.branch_fix.specs.declared.part.LayoutPart.{LayoutPart}
use Rattle.branch_fix.specs.declared.part.LayoutPart.TheVariants.{Test, Jump}
use Rattle.branch_fix.proofs.Addresses.{address_is, address_next, address_rises, part_at, fit_length}
use Rattle.branch_fix.proofs.Laying.{address_total, settled_fit}
use Rattle.right_code.specs.Forks.{cover_form}
use Rattle.right_code.specs.Inner.Forks.{IsTargetShown}
use Rattle.right_code.specs.Laid.{IsLayout}
use Rattle.right_code.specs.Inner.Laid.{TargetReaches, AreTurns}
use Rattle.right_code.proofs.Coded.{ended}
use Rattle.right_code.proofs.Inside.{IsWide, AreWide, Upto, ways_inside, goals_inside, settled_wide}
use Rattle.branch_fix.proofs.Rounds.{still_shows}
use Rattle.right_code.proofs.Standing.{shown_some}

-- the form at the root of a test's cover is a branch form
pub cover_goal : (stock : StockModel) (tree : ExprModel) (cover : CoverModel) → IsOrderly stock tested tree true cover → (b : Bool) × (way : TargetModel) × ((cover_form stock cover).goal ≡ branches b way)
cover_goal stock tree (use_form k ps cs) o = by (form_at stock k).goal refl (opened_cover stock k ps cs tested tree true o).takes
  where
    by : (g : GoalModel) → (form_at stock k).goal ≡ g → goal_match stock.temps (form_at stock k) g tested tree true ≡ Some (match_at stock k tested tree true) → (b : Bool) × (way : TargetModel) × ((form_at stock k).goal ≡ branches b way)
    by (branches b way) e h = (b, way, e)
    by (into_reg id) e h = absurd (cc h)
    by into_memory e h = absurd (cc h)
    by into_file e h = absurd (cc h)
    by (jumps reach) e h = absurd (cc h)

-- a part stands in the code
pub within_code : (forms : List FormModel) (flow : List Flow) (end : ℕ) (parts : List LayoutPart) (k : ℕ) → IsFlow flow end → PartsFit forms flow 0 flow parts → k < length parts → address parts k < total parts
within_code forms flow end parts k f fit l =
    let n : length parts ≡ length flow = fit_length forms flow 0 flow parts fit in
    let long : length flow ≡ end + 1 = f.long in
    let at = part_at forms flow 0 flow parts end end Ended fit f.last (omega arith) in
    let one : 1 ≤ room at.0 = (ended forms flow end at.0 at.2).1 in
    let b : address parts (end + 1) ≡ address parts end + room at.0 = address_next parts end at.0 at.1 in
    let c : address parts (end + 1) ≡ total parts = address_total parts (end + 1) (sym (n ∙ long)) in
    let d : address parts k ≤ address parts end = address_rises parts k end (omega (arith, n, long, l)) in
    omega (arith, one, b, c, d)

-- the bits that the layout gives a branch word show its target
shown_way : (netlist : Netlist) (reach : ℕ) (way : TargetModel) (long : Bool) (from to : ℕ) → TargetReaches reach way → to < reach → to < 2 ^ counter_width netlist → (long ≡ true → IsWide way)
    → (long ≡ false → target_shows way from to ≡ true) → IsTargetShown netlist way from to long (target_setting way from to long)
shown_way netlist reach (absolute shape) true from to r lt low wide still = absurd (wide refl)
shown_way netlist reach (absolute shape) false from to r lt low wide still = (refl, shown_some (shape_setting shape to) (r to lt))
shown_way netlist reach (relative shape) true from to r lt low wide still = shown_some (shape_setting shape 2) r
shown_way netlist reach (relative shape) false from to r lt low wide still = (low, shown_some (shape_setting shape (distance (expr_width shape) from to)) (still refl))

module _ (netlist : Netlist) (order : List ℕ) (keeps : KeepsRules netlist order) (patterns : List Pattern) (stock : StockModel) (reach : ℕ) (turns : AreTurns netlist patterns stock.forms reach) where
  module _ (flow : List Flow) (parts : List LayoutPart) (end : ℕ) (f : IsFlow flow end) (upto : Upto end flow) (layout : IsLayout stock.forms flow parts reach) where
    pub fit : PartsFit stock.forms flow 0 flow parts
    fit = settled_fit stock.forms flow layout.sizes layout.branches parts layout.settled

    wide : AreWide stock.forms parts
    wide = subst (AreWide stock.forms) (sym layout.settled.made) (settled_wide stock.forms flow layout.sizes layout.branches layout.settled.count)

    pub ways : (at : ℕ) (g : BranchedTest) → slice_get parts at ≡ Some (Test g) → (g.to < length parts) × (g.other < length parts)
    ways = ways_inside stock.forms flow parts end fit f.long upto

    pub goals : (at to : ℕ) → slice_get parts at ≡ Some (Jump to) → to < length parts
    goals = goals_inside stock.forms flow parts end fit f.long upto

    low : (k : ℕ) → k < length parts → address parts k < total parts
    low k l = within_code stock.forms flow end parts k f fit l

    pub near : (k : ℕ) → k < length parts → address parts k < reach
    near k l = let a : address parts k < total parts = low k l in let r : total parts ≤ reach = layout.reached in omega (arith, a, r)

    counted : (k : ℕ) → k < length parts → address parts k < 2 ^ counter_width netlist
    counted k l =
        let a : address parts k < total parts = low k l in
        let r : total parts ≤ reach = layout.reached in
        let c : reach ≤ 2 ^ counter_width netlist = turns.narrow in
        omega (arith, a, r, c)

    -- the step of a branch word: the condition's bits, and those that show the target
    pub record IsBranchStep (setting : ℕ) (cover : CoverModel) (g : BranchedTest) (from to : ℕ) : Type 0 where
      pub when_one : Bool
      pub way : TargetModel
      pub goal : (cover_form stock cover).goal ≡ branches when_one way
      pub bits : ℕ
      pub shown : IsTargetShown netlist way from to g.long bits
      pub step : branch_step (slice_get stock.forms g.form) g.setting from (slice_index (starts parts) g.to) g.long ≡ record { pattern = (cover_form stock cover).pattern; setting = bit_or setting bits }

    pub branch_step_is : (at : ℕ) (g : BranchedTest) → slice_get parts at ≡ Some (Test g) → (tree : ExprModel) (cover : CoverModel) (setting : ℕ) → IsOrderly stock tested tree true cover → slice_get stock.forms g.form ≡ Some (cover_form stock cover) → g.setting ≡ setting
        → IsBranchStep setting cover g (address parts at + g.words) (address parts g.to)
    branch_step_is at g e tree cover setting orderly form asked =
        let branch : FormModel = cover_form stock cover in
        let from : ℕ = address parts at + g.words in
        let to : ℕ = address parts g.to in
        let goal = cover_goal stock tree cover orderly in
        let way : TargetModel = goal.1 in
        let is : branch.goal ≡ branches goal.0 way = goal.2 in
        let in_to = (ways at g e).0 in
        let to_is : slice_index (starts parts) g.to ≡ to = address_is parts g.to (omega (arith, in_to)) in
        let still : g.long ≡ false → target_shows way from to ≡ true =
        (λ z. sym (ap (λ o. form_shows o from (slice_index (starts parts) g.to)) form ∙ ap (λ n. goal_shows branch.goal from n) to_is ∙ ap (λ k. goal_shows k from to) is)
        ∙ still_shows stock.forms (starts parts) parts at g e layout.settled.still z) in
        record {
          when_one = goal.0;
          way = way;
          goal = is;
          bits = target_setting way from to g.long;
          shown = shown_way netlist reach way g.long from to (turns.reaches g.form branch goal.0 way form is) (near g.to in_to) (counted g.to in_to) (wide at g branch goal.0 way e form is) still;
          step = ap (λ o. branch_step o g.setting from (slice_index (starts parts) g.to) g.long) form ∙ ap (λ n. branch_step (Some branch) g.setting from n g.long) to_is
              ∙ ap (λ n. branch_step (Some branch) n from to g.long) asked ∙ ap (λ k. record { pattern = branch.pattern; setting = bit_or setting (goal_setting k from to g.long) }) is;
        }
