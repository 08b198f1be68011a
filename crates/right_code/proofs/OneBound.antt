-- Jobs have one list of costs, and a task one bound and one reach, to which its image keeps.
use Rattle.std.proofs.Common.{◌≡◌, ◌≤◌, ◌<◌, ◌⊎◌, inl, inr, ℕ, ◌+◌, List, [], ◌∷◌, length, refl, sym, ◌∙◌, ap, subst, arith}
use Rattle.code_model.specs.declared.image.Image.{Image}
use Rattle.code_model.specs.Places.{words_of}
use Rattle.form_model.specs.Covers.{JobCoverModel, ChoiceBefore, IsChosen, StockModel, job_cost, parts_cost}
use Rattle.form_model.specs.CoverModels.{CoverModel, use_form, cost}
use Rattle.form_model.specs.Forms.{DestinationModel, FormModel, into, cell, filed, stored, temporary, tested}
use Rattle.form_set.specs.Listing.{greatest_reach}
use Rattle.mode_set.specs.Costs.{CoversIn, IsPlanned, PlanModel, mode_cost}
use Rattle.mode_set.specs.Keeping.{CanUse, Isas, IsUsable}
use Rattle.src_trees.specs.Lowered.{JobModel}
use Rattle.branch_fix.specs.Bounds.{program_bound}
use Rattle.right_code.specs.Bounded.{HasBound}
use Rattle.right_code.specs.Covered.{AllPlanned, AreCosts, ArePlans, mode_stock, numbered, plan_costs}
use Rattle.right_code.specs.Images.{IsMadeFor}
use Rattle.right_code.specs.Tasks.{Task, task_stock, task_jobs}
use Rattle.right_code.proofs.OneForms.{all_one, keeping_one}

-- ---- a job has one cost

least_cost : (stock : StockModel) (job : JobModel) (a b : JobCoverModel) → IsChosen stock job.destination job.trees a → IsChosen stock job.destination job.trees b → cost a.cover ≤ cost b.cover
least_cost stock job a b h k = by (h.first b k.covers)
  where
    by : (cost a.cover < cost b.cover) ⊎ ((cost a.cover ≡ cost b.cover) × ((a ≡ b) ⊎ ChoiceBefore a b)) → cost a.cover ≤ cost b.cover
    by (inl l) = omega (arith, l)
    by (inr e) = let s = e.0 in omega (arith, s)

own_one : (cover : CoverModel) → cost cover ≡ 1 + parts_cost cover
own_one (use_form k ps cs) = omega arith

same_cost : (destination : DestinationModel) (p q : CoverModel) → cost p ≡ cost q → job_cost destination p ≡ job_cost destination q
same_cost tested p q e = let a = own_one p in let b = own_one q in omega (arith, a, b, e)
same_cost (into id) p q e = e
same_cost (cell address) p q e = e
same_cost (stored address) p q e = e
same_cost temporary p q e = e
same_cost filed p q e = e

-- by the forms of one mode
pub chosen_cost_one : (stock : StockModel) (job : JobModel) (a b : JobCoverModel) → IsChosen stock job.destination job.trees a → IsChosen stock job.destination job.trees b → job_cost job.destination a.cover ≡ job_cost job.destination b.cover
chosen_cost_one stock job a b h k =
    let l = least_cost stock job a b h k in
    let m = least_cost stock job b a k h in
    same_cost job.destination a.cover b.cover (omega (arith, l, m))

-- and over all modes
module _ (stock : ℕ → StockModel) (Usable : ℕ → Type 0) where
  covers_in : (job : JobModel) (planned : PlanModel) → IsPlanned stock Usable job.destination job.trees planned → CoversIn stock Usable job.destination job.trees planned.mode planned.choice
  covers_in job planned h = record { can = h.can; may = h.may; covers = h.chosen.covers }

  abbrev own_cost : JobModel → PlanModel → ℕ
  own_cost job planned = mode_cost planned.mode job.destination planned.choice.cover

  no_less : (job : JobModel) (a b : PlanModel) → IsPlanned stock Usable job.destination job.trees a → IsPlanned stock Usable job.destination job.trees b → own_cost job a ≤ own_cost job b
  no_less job a b h k = by (h.least b.mode b.choice (covers_in job b k))
    where
      by : (own_cost job a < own_cost job b) ⊎ ((own_cost job a ≡ own_cost job b) × (a.mode ≤ b.mode)) → own_cost job a ≤ own_cost job b
      by (inl l) = omega (arith, l)
      by (inr e) = let s = e.0 in omega (arith, s)

  pub costs_one : (jobs : List JobModel) (a b : List PlanModel) → AllPlanned stock Usable jobs a → AllPlanned stock Usable jobs b → plan_costs jobs a ≡ plan_costs jobs b
  costs_one [] [] [] h k = refl
  costs_one [] [] (d ∷ b) h k = absurd k
  costs_one [] (c ∷ a) b h k = absurd h
  costs_one (job ∷ jobs) [] b h k = absurd h
  costs_one (job ∷ jobs) (c ∷ a) [] h k = absurd k
  costs_one (job ∷ jobs) (c ∷ a) (d ∷ b) h k =
      let l = no_less job c d h.0 k.0 in
      let m = no_less job d c k.0 h.0 in
      let one : own_cost job c ≡ own_cost job d = omega (arith, l, m) in
      let rest = costs_one jobs a b h.1 k.1 in
      (λ j. one j ∷ rest j)

-- ---- a task has one bound

stock_one : (task : Task) (a b : Isas task.netlist) → mode_stock task a ≡ mode_stock task b
stock_one task a b = λ j v. task_stock (keeping_one task.netlist a b v j) task

-- what holds of plans for one family of instruction sets holds for each
pub plans_alike : (task : Task) (a b : Isas task.netlist) (P : (ℕ → StockModel) → (ℕ → Type 0) → Type 0) → P (mode_stock task a) (IsUsable task.netlist a) → P (mode_stock task b) (IsUsable task.netlist b)
plans_alike task a b P h =
    subst (λ (all : ℕ → List FormModel). P (mode_stock task b) (CanUse task.netlist all)) (all_one task.netlist a b)
    (subst (λ (stock : ℕ → StockModel). P stock (IsUsable task.netlist a)) (stock_one task a b) h)

-- a task has one list of costs
pub task_plan_costs_one : (task : Task) (a b : Isas task.netlist) (plans others : List PlanModel) → ArePlans task a plans → ArePlans task b others → plan_costs (task_jobs task) plans ≡ plan_costs (task_jobs task) others
task_plan_costs_one task a b plans others p q =
    costs_one (mode_stock task b) (IsUsable task.netlist b) (task_jobs task) plans others (plans_alike task a b (λ stock Usable. AllPlanned stock Usable (task_jobs task) plans) p) q

pub task_costs_one : (task : Task) (costs others : List (ℕ × ℕ)) → AreCosts task costs → AreCosts task others → costs ≡ others
task_costs_one task costs others a b =
    a.are ∙ ap (numbered 0) (task_plan_costs_one task a.isas b.isas a.plans b.plans a.planned b.planned) ∙ sym b.are

pub bound_one : (task : Task) (a b c d : ℕ) → HasBound task a b → HasBound task c d → (a ≡ c) × (b ≡ d)
bound_one task a b c d p q = (
  p.is ∙ ap (program_bound task.program) (task_plan_costs_one task p.isas q.isas p.plans q.plans p.planned q.planned) ∙ sym q.is,
  p.far ∙ ap greatest_reach (keeping_one task.netlist p.isas q.isas 0) ∙ sym q.far,
)

-- where the bound is within the reach, so are the words of an image
pub made_reached : (task : Task) (image : Image) (made : IsMadeFor task image) (bound reach : ℕ) → HasBound task bound reach → bound ≤ reach → length (words_of image) ≤ greatest_reach (made.isas 0).keeping
made_reached task image made bound reach has within =
    let own : HasBound task (program_bound task.program (plan_costs (task_jobs task) made.plans)) (greatest_reach (made.isas 0).keeping) =
    record { isas = made.isas; plans = made.plans; planned = made.planned; is = refl; far = refl } in
    let same = bound_one task bound reach _ _ has own in
    let a = same.0 in
    let b = same.1 in
    let m = made.most in
    omega (arith, a, b, m, within)
