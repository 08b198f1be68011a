-- Where nothing of a task is refused, whatever image is made for it, nothing is refused of it in
-- another spelling: no job costs more.
use Rattle.std.proofs.Common.{ℕ, zero, suc, ◌+◌, ◌≤◌, ◌≡◌, inl, inr, Bool, List, [], ◌∷◌, length, Some, refl, sym, ◌∙◌, ap, subst, arith, slice_get}
use Rattle.std.proofs.lemmas.Option.{slice_get_within}
use Rattle.rec_bits.proofs.Options.{same_Some}
use Rattle.rec_bits.proofs.Lists.{there}
use Rattle.branch_fix.specs.Bounds.{program_bound, sum_of}
use Rattle.form_model.specs.Covers.{StockModel}
use Rattle.form_set.specs.Listing.{greatest_reach}
use Rattle.mode_set.specs.Costs.{IsPlanned, PlanModel, mode_cost}
use Rattle.mode_set.specs.Keeping.{Isas, IsUsable}
use Rattle.net_model.specs.CheckedRules.{code_size}
use Rattle.src_trees.specs.Lowered.{JobModel}
use Rattle.src_trees.specs.Turned.{Turns, turned_flow}
use Rattle.respell.specs.Kept.{AreSpelled, KeepsOrGains}
use Rattle.right_code.specs.Bounded.{HasBound}
use Rattle.right_code.specs.Covered.{AllPlanned, ArePlans, HasBareTree, mode_stock, plan_costs}
use Rattle.right_code.specs.Tasks.{Task, task_temps, task_jobs}
use Rattle.right_code.specs.FlowJobs.{node_limit}
use Rattle.right_code.proofs.OneBound.{bound_one, costs_one, plans_alike}
use Rattle.code_gen.specs.Refusals.{IsBeyondReach, IsImageTooLong}
use Rattle.code_gen.specs.Spelled.{IsSpelledTask, IsTunedFault, with_jobs}
use Rattle.code_gen.specs.declared.fault.CodeFault.TheVariants.{NoCover, NoReach, ImageFull}
use Rattle.compile_command.specs.Code.{IsWithin}

-- ---- costs

module _ (stock : ℕ → StockModel) (Usable : ℕ → Type 0) (width temps nodes : ℕ) where
  abbrev Plans : JobModel → PlanModel → Type 0
  Plans job planned = IsPlanned stock Usable job.destination job.trees planned

  abbrev price : JobModel → PlanModel → ℕ
  price job planned = mode_cost planned.mode job.destination planned.choice.cover

  head_of : (a b : ℕ) (xs ys : List ℕ) → (a ∷ xs) ≡ (b ∷ ys) → a ≡ b
  head_of a b xs ys e = cc

  one_price : (job : JobModel) (p q : PlanModel) → Plans job p → Plans job q → price job p ≡ price job q
  one_price job p q h k = head_of (price job p) (price job q) [] [] (costs_one stock Usable (job ∷ []) (p ∷ []) (q ∷ []) (h, tt) (k, tt))

  -- a job that stays costs the same, and one that stands for it less
  no_more : (t : Bool) (old new : JobModel) → KeepsOrGains stock Usable width temps nodes t old new → (p q : PlanModel) → Plans old p → Plans new q → price new q ≤ price old p
  no_more t old new (inl kept) p q h k =
      let same : price new q ≡ price old p = subst (λ (w : JobModel). Plans w q → price w q ≡ price old p) (sym kept.1) (λ own. one_price old q p own h) k in
      omega (arith, same)
  no_more t old new (inr gain) p q h k =
      let less = gain.less (price old p) (record { planned = p; is = h; costs = refl }) in
      let one = one_price new q gain.costs.planned k gain.costs.is in
      let costs = gain.costs.costs in
      omega (arith, less, one, costs)

  abbrev Stand : Turns → ℕ → List JobModel → List JobModel → Type 0
  Stand turned k old new =
      (j : ℕ) (a b : JobModel) → slice_get old j ≡ Some a → slice_get new j ≡ Some b → KeepsOrGains stock Usable width temps nodes (turned (k + j)) a b

  sums : (turned : Turns) (k : ℕ) (old new : List JobModel) → Stand turned k old new → (plans others : List PlanModel) → AllPlanned stock Usable old plans → AllPlanned stock Usable new others
      → length new ≡ length old → sum_of (plan_costs new others) ≤ sum_of (plan_costs old plans)
  sums turned k [] [] stand [] [] h o same = omega arith
  sums turned k [] [] stand [] (q ∷ others) h o same = absurd o
  sums turned k [] [] stand (p ∷ plans) others h o same = absurd h
  sums turned k [] (b ∷ new) stand plans others h o same = absurd (omega (arith, same))
  sums turned k (a ∷ old) [] stand plans others h o same = absurd (omega (arith, same))
  sums turned k (a ∷ old) (b ∷ new) stand [] others h o same = absurd h
  sums turned k (a ∷ old) (b ∷ new) stand (p ∷ plans) [] h o same = absurd o
  sums turned k (a ∷ old) (b ∷ new) stand (p ∷ plans) (q ∷ others) h o same =
      let here = no_more (turned (k + 0)) a b (stand 0 a b refl refl) p q h.0 o.0 in
      let later : Stand turned (suc k) old new = λ j x y ex ey. subst (λ n. KeepsOrGains stock Usable width temps nodes (turned n) x y) (omega arith) (stand (suc j) x y ex ey) in
      let rest = sums turned (suc k) old new later plans others h.1 o.1 (omega (arith, same)) in
      omega (arith, here, rest)

  -- jobs in another spelling cost no more in sum
  pub spelled_sums : (turned : Turns) (old new : List JobModel) → AreSpelled stock Usable width temps nodes turned old new → (plans others : List PlanModel)
      → AllPlanned stock Usable old plans → AllPlanned stock Usable new others → sum_of (plan_costs new others) ≤ sum_of (plan_costs old plans)
  spelled_sums turned old new are plans others h o =
      sums turned 0 old new (λ j a b ea eb. subst (λ n. KeepsOrGains stock Usable width temps nodes (turned n) a b) (omega arith) (are.each j a b ea eb)) plans others h o are.count

  -- the plan of the job of a number
  plan_at : (jobs : List JobModel) (plans : List PlanModel) → AllPlanned stock Usable jobs plans → (number : ℕ) (job : JobModel) → slice_get jobs number ≡ Some job → (p : PlanModel) × Plans job p
  plan_at [] plans h number job e = absurd (cc e)
  plan_at (a ∷ jobs) [] h number job e = absurd h
  plan_at (a ∷ jobs) (p ∷ plans) h zero job e = (p, subst (λ (w : JobModel). Plans w p) (same_Some a job e) h.0)
  plan_at (a ∷ jobs) (p ∷ plans) h (suc number) job e = plan_at jobs plans h.1 number job e

  -- a job that stands for one with a plan has one
  plan_kept : (t : Bool) (old new : JobModel) → KeepsOrGains stock Usable width temps nodes t old new → (p : PlanModel) → Plans old p → (q : PlanModel) × Plans new q
  plan_kept t old new (inl kept) p h = (p, subst (λ (w : JobModel). Plans w p) (sym kept.1) h)
  plan_kept t old new (inr gain) p h = (gain.costs.planned, gain.costs.is)

-- ---- tasks

module _ (task : Task) (within : IsWithin task) (spelled : Task) (is : IsSpelledTask task spelled) where
  -- the task in another spelling, by its parts
  abbrev other : Task
  other = with_jobs task (turned_flow is.turned task.flow) is.jobs

  abbrev plans : List PlanModel
  plans = within.reached.coverable.covers.are.plans

  -- over each family of instruction sets
  are_in : (b : Isas task.netlist) → AreSpelled (mode_stock task b) (IsUsable task.netlist b) task.width (task_temps task) node_limit is.turned task.jobs is.jobs
  are_in b =
      plans_alike task is.isas b
      (λ stock Usable. AreSpelled stock Usable task.width (task_temps task) node_limit is.turned task.jobs is.jobs) is.are

  own_in : (b : Isas task.netlist) → ArePlans task b plans
  own_in b =
      let own = within.reached.coverable.covers.are in
      plans_alike task own.isas b (λ stock Usable. AllPlanned stock Usable (task_jobs task) own.plans) own.planned

  -- it has no greater bound, and the same reach
  bound_kept : (bound reach : ℕ) → HasBound spelled bound reach → (bound ≤ within.reached.bound) × (reach ≡ within.reached.reach)
  bound_kept bound reach has = by (subst (λ (t : Task). HasBound t bound reach) is.is has)
    where
      by : HasBound other bound reach → (bound ≤ within.reached.bound) × (reach ≡ within.reached.reach)
      by h =
          let own : HasBound task (program_bound task.program (plan_costs (task_jobs task) plans)) (greatest_reach (h.isas 0).keeping) =
          record { isas = h.isas; plans = plans; planned = own_in h.isas; is = refl; far = refl } in
          let one = bound_one task within.reached.bound within.reached.reach _ _ within.reached.has own in
          let sums =
          spelled_sums (mode_stock task h.isas) (IsUsable task.netlist h.isas) task.width (task_temps task) node_limit is.turned task.jobs is.jobs (are_in h.isas) plans h.plans (own_in h.isas) h.planned in
          let a = one.0 in
          let b = h.is in (omega (arith, a, b, sums), h.far ∙ sym one.1)

  -- each of its jobs has a plan
  no_bare : (number : ℕ) → HasBareTree number spelled → ⊥
  no_bare number has = by (subst (HasBareTree number) is.is has)
    where
      by : HasBareTree number other → ⊥
      by h =
          let bare = h.bare in
          let at = slice_get_within is.jobs number bare.job bare.at in
          let count = is.are.count in
          let own = there task.jobs number (omega (arith, at, count)) in
          let stock = mode_stock task h.isas in
          let usable = IsUsable task.netlist h.isas in
          let cover = plan_at stock usable task.width (task_temps task) node_limit task.jobs plans (own_in h.isas) number own.0 own.1 in
          let kept = plan_kept stock usable task.width (task_temps task) node_limit (is.turned number) own.0 bare.job ((are_in h.isas).each number own.0 bare.job own.1 bare.at) cover.0 cover.1 in
          bare.none.none kept.0.mode kept.0.choice (record { can = kept.1.can; may = kept.1.may; covers = kept.1.chosen.covers })

  no_beyond : (bound reach : ℕ) → IsBeyondReach bound reach spelled → ⊥
  no_beyond bound reach h =
      let kept = bound_kept bound reach h.has in
      let most = kept.0 in
      let far = kept.1 in
      let beyond = h.beyond in
      let reached = within.reached.within in omega (arith, most, far, beyond, reached)

  no_long : (len size bound : ℕ) → IsImageTooLong len size bound spelled → ⊥
  no_long len size bound h =
      let kept = bound_kept bound h.reach h.has in
      let most = kept.0 in
      let room : size ≡ code_size task.netlist.codes = h.room ∙ ap (λ (t : Task). code_size t.netlist.codes) is.is in
      let above = h.above in
      let long = h.most in
      let small = within.small in omega (arith, most, room, above, long, small)

-- so none of the refusals comes that may come of another spelling
module _ (task : Task) (within : IsWithin task) where
  pub uncovered_never : (number : ℕ) → IsTunedFault task (NoCover number) → ⊥
  uncovered_never number h = no_bare task within h.spelled h.is number h.said.1

  pub beyond_never : (bound reach : ℕ) → IsTunedFault task (NoReach bound reach) → ⊥
  beyond_never bound reach h = no_beyond task within h.spelled h.is bound reach h.said.1

  pub long_never : (len size bound : ℕ) → IsTunedFault task (ImageFull len size bound) → ⊥
  long_never len size bound h = no_long task within h.spelled h.is len size bound h.said.1
