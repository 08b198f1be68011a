-- The plans of jobs, their costs and the words of items, one after the other.
use Rattle.std.proofs.Common.{◌≡◌, ℕ, zero, suc, ◌+◌, ◌<◌, ◌≤◌, List, [], ◌∷◌, ◌++◌, Some, map, option_map, take, length, get_or, slice_get, refl, sym, ap, subst, ◌∙◌, append_assoc, arith}
use Rattle.std.specs.List.{AllByRecursion}
use Rattle.std.proofs.lemmas.List.{length-take-le, map-append}
use Rattle.std.proofs.lemmas.Option.{slice_get-map, slice_get_read}
use Rattle.rec_bits.proofs.Lists.{take_get}
use Rattle.net_model.specs.declared.hardware.Netlist.{Netlist}
use Rattle.net_model.specs.Patterns.{Pattern}
use Rattle.code_model.specs.declared.image.Word.{Word}
use Rattle.form_model.specs.Covers.{StockModel}
use Rattle.form_model.specs.Live.{Regs}
use Rattle.mode_set.specs.declared.plans.Plan.{Plan}
use Rattle.mode_set.specs.Costs.{IsPlanned, PlanModel, mode_cost}
use Rattle.mode_set.specs.Plans.{model_of_plan}
use Rattle.branch_fix.specs.declared.laid.Item.{Item}
use Rattle.src_trees.specs.Lowered.{JobModel}
use Rattle.right_code.specs.Covered.{AllPlanned, IsFirstBare, numbered, plan_costs}
use Rattle.right_code.proofs.Covering.{planned_length, covered_at}
use Rattle.compaction.specs.declared.packer.PackedBlock.{PackedBlock}
use Rattle.code_gen.specs.Inner.Coded.{AreItemWords, IsWordOf}
use Rattle.code_gen.specs.Inner.Planning.{told_costs}
use Rattle.code_gen.specs.Inner.Uncovered.{IsOneBare, IsUncovered}
use Rattle.code_gen.specs.declared.fault.CodeFault.{CodeFault}
use Rattle.code_gen.specs.declared.fault.CodeFault.TheVariants.{NoStep, NoJump, NoCover, NoReach, ImageFull, Memory}

-- ---- lists

pub all_more : {X : Type 0} (P : X → Type 0) (xs : List X) (x : X) → AllByRecursion P xs → P x → AllByRecursion P (xs ++ x ∷ [])
all_more P [] x h p = (p, tt)
all_more P (y ∷ xs) x h p = (h.0, all_more P xs x h.1 p)

-- an element of a list that was mapped
pub mapped_get : {X Y : Type 0} (f : X → Y) (xs : List X) (k : ℕ) (x : X) → k < length xs → x ≡ get_or xs k x → slice_get (map f xs) k ≡ Some (f x)
mapped_get f xs k x lt e = slice_get-map f xs k ∙ ap (option_map f) (slice_get_read xs (length xs) k x refl lt e)

get_taken : {X : Type 0} (xs : List X) (n k : ℕ) → k < n → slice_get (take n xs) k ≡ slice_get xs k
get_taken [] (suc n) k lt = refl
get_taken xs zero k lt = absurd (omega arith)
get_taken (x ∷ xs) (suc n) zero lt = refl
get_taken (x ∷ xs) (suc n) (suc k) lt = get_taken xs n k (omega arith)

-- ---- plans

module _ (stock : ℕ → StockModel) (Usable : ℕ → Type 0) where
  pub planned_more : (jobs : List JobModel) (plans : List PlanModel) (job : JobModel) (planned : PlanModel) → AllPlanned stock Usable jobs plans → IsPlanned stock Usable job.destination job.trees planned
      → AllPlanned stock Usable (jobs ++ job ∷ []) (plans ++ planned ∷ [])
  planned_more [] [] job planned h is = (is, tt)
  planned_more [] (d ∷ plans) job planned h is = absurd h
  planned_more (x ∷ jobs) [] job planned h is = absurd h
  planned_more (x ∷ jobs) (d ∷ plans) job planned h is = (h.0, planned_more jobs plans job planned h.1 is)

  pub costs_more : (jobs : List JobModel) (plans : List PlanModel) (job : JobModel) (planned : PlanModel) → AllPlanned stock Usable jobs plans
      → plan_costs (jobs ++ job ∷ []) (plans ++ planned ∷ []) ≡ plan_costs jobs plans ++ mode_cost planned.mode job.destination planned.choice.cover ∷ []
  costs_more [] [] job planned h = refl
  costs_more [] (d ∷ plans) job planned h = absurd h
  costs_more (x ∷ jobs) [] job planned h = absurd h
  costs_more (x ∷ jobs) (d ∷ plans) job planned h = ap (λ (costs : List ℕ). mode_cost d.mode x.destination d.choice.cover ∷ costs) (costs_more jobs plans job planned h.1)

  -- the first jobs have as many plans
  pub planned_count : (jobs : List JobModel) (plans : List PlanModel) (number : ℕ) → number ≤ length jobs → AllPlanned stock Usable (take number jobs) plans → length plans ≡ number
  planned_count jobs plans number le h = planned_length stock Usable (take number jobs) plans h ∙ length-take-le number jobs le

  -- one job more
  module _ (jobs : List JobModel) (old new : List Plan) (number : ℕ) (job : JobModel) (plan : Plan) (at : slice_get jobs number ≡ Some job) (more : new ≡ old ++ plan ∷ [])
      (all : AllPlanned stock Usable (take number jobs) (map model_of_plan old)) where
    jobs_taken : take (number + 1) jobs ≡ take number jobs ++ job ∷ []
    jobs_taken = take_get jobs number job at

    plans_made : map model_of_plan new ≡ map model_of_plan old ++ model_of_plan plan ∷ []
    plans_made = ap (map model_of_plan) more ∙ map-append model_of_plan old (plan ∷ [])

    pub plans_more : IsPlanned stock Usable job.destination job.trees (model_of_plan plan) → AllPlanned stock Usable (take (number + 1) jobs) (map model_of_plan new)
    plans_more is =
        subst (λ ws. AllPlanned stock Usable ws (map model_of_plan new)) (sym jobs_taken)
        (subst (AllPlanned stock Usable (take number jobs ++ job ∷ [])) (sym plans_made) (planned_more (take number jobs) (map model_of_plan old) job (model_of_plan plan) all is))

    pub prices_more : plan.cost ≡ mode_cost plan.mode job.destination (model_of_plan plan).choice.cover → told_costs old ≡ plan_costs (take number jobs) (map model_of_plan old)
        → told_costs new ≡ plan_costs (take (number + 1) jobs) (map model_of_plan new)
    prices_more price before =
        ap told_costs more
        ∙ map-append (λ (p : Plan). p.cost) old (plan ∷ [])
        ∙ (λ i. before i ++ price i ∷ [])
        ∙ sym (costs_more (take number jobs) (map model_of_plan old) job (model_of_plan plan) all)
        ∙ (λ i. plan_costs (sym jobs_taken i) (sym plans_made i))

  -- the first job that has no cover
  pub uncovered : (jobs : List JobModel) (plans : List PlanModel) (number : ℕ) (job : JobModel) (fault : CodeFault) → AllPlanned stock Usable (take number jobs) plans → slice_get jobs number ≡ Some job
      → IsOneBare stock Usable job number fault → IsUncovered stock Usable jobs fault
  uncovered jobs plans number job (NoCover told) h at bare =
      subst (IsFirstBare stock Usable jobs) (sym bare.0)
      (record {
        job = job;
        at = at;
        none = bare.1;
        earlier = λ k other lt e. covered_at stock Usable (take number jobs) plans h k other (get_taken jobs number k lt ∙ e);
      })
  uncovered jobs plans number job NoStep h at bare = absurd bare
  uncovered jobs plans number job NoJump h at bare = absurd bare
  uncovered jobs plans number job (NoReach bound reach) h at bare = absurd bare
  uncovered jobs plans number job (ImageFull len size bound) h at bare = absurd bare
  uncovered jobs plans number job Memory h at bare = tt

-- ---- costs

pub numbered_more : (lines : List (ℕ × ℕ)) (number cost : ℕ) (costs rest : List ℕ) → costs ≡ cost ∷ rest
    → (lines ++ (number, cost) ∷ []) ++ numbered (number + 1) rest ≡ lines ++ numbered number costs
numbered_more lines number cost costs rest e =
    append_assoc lines ((number, cost) ∷ []) (numbered (number + 1) rest) ∙ ap (λ (list : List ℕ). lines ++ numbered number list) (sym e)

-- ---- words

module _ (netlist : Netlist) (patterns : List Pattern) (kept : Regs) (blocks : List PackedBlock) where
  pub words_more : (items : List Item) (words : List Word) (item : Item) (word : Word) → AreItemWords netlist patterns kept blocks items words → IsWordOf netlist patterns kept blocks item word
      → AreItemWords netlist patterns kept blocks (items ++ item ∷ []) (words ++ word ∷ [])
  words_more [] [] item word h is = (is, tt)
  words_more [] (w ∷ words) item word h is = absurd h
  words_more (x ∷ items) [] item word h is = absurd h
  words_more (x ∷ items) (w ∷ words) item word h is = (h.0, words_more items words item word h.1 is)
