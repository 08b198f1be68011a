-- A program has one first job without a cover, and none where all have covers.
use Rattle.std.proofs.Common.{◌≡◌, ℕ, ◌<◌, List, inl, inr, arith}
use Rattle.std.proofs.lemmas.Bool.{cases_lt}
use Rattle.form_model.specs.Covers.{StockModel}
use Rattle.mode_set.specs.Keeping.{IsUsable}
use Rattle.src_trees.specs.Lowered.{JobModel}
use Rattle.right_code.specs.Covered.{AllPlanned, HasBareTree, HasCover, HasCovers, IsFirstBare, mode_stock}
use Rattle.right_code.specs.Tasks.{Task, task_jobs}
use Rattle.right_code.proofs.Covering.{covered_at}
use Rattle.right_code.proofs.OneBound.{plans_alike}

module _ (stock : ℕ → StockModel) (Usable : ℕ → Type 0) where
  -- a job without a cover doesn't come before the first
  not_before : (jobs : List JobModel) (n m : ℕ) → IsFirstBare stock Usable jobs n → IsFirstBare stock Usable jobs m → n < m → ⊥
  not_before jobs n m a b lt = let c : HasCover stock Usable a.job = b.earlier n a.job lt a.at in a.none.none c.mode c.choice c.covers

  first_one : (jobs : List JobModel) (n m : ℕ) → IsFirstBare stock Usable jobs n → IsFirstBare stock Usable jobs m → n ≡ m
  first_one jobs n m a b =
      elim (cases_lt n m) [
        | inl lt ↦ absurd (not_before jobs n m a b lt)
        | inr le ↦ elim (cases_lt m n) [
          | inl lt ↦ absurd (not_before jobs m n b a lt)
          | inr more ↦ omega arith
        ]
      ]

pub one_bare : (task : Task) (n m : ℕ) → HasBareTree n task → HasBareTree m task → n ≡ m
one_bare task n m a b =
    first_one (mode_stock task a.isas) (IsUsable task.netlist a.isas) (task_jobs task) n m a.bare
    (plans_alike task b.isas a.isas (λ stock Usable. IsFirstBare stock Usable (task_jobs task) m) b.bare)

pub no_bare : (task : Task) (n : ℕ) → HasCovers task → HasBareTree n task → ⊥
no_bare task n h b =
    let c : HasCover (mode_stock task b.isas) (IsUsable task.netlist b.isas) b.bare.job =
    covered_at (mode_stock task b.isas) (IsUsable task.netlist b.isas) (task_jobs task) h.are.plans
    (plans_alike task h.are.isas b.isas (λ stock Usable. AllPlanned stock Usable (task_jobs task) h.are.plans) h.are.planned) n b.bare.job b.bare.at in
    b.bare.none.none c.mode c.choice c.covers
