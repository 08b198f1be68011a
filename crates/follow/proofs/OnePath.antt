-- From a place of a flow there is one path.
use Rattle.std.proofs.Common.{ℕ, zero, suc, ◌≡◌, ◌+◌, List, ◌∷◌, Option, Some, None, refl, sym, ◌∙◌, ap, slice_get}
use Rattle.rec_bits.proofs.Options.{none-some, same_Some}
use Rattle.form_model.specs.declared.flow.Flow.{Flow}
use Rattle.form_model.specs.declared.flow.Flow.TheVariants.{Assign, Test, Jump, End}
use Rattle.src_trees.specs.Lowered.{JobModel}
use Rattle.follow.specs.Paths.{Path, after_job, path_at, path_from}

module _ (flow : List Flow) (jobs : List JobModel) where
  behind : (job : Option JobModel) (a b : Option Path) → ((p q : Path) → a ≡ Some p → b ≡ Some q → p ≡ q) → (path other : Path) → after_job job a ≡ Some path → after_job job b ≡ Some other → path ≡ other
  behind None a b h path other e f = absurd (none-some path e)
  behind (Some job) None b h path other e f = absurd (none-some path e)
  behind (Some job) (Some p) None h path other e f = absurd (none-some other f)
  behind (Some job) (Some p) (Some q) h path other e f =
      sym (same_Some _ path e) ∙ ap (λ (x : Path). record { jobs = job ∷ x.jobs; to = x.to }) (h p q refl refl) ∙ same_Some _ other f

  pub one_path : (n k at : ℕ) (path other : Path) → path_from flow jobs n at ≡ Some path → path_from flow jobs k at ≡ Some other → path ≡ other
  one_path zero k at path other e f = absurd (none-some path e)
  one_path (suc n) zero at path other e f = absurd (none-some other f)
  one_path (suc n) (suc k) at path other e f = by (slice_get flow at) (λ (to : ℕ) (p q : Path). one_path n k to p q) e f
    where
      by : (x : Option Flow) → ((to : ℕ) (p q : Path) → path_from flow jobs n to ≡ Some p → path_from flow jobs k to ≡ Some q → p ≡ q) → path_at jobs (λ (to : ℕ). path_from flow jobs n to) at x ≡ Some path → path_at jobs (λ (to : ℕ). path_from flow jobs k to) at x ≡ Some other → path ≡ other
      by None ih e f = absurd (none-some path e)
      by (Some (Assign tree)) ih e f = behind (slice_get jobs tree) (path_from flow jobs n (at + 1)) (path_from flow jobs k (at + 1)) (ih (at + 1)) path other e f
      by (Some (Test tree one zer)) ih e f = same_Some path other (sym e ∙ f)
      by (Some (Jump to)) ih e f = ih to path other e f
      by (Some End) ih e f = same_Some path other (sym e ∙ f)
