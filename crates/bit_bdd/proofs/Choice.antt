-- A choice of branches is a branch of choices.
use Rattle.std.proofs.Common.{◌≡◌, ℕ, Bool, true, false, if◌then◌else◌, refl, sym, ◌∙◌}
use Rattle.bit_bdd.specs.Diagrams.{Point, PointSet, branch}
use Rattle.bit_bdd.specs.Shape.{choice}

-- a branch of choices is the choice of the branches
pub choice_branch : (bit : ℕ) (t u y z n m : PointSet) → branch bit (choice t y n) (choice u z m) ≡ choice (branch bit t u) (branch bit y z) (branch bit n m)
choice_branch bit t u y z n m = λ j point. by (point bit) point j
  where
    by : (b : Bool) (point : Point) → (if b then choice u z m point else choice t y n point)
        ≡ (if (if b then u point else t point) then (if b then z point else y point) else (if b then m point else n point))
    by true point = refl
    by false point = refl

-- one step of a choice: on both sides of a bit, and then the branch
pub choose_step : (bit : ℕ) (test low_test high_test on low_on high_on off low_off high_off low high made : PointSet)
    → test ≡ branch bit low_test high_test → on ≡ branch bit low_on high_on → off ≡ branch bit low_off high_off
    → low ≡ choice low_test low_on low_off → high ≡ choice high_test high_on high_off → made ≡ branch bit low high → made ≡ choice test on off
choose_step bit test t u on y z off n m low high made et ey en el eh em =
    em ∙ (λ j. branch bit (el j) (eh j)) ∙ choice_branch bit t u y z n m ∙ (λ j. choice (sym et j) (sym ey j) (sym en j))
