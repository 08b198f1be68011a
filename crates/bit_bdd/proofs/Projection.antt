-- The points that can be brought into a set by changing bits of a mask.
use Rattle.std.proofs.Common.{◌≡◌, ℕ, ◌<◌, ◌==◌, Bool, true, false, ◌||◌, if◌then◌else◌, true≢false, refl, sym, ap, subst, ◌∙◌, arith, ◌⊎◌, inl, inr}
use Rattle.std.specs.Int.{bit_at}
use Rattle.std.proofs.lemmas.Bool.{eqb-false, or_cases}
use Rattle.std.proofs.lemmas.Nat.Bits.{bit_at-lt}
use Rattle.bit_bdd.specs.Diagrams.{Point, PointSet, bits_of, branch, Diagrams, set_of}
use Rattle.bit_bdd.specs.Shape.{SameOutside, IsProjection, projected_branch, SeesBelow}
use Rattle.bit_bdd.proofs.Points.{put, put_same, put_other}

-- either of two tests passes
true_or : (a b : Bool) → (a ≡ true) ⊎ (b ≡ true) → (a || b) ≡ true
true_or true b h = refl
true_or false b (inl h) = absurd (true≢false (sym h))
true_or false b (inr h) = h

module _ (mask bit : ℕ) (low high low' high' : PointSet) (low_is : IsProjection mask low low') (high_is : IsProjection mask high high') where
  branch_of : (f : Point) (v : Bool) → f bit ≡ v → branch bit low high f ≡ (if v then high f else low f)
  branch_of f v e = ap (λ c. if c then high f else low f) e

  branch_of' : (f : Point) (v : Bool) → f bit ≡ v → branch bit low' high' f ≡ (if v then high' f else low' f)
  branch_of' f v e = ap (λ c. if c then high' f else low' f) e

  module _ (masked : bits_of mask bit ≡ true) (low_put : (f : Point) (v : Bool) → low (put f bit v) ≡ low f) (high_put : (f : Point) (v : Bool) → high (put f bit v) ≡ high f) where
    -- a change of a bit of the mask stays within the mask
    still_outside : (f g : Point) (v : Bool) → SameOutside mask f g → SameOutside mask f (put g bit v)
    still_outside f g v same k out = put_other g bit v k (λ e. true≢false (sym masked ∙ ap (λ n. n == 1) (ap (bit_at mask) (sym e) ∙ out))) ∙ same k out

    -- a bit of the mask: the points that reach either side
    projected_either : IsProjection mask (branch bit low high) (λ f. low' f || high' f)
    projected_either f = (
      λ h. elim (or_cases (low' f) (high' f) h) [
        | inl l ↦ (let w = (low_is f).0 l in (put w.0 bit false, still_outside f w.0 false w.1, branch_of (put w.0 bit false) false (put_same w.0 bit false) ∙ low_put w.0 false ∙ w.2))
        | inr r ↦ (let w = (high_is f).0 r in (put w.0 bit true, still_outside f w.0 true w.1, branch_of (put w.0 bit true) true (put_same w.0 bit true) ∙ high_put w.0 true ∙ w.2))
      ],
      λ w. true_or (low' f) (high' f) (back w.0 w.1 (w.0 bit) refl w.2),
    )
      where
        back : (g : Point) → SameOutside mask f g → (v : Bool) → g bit ≡ v → branch bit low high g ≡ true → (low' f ≡ true) ⊎ (high' f ≡ true)
        back g same true e h = inr ((high_is f).1 (g, same, sym (branch_of g true e) ∙ h))
        back g same false e h = inl ((low_is f).1 (g, same, sym (branch_of g false e) ∙ h))

  module _ (unmasked : bit_at mask bit ≡ 0) where
    -- a bit outside the mask: the branch of what reaches each side
    projected_both : IsProjection mask (branch bit low high) (branch bit low' high')
    projected_both f = (there (f bit) refl, λ w. back w.0 w.1 (f bit) refl w.2)
      where
        there : (v : Bool) → f bit ≡ v → branch bit low' high' f ≡ true → (g : Point) × SameOutside mask f g × (branch bit low high g ≡ true)
        there true e h = let w = (high_is f).0 (sym (branch_of' f true e) ∙ h) in (w.0, w.1, branch_of w.0 true (w.1 bit unmasked ∙ e) ∙ w.2)
        there false e h = let w = (low_is f).0 (sym (branch_of' f false e) ∙ h) in (w.0, w.1, branch_of w.0 false (w.1 bit unmasked ∙ e) ∙ w.2)

        back : (g : Point) → SameOutside mask f g → (v : Bool) → f bit ≡ v → branch bit low high g ≡ true → branch bit low' high' f ≡ true
        back g same true e h = branch_of' f true e ∙ (high_is f).1 (g, same, sym (branch_of g true (same bit unmasked ∙ e)) ∙ h)
        back g same false e h = branch_of' f false e ∙ (low_is f).1 (g, same, sym (branch_of g false (same bit unmasked ∙ e)) ∙ h)

-- a bit that is not 1 is 0
not_one : (n : ℕ) → n < 2 → (n == 1) ≡ false → n ≡ 0
not_one n less h = let apart = eqb-false n 1 h in omega (arith, less, apart)

-- one step of a projection
pub project_step : (mask bit : ℕ) (set low high low' high' made : PointSet) → set ≡ branch bit low high
    → ((f : Point) (v : Bool) → low (put f bit v) ≡ low f) → ((f : Point) (v : Bool) → high (put f bit v) ≡ high f)
    → IsProjection mask low low' → IsProjection mask high high' → made ≡ projected_branch mask bit low' high' → IsProjection mask set made
project_step mask bit set low high low' high' made set_is low_put high_put low_is high_is made_is =
    by (bits_of mask bit) refl
  where
    turned : (q : PointSet) → made ≡ q → IsProjection mask (branch bit low high) q → IsProjection mask set made
    turned q e h = subst (λ (s : PointSet × PointSet). IsProjection mask s.0 s.1) (λ j. (sym set_is j, sym e j)) h

    by : (v : Bool) → bits_of mask bit ≡ v → IsProjection mask set made
    by true e = turned (λ f. low' f || high' f) (made_is ∙ (λ j f. if e j then low' f || high' f else branch bit low' high' f))
        (projected_either mask bit low high low' high' low_is high_is e low_put high_put)
    by false e = turned (branch bit low' high') (made_is ∙ (λ j f. if e j then low' f || high' f else branch bit low' high' f))
        (projected_both mask bit low high low' high' low_is high_is (not_one (bit_at mask bit) (bit_at-lt mask bit) e))

-- a set does not see a change of a bit that it does not ask
pub put_unseen : (d : Diagrams) (id bit : ℕ) → SeesBelow d id bit → (f : Point) (v : Bool) → set_of d.nodes id (put f bit v) ≡ set_of d.nodes id f
put_unseen d id bit sees f v = sees (put f bit v) f (λ k less. put_other f bit v k (λ e. absurd (omega (arith, e, less))))
