-- What is told of two lists of steps one behind the other.
use Rattle.std.proofs.Common.{◌≡◌, ◌||◌, Bool, true, false, List, [], ◌∷◌, ◌++◌, refl, sym, ◌∙◌, ap}
use Rattle.std.proofs.Math.Bool.{or_assoc}
use Rattle.form_model.specs.Effects.{Operation, location_of, reads, same_destination}
use Rattle.compaction.specs.Packing.{is_read_by, shares_destination}

module _ {A : Type 0} (m : A → Operation) (d : Operation) where
  pub shares_destination-append : (g h : List A) → shares_destination m d (g ++ h) ≡ (shares_destination m d g || shares_destination m d h)
  shares_destination-append [] h = refl
  shares_destination-append (x ∷ g) h =
      ap (λ b. same_destination d (m x) || b) (shares_destination-append g h) ∙ sym (or_assoc (same_destination d (m x)) (shares_destination m d g) (shares_destination m d h))

  pub is_read_by-append : (g h : List A) → is_read_by m d (g ++ h) ≡ (is_read_by m d g || is_read_by m d h)
  is_read_by-append [] h = refl
  is_read_by-append (y ∷ g) h =
      ap (λ b. reads (m y) (location_of d) || b) (is_read_by-append g h) ∙ sym (or_assoc (reads (m y) (location_of d)) (is_read_by m d g) (is_read_by m d h))

-- the first of two answers, where it is yes, and else the second
pub first_of_two : (p a b w : Bool) → w ≡ (a || b) → p ≡ a → p ≡ true → p ≡ w
first_of_two p a b w e f t = t ∙ sym (e ∙ ap (λ c. c || b) (sym f ∙ t))

pub second_of_two : (p q a b w : Bool) → w ≡ (a || b) → p ≡ a → p ≡ false → q ≡ b → q ≡ w
second_of_two p q a b w e f n g = g ∙ sym (e ∙ ap (λ c. c || b) (sym f ∙ n))
