-- A step behind another.
use Rattle.std.proofs.Common.{◌≡◌, Option, None, Some, refl}
use Rattle.text_lines.specs.Fields.{◌>>=◌}

pub record Bound (A B : Type 0) (o : Option A) (f : A → Option B) (y : B) : Type 0 where
  pub value : A
  pub first : o ≡ Some value
  pub then : f value ≡ Some y

pub bind_ok : {A B : Type 0} (o : Option A) (f : A → Option B) (y : B) → (o >>= f) ≡ Some y → Bound A B o f y
bind_ok None f y e = absurd cc
bind_ok (Some x) f y e = record { value = x; first = refl; then = e }

pub bind_again : {A B : Type 0} (o : Option A) (f : A → Option B) (x : A) (y : Option B) → o ≡ Some x → f x ≡ y → (o >>= f) ≡ y
bind_again o f x y e g = rw e g
