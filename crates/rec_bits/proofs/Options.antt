-- What is in an `Option`.
use Rattle.std.proofs.Common.{◌≡◌, Bool, true, false, cond, Option, Some, None, is_some, refl, sym, ◌∙◌}
pub use Rattle.std.proofs.lemmas.Option.{same_Some, none-some}

module _ {X : Type 0} where
  -- a choice that gives something
  pub picked : (b : Bool) (o : Option X) (x : X) → cond b o None ≡ Some x → (b ≡ true) × (o ≡ Some x)
  picked true o x h = (refl, h)
  picked false o x h = absurd (none-some x h)

  -- whether a choice gives something
  pub some_given : (b : Bool) (x : X) → is_some (cond b (Some x) None) ≡ b
  some_given true x = refl
  some_given false x = refl

  pub one_Some : (o : Option X) (x y : X) → o ≡ Some x → o ≡ Some y → x ≡ y
  one_Some o x y e f = same_Some x y (sym e ∙ f)
