-- Two ways to cut a list.
use Rattle.std.proofs.Common.{◌≡◌, ◌∙◌, ◌≤◌, List, [], ◌∷◌, ◌++◌, length, refl, sym, ap, arith}

-- of two ways to cut a list, what the shorter front lacks of the longer one stands at the front of
-- its rest
pub cut : {A : Type 0} (f r g s : List A) → f ++ r ≡ g ++ s → length f ≤ length g → (m : List A) × (g ≡ f ++ m) × (r ≡ m ++ s)
cut [] r g s e le = (g, refl, e)
cut (x ∷ f) r [] s e le = absurd (omega arith)
cut (x ∷ f) r (y ∷ g) s e le =
    let head : x ≡ y = cc in
    let tail : f ++ r ≡ g ++ s = cc in
    let found = cut f r g s tail (omega arith) in
    (found.0, ap (λ (z : _). z ∷ g) (sym head) ∙ ap (λ (zs : List _). x ∷ zs) found.1, found.2)
