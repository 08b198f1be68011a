-- A list from a place on.
use Rattle.std.proofs.Common.{◌≡◌, ℕ, ◌+◌, List, ◌∷◌, length, drop, suc, sym, ap, ◌∙◌, get_or, ◌<◌, add-one, drop-cons}

-- it begins with the item at that place
pub drop_item : {X : Type 0} (xs : List X) (k : ℕ) (x : X) → x ≡ get_or xs k x → k < length xs → drop k xs ≡ x ∷ drop (k + 1) xs
drop_item xs k x e l = drop-cons xs k x l ∙ ap (λ z. z ∷ drop (suc k) xs) (sym e) ∙ ap (λ n. x ∷ drop n xs) (sym (add-one k))
