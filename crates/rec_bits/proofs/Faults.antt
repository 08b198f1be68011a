-- The least of lists of offsets.
use Rattle.std.proofs.Common.{ℕ, suc, ◌≡◌, ◌≤◌, ◌<◌, ◌+◌, min, ◌⊎◌, inl, inr, List, [], ◌∷◌, ◌++◌, Option, Some, None, refl, sym, ◌∙◌, ap, arith, subst, length, drop, get_or, add-one}
use Rattle.std.proofs.Math.Seq.{drop-cons}
use Rattle.std.proofs.lemmas.List.{drop_all}
use Rattle.std.proofs.lemmas.Bool.{cases_eq}
use Rattle.rec_bits.specs.Faults.{lesser_offset, least, gather}

pub sooner_none : (a : Option ℕ) → lesser_offset a None ≡ a
sooner_none None = refl
sooner_none (Some a) = refl

pub sooner_assoc : (a b c : Option ℕ) → lesser_offset (lesser_offset a b) c ≡ lesser_offset a (lesser_offset b c)
sooner_assoc None b c = refl
sooner_assoc (Some a) None c = refl
sooner_assoc (Some a) (Some b) None = refl
sooner_assoc (Some a) (Some b) (Some c) = ap Some (min_assoc a b c)
  where
    min_assoc : (x y z : ℕ) → min (min x y) z ≡ min x (min y z)
    min_assoc x y z = omega arith

pub least_append : (xs ys : List ℕ) → least (xs ++ ys) ≡ lesser_offset (least xs) (least ys)
least_append [] ys = refl
least_append (x ∷ xs) ys = ap (lesser_offset (Some x)) (least_append xs ys) ∙ sym (sooner_assoc (Some x) (least xs) (least ys))

pub ruleset least_rules = (least_append, sooner_none, sooner_assoc)

pub drop_item : {A : Type 0} (xs : List A) (i : ℕ) (x : A) → i < length xs → x ≡ get_or xs i x → drop i xs ≡ x ∷ drop (i + 1) xs
drop_item xs i x h e = rw add-one (drop-cons xs i x h ∙ ap (λ (y : _). y ∷ drop (suc i) xs) (sym e))

-- a scan that keeps the least offset so far, one item further and at the end
pub gather_next : {A : Type 0} (f : A → List ℕ) (xs : List A) (i : ℕ) (x : A) (found all : Option ℕ) → i < length xs → x ≡ get_or xs i x
    → lesser_offset found (least (gather f (drop i xs))) ≡ all → lesser_offset (lesser_offset found (least (f x))) (least (gather f (drop (i + 1) xs))) ≡ all
gather_next f xs i x found all h e k =
    sooner_assoc found (least (f x)) (least (gather f (drop (i + 1) xs)))
    ∙ ap (lesser_offset found) (sym (least_append (f x) (gather f (drop (i + 1) xs))))
    ∙ ap (λ (l : List _). lesser_offset found (least (gather f l))) (sym (drop_item xs i x h e)) ∙ k

pub gather_end : {A : Type 0} (f : A → List ℕ) (xs : List A) (i : ℕ) (found all : Option ℕ) → length xs ≤ i
    → lesser_offset found (least (gather f (drop i xs))) ≡ all → found ≡ all
gather_end f xs i found all h k = sym (sooner_none found) ∙ ap (λ (l : List _). lesser_offset found (least (gather f l))) (sym (drop_all i xs h)) ∙ k

-- what the least is: nothing of an empty list alone, and otherwise an offset of the list that none
-- lies below
abbrev pub Among : ℕ → List ℕ → Type 0
Among n [] = ⊥
Among n (x ∷ xs) = (n ≡ x) ⊎ Among n xs

pub among_front : (n m : ℕ) (xs : List ℕ) → Among n xs → Among n (xs ++ m ∷ [])
among_front n m [] h = absurd h
among_front n m (x ∷ xs) (inl e) = inl e
among_front n m (x ∷ xs) (inr h) = inr (among_front n m xs h)

pub among_last : (n : ℕ) (xs : List ℕ) → Among n (xs ++ n ∷ [])
among_last n [] = inl refl
among_last n (x ∷ xs) = inr (among_last n xs)

pub least_none : (xs : List ℕ) → least xs ≡ None → xs ≡ []
least_none [] h = refl
least_none (x ∷ xs) h = absurd (never (least xs) h)
  where
    never : (o : Option ℕ) → lesser_offset (Some x) o ≡ None → ⊥
    never None e = cc e
    never (Some b) e = cc e

least_le_at : (xs : List ℕ) (x n m : ℕ) → ((y : ℕ) → least xs ≡ Some y → Among m xs → y ≤ m) → (o : Option ℕ) → least xs ≡ o → lesser_offset (Some x) o ≡ Some n → (m ≡ x) ⊎ Among m xs → n ≤ m
least_le_at xs x n m f None e h (inl i) = let k : x ≡ n = cc h in omega (arith, k, i)
least_le_at xs x n m f None e h (inr b) = absurd (subst (Among m) (least_none xs e) b)
least_le_at xs x n m f (Some y) e h (inl i) = let k : min x y ≡ n = cc h in omega (arith, k, i)
least_le_at xs x n m f (Some y) e h (inr b) = let k : min x y ≡ n = cc h in let l : y ≤ m = f y e b in omega (arith, k, l)

pub least_le : (xs : List ℕ) (n : ℕ) → least xs ≡ Some n → (m : ℕ) → Among m xs → n ≤ m
least_le [] n h m a = absurd a
least_le (x ∷ xs) n h m a = least_le_at xs x n m (λ y e b. least_le xs y e m b) (least xs) refl h a

least_among_at : (xs : List ℕ) (x n : ℕ) → ((y : ℕ) → least xs ≡ Some y → Among y xs) → (o : Option ℕ) → least xs ≡ o → lesser_offset (Some x) o ≡ Some n → Among n (x ∷ xs)
least_among_at xs x n f None e h = let k : n ≡ x = cc h in inl k
least_among_at xs x n f (Some y) e h = let k : min x y ≡ n = cc h in elim (cases_eq n x) [
  | inl i ↦ inl i
  | inr ne ↦ let l : y ≡ n = omega (arith, k, ne) in inr (subst (λ (m : ℕ). Among m xs) l (f y e))
]

pub least_among : (xs : List ℕ) (n : ℕ) → least xs ≡ Some n → Among n xs
least_among [] n h = absurd (cc h)
least_among (x ∷ xs) n h = least_among_at xs x n (λ y e. least_among xs y e) (least xs) refl h
