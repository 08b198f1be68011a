-- Routes that are found by the words that they hold, and sets that lose words.
use Rattle.std.proofs.Common.{◌≡◌, ◌⊎◌, inl, inr, ℕ, zero, suc, ◌+◌, ◌<◌, ◌≤◌, ◌&&◌, Bool, true, false, not, if◌then◌else◌, true≢false, below_more, List, [], ◌∷◌, ◌++◌, map, take, length, Some, slice_get, refl, sym, ap, subst, ◌∙◌, arith}
use Rattle.std.specs.List.{slice_index_or}
use Rattle.std.proofs.lemmas.Option.{slice_get_within, slice_get-get_or}
use Rattle.bit_bdd.specs.Diagrams.{Diagrams, has_word}
use Rattle.net_model.specs.Exprs.{ExprModel}
use Rattle.sym_expr.specs.declared.pool.Node.{Node}
use Rattle.sym_expr.specs.Pools.{expr_of_id}
use Rattle.transfer_set.specs.declared.route.Route.{Route}
use Rattle.transfer_set.specs.Routes.{exprs_under, models_under}
use Rattle.route_trace.specs.Inner.Lookups.{HoldsAt, is_free}
use Rattle.route_trace.proofs.Products.{held_more}
use Rattle.route_trace.proofs.Loops.{no_exprs}

-- ---- looking for a word

-- one more route that does not hold a word
pub still_none : (book : Diagrams) (routes : List Route) (i : ℕ) (route : Route) → slice_get routes i ≡ Some route → (word : ℕ) → has_word book route.set word ≡ false → exprs_under book (take i routes) word ≡ [] → exprs_under book (take (i + 1) routes) word ≡ []
still_none book routes i route at word h none = held_more book routes i route at word ∙ (λ j. none j ++ (if h j then route.expr ∷ [] else []))

-- one more route whose words go
pub free_more : (s : Bool) (xs : List ℕ) (b : Bool) (expr : ℕ) → ((s && is_free xs) && not b) ≡ (s && is_free (xs ++ (if b then expr ∷ [] else [])))
free_more true [] true expr = refl
free_more true [] false expr = refl
free_more true (x ∷ xs) b expr = refl
free_more false xs b expr = refl

-- without the words without one
pub but_free : (s free : Bool) → (s && not (s && free)) ≡ (s && not free)
but_free true free = refl
but_free false free = refl

-- where a route holds a word that at most one does, it alone gives the word's expression
pub only_held : (book : Diagrams) (routes : List Route) (place : ℕ) (route : Route) → slice_get routes place ≡ Some route → (word : ℕ) → length (exprs_under book routes word) ≤ 1 → has_word book route.set word ≡ true → exprs_under book routes word ≡ route.expr ∷ []
only_held book [] place route at word one h = absurd (cc)
only_held book (x ∷ routes) zero route at word one h =
    let e : x ≡ route = cc in
    by (has_word book x.set word) (ap (λ (r : Route). has_word book r.set word) e ∙ h) (exprs_under book routes word) one ∙ (λ j. (e j).expr ∷ [])
  where
    by : (b : Bool) → b ≡ true → (xs : List ℕ) → length ((if b then x.expr ∷ [] else []) ++ xs) ≤ 1 → (if b then x.expr ∷ [] else []) ++ xs ≡ x.expr ∷ []
    by true e [] one = refl
    by true e (y ∷ ys) one = absurd (omega (arith, one))
    by false e xs one = absurd (true≢false (sym e))
only_held book (x ∷ routes) (suc place) route at word one h = by (has_word book x.set word) one (λ less. only_held book routes place route at word less h)
  where
    by : (b : Bool) → length ((if b then x.expr ∷ [] else []) ++ exprs_under book routes word) ≤ 1
        → (length (exprs_under book routes word) ≤ 1 → exprs_under book routes word ≡ route.expr ∷ []) → (if b then x.expr ∷ [] else []) ++ exprs_under book routes word ≡ route.expr ∷ []
    by false one rest = rest one
    by true one rest = (let l = ap length (rest (omega (arith, one))) in absurd (omega (arith, one, l)))

-- what is read at the place of a route that holds a word
pub held_at : (book : Diagrams) (routes : List Route) (place word : ℕ) → HoldsAt book routes place word → (d : Route)
    → (slice_get routes place ≡ Some (slice_index_or routes place d)) × (has_word book (slice_index_or routes place d).set word ≡ true)
held_at book routes place word h d =
    let at = slice_get-get_or routes place d (slice_get_within routes place h.route h.at) in
    let e : Some h.route ≡ Some (slice_index_or routes place d) = sym h.at ∙ at in
    let s : h.route ≡ slice_index_or routes place d = cc in
    (at, subst (λ (r : Route). has_word book r.set word ≡ true) s h.holds)

-- ---- how many words a set has

-- the words of a set below a number
abbrev pub words_in : Diagrams → ℕ → ℕ → ℕ
words_in book id zero = 0
words_in book id (suc n) = (if has_word book id n then 1 else 0) + words_in book id n

module _ (old new : Diagrams) (a b : ℕ) where
  none_more : (n : ℕ) → ((word : ℕ) → has_word new b word ≡ true → has_word old a word ≡ true) → words_in new b n ≤ words_in old a n
  none_more zero h = omega arith
  none_more (suc n) h = by (has_word new b n) (has_word old a n) (h n) (none_more n h)
    where
      by : (x y : Bool) → (x ≡ true → y ≡ true) → words_in new b n ≤ words_in old a n → (if x then 1 else 0) + words_in new b n ≤ (if y then 1 else 0) + words_in old a n
      by true true h rest = omega (arith, rest)
      by true false h rest = absurd (true≢false (sym (h refl)))
      by false true h rest = omega (arith, rest)
      by false false h rest = omega (arith, rest)

  -- a set that loses a word and gets none has fewer
  pub fewer : (n : ℕ) → ((word : ℕ) → has_word new b word ≡ true → has_word old a word ≡ true)
      → (word : ℕ) → word < n → has_word old a word ≡ true → has_word new b word ≡ false → words_in new b n < words_in old a n
  fewer zero h word low is gone = absurd (omega (arith, low))
  fewer (suc n) h word low is gone =
      below_more (λ k. has_word old a k ≡ true → has_word new b k ≡ false → words_in new b (suc n) < words_in old a (suc n)) n
      (λ k less is gone. before (has_word new b n) (has_word old a n) (h n) (fewer n h k less is gone))
      (λ is gone. here (has_word new b n) (has_word old a n) is gone (none_more n h))
      word (omega (arith, low)) is gone
    where
      before : (x y : Bool) → (x ≡ true → y ≡ true) → words_in new b n < words_in old a n → (if x then 1 else 0) + words_in new b n < (if y then 1 else 0) + words_in old a n
      before true true h rest = omega (arith, rest)
      before true false h rest = absurd (true≢false (sym (h refl)))
      before false true h rest = omega (arith, rest)
      before false false h rest = omega (arith, rest)

      here : (x y : Bool) → y ≡ true → x ≡ false → words_in new b n ≤ words_in old a n → (if x then 1 else 0) + words_in new b n < (if y then 1 else 0) + words_in old a n
      here false true is gone rest = omega (arith, rest)
      here true y is gone rest = absurd (true≢false gone)
      here false false is gone rest = absurd (true≢false (sym is))

-- ---- words that are left

-- what is given so far: nothing to the words that are left of a set, and all to its others
abbrev pub left_exprs : Bool → Bool → List ExprModel → List ExprModel → List ExprModel
left_exprs set left whole outs = if set then (if left then [] else whole) else outs

pub left_first : (s : Bool) (whole outs : List ExprModel) → (s ≡ true → outs ≡ []) → outs ≡ left_exprs s s whole outs
left_first true whole outs h = h refl
left_first false whole outs h = refl

pub left_apart : (t : ℕ → ExprModel) (now : List ℕ) (s l : Bool) (whole outs : List ExprModel) → (l ≡ true → s ≡ true) → map t now ≡ left_exprs s l whole outs → l ≡ true → now ≡ []
left_apart t now true true whole outs i e h = no_exprs t now e
left_apart t now false true whole outs i e h = absurd (true≢false (sym (i refl)))
left_apart t now s false whole outs i e h = absurd (true≢false (sym h))

pub left_none : (s l : Bool) (whole outs exprs : List ExprModel) → l ≡ false → exprs ≡ left_exprs s l whole outs → exprs ≡ (if s then whole else outs)
left_none s l whole outs exprs h e = e ∙ ap (λ b. left_exprs s b whole outs) h

pub left_part : (s l : Bool) (whole outs exprs : List ExprModel) → exprs ≡ left_exprs s l whole outs → (exprs ≡ []) ⊎ (exprs ≡ (if s then whole else outs))
left_part true true whole outs exprs e = inl e
left_part true false whole outs exprs e = inr e
left_part false l whole outs exprs e = inr e

module _ (f : List ExprModel → List ExprModel) (book : Diagrams) (pool : List Node) (routes : List Route) (word : ℕ) where
  -- a route was added
  pub left_step : (place : ℕ) (route : Route) → slice_get routes place ≡ Some route → length (exprs_under book routes word) ≤ 1
      → (s l r l' : Bool) (outs old add new : List ExprModel) → (l ≡ true → s ≡ true) → r ≡ has_word book route.set word → l' ≡ (l && not r)
      → old ≡ left_exprs s l (f (models_under book pool routes word)) outs → add ≡ f (expr_of_id pool route.expr ∷ []) → new ≡ (if l && r then add else old)
      → new ≡ left_exprs s l' (f (models_under book pool routes word)) outs
  left_step place route at one s l r l' outs old add new i er el eo ea en =
      en ∙ by s l r i eo (λ h. ea ∙ sym (ap (λ es. f (map (expr_of_id pool) es)) (only_held book routes place route at word one (sym er ∙ h))))
      ∙ ap (λ b. left_exprs s b (f (models_under book pool routes word)) outs) (sym el)
    where
      by : (s l r : Bool) → (l ≡ true → s ≡ true) → old ≡ left_exprs s l (f (models_under book pool routes word)) outs → (r ≡ true → add ≡ f (models_under book pool routes word))
          → (if l && r then add else old) ≡ left_exprs s (l && not r) (f (models_under book pool routes word)) outs
      by true true true i eo ea = ea refl
      by true true false i eo ea = eo
      by true false r i eo ea = eo
      by false true r i eo ea = absurd (true≢false (sym (i refl)))
      by false false r i eo ea = eo

  -- the words that no route holds went
  pub left_free : f [] ≡ [] → (s l l' : Bool) (outs exprs : List ExprModel) → l' ≡ (l && not (is_free (exprs_under book routes word)))
      → exprs ≡ left_exprs s l (f (models_under book pool routes word)) outs → exprs ≡ left_exprs s l' (f (models_under book pool routes word)) outs
  left_free none s l l' outs exprs el e = by s l (exprs_under book routes word) e ∙ ap (λ b. left_exprs s b (f (models_under book pool routes word)) outs) (sym el)
    where
      by : (s l : Bool) (xs : List ℕ) → exprs ≡ left_exprs s l (f (map (expr_of_id pool) xs)) outs → exprs ≡ left_exprs s (l && not (is_free xs)) (f (map (expr_of_id pool) xs)) outs
      by true true [] e = e ∙ sym none
      by true true (x ∷ xs) e = e
      by true false xs e = e
      by false l xs e = e

-- what is added for a part of a set, said by the books before
pub same_choice : (b c : Bool) (whole whole' outs outs' exprs : List ExprModel) → b ≡ c → whole ≡ whole' → outs ≡ outs' → exprs ≡ (if b then whole else outs) → exprs ≡ (if c then whole' else outs')
same_choice b c whole whole' outs outs' exprs eb ew eo e = e ∙ (λ j. if eb j then ew j else eo j)
