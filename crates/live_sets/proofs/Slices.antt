-- The live sets of a list of groups, from its last group to its first.
use Rattle.std.proofs.Common.{◌≡◌, ℕ, ◌+◌, ◌-◌, ◌<◌, ◌≤◌, suc, List, [], ◌∷◌, length, drop, get_or, set, map, sym, ◌∙◌, ap, arith}
use Rattle.std.proofs.lemmas.List.{drop-set}
use Rattle.std.proofs.Math.Seq.{drop-cons}
use Rattle.form_model.specs.Effects.{Operation}
use Rattle.form_model.specs.Live.{Regs, live_before, regs_of}
use Rattle.word_fit.specs.Groups.{lives_of}

-- the groups from n - 1 on
rest_at : {X : Type 0} (gs : List X) (n : ℕ) (x y : X) → 0 < n → n ≤ length gs → x ≡ get_or gs (n - 1) x → y ≡ x → drop (n - 1) gs ≡ y ∷ drop n gs
rest_at gs n x y p q ex ey =
    let lt : n - 1 < length gs = omega arith in
    let s : suc (n - 1) ≡ n = omega arith in
    drop-cons gs (n - 1) x lt ∙ ap (λ z. z ∷ drop (suc (n - 1)) gs) (sym ex ∙ sym ey) ∙ ap (λ i. y ∷ drop i gs) s

pub next_live : {A : Type 0} (m : A → Operation) (gs : List (List A)) (n : ℕ) (x y : List A) (k l after : Regs) → 0 < n → n ≤ length gs → x ≡ get_or gs (n - 1) x → y ≡ x → k ≡ live_before m (y ∷ []) l → l ≡ live_before m (drop n gs) after → k ≡ live_before m (drop (n - 1) gs) after
next_live m gs n x y k l after p q ex ey ek el =
    ek ∙ ap (λ z. live_before m (y ∷ []) z) el ∙ ap (λ z. live_before m z after) (sym (rest_at gs n x y p q ex ey))

pub next_sets : {A : Type 0} (m : A → Operation) (gs : List (List A)) (n : ℕ) (x y : List A) (sets new : List ℕ) (b : ℕ) (after : Regs) → 0 < n → n ≤ length gs → length sets ≡ length gs → x ≡ get_or gs (n - 1) x → y ≡ x → new ≡ set sets (n - 1) b → regs_of b ≡ live_before m (drop n gs) after → map regs_of (drop n sets) ≡ lives_of m (drop n gs) after → map regs_of (drop (n - 1) new) ≡ lives_of m (drop (n - 1) gs) after
next_sets m gs n x y sets new b after p q s ex ey en eb ed =
    let t : n - 1 + 1 ≡ n = omega arith in
    let e : drop (n - 1) new ≡ b ∷ drop n sets = ap (λ z. drop (n - 1) z) en ∙ drop-set sets (n - 1) b (omega arith) ∙ ap (λ i. b ∷ drop i sets) t in
    ap (λ z. map regs_of z) e ∙ ap (λ z. z ∷ map regs_of (drop n sets)) eb ∙ ap (λ z. live_before m (drop n gs) after ∷ z) ed
    ∙ ap (λ z. lives_of m z after) (sym (rest_at gs n x y p q ex ey))
