-- Cutting a text at a byte, and its lines.
use Rattle.std.proofs.Common.{◌≡◌, ◌==◌, not, ℕ, zero, suc, ◌+◌, ◌-◌, ◌<◌, ◌≤◌, List, [], ◌∷◌, ◌++◌, length, take, drop, Bool, true, false, cond, Option, Some, None, refl, sym, ap, ◌∙◌, append_assoc, arith}
use Rattle.std.proofs.Common.{length-append, eqb-true, eq-eqb, add-one}
use Rattle.std.proofs.lemmas.List.{take_rest, append-nil}
use Rattle.std.proofs.Math.Seq.{take-append_seam, drop-append_seam}
use Rattle.std.proofs.lemmas.Option.{some_pair_parts}
use Rattle.std.proofs.lemmas.List.Folds.{length-prefix_len}
use Rattle.std.specs.Prelude.{take_while, option_map}
use Rattle.std.specs.List.{prefix_len, concat, AllByRecursion}
use Rattle.text_lines.specs.Fields.{parts_at, longer_front}
use Rattle.text_lines.specs.Lines.{lines_of, longer_line, IsFirstLine}

-- bytes that aren't the mark
abbrev other : ℕ → ℕ → Bool
other mark b = not (b == mark)

-- what cutting at the n-th byte gives
abbrev cut_at : ℕ → List ℕ → Option (List ℕ × List ℕ)
cut_at n text = Some (take n text, drop (n + 1) text)

step_found : (mark b n : ℕ) (bs : List ℕ) (test : Bool) → (b == mark) ≡ test → n ≡ cond (not test) (1 + prefix_len (other mark) bs) 0 → n < suc (length bs) →
    ((k : ℕ) → k ≡ prefix_len (other mark) bs → k < length bs → parts_at mark bs ≡ cut_at k bs) →
    cond test (Some ([], bs)) (option_map (longer_front b) (parts_at mark bs)) ≡ cut_at n (b ∷ bs)
step_found mark b zero bs true e is lt ih = refl
step_found mark b (suc n) bs true e is lt ih = absurd (omega arith)
step_found mark b zero bs false e is lt ih = absurd (omega arith)
step_found mark b (suc n) bs false e is lt ih = rw (ih n (omega arith) (omega arith)) (rw (add-one n, add-one (suc n)) refl)

prefix_found : (mark n : ℕ) (bs : List ℕ) → n ≡ prefix_len (other mark) bs → n < length bs → parts_at mark bs ≡ cut_at n bs
unfolding parts_at
prefix_found mark n [] is lt = absurd (omega arith)
prefix_found mark n (b ∷ bs) is lt = step_found mark b n bs (b == mark) refl is lt (λ k e f. prefix_found mark k bs e f)

step_none : (mark b n : ℕ) (bs : List ℕ) (test : Bool) → (b == mark) ≡ test → n ≡ cond (not test) (1 + prefix_len (other mark) bs) 0 → suc (length bs) ≤ n →
    ((k : ℕ) → k ≡ prefix_len (other mark) bs → length bs ≤ k → None ≡ parts_at mark bs) →
    None ≡ cond test (Some ([], bs)) (option_map (longer_front b) (parts_at mark bs))
step_none mark b n bs true e is lt ih = absurd (omega arith)
step_none mark b n bs false e is lt ih = rw (sym (ih (n - 1) (omega arith) (omega arith))) refl

prefix_none : (mark n : ℕ) (bs : List ℕ) → n ≡ prefix_len (other mark) bs → length bs ≤ n → None ≡ parts_at mark bs
unfolding parts_at
prefix_none mark n [] is lt = refl
prefix_none mark n (b ∷ bs) is lt = step_none mark b n bs (b == mark) refl is lt (λ k e f. prefix_none mark k bs e f)

-- as the code finds them
pub found : (mark n : ℕ) (bs : List ℕ) → n ≡ length (take_while (other mark) bs) → n < length bs → Some (take n bs, take (length bs - (n + 1)) (drop (n + 1) bs)) ≡ parts_at mark bs
found mark n bs is lt = rw (take_rest bs (n + 1)) (sym (prefix_found mark n bs (is ∙ length-prefix_len (other mark) bs) lt))

pub not_found : (mark n : ℕ) (bs : List ℕ) → n ≡ length (take_while (other mark) bs) → length bs ≤ n → None ≡ parts_at mark bs
not_found mark n bs is lt = prefix_none mark n bs (is ∙ length-prefix_len (other mark) bs) lt

-- ---- what it means

b_is : (mark b : ℕ) → (b == mark) ≡ true → b ≡ mark
b_is mark b e = eqb-true b mark e

pub parts_are : (mark : ℕ) (bs x y : List ℕ) → parts_at mark bs ≡ Some (x, y) → bs ≡ x ++ (mark ∷ y)
unfolding parts_at
parts_are mark [] x y e = absurd cc
parts_are mark (b ∷ bs) x y e = step (b == mark) refl (parts_at mark bs) (λ (u : List ℕ × List ℕ). parts_are mark bs u.0 u.1) e
  where
    step : (test : Bool) → (b == mark) ≡ test → (o : Option (List ℕ × List ℕ)) → ((u : List ℕ × List ℕ) → o ≡ Some u → bs ≡ u.0 ++ (mark ∷ u.1)) →
        cond test (Some ([], bs)) (option_map (longer_front b) o) ≡ Some (x, y) → (b ∷ bs) ≡ x ++ (mark ∷ y)
    step true t o ih e =
        let p : ([] ≡ x) × (bs ≡ y) = some_pair_parts [] x bs y e in
        let q : b ≡ mark = b_is mark b t in
        rw (← p.0) (cc)
    step false t None ih e = absurd cc
    step false t (Some u) ih e =
        let p : ((b ∷ u.0) ≡ x) × (u.1 ≡ y) = some_pair_parts (b ∷ u.0) x u.1 y e in
        let q : bs ≡ u.0 ++ (mark ∷ u.1) = ih u refl in
        rw (← p.0) (rw (← p.1) (cc))

-- none of these bytes
abbrev pub Avoids : ℕ → List ℕ → Type 0
Avoids mark [] = Unit {0}
Avoids mark (b ∷ bs) = ((b == mark) ≡ false) × Avoids mark bs

pub parts_again : (mark : ℕ) (x y : List ℕ) → Avoids mark x → parts_at mark (x ++ (mark ∷ y)) ≡ Some (x, y)
unfolding parts_at
parts_again mark [] y h = ap (λ t. cond t (Some ([], y)) (option_map (longer_front mark) (parts_at mark y))) (eq-eqb mark mark refl)
parts_again mark (b ∷ bs) y h =
    ap (λ t. cond t (Some ([], bs ++ (mark ∷ y))) (option_map (longer_front b) (parts_at mark (bs ++ (mark ∷ y))))) h.0
    ∙ ap (option_map (longer_front b)) (parts_again mark bs y h.1)

pub avoids-append : (mark : ℕ) (x y : List ℕ) → Avoids mark x → Avoids mark y → Avoids mark (x ++ y)
avoids-append mark [] y h k = k
avoids-append mark (b ∷ bs) y h k = (h.0, avoids-append mark bs y h.1 k)

-- ---- lines

line_cut : (bs x y : List ℕ) → parts_at 10 bs ≡ Some (x, y) → lines_of bs ≡ (x ++ (10 ∷ [])) ∷ lines_of y
unfolding parts_at lines_of
line_cut [] x y e = absurd cc
line_cut (b ∷ bs) x y e = step (b == 10) refl (parts_at 10 bs) (λ (u : List ℕ × List ℕ). line_cut bs u.0 u.1) e
  where
    step : (test : Bool) → (b == 10) ≡ test → (o : Option (List ℕ × List ℕ)) → ((u : List ℕ × List ℕ) → o ≡ Some u → lines_of bs ≡ (u.0 ++ (10 ∷ [])) ∷ lines_of u.1) →
        cond test (Some ([], bs)) (option_map (longer_front b) o) ≡ Some (x, y) → cond test ((10 ∷ []) ∷ lines_of bs) (longer_line b (lines_of bs)) ≡ (x ++ (10 ∷ [])) ∷ lines_of y
    step true t o ih e =
        let p : ([] ≡ x) × (bs ≡ y) = some_pair_parts [] x bs y e in
        rw (← p.0) (rw (← p.1) refl)
    step false t None ih e = absurd cc
    step false t (Some u) ih e =
        let p : ((b ∷ u.0) ≡ x) × (u.1 ≡ y) = some_pair_parts (b ∷ u.0) x u.1 y e in
        rw (← p.0) (rw (← p.1) (ap (longer_line b) (ih u refl)))

last_step : (b : ℕ) (bs : List ℕ) (test : Bool) (o : Option (List ℕ × List ℕ)) (lines : List (List ℕ)) → (o ≡ None → longer_line b lines ≡ (b ∷ bs) ∷ []) →
    cond test (Some ([], bs)) (option_map (longer_front b) o) ≡ None → cond test ((10 ∷ []) ∷ lines) (longer_line b lines) ≡ (b ∷ bs) ∷ []
last_step b bs true o lines h e = absurd cc
last_step b bs false None lines h e = h refl
last_step b bs false (Some u) lines h e = absurd cc

last_lines : (b : ℕ) (bs : List ℕ) → parts_at 10 bs ≡ None → longer_line b (lines_of bs) ≡ (b ∷ bs) ∷ []
unfolding parts_at lines_of
last_lines b [] e = refl
last_lines b (c ∷ cs) e = ap (longer_line b) (last_step c cs (c == 10) (parts_at 10 cs) (lines_of cs) (λ f. last_lines c cs f) e)

line_last : (b : ℕ) (bs : List ℕ) → parts_at 10 (b ∷ bs) ≡ None → lines_of (b ∷ bs) ≡ (b ∷ bs) ∷ []
unfolding parts_at lines_of
line_last b bs e = last_step b bs (b == 10) (parts_at 10 bs) (lines_of bs) (λ f. last_lines b bs f) e

pub joined-lines : (bs : List ℕ) → concat (lines_of bs) ≡ bs
unfolding lines_of
joined-lines [] = refl
joined-lines (b ∷ bs) = step (b == 10) refl (lines_of bs) (joined-lines bs)
  where
    step : (test : Bool) → (b == 10) ≡ test → (lines : List (List ℕ)) → concat lines ≡ bs → concat (cond test ((10 ∷ []) ∷ lines) (longer_line b lines)) ≡ b ∷ bs
    step true t lines e = let q : b ≡ 10 = b_is 10 b t in cc
    step false t [] e = ap (λ r. b ∷ r) e
    step false t (line ∷ lines) e = ap (λ r. b ∷ r) e

-- lines that each end with their one LF
abbrev pub IsLine : List ℕ → Type 0
IsLine line = (front : List ℕ) × Avoids 10 front × (line ≡ front ++ (10 ∷ []))

pub lines-joined : (lines : List (List ℕ)) → AllByRecursion IsLine lines → lines_of (concat lines) ≡ lines
unfolding lines_of
lines-joined [] h = refl
lines-joined (line ∷ lines) h =
    let front = h.0.0 in
    let text : line ++ concat lines ≡ front ++ (10 ∷ concat lines) = ap (λ l. l ++ concat lines) h.0.2 ∙ append_assoc front (10 ∷ []) (concat lines) in
    let cut : parts_at 10 (line ++ concat lines) ≡ Some (front, concat lines) = ap (parts_at 10) text ∙ parts_again 10 front (concat lines) h.0.1 in
    line_cut (line ++ concat lines) front (concat lines) cut ∙ ap (λ l. l ∷ lines_of (concat lines)) (sym h.0.2) ∙ ap (λ r. line ∷ r) (lines-joined lines h.1)

pub first_with : (bs x y : List ℕ) → parts_at 10 bs ≡ Some (x, y) → IsFirstLine bs (take (length x + 1) bs) (drop (length x + 1) bs)
first_with bs x y e =
    let text : bs ≡ (x ++ (10 ∷ [])) ++ y = parts_are 10 bs x y e ∙ sym (append_assoc x (10 ∷ []) y) in
    let long : length x + 1 ≡ length (x ++ (10 ∷ [])) = omega (arith, length-append x (10 ∷ [])) in
    let front : take (length x + 1) bs ≡ x ++ (10 ∷ []) = rw (text, long) (take-append_seam (x ++ (10 ∷ [])) y) in
    let back : drop (length x + 1) bs ≡ y = rw (text, long) (drop-append_seam (x ++ (10 ∷ [])) y) in
    record {
      lines = rw (front, back) (line_cut bs x y e);
      parts = rw (front, back) text;
      shorter = rw back (omega (arith, ap length text, length-append (x ++ (10 ∷ [])) y, length-append x (10 ∷ [])));
    }

pub first_without : (bs : List ℕ) → parts_at 10 bs ≡ None → 0 < length bs → IsFirstLine bs bs []
unfolding lines_of
first_without [] e some = absurd (omega arith)
first_without (b ∷ bs) e some = record { lines = line_last b bs e; parts = sym (append-nil (b ∷ bs)); shorter = omega arith }
