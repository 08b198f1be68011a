-- Texts of whole lines.
use Rattle.std.proofs.Common.{◌≡◌, ◌==◌, ℕ, ◌+◌, true, false, None, List, [], ◌∷◌, ◌++◌, length, take, drop, Some, refl, sym, ap, ◌∙◌, append_assoc, length-append, eqb-true, arith}
use Rattle.std.proofs.lemmas.Bool.{eqb-false, true≢false}
use Rattle.std.proofs.lemmas.List.{append-nil}
use Rattle.std.proofs.lemmas.Slice.Eq.{bytes_eq-Decides}
use Rattle.std.proofs.Math.Seq.{take-append_seam, drop-append_seam}
use Rattle.std.specs.List.{AllByRecursion, concat}
use Rattle.std.specs.Prelude.{codes}
use Rattle.std.specs.Str.{bytes_eq}
use Rattle.text_lines.specs.Fields.{parts_at}
use Rattle.text_lines.specs.Lines.{lines_of}
use Rattle.text_lines.proofs.Parts.{Avoids, IsLine, first_with, parts_again}
use Rattle.viewed_text.specs.Inner.Behind.{IsOther, done_line}

line_more : (x y : List ℕ) → Avoids 10 x → lines_of ((x ++ (10 ∷ [])) ++ y) ≡ (x ++ (10 ∷ [])) ∷ lines_of y
line_more x y out =
    let bs = (x ++ (10 ∷ [])) ++ y in
    let cut : parts_at 10 bs ≡ Some (x, y) = ap (parts_at 10) (append_assoc x (10 ∷ []) y) ∙ parts_again 10 x y out in
    let first = first_with bs x y cut in
    let long : length x + 1 ≡ length (x ++ (10 ∷ [])) = omega (arith, length-append x (10 ∷ [])) in
    let front : take (length x + 1) bs ≡ x ++ (10 ∷ []) = ap (λ n. take n bs) long ∙ take-append_seam (x ++ (10 ∷ [])) y in
    let back : drop (length x + 1) bs ≡ y = ap (λ n. drop n bs) long ∙ drop-append_seam (x ++ (10 ∷ [])) y in
    first.lines ∙ ap (λ l. l ∷ lines_of (drop (length x + 1) bs)) front ∙ ap (λ r. (x ++ (10 ∷ [])) ∷ lines_of r) back

pub whole_more : (line text : List ℕ) → IsLine line → lines_of (line ++ text) ≡ line ∷ lines_of text
whole_more line text h = ap (λ l. lines_of (l ++ text)) h.2 ∙ line_more h.0 text h.1 ∙ ap (λ l. l ∷ lines_of text) (sym h.2)

pub lines_more : (lines : List (List ℕ)) (text : List ℕ) → AllByRecursion IsLine lines → lines_of (concat lines ++ text) ≡ lines ++ lines_of text
lines_more [] text h = refl
lines_more (line ∷ lines) text h =
    ap lines_of (append_assoc line (concat lines) text) ∙ whole_more line (concat lines ++ text) h.0 ∙ ap (λ r. line ∷ r) (lines_more lines text h.1)

-- what can't be
pub none_some : {A : Type 0} (x : A) → None ≡ Some x → ⊥
none_some x e = cc

abbrev pub first_byte : List ℕ → ℕ
first_byte [] = 0
first_byte (b ∷ bs) = b

pub other_first : (b : ℕ) (bs : List ℕ) → (b == 100) ≡ false → IsOther (b ∷ bs)
other_first b bs h = λ e. eqb-false b 100 h (ap first_byte e)

pub is_text : (xs ys : List ℕ) → bytes_eq xs ys ≡ true → xs ≡ ys
is_text xs ys e = (bytes_eq-Decides xs ys).0 e

pub no_text_so : (xs ys : List ℕ) → bytes_eq xs ys ≡ false → xs ≡ ys → ⊥
no_text_so xs ys f e = absurd (true≢false (sym ((bytes_eq-Decides xs ys).1 e) ∙ f))

pub nothing_is : (xs : List ℕ) → (length xs == 0) ≡ true → xs ≡ []
nothing_is [] e = refl
nothing_is (x ∷ xs) e = absurd (omega (arith, eqb-true (length (x ∷ xs)) 0 e))

pub something_is : (xs : List ℕ) → (length xs == 0) ≡ false → xs ≡ [] → ⊥
something_is [] f e = absurd (true≢false f)
something_is (x ∷ xs) f e = omega (arith, ap length e)

pub no_lines : lines_of [] ≡ []
unfolding lines_of
no_lines = refl

pub done_ends : IsLine done_line
done_ends = (codes "done", (refl, (refl, (refl, (refl, tt)))), refl)

pub done_lines : lines_of done_line ≡ done_line ∷ []
unfolding lines_of
done_lines = refl

pub concat-append : (xs ys : List (List ℕ)) → concat (xs ++ ys) ≡ concat xs ++ concat ys
concat-append [] ys = refl
concat-append (x ∷ xs) ys = ap (λ r. x ++ r) (concat-append xs ys) ∙ sym (append_assoc x (concat xs) (concat ys))

pub concat-last : (xs : List (List ℕ)) (line : List ℕ) → concat (xs ++ (line ∷ [])) ≡ concat xs ++ line
concat-last xs line = concat-append xs (line ∷ []) ∙ ap (λ r. concat xs ++ r) (append-nil line)
