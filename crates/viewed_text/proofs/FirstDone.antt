-- Going to the first `done`.
use Rattle.std.proofs.Common.{◌≡◌, ◌==◌, inl, inr, ℕ, ◌-◌, ◌<◌, ◌≤◌, List, [], ◌∷◌, ◌++◌, length, take, drop, Bool, true, false, cond, Option, None, Some, refl, sym, ap, subst, ◌∙◌, append_assoc, length-append, arith}
use Rattle.std.proofs.lemmas.List.{append-nil}
use Rattle.std.proofs.lemmas.Option.{some_pair_parts}
use Rattle.std.proofs.Math.Seq.{take-append_seam, drop-append_seam}
use Rattle.std.specs.List.{AllByRecursion, concat}
use Rattle.std.specs.Prelude.{codes, option_map}
use Rattle.rec_bits.proofs.Lists.{all_append}
use Rattle.text_lines.specs.Fields.{longer_front, parts_at}
use Rattle.text_lines.specs.Lines.{lines_of}
use Rattle.text_lines.proofs.Parts.{Avoids, IsLine, first_without, parts_are}
use Rattle.viewed_text.specs.Inner.Behind.{IsOther, IsParted, done_line}
use Rattle.viewed_text.proofs.Lines.{concat-last, lines_more, no_lines, none_some}

-- lines that aren't `done` were passed, and the rest is left
pub record Passed (bytes rest : List ℕ) : Type 0 where
  pub before : List (List ℕ)
  pub ends : AllByRecursion IsLine before
  pub others : AllByRecursion IsOther before
  pub text : bytes ≡ concat before ++ rest

pub passed_none : (bytes : List ℕ) → Passed bytes bytes
passed_none bytes = record { before = []; ends = tt; others = tt; text = refl }

front_avoids : (mark : ℕ) (bs x y : List ℕ) → parts_at mark bs ≡ Some (x, y) → Avoids mark x
unfolding parts_at
front_avoids mark [] x y e = absurd cc
front_avoids mark (b ∷ bs) x y e = step (b == mark) refl (parts_at mark bs) (λ u v f. front_avoids mark bs u v f) e
  where
    step : (t : Bool) → (b == mark) ≡ t → (o : Option (List ℕ × List ℕ)) → ((u v : List ℕ) → o ≡ Some (u, v) → Avoids mark u) → cond t (Some ([], bs)) (option_map (longer_front b) o) ≡ Some (x, y) → Avoids mark x
    step true q o h e = subst (Avoids mark) (some_pair_parts [] x bs y e).0 tt
    step false q None h e = absurd cc
    step false q (Some u) h e = subst (Avoids mark) (some_pair_parts (b ∷ u.0) x u.1 y e).0 (q, h u.0 u.1 refl)

no_done_line : (x : List ℕ) → x ++ (10 ∷ []) ≡ done_line → x ≡ codes "done"
no_done_line x e =
    let long : length x ≡ 4 = omega (arith, ap length e, length-append x (10 ∷ [])) in
    sym (take-append_seam x (10 ∷ [])) ∙ ap (take (length x)) e ∙ ap (λ n. take n done_line) long

pub passed_more : (bytes rest line more : List ℕ) → Passed bytes rest → Some (line, more) ≡ parts_at 10 rest → (line ≡ codes "done" → ⊥) → Passed bytes more
passed_more bytes rest line more p e other = record {
  before = p.before ++ ((line ++ (10 ∷ [])) ∷ []);
  ends = all_append IsLine p.before _ p.ends ((line, front_avoids 10 rest line more (sym e), refl), tt);
  others = all_append IsOther p.before _ p.others ((λ q. other (no_done_line line q)), tt);
  text = p.text ∙ ap (λ r. concat p.before ++ r) (parts_are 10 rest line more (sym e) ∙ sym (append_assoc line (10 ∷ []) more)) ∙ sym (append_assoc (concat p.before) (line ++ (10 ∷ [])) more)
      ∙ ap (λ t. t ++ more) (sym (concat-last p.before (line ++ (10 ∷ []))));
}

-- the first `done` is here
pub at_done : (bytes rest line more front back : List ℕ) → Passed bytes rest → Some (line, more) ≡ parts_at 10 rest → line ≡ codes "done" → front ≡ take (length bytes - length more) bytes → back ≡ drop (length bytes - length more) bytes → IsParted bytes front back
at_done bytes rest line more front back p e d f b =
    let here : rest ≡ done_line ++ more = parts_are 10 rest line more (sym e) ∙ ap (λ l. l ++ (10 ∷ more)) d in
    let head = concat p.before ++ done_line in
    let whole : bytes ≡ head ++ more = p.text ∙ ap (λ r. concat p.before ++ r) here ∙ sym (append_assoc (concat p.before) done_line more) in
    let long : length bytes - length more ≡ length head = omega (arith, ap length whole, length-append head more) in
    let first : front ≡ head = f ∙ ap (λ n. take n bytes) long ∙ ap (take (length head)) whole ∙ take-append_seam head more in
    let last : back ≡ more = b ∙ ap (λ n. drop n bytes) long ∙ ap (drop (length head)) whole ∙ drop-append_seam head more in
    inl (record {
      before = p.before;
      others = record { whole = λ (text : List ℕ). lines_more p.before text p.ends; others = p.others };
      front_is = first;
      text = whole ∙ ap (λ x. x ++ more) (sym first) ∙ ap (λ x. front ++ x) (sym last);
    })

-- ---- and there is none

cut_done : (bs : List ℕ) → bs ≡ done_line → parts_at 10 bs ≡ None → ⊥
unfolding parts_at
cut_done bs e n =
    let cut : List ℕ × List ℕ = (codes "done", []) in
    none_some cut (sym n ∙ ap (parts_at 10) e)

last_other : (rest : List ℕ) → parts_at 10 rest ≡ None → AllByRecursion IsOther (lines_of rest)
last_other [] n = subst (AllByRecursion IsOther) (sym no_lines) tt
last_other (b ∷ bs) n =
    let first = first_without (b ∷ bs) n (omega arith) in
    subst (AllByRecursion IsOther) (sym (first.lines ∙ ap (λ r. (b ∷ bs) ∷ r) no_lines)) ((λ e. cut_done (b ∷ bs) e n), tt)

pub no_done_left : (bytes rest front back : List ℕ) → Passed bytes rest → None ≡ parts_at 10 rest → front ≡ take (length bytes) bytes → back ≡ drop (length bytes) bytes → IsParted bytes front back
no_done_left bytes rest front back p n f b =
    let lines : lines_of bytes ≡ p.before ++ lines_of rest = ap lines_of p.text ∙ lines_more p.before rest p.ends in
    let all : bytes ++ [] ≡ bytes = append-nil bytes in
    inr (record {
      others = subst (AllByRecursion IsOther) (sym lines) (all_append IsOther p.before (lines_of rest) p.others (last_other rest (sym n)));
      all = f ∙ ap (take (length bytes)) (sym all) ∙ take-append_seam bytes [];
      none = b ∙ ap (drop (length bytes)) (sym all) ∙ drop-append_seam bytes [];
    })

pub rest_short : (bytes front rest : List ℕ) → IsParted bytes front rest → length rest ≤ length bytes
rest_short bytes front rest (inl e) = omega (arith, ap length e.text, length-append front rest)
rest_short bytes front rest (inr h) = omega (arith, ap length h.none)

-- what is left behind a cut is shorter
pub cut_shorter : (rest line more : List ℕ) → Some (line, more) ≡ parts_at 10 rest → length more < length rest
cut_shorter rest line more e = omega (arith, ap length (parts_are 10 rest line more (sym e)), length-append line (10 ∷ more))

pub more_short : (bytes rest line more : List ℕ) → Passed bytes rest → Some (line, more) ≡ parts_at 10 rest → length more ≤ length bytes
more_short bytes rest line more p e = omega (arith, cut_shorter rest line more e, ap length p.text, length-append (concat p.before) rest)
