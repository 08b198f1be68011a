-- What is read of a text's front is a term that stands there, and a term that stands there is read.
use Rattle.std.proofs.Common.{◌≡◌, ◌==◌, ◌||◌, Bool, ℕ, zero, suc, ◌<◌, ◌^◌, List, [], ◌∷◌, ◌++◌, length, true, false, cond, Option, Some, None, refl, sym, ap, subst, ◌∙◌, append_assoc, eqb-true, arith}
use Rattle.std.proofs.lemmas.List.{append-nil}
use Rattle.std.proofs.lemmas.Option.{cond_some, same_Some}
use Rattle.std.specs.Fmt.{decimal}
use Rattle.text_lines.specs.Fields.{is_name, number_of, ◌>>=◌}
use Rattle.text_lines.proofs.Numbers.{number_is, number_again, avoids-decimal, avoids-name}
use Rattle.text_lines.proofs.Parts.{Avoids, avoids-append}
use Rattle.lexing.specs.Bytes.{is_digit, is_letter, is_name_byte}
use Rattle.text_lines.proofs.Steps.{bind_ok, bind_again}
use Rattle.view_terms.specs.Terms.{TermModel, name, number, constant, one, two, three, term_text, TermFits, max_levels, SaysTerm}
use Rattle.view_terms.specs.Inner.Reading.{Found, bare_at, behind, behind_word, called, constant_at, last_operand, leaf_at, next_operand, only_found, term_at, when, whole_term, word_in}
use Rattle.view_terms.proofs.Words.{Ends, behind_again, behind_is, decimal_bytes, decimal_is_no_name, ends_break, name_bytes, not_opened, not_wide, rest_again, split, when_again, when_is, when_other, word_again}

-- ---- texts of parts, with what follows

constant_text : (a b r : List ℕ) → (a ++ (35 ∷ (b ++ []))) ++ r ≡ a ++ (35 ∷ (b ++ r))
constant_text a b r = simp append_assoc

one_text : (n a r : List ℕ) → (n ++ (40 ∷ (a ++ (41 ∷ [])))) ++ r ≡ n ++ (40 ∷ (a ++ (41 ∷ r)))
one_text n a r = simp append_assoc

two_text : (n a b r : List ℕ) → (n ++ (40 ∷ (a ++ (44 ∷ (b ++ (41 ∷ [])))))) ++ r ≡ n ++ (40 ∷ (a ++ (44 ∷ (b ++ (41 ∷ r)))))
two_text n a b r = simp append_assoc

three_text : (n a b c r : List ℕ) → (n ++ (40 ∷ (a ++ (44 ∷ (b ++ (44 ∷ (c ++ (41 ∷ [])))))))) ++ r ≡ n ++ (40 ∷ (a ++ (44 ∷ (b ++ (44 ∷ (c ++ (41 ∷ r)))))))
three_text n a b c r = simp append_assoc

-- ---- what is read stands there

pub record FoundIs (levels : ℕ) (text : List ℕ) (found : Found) : Type 0 where
  pub text_is : text ≡ term_text found.0 ++ found.1
  pub fits : TermFits levels found.0

constant_is : (levels : ℕ) (word text : List ℕ) (found : Found) → constant_at word text ≡ Some found → FoundIs levels (word ++ (35 ∷ text)) found
unfolding constant_at
constant_is levels word text found e =
    let v = bind_ok (number_of word) _ found e in
    let w = bind_ok (number_of (word_in text)) _ found v.then in
    let p = number_is word v.value v.first in
    let q = number_is (word_in text) w.value w.first in
    let rest = behind_word text in
    let parts : word ++ (35 ∷ text) ≡ decimal v.value ++ (35 ∷ (decimal w.value ++ rest)) =
    ap (λ x. x ++ (35 ∷ text)) p.0 ∙ ap (λ x. decimal v.value ++ (35 ∷ x)) (sym (split text) ∙ ap (λ x. x ++ rest) q.0) in
    subst (FoundIs levels (word ++ (35 ∷ text))) (same_Some (constant v.value w.value, rest) found w.then)
    (record { text_is = parts ∙ sym (constant_text (decimal v.value) (decimal w.value) rest); fits = (p.1, q.1) })

bare_is : (levels : ℕ) (word text : List ℕ) (found : Found) → bare_at word text ≡ Some found → FoundIs levels (word ++ text) found
unfolding bare_at
bare_is levels word text found e =
    let v = bind_ok (number_of word) _ found e in
    let p = number_is word v.value v.first in
    subst (FoundIs levels (word ++ text)) (same_Some (number v.value, text) found v.then) (record { text_is = ap (λ x. x ++ text) p.0; fits = p.1 })

leaf_is : (levels : ℕ) (word text : List ℕ) (found : Found) → leaf_at word text ≡ Some found → FoundIs levels (word ++ text) found
unfolding leaf_at
leaf_is levels word text found e = step (is_name word) refl e
  where
    numeral_is : when (behind 35 text) (constant_at word) (bare_at word text) ≡ Some found → FoundIs levels (word ++ text) found
    numeral_is e =
        when_is (behind 35 text) (constant_at word) (bare_at word text) found (FoundIs levels (word ++ text) found) e
        (λ x f g. subst (λ t. FoundIs levels (word ++ t) found) (sym (behind_is 35 text x f)) (constant_is levels word x found g))
        (λ f g. bare_is levels word text found g)

    step : (t : _) → is_name word ≡ t → cond t (Some (name word, text)) (when (behind 35 text) (constant_at word) (bare_at word text)) ≡ Some found → FoundIs levels (word ++ text) found
    step true q e = subst (FoundIs levels (word ++ text)) (same_Some (name word, text) found e) (record { text_is = refl; fits = q })
    step false q e = numeral_is e

-- a reader of terms with at most so many levels
abbrev Sound : ℕ → (List ℕ → Option Found) → Type 0
Sound levels term = (text : List ℕ) (found : Found) → term text ≡ Some found → FoundIs levels text found

-- what stands behind a comma
record NextIs (levels : ℕ) (text : List ℕ) (found : Found) : Type 0 where
  pub text_is : text ≡ 44 ∷ (term_text found.0 ++ found.1)
  pub fits : TermFits levels found.0

next_is : (levels : ℕ) (term : List ℕ → Option Found) → Sound levels term → (text : List ℕ) (found : Found) → next_operand term text ≡ Some found → NextIs levels text found
unfolding next_operand
next_is levels term sound text found e =
    let b = bind_ok (behind 44 text) term found e in
    let f = sound b.value found b.then in
    record { text_is = behind_is 44 text b.value b.first ∙ ap (λ r. 44 ∷ r) f.text_is; fits = f.fits }

record LastIs (levels : ℕ) (text : List ℕ) (found : Found) : Type 0 where
  pub text_is : text ≡ 44 ∷ (term_text found.0 ++ (41 ∷ found.1))
  pub fits : TermFits levels found.0

last_is : (levels : ℕ) (term : List ℕ → Option Found) → Sound levels term → (text : List ℕ) (found : Found) → last_operand term text ≡ Some found → LastIs levels text found
unfolding last_operand
last_is levels term sound text found e =
    let c = bind_ok (next_operand term text) _ found e in
    let d = bind_ok (behind 41 c.value.1) _ found c.then in
    let n = next_is levels term sound text c.value c.first in
    subst (LastIs levels text) (same_Some (c.value.0, d.value) found d.then)
    (record { text_is = n.text_is ∙ ap (λ r. 44 ∷ (term_text c.value.0 ++ r)) (behind_is 41 c.value.1 d.value d.first); fits = n.fits })

-- a word with its terms
abbrev CalledIs : ℕ → List ℕ → Found → Type 0
CalledIs levels text found = FoundIs (suc levels) text found

called_is : (levels : ℕ) (term : List ℕ → Option Found) → Sound levels term → (word text : List ℕ) (found : Found) → called term word text ≡ Some found → CalledIs levels (word ++ (40 ∷ text)) found
unfolding called
called_is levels term sound word text found e =
    let named = cond_named (is_name word) _ found e in
    let a = bind_ok (term text) _ found named.1 in
    let f = sound text a.value a.first in
    when_is (behind 41 a.value.1) _ _ found (CalledIs levels (word ++ (40 ∷ text)) found) a.then
    (λ end q g. subst (CalledIs levels (word ++ (40 ∷ text))) (same_Some (one word a.value.0, end) found g)
    (record {
      text_is = ap (λ r. word ++ (40 ∷ r)) (f.text_is ∙ ap (λ r. term_text a.value.0 ++ r) (behind_is 41 a.value.1 end q)) ∙ sym (one_text word (term_text a.value.0) end);
      fits = (named.0, f.fits);
    }))
    (λ q g. more a.value f named.0 g)
  where
    cond_named : (t : _) (o : Option Found) (found : Found) → cond t o None ≡ Some found → (t ≡ true) × (o ≡ Some found)
    cond_named true o found e = (refl, e)
    cond_named false o found e = absurd cc

    rest_of : (a b : Found) → FoundIs levels text a → NextIs levels a.1 b → is_name word ≡ true →
        (last_operand term b.1 >>= λ c. Some (three word a.0 b.0 c.0, c.1)) ≡ Some found → CalledIs levels (word ++ (40 ∷ text)) found
    rest_of a b f n named e =
        let c = bind_ok (last_operand term b.1) _ found e in
        let l = last_is levels term sound b.1 c.value c.first in
        subst (CalledIs levels (word ++ (40 ∷ text))) (same_Some (three word a.0 b.0 c.value.0, c.value.1) found c.then)
        (record {
          text_is = ap (λ r. word ++ (40 ∷ r)) (f.text_is ∙ ap (λ r. term_text a.0 ++ r) (n.text_is ∙ ap (λ r. 44 ∷ (term_text b.0 ++ r)) l.text_is))
              ∙ sym (three_text word (term_text a.0) (term_text b.0) (term_text c.value.0) c.value.1);
          fits = (named, f.fits, n.fits, l.fits);
        })

    more : (a : Found) → FoundIs levels text a → is_name word ≡ true →
        (next_operand term a.1 >>= λ b. when (behind 41 b.1) (λ end. Some (two word a.0 b.0, end)) (last_operand term b.1 >>= λ c. Some (three word a.0 b.0 c.0, c.1))) ≡ Some found →
        CalledIs levels (word ++ (40 ∷ text)) found
    more a f named e =
        let b = bind_ok (next_operand term a.1) _ found e in
        let n = next_is levels term sound a.1 b.value b.first in
        when_is (behind 41 b.value.1) _ _ found (CalledIs levels (word ++ (40 ∷ text)) found) b.then
        (λ end q g. subst (CalledIs levels (word ++ (40 ∷ text))) (same_Some (two word a.0 b.value.0, end) found g)
        (record {
          text_is = ap (λ r. word ++ (40 ∷ r)) (f.text_is ∙ ap (λ r. term_text a.0 ++ r) (n.text_is ∙ ap (λ r. 44 ∷ (term_text b.value.0 ++ r)) (behind_is 41 b.value.1 end q)))
              ∙ sym (two_text word (term_text a.0) (term_text b.value.0) end);
          fits = (named, f.fits, n.fits);
        }))
        (λ q g. rest_of a b.value f n named g)

whole_leaf : (levels : ℕ) (text : List ℕ) (found : Found) → leaf_at (word_in text) (behind_word text) ≡ Some found → FoundIs levels text found
whole_leaf levels text found e = subst (λ t. FoundIs levels t found) (split text) (leaf_is levels (word_in text) (behind_word text) found e)

pub term_is : (levels : ℕ) → Sound levels (term_at levels)
unfolding term_at
term_is zero text found e = whole_leaf zero text found e
term_is (suc levels) text found e =
    when_is (behind 40 (behind_word text)) _ _ found (FoundIs (suc levels) text found) e
    (λ inner q g.
    let whole : word_in text ++ (40 ∷ inner) ≡ text = ap (λ r. word_in text ++ r) (sym (behind_is 40 (behind_word text) inner q)) ∙ split text in
    subst (λ t. FoundIs (suc levels) t found) whole (called_is levels (term_at levels) (term_is levels) (word_in text) inner found g))
    (λ q g. whole_leaf (suc levels) text found g)

nil_of : (xs : List ℕ) → (length xs == 0) ≡ true → xs ≡ []
nil_of [] e = refl
nil_of (x ∷ xs) e = absurd (omega (arith, eqb-true (length (x ∷ xs)) 0 e))

pub whole_is : (text : List ℕ) (term : TermModel) → whole_term text ≡ Some term → SaysTerm text term
unfolding whole_term
whole_is text term e =
    let b = bind_ok (term_at max_levels text) only_found term e in
    let p = cond_some (length b.value.1 == 0) b.value.0 term b.then in
    let f = term_is max_levels text b.value b.first in
    let whole : text ≡ term_text b.value.0 = f.text_is ∙ ap (λ r. term_text b.value.0 ++ r) (nil_of b.value.1 p.0) ∙ append-nil (term_text b.value.0) in
    subst (SaysTerm text) p.1 (record { text_is = whole; fits = f.fits })

-- ---- what stands there is read

name_again : (n rest : List ℕ) → is_name n ≡ true → leaf_at n rest ≡ Some (name n, rest)
unfolding leaf_at
name_again n rest h = rw h refl

bare_again : (v : ℕ) (rest : List ℕ) → v < 2 ^ 64 → Ends rest → leaf_at (decimal v) rest ≡ Some (number v, rest)
unfolding leaf_at bare_at
bare_again v rest h ends =
    rw (decimal_is_no_name v h)
    (when_other (behind 35 rest) (constant_at (decimal v)) (bare_at (decimal v) rest) (Some (number v, rest)) (not_wide rest ends)
    (bind_again (number_of (decimal v)) _ v (Some (number v, rest)) (number_again v h) refl))

constant_again : (v w : ℕ) (rest : List ℕ) → v < 2 ^ 64 → w < 2 ^ 64 → Ends rest → leaf_at (decimal v) (35 ∷ (decimal w ++ rest)) ≡ Some (constant v w, rest)
unfolding leaf_at constant_at
constant_again v w rest h k ends =
    let after = decimal w ++ rest in
    let width : word_in after ≡ decimal w = word_again (decimal w) rest (decimal_bytes w k) (ends_break rest ends) in
    let behind_it : behind_word after ≡ rest = rest_again (decimal w) rest (decimal_bytes w k) (ends_break rest ends) in
    rw (decimal_is_no_name v h)
    (when_again (behind 35 (35 ∷ after)) (constant_at (decimal v)) (bare_at (decimal v) (35 ∷ after)) after (Some (constant v w, rest)) (behind_again 35 after)
    (bind_again (number_of (decimal v)) _ v (Some (constant v w, rest)) (number_again v h)
    (bind_again (number_of (word_in after)) _ w (Some (constant v w, rest)) (ap number_of width ∙ number_again w k) (ap (λ r. Some (constant v w, r)) behind_it))))

-- a word, and what stands behind it, where that opens no parenthesis
leaf_again : (levels : ℕ) (word rest : List ℕ) (y : Found) (text : List ℕ) → text ≡ word ++ rest → word_in (word ++ rest) ≡ word → behind_word (word ++ rest) ≡ rest → behind 40 rest ≡ None →
    leaf_at word rest ≡ Some y → term_at levels text ≡ Some y
unfolding term_at
leaf_again zero word rest y text t w b n e = rw (t, b, w) e
leaf_again (suc levels) word rest y text t w b n e = rw (t, b, w) (when_other (behind 40 rest) (called (term_at levels) word) (leaf_at word rest) (Some y) n e)

-- a word whose terms stand in parentheses
inner_again : (levels : ℕ) (word inner : List ℕ) (y : Found) (text : List ℕ) → text ≡ word ++ (40 ∷ inner) → is_name word ≡ true → called (term_at levels) word inner ≡ Some y → term_at (suc levels) text ≡ Some y
unfolding term_at
inner_again levels word inner y text t named e =
    let w : word_in (word ++ (40 ∷ inner)) ≡ word = word_again word (40 ∷ inner) (name_bytes word named) refl in
    let b : behind_word (word ++ (40 ∷ inner)) ≡ 40 ∷ inner = rest_again word (40 ∷ inner) (name_bytes word named) refl in
    rw (t, b, w) (when_again (behind 40 (40 ∷ inner)) (called (term_at levels) word) (leaf_at word (40 ∷ inner)) inner (Some y) (behind_again 40 inner) e)

next_again : (term : List ℕ → Option Found) (text : List ℕ) (y : Found) → term text ≡ Some y → next_operand term (44 ∷ text) ≡ Some y
unfolding next_operand
next_again term text y e = bind_again (behind 44 (44 ∷ text)) term text (Some y) (behind_again 44 text) e

last_again : (term : List ℕ → Option Found) (text : List ℕ) (c : TermModel) (rest : List ℕ) → term text ≡ Some (c, 41 ∷ rest) → last_operand term (44 ∷ text) ≡ Some (c, rest)
unfolding last_operand
last_again term text c rest e =
    bind_again (next_operand term (44 ∷ text)) _ (c, 41 ∷ rest) (Some (c, rest)) (next_again term text (c, 41 ∷ rest) e)
    (bind_again (behind 41 (41 ∷ rest)) (λ end. Some (c, end)) rest (Some (c, rest)) (behind_again 41 rest) refl)

-- what stands behind the first term of a word, and behind the second
abbrev third_on : (List ℕ → Option Found) → List ℕ → TermModel → TermModel → List ℕ → Option Found
third_on term word a b text = last_operand term text >>= λ c. Some (three word a b c.0, c.1)

abbrev second_on : (List ℕ → Option Found) → List ℕ → TermModel → List ℕ → Option Found
second_on term word a text = next_operand term text >>= λ b. when (behind 41 b.1) (λ end. Some (two word a b.0, end)) (third_on term word a b.0 b.1)

called_one : (term : List ℕ → Option Found) (word text : List ℕ) (a : TermModel) (rest : List ℕ) → is_name word ≡ true → term text ≡ Some (a, 41 ∷ rest) → called term word text ≡ Some (one word a, rest)
unfolding called
called_one term word text a rest named e =
    rw named
    (bind_again (term text) _ (a, 41 ∷ rest) (Some (one word a, rest)) e
    (when_again (behind 41 (41 ∷ rest)) (λ end. Some (one word a, end)) (second_on term word a (41 ∷ rest)) rest (Some (one word a, rest)) (behind_again 41 rest) refl))

called_two : (term : List ℕ → Option Found) (word text second : List ℕ) (a b : TermModel) (rest : List ℕ) → is_name word ≡ true → term text ≡ Some (a, 44 ∷ second) → term second ≡ Some (b, 41 ∷ rest) →
    called term word text ≡ Some (two word a b, rest)
unfolding called
called_two term word text second a b rest named e f =
    rw named
    (bind_again (term text) _ (a, 44 ∷ second) (Some (two word a b, rest)) e
    (when_other (behind 41 (44 ∷ second)) (λ end. Some (one word a, end)) (second_on term word a (44 ∷ second)) (Some (two word a b, rest)) refl
    (bind_again (next_operand term (44 ∷ second)) (λ d. when (behind 41 d.1) (λ end. Some (two word a d.0, end)) (third_on term word a d.0 d.1)) (b, 41 ∷ rest) (Some (two word a b, rest)) (next_again term second (b, 41 ∷ rest) f)
    (when_again (behind 41 (41 ∷ rest)) (λ end. Some (two word a b, end)) (third_on term word a b (41 ∷ rest)) rest (Some (two word a b, rest)) (behind_again 41 rest) refl))))

called_three : (term : List ℕ → Option Found) (word text second third : List ℕ) (a b c : TermModel) (rest : List ℕ) → is_name word ≡ true → term text ≡ Some (a, 44 ∷ second) → term second ≡ Some (b, 44 ∷ third) →
    term third ≡ Some (c, 41 ∷ rest) → called term word text ≡ Some (three word a b c, rest)
unfolding called
called_three term word text second third a b c rest named e f g =
    rw named
    (bind_again (term text) _ (a, 44 ∷ second) (Some (three word a b c, rest)) e
    (when_other (behind 41 (44 ∷ second)) (λ end. Some (one word a, end)) (second_on term word a (44 ∷ second)) (Some (three word a b c, rest)) refl
    (bind_again (next_operand term (44 ∷ second)) (λ d. when (behind 41 d.1) (λ end. Some (two word a d.0, end)) (third_on term word a d.0 d.1)) (b, 44 ∷ third) (Some (three word a b c, rest)) (next_again term second (b, 44 ∷ third) f)
    (when_other (behind 41 (44 ∷ third)) (λ end. Some (two word a b, end)) (third_on term word a b (44 ∷ third)) (Some (three word a b c, rest)) refl
    (bind_again (last_operand term (44 ∷ third)) (λ d. Some (three word a b d.0, d.1)) (c, rest) (Some (three word a b c, rest)) (last_again term third c rest g) refl)))))

pub term_again : (levels : ℕ) (term : TermModel) (rest : List ℕ) → TermFits levels term → Ends rest → term_at levels (term_text term ++ rest) ≡ Some (term, rest)
term_again levels (name n) rest h ends =
    leaf_again levels n rest (name n, rest) (n ++ rest) refl (word_again n rest (name_bytes n h) (ends_break rest ends)) (rest_again n rest (name_bytes n h) (ends_break rest ends)) (not_opened rest ends) (name_again n rest h)
term_again levels (number v) rest h ends =
    leaf_again levels (decimal v) rest (number v, rest) (decimal v ++ rest) refl (word_again (decimal v) rest (decimal_bytes v h) (ends_break rest ends)) (rest_again (decimal v) rest (decimal_bytes v h) (ends_break rest ends)) (not_opened rest ends)
    (bare_again v rest h ends)
term_again levels (constant v w) rest h ends =
    let after = 35 ∷ (decimal w ++ rest) in
    leaf_again levels (decimal v) after (constant v w, rest) _ (constant_text (decimal v) (decimal w) rest) (word_again (decimal v) after (decimal_bytes v h.0) refl) (rest_again (decimal v) after (decimal_bytes v h.0) refl) refl
    (constant_again v w rest h.0 h.1 ends)
term_again zero (one n a) rest h ends = absurd h
term_again (suc levels) (one n a) rest h ends =
    inner_again levels n (term_text a ++ (41 ∷ rest)) (one n a, rest) _ (one_text n (term_text a) rest) h.0
    (called_one (term_at levels) n (term_text a ++ (41 ∷ rest)) a rest h.0 (term_again levels a (41 ∷ rest) h.1 (refl, refl, refl)))
term_again zero (two n a b) rest h ends = absurd h
term_again (suc levels) (two n a b) rest h ends =
    let second = term_text b ++ (41 ∷ rest) in
    inner_again levels n (term_text a ++ (44 ∷ second)) (two n a b, rest) _ (two_text n (term_text a) (term_text b) rest) h.0
    (called_two (term_at levels) n (term_text a ++ (44 ∷ second)) second a b rest h.0 (term_again levels a (44 ∷ second) h.1 (refl, refl, refl)) (term_again levels b (41 ∷ rest) h.2 (refl, refl, refl)))
term_again zero (three n a b c) rest h ends = absurd h
term_again (suc levels) (three n a b c) rest h ends =
    let third = term_text c ++ (41 ∷ rest) in
    let second = term_text b ++ (44 ∷ third) in
    inner_again levels n (term_text a ++ (44 ∷ second)) (three n a b c, rest) _ (three_text n (term_text a) (term_text b) (term_text c) rest) h.0
    (called_three (term_at levels) n (term_text a ++ (44 ∷ second)) second third a b c rest h.0 (term_again levels a (44 ∷ second) h.1 (refl, refl, refl)) (term_again levels b (44 ∷ third) h.2 (refl, refl, refl))
    (term_again levels c (41 ∷ rest) h.3 (refl, refl, refl)))

pub whole_again : (text : List ℕ) (term : TermModel) → SaysTerm text term → whole_term text ≡ Some term
unfolding whole_term
whole_again text term s =
    let e : term_at max_levels text ≡ Some (term, []) = ap (term_at max_levels) (s.text_is ∙ sym (append-nil (term_text term))) ∙ term_again max_levels term [] s.fits tt in
    bind_again (term_at max_levels text) only_found (term, []) (Some term) e refl

-- ---- what a term's text has not

no_digit : (mark : ℕ) → is_name_byte mark ≡ false → is_digit mark ≡ false
no_digit mark e = step (is_letter mark) (is_digit mark) e
  where
    step : (a b : Bool) → (a || b) ≡ false → b ≡ false
    step true b e = absurd cc
    step false b e = e

number_avoids : (mark v : ℕ) → is_name_byte mark ≡ false → v < 2 ^ 64 → Avoids mark (decimal v)
number_avoids mark v out h = avoids-decimal mark v (no_digit mark out) h

-- a byte that no name, number or sign of a term is
pub term_avoids : (mark levels : ℕ) (term : TermModel) → TermFits levels term → is_name_byte mark ≡ false → (40 == mark) ≡ false → (41 == mark) ≡ false → (44 == mark) ≡ false → (35 == mark) ≡ false → Avoids mark (term_text term)
term_avoids mark levels (name n) h out o c m w = avoids-name mark n out h
term_avoids mark levels (number v) h out o c m w = number_avoids mark v out h
term_avoids mark levels (constant v k) h out o c m w =
    avoids-append mark (decimal v) _ (number_avoids mark v out h.0) (w, avoids-append mark (decimal k) [] (number_avoids mark k out h.1) tt)
term_avoids mark zero (one n a) h out o c m w = absurd h
term_avoids mark (suc levels) (one n a) h out o c m w =
    avoids-append mark n _ (avoids-name mark n out h.0) (o, avoids-append mark (term_text a) _ (term_avoids mark levels a h.1 out o c m w) (c, tt))
term_avoids mark zero (two n a b) h out o c m w = absurd h
term_avoids mark (suc levels) (two n a b) h out o c m w =
    avoids-append mark n _ (avoids-name mark n out h.0) (
      o,
      avoids-append mark (term_text a) _ (term_avoids mark levels a h.1 out o c m w)
          (m, avoids-append mark (term_text b) _ (term_avoids mark levels b h.2 out o c m w) (c, tt)),
    )
term_avoids mark zero (three n a b d) h out o c m w = absurd h
term_avoids mark (suc levels) (three n a b d) h out o c m w =
    avoids-append mark n _ (avoids-name mark n out h.0) (
      o,
      avoids-append mark (term_text a) _ (term_avoids mark levels a h.1 out o c m w)
          (m, avoids-append mark (term_text b) _ (term_avoids mark levels b h.2 out o c m w) (m, avoids-append mark (term_text d) _ (term_avoids mark levels d h.3 out o c m w) (c, tt))),
    )
