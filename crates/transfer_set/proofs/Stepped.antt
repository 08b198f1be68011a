-- The words of the transfers that step are gathered one transfer after the other.
use Rattle.std.proofs.Common.{◌≡◌, ◌↔◌, ◌⊎◌, inl, inr, true≢false, ℕ, zero, suc, ◌+◌, ◌<◌, ◌==◌, ◌&&◌, ◌||◌, ◌++◌, Bool, true, false, List, [], ◌∷◌, take, Some, slice_get, add-one, refl, sym, ap, subst, ◌∙◌}
use Rattle.std.specs.List.{list_any}
use Rattle.std.proofs.lemmas.Bool.{eqb-true}
use Rattle.rec_bits.proofs.Booleans.{both, or-false, and-false, and-true, or_cases, or_assoc}
use Rattle.rec_bits.specs.declared.operator.Op2.TheVariants.{Add}
use Rattle.rec_bits.proofs.Equality.{number_self}
use Rattle.bit_bdd.specs.Diagrams.{Diagrams, has_word}
use Rattle.net_model.specs.Exprs.{TransferModel, ExprModel, keep, write, write_at, reg, const, bin, next_of, swapped_next_of}
use Rattle.sym_expr.specs.declared.pool.Node.{Node}
use Rattle.transfer_set.specs.declared.entries.Entry.{Entry}
use Rattle.transfer_set.specs.declared.stepping.Counter.{Counter}
use Rattle.transfer_set.specs.Inner.Entries.{AreKnown, entry_transfer, list_if, transfers_under}
use Rattle.transfer_set.specs.Inner.Sources.{changes}
use Rattle.transfer_set.specs.Stepping.{is_next, is_one, is_reg}
use Rattle.transfer_set.specs.Inner.Stepping.{any_step, entry_steps, transfer_steps}

pub value_at : (size : ℕ) (entries : List Entry) (i : ℕ) (entry : Entry) → slice_get entries i ≡ Some entry → AreKnown size entries → entry.value < size
value_at size [] i entry at h = absurd (cc)
value_at size (x ∷ entries) zero entry at h = (let e : x ≡ entry = cc in subst (λ (y : Entry). y.value < size) e h.0.1)
value_at size (x ∷ entries) (suc i) entry at h = value_at size entries i entry at h.1

module _ (book : Diagrams) (pool : List Node) (counter : Counter) (word : ℕ) where
  steps_suc : (entries : List Entry) (i : ℕ) (entry : Entry) → slice_get entries i ≡ Some entry
      → any_step book pool counter (take (suc i) entries) word ≡ (any_step book pool counter (take i entries) word || (entry_steps pool counter entry && has_word book entry.set word))
  steps_suc [] i entry at = absurd (cc)
  steps_suc (x ∷ entries) zero entry at =
      or-false (entry_steps pool counter x && has_word book x.set word)
      ∙ (let e : x ≡ entry = cc in λ j. entry_steps pool counter (e j) && has_word book (e j).set word)
  steps_suc (x ∷ entries) (suc i) entry at =
      ap (λ b. (entry_steps pool counter x && has_word book x.set word) || b) (steps_suc entries i entry at)
      ∙ sym (or_assoc (entry_steps pool counter x && has_word book x.set word) (any_step book pool counter (take i entries) word) (entry_steps pool counter entry && has_word book entry.set word))

  -- one transfer more
  pub steps_more : (entries : List Entry) (i : ℕ) (entry : Entry) → slice_get entries i ≡ Some entry → (so_far now one : Bool)
      → so_far ≡ any_step book pool counter (take i entries) word → one ≡ has_word book entry.set word → now ≡ (so_far || (entry_steps pool counter entry && one))
      → now ≡ any_step book pool counter (take (i + 1) entries) word
  steps_more entries i entry at so_far now one es eo en =
      en ∙ (λ j. es j || (entry_steps pool counter entry && eo j)) ∙ sym (rw (add-one i) (steps_suc entries i entry at))

-- ---- what the gathered words are

any_append : {X : Type 0} (p : X → Bool) (xs ys : List X) → list_any p (xs ++ ys) ≡ (list_any p xs || list_any p ys)
any_append p [] ys = refl
any_append p (x ∷ xs) ys = ap (λ b. p x || b) (any_append p xs ys) ∙ sym (or_assoc (p x) (list_any p xs) (list_any p ys))

-- a transfer that steps has a word where it is one of the register's transfers under the word
pub any_moves : (book : Diagrams) (pool : List Node) (counter : Counter) (word : ℕ) (entries : List Entry)
    → any_step book pool counter entries word ≡ list_any (transfer_steps counter) (transfers_under book pool entries counter.storage word)
any_moves book pool counter word [] = refl
any_moves book pool counter word (x ∷ entries) =
    (λ j. one (transfer_steps counter) (entry_transfer pool x) (x.storage == counter.storage) (has_word book x.set word) j || any_moves book pool counter word entries j)
    ∙ sym (any_append (transfer_steps counter) (list_if ((x.storage == counter.storage) && has_word book x.set word) (entry_transfer pool x ∷ [])) (transfers_under book pool entries counter.storage word))
  where
    one : (p : TransferModel → Bool) (m : TransferModel) (k h : Bool) → ((k && p m) && h) ≡ list_any p (list_if (k && h) (m ∷ []))
    one p m true true = and-true (p m) ∙ sym (or-false (p m))
    one p m true false = and-false (p m)
    one p m false h = refl

module _ (counter : Counter) where
  reg_is : (t : ExprModel) → is_reg counter t ≡ true → t ≡ reg counter.storage counter.width
  reg_is (reg id width) e =
      let b = both (id == counter.storage) (width == counter.width) e in
      (λ j. reg (eqb-true id counter.storage b.0 j) (eqb-true width counter.width b.1 j))
  reg_is _ e = absurd (cc)

  one_is : (t : ExprModel) → is_one counter.width t ≡ true → t ≡ const counter.width 1
  one_is (const width value) e =
      let b = both (width == counter.width) (value == 1) e in
      (λ j. const (eqb-true width counter.width b.0 j) (eqb-true value 1 b.1 j))
  one_is _ e = absurd (cc)

  -- the register plus 1 is written in one of two ways
  next_is : (t : ExprModel) → is_next counter t ≡ true → (t ≡ next_of counter.storage counter.width) ⊎ (t ≡ swapped_next_of counter.storage counter.width)
  next_is (bin Add a b) e = by (or_cases (is_reg counter a && is_one counter.width b) (is_one counter.width a && is_reg counter b) e)
    where
      by : (((is_reg counter a && is_one counter.width b) ≡ true) ⊎ ((is_one counter.width a && is_reg counter b) ≡ true))
          → (bin Add a b ≡ next_of counter.storage counter.width) ⊎ (bin Add a b ≡ swapped_next_of counter.storage counter.width)
      by (inl e) = (let p = both (is_reg counter a) (is_one counter.width b) e in inl (λ j. bin Add (reg_is a p.0 j) (one_is b p.1 j)))
      by (inr e) = (let p = both (is_one counter.width a) (is_reg counter b) e in inr (λ j. bin Add (one_is a p.0 j) (reg_is b p.1 j)))
  next_is _ e = absurd (cc)

  next_says : (t : ExprModel) → (t ≡ next_of counter.storage counter.width) ⊎ (t ≡ swapped_next_of counter.storage counter.width) → is_next counter t ≡ true
  next_says t (inl e) = ap (is_next counter) e ∙ (λ j. ((number_self counter.storage j && number_self counter.width j) && (number_self counter.width j && true)) || false) ∙ refl
  next_says t (inr e) = ap (is_next counter) e ∙ (λ j. (false && false) || ((number_self counter.width j && true) && (number_self counter.storage j && number_self counter.width j))) ∙ refl

  -- a gathered word is one under which the register becomes itself plus 1
  pub steps_when : (m : TransferModel) (l s : Bool) (held : List TransferModel) → held ≡ list_if l (changes m) → s ≡ list_any (transfer_steps counter) held
      → (s ≡ true) ↔ ((l ≡ true) × ((m ≡ write (next_of counter.storage counter.width)) ⊎ (m ≡ write (swapped_next_of counter.storage counter.width))))
  steps_when m true s held is e = (
    λ q. (refl, there m (sym (ap (list_any (transfer_steps counter)) is) ∙ sym e ∙ q)),
    λ q. e ∙ ap (list_any (transfer_steps counter)) is ∙ back m q.1,
  )
    where
      there : (m : TransferModel) → list_any (transfer_steps counter) (changes m) ≡ true → (m ≡ write (next_of counter.storage counter.width)) ⊎ (m ≡ write (swapped_next_of counter.storage counter.width))
      there keep q = absurd (true≢false (sym q))
      there (write t) q = by (next_is t (sym (or-false (is_next counter t)) ∙ q))
        where
          by : (t ≡ next_of counter.storage counter.width) ⊎ (t ≡ swapped_next_of counter.storage counter.width)
              → (write t ≡ write (next_of counter.storage counter.width)) ⊎ (write t ≡ write (swapped_next_of counter.storage counter.width))
          by (inl e) = inl (ap write e)
          by (inr e) = inr (ap write e)
      there (write_at a t) q = absurd (true≢false (sym q))

      back : (m : TransferModel) → (m ≡ write (next_of counter.storage counter.width)) ⊎ (m ≡ write (swapped_next_of counter.storage counter.width)) → list_any (transfer_steps counter) (changes m) ≡ true
      back m (inl q) = ap (λ x. list_any (transfer_steps counter) (changes x)) q ∙ or-false (is_next counter (next_of counter.storage counter.width)) ∙ next_says (next_of counter.storage counter.width) (inl refl)
      back m (inr q) = ap (λ x. list_any (transfer_steps counter) (changes x)) q ∙ or-false (is_next counter (swapped_next_of counter.storage counter.width)) ∙ next_says (swapped_next_of counter.storage counter.width) (inr refl)
  steps_when m false s held is e = (λ q. absurd (true≢false (sym q ∙ e ∙ ap (list_any (transfer_steps counter)) is)), λ q. absurd (true≢false (sym q.0)))
