-- Sets of words that are narrowed, one set or one bit after the other.
use Rattle.std.proofs.Common.{◌≡◌, ℕ, zero, suc, ◌+◌, ◌/◌, ◌<◌, ◌≤◌, ◌^◌, ◌==◌, ◌&&◌, inl, inr, Bool, true, false, min, List, [], ◌∷◌, ◌++◌, length, take, bit_and, if◌then◌else◌, add-one, refl, sym, ◌∙◌, ap, arith, subst}
use Rattle.std.specs.List.{slice_index_or, slice_get}
use Rattle.std.proofs.Math.Bool.{and_assoc}
use Rattle.std.proofs.lemmas.List.{append_assoc}
use Rattle.std.specs.Int.{bit_at}
use Rattle.std.proofs.lemmas.Bool.{eqb-true, eq-eqb, ne_eqb, and_parts, and_from, cases_lt}
use Rattle.std.proofs.lemmas.Nat.Bits.{bit_at_and, bit_at-lt, same_from_bits, bit_at_above, shr_and_one}
use Rattle.rec_bits.proofs.Booleans.{and-false, same_truth}
use Rattle.bit_bdd.specs.Diagrams.{Diagrams, has_word}
use Rattle.transfer_set.specs.Tables.{PatternTable}
use Rattle.form_model.specs.Live.{Regs}
use Rattle.nop_synth.specs.declared.meet.FieldValue.{FieldValue}
use Rattle.nop_synth.specs.Wanted.{is_wanted, option_list, register_sets, all_hold, AllBelow, has_field, has_fields, bit_agrees, bits_agree}

pub and_step : (n l h a t k u : Bool) → n ≡ (l && h) → l ≡ (a && t) → h ≡ k → u ≡ (t && k) → n ≡ (a && u)
and_step n l h a t k u en el eh eu = en ∙ (λ j. el j && eh j) ∙ and_assoc a t k ∙ ap (λ z. a && z) (sym eu)

pub and_true : (a : Bool) → a ≡ (a && true)
and_true true = refl
and_true false = refl

-- ---- sets

pub below_at : (book : Diagrams) (sets : List ℕ) (i : ℕ) → i < length sets → AllBelow book sets → slice_index_or sets i 0 < length book.nodes
below_at book [] i lt h = absurd (omega arith)
below_at book (set ∷ sets) zero lt h = h.0
below_at book (set ∷ sets) (suc i) lt h = below_at book sets i (omega arith) h.1

pub hold_more : (book : Diagrams) (sets : List ℕ) (i word : ℕ) → i < length sets → all_hold book (take (i + 1) sets) word ≡ (all_hold book (take i sets) word && has_word book (slice_index_or sets i 0) word)
hold_more book sets i word lt = rw (add-one i) (by sets i lt)
  where
    by : (sets : List ℕ) (i : ℕ) → i < length sets → all_hold book (take (suc i) sets) word ≡ (all_hold book (take i sets) word && has_word book (slice_index_or sets i 0) word)
    by [] i lt = absurd (omega arith)
    by (set ∷ sets) zero lt = sym (and_true (has_word book set word))
    by (set ∷ sets) (suc i) lt = ap (λ b. has_word book set word && b) (by sets i (omega arith)) ∙ sym (and_assoc (has_word book set word) _ _)

pub fields_more : (fields : List FieldValue) (i word : ℕ) (d : FieldValue) → i < length fields → has_fields (take (i + 1) fields) word ≡ (has_fields (take i fields) word && has_field (slice_index_or fields i d).mask (slice_index_or fields i d).value word)
fields_more fields i word d lt = rw (add-one i) (by fields i lt)
  where
    by : (fields : List FieldValue) (i : ℕ) → i < length fields → has_fields (take (suc i) fields) word ≡ (has_fields (take i fields) word && has_field (slice_index_or fields i d).mask (slice_index_or fields i d).value word)
    by [] i lt = absurd (omega arith)
    by (field ∷ fields) zero lt = sym (and_true (has_field field.mask field.value word))
    by (field ∷ fields) (suc i) lt = ap (λ b. has_field field.mask field.value word && b) (by fields i (omega arith)) ∙ sym (and_assoc (has_field field.mask field.value word) _ _)

-- ---- bits

pub bits_none : (mask value word : ℕ) → bits_agree mask value word 0 ≡ true
unfolding bits_agree
bits_none mask value word = refl

pub bits_more : (mask value word bit : ℕ) → bits_agree mask value word (bit + 1) ≡ (bits_agree mask value word bit && bit_agrees mask value word bit)
unfolding bits_agree
bits_more mask value word bit = rw (add-one bit) refl

bits_at : (mask value word n bit : ℕ) → bits_agree mask value word n ≡ true → bit < n → min (bit_at word bit) (bit_at mask bit) ≡ bit_at value bit
unfolding bits_agree
bits_at mask value word zero bit h lt = absurd (omega arith)
bits_at mask value word (suc n) bit h lt =
    let p : (bits_agree mask value word n ≡ true) × (bit_agrees mask value word n ≡ true) = and_parts _ _ h in
    elim (cases_lt bit n) as (λ _. min (bit_at word bit) (bit_at mask bit) ≡ bit_at value bit) [
      | inl u ↦ bits_at mask value word n bit p.0 u
      | inr u ↦ (let e : n ≡ bit = omega arith in subst (λ k. min (bit_at word k) (bit_at mask k) ≡ bit_at value k) e (eqb-true _ _ p.1))
    ]

bits_from : (mask value word n : ℕ) → bit_and word mask ≡ value → bits_agree mask value word n ≡ true
unfolding bits_agree
bits_from mask value word zero e = refl
bits_from mask value word (suc n) e =
    and_from _ _ (bits_from mask value word n e) (eq-eqb _ _ (sym (bit_at_and word mask n) ∙ ap (λ k. bit_at k n) e))

field_from : (mask value word : ℕ) → mask < 2 ^ 64 → value < 2 ^ 64 → bits_agree mask value word 64 ≡ true → bit_and word mask ≡ value
field_from mask value word m v h = same_from_bits (bit_and word mask) value at
  where
    at : (k : ℕ) → bit_at (bit_and word mask) k ≡ bit_at value k
    at k =
        elim (cases_lt k 64) as (λ _. bit_at (bit_and word mask) k ≡ bit_at value k) [
          | inl u ↦ bit_at_and word mask k ∙ bits_at mask value word 64 k h u
          | inr u ↦
              (let a : bit_at mask k ≡ 0 = bit_at_above mask 64 k m u in
              let b : bit_at value k ≡ 0 = bit_at_above value 64 k v u in
              let e : bit_at (bit_and word mask) k ≡ min (bit_at word k) (bit_at mask k) = bit_at_and word mask k in
              omega (arith, bit_at-lt word k))
        ]

-- 64 bits that agree are the value of the field
pub field_is : (mask value word n : ℕ) → n ≡ 64 → mask < 2 ^ 64 → value < 2 ^ 64 → bits_agree mask value word n ≡ has_field mask value word
field_is mask value word n e m v =
    subst (λ k. bits_agree mask value word k ≡ has_field mask value word) (sym e)
    (same_truth (bits_agree mask value word 64) (has_field mask value word)
    (λ h. eq-eqb _ _ (field_from mask value word m v h)) (λ h. bits_from mask value word 64 (eqb-true _ _ h)))

pub agrees_asked : (mask value word bit : ℕ) → bit_at mask bit ≡ 1 → (bit_at word bit == bit_at value bit) ≡ bit_agrees mask value word bit
agrees_asked mask value word bit e =
    ap (λ k. k == bit_at value bit) (omega (arith, bit_at-lt word bit, e))

pub agrees_not : (mask value word bit : ℕ) → min (bit_at word bit) (bit_at mask bit) ≡ 0 → bit_at value bit ≡ 0 → bit_agrees mask value word bit ≡ true
agrees_not mask value word bit e v = eq-eqb _ _ (e ∙ sym v)

pub agrees_never : (mask value word bit : ℕ) → min (bit_at word bit) (bit_at mask bit) ≡ 0 → bit_at value bit ≡ 1 → bit_agrees mask value word bit ≡ false
agrees_never mask value word bit e v = ne_eqb _ _ (λ k. absurd (omega (arith, e, v, k)))

pub above_zero : (word mask width bit : ℕ) → width ≤ bit → word < 2 ^ width → min (bit_at word bit) (bit_at mask bit) ≡ 0
above_zero word mask width bit h lt = (let e : bit_at word bit ≡ 0 = bit_at_above word width bit lt h in omega arith)

-- a bit that isn't 1 is 0
pub bit_zero : (n i : ℕ) → (bit_and (n / 2 ^ i) 1 ≡ 1 → ⊥) → bit_at n i ≡ 0
bit_zero n i h = (let e : bit_and (n / 2 ^ i) 1 ≡ bit_at n i = shr_and_one n i in grind (arith, e, bit_at-lt n i))

pub narrowed_not : (a s : Bool) (mask value word bit : ℕ) → min (bit_at word bit) (bit_at mask bit) ≡ 0 → bit_at value bit ≡ 0 → a ≡ (a && bit_agrees mask value word bit)
narrowed_not a s mask value word bit e v = and_true a ∙ ap (λ b. a && b) (sym (agrees_not mask value word bit e v))

pub narrowed_never : (n a : Bool) (mask value word bit : ℕ) → n ≡ false → min (bit_at word bit) (bit_at mask bit) ≡ 0 → bit_at value bit ≡ 1 → n ≡ (a && bit_agrees mask value word bit)
narrowed_never n a mask value word bit en e v = en ∙ sym (and-false a) ∙ ap (λ b. a && b) (sym (agrees_never mask value word bit e v))

-- ---- registers

pub registers_more : (table : PatternTable) (live written : Regs) (r : ℕ) (sets old new : List ℕ) (kept : Bool) → new ≡ old ++ (if kept then option_list (slice_get table.keeps r) else []) → old ≡ sets ++ register_sets table live written r → kept ≡ is_wanted table live written r → new ≡ sets ++ register_sets table live written (r + 1)
unfolding register_sets
registers_more table live written r sets old new kept en eo ek =
    rw (add-one r)
    (en ∙ ap (λ z. z ++ (if kept then option_list (slice_get table.keeps r) else [])) eo
    ∙ ap (λ b. (sets ++ register_sets table live written r) ++ (if b then option_list (slice_get table.keeps r) else [])) ek
    ∙ append_assoc sets (register_sets table live written r) (if is_wanted table live written r then option_list (slice_get table.keeps r) else []))
