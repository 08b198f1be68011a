-- When the words that can be brought into a set by other bits are all words.
use Rattle.std.proofs.Common.{◌≡◌, ◌↔◌, ℕ, ◌-◌, ◌^◌, ◌<◌, ◌≤◌, ◌==◌, true, length, sym, ap, subst, ◌∙◌, arith}
use Rattle.std.specs.Prelude.{bit_and, bit_xor}
use Rattle.std.proofs.lemmas.Bool.{eqb-true, eq-eqb}
use Rattle.std.proofs.lemmas.Nat.{and_le_r}
use Rattle.rec_bits.proofs.Bits.{below_64}
use Rattle.bit_bdd.specs.Diagrams.{Diagrams, CanReach, IsCanonical, has_word}
use Rattle.form_set.specs.Inner.PatternIds.{InSet}
use Rattle.form_set.specs.Words.{ForEachSetting}
use Rattle.form_set.proofs.Bits.{differ_same, same_differ, setting_of}

-- the words that can be brought into a set by bits outside of the fields
pub record IsReached (old new : Diagrams) (set fields reached : ℕ) : Type 0 where
  pub within : reached < length new.nodes
  pub words : (word : ℕ) → word < 2 ^ old.bits → (has_word new reached word ≡ true) ↔ CanReach old set (bit_xor (2 ^ 64 - 1) fields) word

-- each setting is that of some word
reached_each : (old new : Diagrams) (set fields reached : ℕ) → IsReached old new set fields reached → old.bits ≤ 64 → fields < 2 ^ old.bits
    → ((word : ℕ) → word < 2 ^ old.bits → has_word new reached word ≡ true) → ForEachSetting fields (InSet old set)
reached_each old new set fields reached r few lt all setting is =
    let small : setting < 2 ^ old.bits = subst (λ n. n < 2 ^ old.bits) is (omega (arith, and_le_r setting fields, lt)) in
    let far = (r.words setting small).0 (all setting small) in
    (far.0, differ_same fields far.0 setting (below_64 fields old.bits few lt) far.2 ∙ is, record { fits = far.1; holds = far.3 })

each_reached : (old new : Diagrams) (set fields reached : ℕ) → IsReached old new set fields reached → old.bits ≤ 64 → fields < 2 ^ old.bits
    → ForEachSetting fields (InSet old set) → (word : ℕ) → word < 2 ^ old.bits → has_word new reached word ≡ true
each_reached old new set fields reached r few lt each word less =
    let near = each (bit_and word fields) (setting_of word fields) in
    (r.words word less).1
    (near.0, near.2.fits, same_differ fields near.0 word (below_64 fields old.bits few lt) (below_64 near.0 old.bits few near.2.fits) (below_64 word old.bits few less) near.1, near.2.holds)

-- the id of all words tells it
pub all_reached : (old new : Diagrams) (set fields reached : ℕ) → IsReached old new set fields reached → old.bits ≤ 64 → fields < 2 ^ old.bits
    → new.bits ≡ old.bits → IsCanonical new → 2 ≤ length new.nodes → ((word : ℕ) → has_word new 1 word ≡ true)
    → ((reached == 1) ≡ true) ↔ ForEachSetting fields (InSet old set)
all_reached old new set fields reached r few lt bits one_each some full = (
  (λ e. reached_each old new set fields reached r few lt (λ word less. ap (λ i. has_word new i word) (eqb-true reached 1 e) ∙ full word)),
  λ each. eq-eqb reached 1 ((one_each reached 1 r.within (omega (arith, some))).0
      (λ word less. each_reached old new set fields reached r few lt each word (subst (λ b. word < 2 ^ b) bits less) ∙ sym (full word))),
)
