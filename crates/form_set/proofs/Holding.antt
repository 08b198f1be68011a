-- Sets of words by what holds of their words, and as a book grows.
use Rattle.std.proofs.Common.{◌≡◌, ◌↔◌, ◌≢◌, ℕ, ◌^◌, ◌<◌, ◌≤◌, ◌==◌, ◌&&◌, Bool, true, false, true≢false, List, [], Option, Some, length, refl, sym, ap, subst, ◌∙◌, arith, inl, inr}
use Rattle.std.specs.Prelude.{◌⊎◌}
use Rattle.std.specs.Int.{bit_at}
use Rattle.std.proofs.lemmas.Bool.{eqb-true, eq-eqb}
use Rattle.std.proofs.lemmas.Nat.Bits.{bit_at_or, bit_at-zero, bit_at-pow_same, bit_at-pow_other, bit_at-lt}
use Rattle.rec_bits.proofs.Lists.{slice_get_past}
use Rattle.bit_bdd.specs.Diagrams.{Diagrams, Extends, has_word}
use Rattle.bit_bdd.proofs.CallerLemmas.{same_words}
use Rattle.net_model.specs.declared.hardware.Netlist.{Netlist}
use Rattle.net_model.specs.declared.hardware.Storage.{Storage}
use Rattle.net_model.specs.declared.hardware.Space.TheVariants.{File as InFile}
use Rattle.net_model.specs.Nets.{memory_id, place_in}
use Rattle.net_model.specs.Patterns.{IsWordOf, Pattern}
use Rattle.net_model.specs.Exprs.{keep}
use Rattle.net_model.specs.Transfers.{Keeps, StepsOn, transfer_at, transfer_of}
use Rattle.form_set.specs.Inner.Holds.{KeepsMemory, StepsTo}
use Rattle.transfer_set.specs.Sets.{IsKeepSet, IsStepSet}
use Rattle.sym_expr.specs.declared.pool.Node.{Node}
use Rattle.form_set.specs.declared.pattern_ids.PatternIds.{PatternIds}
use Rattle.form_set.specs.Inner.PatternIds.{InSet, ArePatternIds, ids_pattern}
use Rattle.form_set.specs.Words.{ForEachSetting, IsSetOf, WordKeepsMemory, KeepsOthers, with, WordKeepsBoth}

-- ---- sets

both_are : (a b : Bool) {P Q : Type 0} → (a ≡ true) ↔ P → (b ≡ true) ↔ Q → ((a && b) ≡ true) ↔ (P × Q)
both_are true b p q = ((λ e. (p.0 refl, q.0 e)), λ h. q.1 h.1)
both_are false b p q = ((λ e. absurd (true≢false (sym e))), λ h. absurd (true≢false (sym (p.1 h.0))))

pub set_later : (old new : Diagrams) (P : ℕ → Type 0) (set : ℕ) → Extends old new → IsSetOf old P set → IsSetOf new P set
set_later old new P set e h = record {
  within = omega (arith, h.within, e.longer);
  words = λ word lt. subst (λ b. (b ≡ true) ↔ P word) (sym (same_words old new e set h.within word)) (h.words word (subst (λ b. word < 2 ^ b) e.bits lt));
}

-- the words of two sets
pub and_set : (old new : Diagrams) (P Q R : ℕ → Type 0) (a b set : ℕ) → Extends old new → IsSetOf old P a → IsSetOf old Q b → set < length new.nodes
    → ((word : ℕ) → has_word new set word ≡ (has_word old a word && has_word old b word)) → ((word : ℕ) → (P word × Q word) ↔ R word) → IsSetOf new R set
and_set old new P Q R a b set e p q within words same = record {
  within = within;
  words = λ word lt. (let less : word < 2 ^ old.bits = subst (λ k. word < 2 ^ k) e.bits lt in
      let h = both_are (has_word old a word) (has_word old b word) (p.words word less) (q.words word less) in
      ((λ t. (same word).0 (h.0 (sym (words word) ∙ t))), λ r. words word ∙ h.1 ((same word).1 r)));
}

pub keep_is : (netlist : Netlist) (book : Diagrams) (storage set : ℕ) → IsKeepSet netlist book storage set → IsSetOf book (Keeps netlist storage) set
keep_is netlist book storage set h = record { within = h.within; words = h.words }

pub step_is : (netlist : Netlist) (book : Diagrams) (set : ℕ) → IsStepSet netlist book set → IsSetOf book (StepsOn netlist) set
step_is netlist book set h = record { within = h.within; words = h.words }

-- for every setting there is a word of the set, or one of which P holds
pub each_is : (book : Diagrams) (P : ℕ → Type 0) (set fields : ℕ) → IsSetOf book P set → ((word : ℕ) → P word → word < 2 ^ book.bits)
    → ForEachSetting fields (InSet book set) ↔ ForEachSetting fields P
each_is book P set fields h small = (
  (λ each setting is. let w = each setting is in (w.0, w.1, (h.words w.0 w.2.fits).0 w.2.holds)),
  λ each setting is. let w = each setting is in (w.0, w.1, record { fits = small w.0 w.2; holds = (h.words w.0 (small w.0 w.2)).1 w.2 }),
)

-- ---- what the words do

-- those that step, where the memory is the pattern's own storage, and where it isn't
pub own_memory : (netlist : Netlist) (p : Pattern) → p.storage ≡ memory_id netlist.storages → (word : ℕ) → StepsTo netlist p word ↔ KeepsMemory netlist p word
own_memory netlist p e word = ((λ h. (h, λ n. absurd (n e))), λ k. k.0)

pub other_memory : (netlist : Netlist) (p : Pattern) → p.storage ≢ memory_id netlist.storages → (word : ℕ)
    → (StepsTo netlist p word × Keeps netlist (memory_id netlist.storages) word) ↔ KeepsMemory netlist p word
other_memory netlist p n word = ((λ h. (h.0, λ m. h.1.keeps)), λ k. (k.0, record { clean = k.0.0.clean; keeps = k.1 n }))

-- the same of the file; where there is none, every word keeps it
pub own_file : (netlist : Netlist) (p : Pattern) → p.storage ≡ place_in InFile netlist.storages → (word : ℕ) → KeepsMemory netlist p word ↔ KeepsOthers netlist p 0 word
own_file netlist p e word = (
  (λ h. record { given = h.0.0; steps = h.0.1.steps; memory = h.1; file = λ n. absurd (n e); registers = λ r b. absurd (let z = bit_at-zero r in omega (arith, z, b)) }),
  λ k. ((k.given, record { clean = k.given.clean; steps = k.steps }), k.memory),
)

pub other_file : (netlist : Netlist) (p : Pattern) → p.storage ≢ place_in InFile netlist.storages → (word : ℕ)
    → (KeepsMemory netlist p word × Keeps netlist (place_in InFile netlist.storages) word) ↔ KeepsOthers netlist p 0 word
other_file netlist p n word = (
  (λ h. record { given = h.0.0.0; steps = h.0.0.1.steps; memory = h.0.1; file = λ m. h.1.keeps; registers = λ r b. absurd (let z = bit_at-zero r in omega (arith, z, b)) }),
  λ k. (((k.given, record { clean = k.given.clean; steps = k.steps }), k.memory), record { clean = k.given.clean; keeps = k.file n }),
)

pub no_file : (netlist : Netlist) (p : Pattern) → length netlist.storages ≤ place_in InFile netlist.storages → (word : ℕ) → KeepsMemory netlist p word ↔ KeepsOthers netlist p 0 word
no_file netlist p ge word = (
  (λ h. record {
    given = h.0.0;
    steps = h.0.1.steps;
    memory = h.1;
    file = λ n. ap (λ (o : Option Storage). transfer_of netlist word (place_in InFile netlist.storages) o) (slice_get_past netlist.storages (place_in InFile netlist.storages) ge);
    registers = λ r b. absurd (let z = bit_at-zero r in omega (arith, z, b));
  }),
  λ k. ((k.given, record { clean = k.given.clean; steps = k.steps }), k.memory),
)

pub memory_kept : (netlist : Netlist) (p : Pattern) (word : ℕ) → (IsWordOf netlist p word × Keeps netlist (memory_id netlist.storages) word) ↔ WordKeepsMemory netlist p word
memory_kept netlist p word =
    ((λ h. record { given = h.0; memory = h.1.keeps }), λ k. (k.given, record { clean = k.given.clean; keeps = k.memory }))

-- and those that keep the mode
pub mode_kept : (netlist : Netlist) (p : Pattern) (mode word : ℕ) → (WordKeepsMemory netlist p word × Keeps netlist mode word) ↔ WordKeepsBoth netlist p mode word
mode_kept netlist p mode word = (
  (λ h. record { given = h.0.given; memory = h.0.memory; special = h.1.keeps }),
  λ k. (record { given = k.given; memory = k.memory }, record { clean = k.given.clean; keeps = k.special }),
)

-- ---- one register more

pub with_old : (set r q : ℕ) → bit_at set q ≡ 1 → bit_at (with set r) q ≡ 1
with_old set r q e = (let o = bit_at_or set (2 ^ r) q in let lt = bit_at-lt (2 ^ r) q in omega (arith, o, e, lt))

pub with_new : (set r : ℕ) → bit_at (with set r) r ≡ 1
with_new set r = (let o = bit_at_or set (2 ^ r) r in let s = bit_at-pow_same r in let lt = bit_at-lt set r in omega (arith, o, s, lt))

with_cases : (set r q : ℕ) → bit_at (with set r) q ≡ 1 → (bit_at set q ≡ 1) ⊎ (q ≡ r)
with_cases set r q e = by (q == r) refl
  where
    by : (b : Bool) → (q == r) ≡ b → (bit_at set q ≡ 1) ⊎ (q ≡ r)
    by true t = inr (eqb-true q r t)
    by false t = inl (let o = bit_at_or set (2 ^ r) q in let z = bit_at-pow_other r q (λ x. true≢false (sym (eq-eqb q r x) ∙ t)) in omega (arith, o, z, e))

pub one_more : (netlist : Netlist) (p : Pattern) (kept r word : ℕ) → (KeepsOthers netlist p kept word × Keeps netlist r word) ↔ KeepsOthers netlist p (with kept r) word
one_more netlist p kept r word = (
  (λ h. record { given = h.0.given; steps = h.0.steps; memory = h.0.memory; file = h.0.file; registers = λ q b. by h.0 h.1 q (with_cases kept r q b) }),
  λ k. (
    record { given = k.given; steps = k.steps; memory = k.memory; file = k.file; registers = λ q b. k.registers q (with_old kept r q b) },
    record { clean = k.given.clean; keeps = k.registers r (with_new kept r) },
  ),
)
  where
    by : KeepsOthers netlist p kept word → Keeps netlist r word → (q : ℕ) → (bit_at kept q ≡ 1) ⊎ (q ≡ r) → transfer_at netlist word q ≡ keep
    by h k q (inl b) = h.registers q b
    by h k q (inr e) = ap (transfer_at netlist word) e ∙ k.keeps

-- ---- as a book grows

pub ids_later : (netlist : Netlist) (old new : Diagrams) (pool : List Node) (ids : PatternIds) → Extends old new → ArePatternIds netlist old pool ids → ArePatternIds netlist new pool ids
ids_later netlist old new pool ids e h = record {
  storage = h.storage;
  addr = h.addr;
  value = h.value;
  set = set_later old new (IsWordOf netlist (ids_pattern pool ids)) ids.set e h.set;
  fields = h.fields;
  fits = subst (λ b. ids.fields < 2 ^ b) (sym e.bits) h.fits;
  exprs = h.exprs;
  narrow = h.narrow;
  few = subst (λ b. b ≤ 64) (sym e.bits) h.few;
  clean = λ word c. subst (λ b. word < 2 ^ b) (sym e.bits) (h.clean word c);
  memory = h.memory;
  storages = h.storages;
}
