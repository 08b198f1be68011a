-- Steps of patterns that have words for every setting have words that fit.
use Rattle.std.proofs.Common.{◌≡◌, ◌≢◌, ℕ, ◌&&◌, bit_and, true, false, List, [], ◌∷◌, refl, sym, ◌∙◌, inl, inr, Option, ap, arith, subst, slice_get}
use Rattle.std.specs.Int.{bit_at}
use Rattle.std.proofs.lemmas.Bool.{true≢false, cases_Bool, eqb-false}
use Rattle.std.proofs.lemmas.Nat.Bits.{bit_at-lt}
use Rattle.rec_bits.proofs.Booleans.{left_false}
use Rattle.net_model.specs.declared.hardware.Netlist.{Netlist}
use Rattle.net_model.specs.declared.hardware.Space.{Space}
use Rattle.net_model.specs.Nets.{IsRegister, file_place, place_in}
use Rattle.net_model.specs.Transfers.{memory_transfer, space_transfer}
use Rattle.net_model.proofs.Spaces.{by_space}
use Rattle.net_model.specs.Fields.{transfer_fields}
use Rattle.net_model.specs.Patterns.{IsPattern, IsWordOf, Pattern}
use Rattle.net_model.specs.Exprs.{TransferModel, keep, write, write_at}
use Rattle.net_model.proofs.Storages.{array_no_register, writes_register, storage_within}
use Rattle.form_model.specs.declared.forms.Step.{Step}
use Rattle.form_model.specs.Effects.{same_space, space_in, Operation, is_store, operation_of, operation_or_none, writes}
use Rattle.form_model.specs.Live.{AllSpare, Regs, live_before, regs_of, singles}
use Rattle.form_model.proofs.Spaces.{space_self}
use Rattle.form_set.specs.Promises.{KeepsBut}
use Rattle.word_fit.specs.Fits.{Does, FitsGroup, FitsJump, fits_over, stores_in}
use Rattle.word_fit.proofs.FilePlaces.{own_space}
use Rattle.word_fit.specs.Groups.{AllHaveWords}
use Rattle.compaction.specs.Laws.{operation_in}
use Rattle.compaction.specs.Formed.{AreWorded, IsJumpWorded, IsOfPattern, IsWorded}

-- what a pattern does with a setting
abbrev operation_at : Netlist → Pattern → ℕ → Operation
operation_at netlist p setting =
    record { storage = p.storage; space = space_in (file_place netlist.storages) p.storage; move = p.move; setting = setting }

of_pattern : (netlist : Netlist) (patterns : List Pattern) (x : Step) (o : IsOfPattern netlist patterns x) → operation_at netlist o.pattern x.setting ≡ operation_in netlist patterns x
of_pattern netlist patterns x o = ap (λ (p : Option Pattern). operation_or_none (file_place netlist.storages) p x.setting) (sym o.at)

-- a transfer that is no store is neither the memory's nor the file's
not_array : (netlist : Netlist) (p : Pattern) (space : Space) → IsPattern netlist p → is_store p.move ≡ false → p.storage ≢ place_in space netlist.storages
not_array netlist p space is e = by p.move refl e
  where
    by : (m : TransferModel) → p.move ≡ m → is_store m ≡ false → p.storage ≢ place_in space netlist.storages
    by keep em s = absurd (is.changes em)
    by (write_at a v) em s = absurd (true≢false s)
    by (write v) em s = λ k.
        array_no_register space netlist.storages
        (subst (λ n. IsRegister (slice_get netlist.storages n)) k (writes_register netlist is.word p.storage v (slice_get netlist.storages p.storage) (is.given.gives ∙ em)))

-- a storage whose cells a pattern doesn't write isn't its own
away : (netlist : Netlist) (p : Pattern) (space : Space) → IsPattern netlist p → (setting : ℕ) → stores_in space (operation_at netlist p setting) ≡ false → p.storage ≢ place_in space netlist.storages
away netlist p space is setting e =
    elim (cases_Bool (is_store p.move)) as (λ _. p.storage ≢ place_in space netlist.storages) [
      | inl s ↦ (λ same.
          let own : space_in (file_place netlist.storages) p.storage ≡ space = own_space netlist.storages p.storage space (storage_within netlist p is) same in
          true≢false (sym (space_self space) ∙ ap (λ z. same_space z space) (sym own) ∙ subst (λ b. (b && same_space (space_in (file_place netlist.storages) p.storage) space) ≡ false) s e))
      | inr s ↦ not_array netlist p space is s
    ]

no_bit : (mask r : ℕ) → regs_of mask r ≡ false → bit_at mask r ≡ 0
no_bit mask r e = omega (arith, bit_at-lt mask r, eqb-false (bit_at mask r) 1 e)

-- a live register that isn't written is no clobber
spared : (d : Operation) (c live : Regs) → ((r : ℕ) → c r ≡ true → writes d r ≡ false → live r ≡ false) → (r : ℕ) → live r ≡ true → writes d r ≡ false → c r ≡ false
spared d c live s r e h =
    elim (cases_Bool (c r)) as (λ _. c r ≡ false) [
      | inl u ↦ absurd (true≢false (sym e ∙ s r u h))
      | inr u ↦ u
    ]

module _ (netlist : Netlist) (patterns : List Pattern) where
  does : (x : Step) (o : IsOfPattern netlist patterns x) (w : ℕ) → IsWordOf netlist o.pattern w → bit_and w (transfer_fields o.pattern.move) ≡ x.setting → Does netlist w (operation_in netlist patterns x)
  does x o w given bits = subst (Does netlist w) (of_pattern netlist patterns x o) (record { changes = o.is.changes; gives = given.gives; space = refl; setting = bits })

  -- a word that changes nothing but the clobbers fits the step alone, where they spare what is live
  fits_alone : (x : Step) (c live : Regs) (h : IsWorded netlist patterns x c) (w : ℕ) → bit_and w (transfer_fields h.of.pattern.move) ≡ x.setting → KeepsBut netlist h.of.pattern h.mask w
      → ((r : ℕ) → c r ≡ true → writes (operation_in netlist patterns x) r ≡ false → live r ≡ false) → FitsGroup netlist (operation_in netlist patterns) w (x ∷ []) live
  fits_alone x c live h w bits k s = record {
    clean = k.given.clean;
    does = (does x h.of w k.given bits, tt);
    steps = k.steps;
    cells = λ space e.
        by_space (λ z. h.of.pattern.storage ≢ place_in z netlist.storages → space_transfer netlist z w ≡ keep) k.memory k.file space
        (away netlist h.of.pattern space h.of.is x.setting (ap (stores_in space) (of_pattern netlist patterns x h.of) ∙ left_false (stores_in space (operation_in netlist patterns x)) false e));
    registers = λ r reg l e. k.registers r reg
        (no_bit h.mask r (sym (ap (λ (z : Regs). z r) h.same) ∙ spared (operation_in netlist patterns x) c live s r l (left_false (writes (operation_in netlist patterns x) r) false e)));
  }

  pub have_words : (c : Step → Regs) (xs : List Step) (after : Regs) → AreWorded netlist patterns c xs → AllSpare (operation_in netlist patterns) c xs after → AllHaveWords (operation_in netlist patterns) (fits_over netlist (operation_in netlist patterns)) (singles xs) after
  have_words c [] after f s = tt
  have_words c (x ∷ xs) after f s =
      let w = f.0.words x.setting f.0.of.setting in
      ((w.0, fits_alone x (c x) (live_before (operation_in netlist patterns) (singles xs) after) f.0 w.0 w.1 w.2 s.0), have_words c xs after f.1 s.1)

  -- a word of a step's pattern with its setting that keeps the memory
  pub jump_fits : (x : Step) (o : IsOfPattern netlist patterns x) (w : ℕ) → IsWordOf netlist o.pattern w → bit_and w (transfer_fields o.pattern.move) ≡ x.setting → memory_transfer netlist w ≡ keep
      → FitsJump netlist w (operation_in netlist patterns x)
  jump_fits x o w given bits memory = record { clean = given.clean; does = does x o w given bits; memory = memory }

  pub jump_has_word : (x : Step) → IsJumpWorded netlist patterns x → (w : ℕ) × FitsJump netlist w (operation_in netlist patterns x)
  jump_has_word x h =
      let w = h.words x.setting h.of.setting in
      (w.0, jump_fits x h.of w.0 w.2.given w.1 w.2.memory)
