-- Words of a worked processor that fit a group, and words that don't.
use Rattle.std.proofs.Common.{◌≡◌, ◌==◌, false, lit<, [], ◌∷◌, refl, sym, inl}
use Rattle.std.proofs.lemmas.Bool.{true≢false}
use Rattle.rec_bits.specs.declared.operator.Op2.TheVariants.{Sub}
use Rattle.net_model.specs.declared.hardware.Space.TheVariants.{Memory as InMemory}
use Rattle.net_model.specs.Exprs.{word, reg, read, bin, slice, keep, write}
use Rattle.net_model.specs.Transfers.{IsClean, transfer_at, space_transfer}
use Rattle.net_model.proofs.Spaces.{by_space}
use Rattle.net_model.specs.Worked.{z16}
use Rattle.net_model.proofs.WordWidths.{word_fits}
use Rattle.form_model.specs.Effects.{Operation}
use Rattle.form_model.specs.Live.{Regs, no_regs}
use Rattle.word_fit.specs.Fits.{FitsGroup, group_stores}

-- the accumulator, register 1 of the processor with a flag, takes its difference with cell 2
abbrev subtracts : Operation
subtracts = record { storage = 1; space = InMemory; move = write (bin Sub (reg 1 16) (read InMemory (slice (word 12) 7 0) 16)); setting = 2 }

abbrev as_is : Operation → Operation
as_is d = d

clean_302 : IsClean z16 770
clean_302 = record { fits = word_fits z16 770 refl (lit< tt); clean = refl }

-- the word 302 does that, and sets the flag
fits_302 : FitsGroup z16 as_is 770 (subtracts ∷ []) no_regs
fits_302 = record {
  clean = clean_302;
  does = (record { changes = λ e. cc; gives = refl; space = refl; setting = refl }, tt);
  steps = record { step = inl refl };
  cells = λ space. by_space (λ z. group_stores z as_is (subtracts ∷ []) ≡ false → space_transfer z16 z 770 ≡ keep) (λ e. refl) (λ e. refl) space;
  registers = λ r is live unwritten. absurd (true≢false (sym live));
}

-- so it doesn't fit where the flag is live
abbrev flag : Regs
flag = λ r. r == 2

flag_is_lost : FitsGroup z16 as_is 770 (subtracts ∷ []) flag → ⊥
flag_is_lost f = (let k : transfer_at z16 770 2 ≡ keep = f.registers 2 tt refl refl in cc)

-- the word 303 takes another cell, and the word 202 adds
other_cell : FitsGroup z16 as_is 771 (subtracts ∷ []) no_regs → ⊥
other_cell f = (let e = f.does.0.setting in cc)

other_transfer : FitsGroup z16 as_is 514 (subtracts ∷ []) no_regs → ⊥
other_transfer f = (let e = f.does.0.gives in cc)
