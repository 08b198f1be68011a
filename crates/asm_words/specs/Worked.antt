-- Worked lines over the processor a16: words that are theirs and words that aren't.
use Rattle.std.specs.Prelude.{◌≡◌, ℕ, ◌^◌, ◌<◌, false, List, [], ◌∷◌, refl, slice_get}
use Rattle.std.proofs.Common.{zero, suc, arith}
use Rattle.net_model.specs.declared.hardware.Space.TheVariants.{Memory as InMemory}
use Rattle.net_model.specs.Nets.{code_bits}
use Rattle.rec_bits.specs.declared.operator.Op2.TheVariants.{Add}
use Rattle.net_model.specs.Patterns.{Pattern}
use Rattle.net_model.specs.Exprs.{word, reg, const, read, bin, slice, TransferModel, keep, write}
use Rattle.net_model.specs.Transfers.{transfer_at}
use Rattle.net_model.specs.Worked.{a16}
use Rattle.asm_text.specs.declared.line.Item.{Item}
use Rattle.asm_words.specs.Asked.{DoesLine, is_named}
use Rattle.asm_words.specs.Shown.{item_of}
use Rattle.asm_words.specs.Slices.{line_slices, transfer_slices, once}

-- three of its patterns: the program counter steps, or is set, or the accumulator takes a cell
abbrev pub pattern : ℕ → TransferModel → Pattern
pattern storage move = record { storage = storage; move = move }

abbrev pub patterns : List Pattern
patterns =
    pattern 0 (write (bin Add (reg 0 8) (const 8 1))) ∷ pattern 0 (write (slice (word 12) 7 0))
    ∷ pattern 1 (write (read InMemory (slice (word 12) 7 0) 16)) ∷ []

abbrev pub item : ℕ → ℕ → ℕ → Item
item hi lo value = record { hi = hi; lo = lo; value = value }

-- ---- words

-- the word 103 doesn't clash, steps, and loads cell 3
pub loads : DoesLine a16 patterns (0 ∷ 2 ∷ []) (item 7 0 3 ∷ []) 259
loads = record {
  clean = record { fits = record { fits = below }; clean = refl };
  gives = (refl, (refl, tt));
  keeps = others;
  bits = (refl, tt);
}
  where
    below : (code : ℕ) → 0 < code_bits (slice_get a16.codes code) → 259 < 2 ^ code_bits (slice_get a16.codes code)
    below zero h = omega arith
    below (suc code) h = absurd (omega (arith, h))

    others : (storage : ℕ) → is_named patterns (0 ∷ 2 ∷ []) storage ≡ false → transfer_at a16 259 storage ≡ keep
    others zero e = absurd cc
    others (suc zero) e = absurd cc
    others (suc (suc zero)) e = refl
    others (suc (suc (suc n))) e = refl

-- it isn't a word of the line that only steps: the accumulator, which isn't named, doesn't keep
pub loads_more : DoesLine a16 patterns (0 ∷ []) [] 259 → ⊥
loads_more h = absurd (let e : transfer_at a16 259 1 ≡ keep = h.keeps 1 refl in cc)

-- nor of the line with another cell's bits
pub loads_other : DoesLine a16 patterns (0 ∷ 2 ∷ []) (item 7 0 4 ∷ []) 259 → ⊥
loads_other h = absurd (let e : ◌≡◌ {A = ℕ} 3 4 = h.bits.0 in cc)

-- ---- lines

-- the slices of the words that are shown: each once, in the order of first occurrence
pub two_slices : once (line_slices patterns (0 ∷ 1 ∷ 2 ∷ [])) ≡ record { hi = 7; lo = 0 } ∷ []
two_slices = refl

pub whole_word : once (transfer_slices (write (bin Add (word 12) (slice (bin Add (word 12) (word 12)) 3 0))))
    ≡ record { hi = 11; lo = 0 } ∷ []
whole_word = refl

pub shown_item : item_of 259 (record { hi = 7; lo = 0 }) ≡ item 7 0 3
shown_item = refl
