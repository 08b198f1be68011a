-- The set of the register that holds the mode, and words that keep it.
use Rattle.std.proofs.Common.{◌≡◌, ◌==◌, ◌||◌, ◌*◌, ◌^◌, ◌<◌, ◌≤◌, ℕ, Fits, w64, Bool, bit_or, length, List, Option, Some, None, sym, ◌∙◌, ap, subst, slice_get, arith}
use Rattle.std.specs.Int.{bit_at}
use Rattle.std.specs.Int.Bits.{or_zero_r}
use Rattle.std.proofs.lemmas.Grind.{common_steps}
use Rattle.std.proofs.lemmas.Nat.Bits.{bit_at-lt, bit_at_or}
use Rattle.std.proofs.Math.Pow.{pow_mono}
use Rattle.rec_bits.proofs.Bits.{max_bits}
use Rattle.net_model.specs.declared.hardware.Netlist.{Netlist}
use Rattle.net_model.specs.declared.hardware.Storage.{Storage}
use Rattle.net_model.specs.CheckedRules.{IsMode}
use Rattle.net_model.specs.Fixed.{mode_count}
use Rattle.net_model.specs.ModeRules.{base_at, modes_in, KeepsModes}
use Rattle.net_model.specs.Nets.{IsRegister}
use Rattle.net_model.proofs.Bases.{base_of}
use Rattle.net_model.proofs.KeptRules.{few_storages}
use Rattle.net_model.proofs.ModeFaults.{first_keeps}
use Rattle.net_model.proofs.Storages.{register_within}
use Rattle.form_model.specs.Effects.{Operation}
use Rattle.form_model.specs.Live.{no_regs, regs_of}
use Rattle.live_sets.proofs.Bits.{regs_of_none}
use Rattle.mode_set.specs.Keeping.{IsModeRegister}
use Rattle.mode_set.specs.Words.{FitsTurn}
use Rattle.mode_set.proofs.Turning.{one_live, turn_of, turning_of}
use Rattle.right_code.specs.Cuts.{with_mode}
use Rattle.word_fit.specs.Fits.{FitsTurning, IsLeastFit}
use Rattle.code_gen.specs.Inner.Views.{HasModeBit, mode_bits}

-- ---- the set

-- the mode alone
pub mode_live : (o : Option ℕ) → regs_of (mode_bits o) ≡ with_mode o no_regs
mode_live None = λ j r. regs_of_none r j
mode_live (Some mode) = λ j r. one_live mode r j

-- and with others
pub mode_with : (o : Option ℕ) (n : ℕ) → regs_of (bit_or n (mode_bits o)) ≡ with_mode o (regs_of n)
mode_with None n = ap regs_of (or_zero_r n)
mode_with (Some mode) n = λ j r. joined r j
  where
    joined : (r : ℕ) → regs_of (bit_or n (2 ^ mode)) r ≡ (regs_of n r || (r == mode))
    joined r =
        ap (λ k. k == 1) (bit_at_or n (2 ^ mode) r) ∙ max_bits (bit_at n r) (bit_at (2 ^ mode) r) (bit_at-lt n r) (bit_at-lt (2 ^ mode) r)
        ∙ ap (λ (b : Bool). regs_of n r || b) (one_live mode r)

-- ---- words

module _ (netlist : Netlist) (d : Operation) where
  pub turn_keeps : (o : Option ℕ) → IsModeRegister o netlist → (word : ℕ) → FitsTurning netlist word d (regs_of (mode_bits o)) → FitsTurn netlist o word d
  turn_keeps None register word f = record { fits = f.jump; mode = tt }
  turn_keeps (Some mode) register word f = turn_of netlist mode register d word f

  pub turn_kept : (o : Option ℕ) → IsModeRegister o netlist → (word : ℕ) → FitsTurn netlist o word d → FitsTurning netlist word d (regs_of (mode_bits o))
  turn_kept None register word f = record { jump = f.fits; registers = λ r reg live. absurd (let none = regs_of_none r in cc) }
  turn_kept (Some mode) register word f = turning_of netlist mode register d word f

  pub least_turn : (o : Option ℕ) → IsModeRegister o netlist → (word : ℕ) → IsLeastFit (λ w. FitsTurning netlist w d (regs_of (mode_bits o))) word → IsLeastFit (λ w. FitsTurn netlist o w d) word
  least_turn o register word h = record { is = turn_keeps o register word h.is; least = λ other f. h.least other (turn_kept o register other f) }

-- ---- a netlist that keeps its rules in its modes

pub mode_register : (netlist : Netlist) (o : Option ℕ) → IsMode netlist o → IsModeRegister o netlist
mode_register netlist None h = tt
mode_register netlist (Some mode) h = h.0

pub mode_bit : (netlist : Netlist) → KeepsModes netlist → HasModeBit netlist.special
mode_bit netlist keeps = by netlist.special (mode_register netlist netlist.special keeps.special)
  where
    few : length netlist.storages ≤ 15
    few =
        subst (λ (list : List Storage). length list ≤ 15) (base_of netlist netlist.special 0).storages
        (few_storages (base_at netlist 0) (first_keeps netlist keeps).order (first_keeps netlist keeps).rules)

    by : (o : Option ℕ) → IsModeRegister o netlist → HasModeBit o
    by None h = tt
    by (Some mode) h = let lt = register_within netlist.storages mode h in omega (arith, lt, few)

-- it has few of them, so the place of one in a list stands for an offset
pub few_modes : (netlist : Netlist) → KeepsModes netlist → modes_in netlist ≤ 4
few_modes netlist keeps = by netlist.special keeps.special
  where
    by : (o : Option ℕ) → IsMode netlist o → mode_count o netlist ≤ 4
    by None h = omega arith
    by (Some mode) h = let at_most : mode_count (Some mode) netlist ≤ 2 ^ 2 = pow_mono h.1 in at_most

pub mode_offset : (netlist : Netlist) → KeepsModes netlist → (v : ℕ) → v < modes_in netlist → Fits w64 (v * 40)
mode_offset netlist keeps v lt =
    let few : modes_in netlist ≤ 4 = few_modes netlist keeps in
    let below : v < 4 = omega (arith, lt, few) in
    small v below
  where
    small : (n : ℕ) → n < 4 → Fits w64 (n * 40)
    small n below = grind (arith, common_steps)

pub base_register : (netlist : Netlist) (v : ℕ) → (o : Option ℕ) → IsModeRegister o netlist → IsModeRegister o (base_at netlist v)
base_register netlist v None h = tt
base_register netlist v (Some mode) h =
    subst (λ (list : List Storage). IsRegister (slice_get list mode)) (sym (base_of netlist netlist.special v).storages) h
