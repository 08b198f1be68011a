-- A word that keeps the set of the one register that is the mode keeps the mode, and the other way
-- round.
use Rattle.std.proofs.Common.{ℕ, ◌≡◌, ◌^◌, ◌==◌, refl, Bool, true, false, Option, Some, None, slice_get, sym, ◌∙◌, ap, subst, eq-eqb, eqb-true}
use Rattle.std.specs.Int.{bit_at}
use Rattle.std.specs.Prelude.{IfOk, MatchOption, Result}
use Rattle.std.proofs.lemmas.Result.{IfOk-weaker}
use Rattle.std.proofs.lemmas.Nat.Bits.{bit_at-pow_other, bit_at-pow_same}
use Rattle.net_model.specs.declared.hardware.Netlist.{Netlist}
use Rattle.net_model.specs.Nets.{IsRegister}
use Rattle.net_model.specs.Transfers.{transfer_at}
use Rattle.form_model.specs.Effects.{Operation}
use Rattle.form_model.specs.Live.{regs_of}
use Rattle.word_fit.specs.Fits.{FitsTurning, IsLeastFit}
use Rattle.mode_set.specs.Words.{FitsTurn}

-- the set of one register
pub one_live : (mode r : ℕ) → regs_of (2 ^ mode) r ≡ (r == mode)
one_live mode r = by (r == mode) refl
  where
    by : (b : Bool) → (r == mode) ≡ b → regs_of (2 ^ mode) r ≡ b
    by true q = ap (λ k. bit_at (2 ^ mode) k == 1) (eqb-true r mode q) ∙ ap (λ n. n == 1) (bit_at-pow_same mode)
    by false q = ap (λ n. n == 1) (bit_at-pow_other mode r (λ x. absurd (cc (eq-eqb r mode x, q))))

one_reg : (mode r : ℕ) → regs_of (2 ^ mode) r ≡ true → r ≡ mode
one_reg mode r e = eqb-true r mode (sym (one_live mode r) ∙ e)

own_reg : (mode : ℕ) → regs_of (2 ^ mode) mode ≡ true
own_reg mode = one_live mode mode ∙ eq-eqb mode mode refl

module _ (netlist : Netlist) (mode : ℕ) (is : IsRegister (slice_get netlist.storages mode)) (d : Operation) where
  pub turn_of : (word : ℕ) → FitsTurning netlist word d (regs_of (2 ^ mode)) → FitsTurn netlist (Some mode) word d
  turn_of word f = record { fits = f.jump; mode = (is, f.registers mode is (own_reg mode)) }

  pub turning_of : (word : ℕ) → FitsTurn netlist (Some mode) word d → FitsTurning netlist word d (regs_of (2 ^ mode))
  turning_of word f = record {
    jump = f.fits;
    registers = λ r reg e. ap (λ q. transfer_at netlist word q) (one_reg mode r e) ∙ f.mode.1;
  }

  -- so the least word of the one kind is that of the other
  abbrev TurningFound : ℕ → Option ℕ → Type 0
  TurningFound kept o = MatchOption o ((word : ℕ) → FitsTurning netlist word d (regs_of kept) → ⊥) (IsLeastFit (λ word. FitsTurning netlist word d (regs_of kept)))

  abbrev TurnFound : Option ℕ → Type 0
  TurnFound o = MatchOption o ((word : ℕ) → FitsTurn netlist (Some mode) word d → ⊥) (IsLeastFit (λ word. FitsTurn netlist (Some mode) word d))

  turn_found : (o : Option ℕ) → TurningFound (2 ^ mode) o → TurnFound o
  turn_found None h = λ word f. h word (turning_of word f)
  turn_found (Some word) h = record { is = turn_of word h.is; least = λ other f. h.least other (turning_of other f) }

  pub turn_result : {E : Type 0} (kept : ℕ) → kept ≡ 2 ^ mode → (r : Result (Option ℕ) E) → IfOk r (TurningFound kept) → IfOk r TurnFound
  turn_result kept told r h = IfOk-weaker r (TurningFound (2 ^ mode)) TurnFound turn_found (subst (λ n. IfOk r (TurningFound n)) told h)
