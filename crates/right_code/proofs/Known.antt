-- The patterns of a netlist are of its expressions, whose operators get operands of the widths that
-- they ask for.
use Rattle.std.proofs.Common.{◌≡◌, ℕ, zero, suc, ◌<◌, List, [], ◌∷◌, length, Some, slice_get, slice_index_or, subst, arith}
use Rattle.mode_set.proofs.Putting.{all_at}
use Rattle.net_model.specs.declared.hardware.Netlist.{Netlist}
use Rattle.net_model.specs.CheckedRules.{KeepsRules}
use Rattle.net_model.specs.Patterns.{ArePatterns, IsPattern, Pattern}
use Rattle.net_model.proofs.KeptRules.{sound_of}
use Rattle.transfer_set.specs.Inner.Widths.{TransferFits}
use Rattle.transfer_set.specs.TextMarks.{IsTransferOf}
use Rattle.transfer_set.proofs.TermsFit.{move_fits}
use Rattle.transfer_set.proofs.TermsOf.{move_exprs}
use Rattle.right_code.specs.Inner.Known.{AreKnown}

at_or : {A : Type 0} (xs : List A) (n : ℕ) (x d : A) → slice_get xs n ≡ Some x → (n < length xs) × (slice_index_or xs n d ≡ x)
at_or [] n x d e = absurd (cc)
at_or (y ∷ xs) zero x d e = (omega arith, cc)
at_or (y ∷ xs) (suc n) x d e = (let r = at_or xs n x d e in (omega (arith, r.0), r.1))

-- the patterns of a netlist
pub known_of : (netlist : Netlist) (order : List ℕ) → KeepsRules netlist order → (patterns : List Pattern) → ArePatterns netlist patterns → AreKnown netlist patterns
known_of netlist order keeps patterns are k p at =
    let pattern : IsPattern netlist p = all_at (IsPattern netlist) patterns k p are.each at in
    record {
      is = pattern;
      exprs = subst (IsTransferOf netlist) pattern.given.gives (move_exprs netlist order keeps pattern.word p.storage);
      fits = subst TransferFits pattern.given.gives (move_fits netlist (sound_of netlist order keeps) pattern.word p.storage);
    }
