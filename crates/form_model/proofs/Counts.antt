-- How many operands, cuts and cells a cover has.
use Rattle.std.proofs.Common.{◌≡◌, ◌+◌, List, [], ◌∷◌, ◌++◌, length, refl, sym, ap, arith}
use Rattle.std.specs.Prelude.{remove}
use Rattle.rec_bits.proofs.Lists.{length_inserted}
use Rattle.net_model.specs.Exprs.{ExprModel}
use Rattle.form_model.specs.Matches.{LeafModel, operand, cut}
use Rattle.form_model.specs.CoverModels.{CoverOperandsModel, no_operands, operand_then, CoverCutsModel, no_cuts, cut_then}
use Rattle.form_model.specs.Covers.{StockModel, Operand, operands_of, AreOrderly, AreCut}
use Rattle.form_model.specs.Steps.{cut_count, operands_count, cuts_count, operand_counts, cut_counts}
use Rattle.form_model.proofs.Zips.{length_out, total, total-insert}

pub operands-append : (xs ys : List LeafModel) → operands_of (xs ++ ys) ≡ operands_of xs ++ operands_of ys
operands-append [] ys = refl
operands-append (operand id tree whole ∷ xs) ys = ap (λ (z : List Operand). record { home = id; tree = tree; whole = whole } ∷ z) (operands-append xs ys)
operands-append (cut shape tree ∷ xs) ys = operands-append xs ys

pub operands_long : (stock : StockModel) (ps : CoverOperandsModel) (left : List Operand) → AreOrderly stock left ps → length (operand_counts ps) ≡ length left
operands_long stock no_operands left c = sym (ap length c)
operands_long stock (operand_then i p ps) left c =
    let h = operands_long stock ps (remove left i) c.4 in
    omega (arith, h, length_inserted (operand_counts ps) i (cut_count p), length_out left i c.0 c.1)

pub cuts_long : (stock : StockModel) (cs : CoverCutsModel) (cuts : List ExprModel) → AreCut stock cuts cs → length (cut_counts cs) ≡ length cuts
cuts_long stock no_cuts cuts c = sym (ap length c)
cuts_long stock (cut_then p cs) cuts c = let h = cuts_long stock cs c.1 c.5 in omega (arith, h, ap length c.2)

pub operands_total : (ps : CoverOperandsModel) → total (operand_counts ps) ≡ operands_count ps
operands_total no_operands = refl
operands_total (operand_then i p ps) = let h = operands_total ps in omega (arith, h, total-insert (operand_counts ps) i (cut_count p))

pub cuts_total : (cs : CoverCutsModel) → total (cut_counts cs) + length (cut_counts cs) ≡ cuts_count cs
cuts_total no_cuts = refl
cuts_total (cut_then p cs) = let h = cuts_total cs in omega (arith, h)
