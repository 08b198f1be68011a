-- The values of expressions fit their widths, and that of a number alone is the number.
use Rattle.std.proofs.Common.{ℕ, ◌≡◌, ◌≤◌, ◌<◌, ◌+◌, ◌^◌, lit<, List, Some, subst, arith, slice_index}
use Rattle.std.proofs.lemmas.Nat.{pow_pos, mod_below}
use Rattle.std.proofs.Math.Nat.{pow-le-pow_right}
use Rattle.rec_bits.proofs.Fits.{apply1_fits, apply2_fits, sext_below}
use Rattle.src_model.specs.declared.program.Var.{Var as Declared}
use Rattle.src_model.specs.Written.{SrcNodeModel, num, plain, element, un as un_of, bin as bin_of, zext as zext_of, sext as sext_of, low}
use Rattle.src_model.specs.Indexes.{number_of}
use Rattle.src_model.specs.Meaning.{shape_width, operand_width, shape_value, first_cell}
use Rattle.src_model.specs.Fitting.{Fitting}

pub value_fits : (bits : ℕ) (vars : List Declared) (cells : List ℕ) → ((cell : ℕ) → slice_index cells cell < 2 ^ bits) → (asked : ℕ) (e : SrcNodeModel) → Fitting bits asked e → shape_value bits vars cells asked e < 2 ^ shape_width bits asked e
value_fits bits vars cells words asked (num n) f = f
value_fits bits vars cells words asked (plain name at) f = words (first_cell vars name)
value_fits bits vars cells words asked (element name at to x) f = words (first_cell vars name + shape_value bits vars cells bits x)
value_fits bits vars cells words asked (un_of op at x) f = apply1_fits op (shape_width bits asked x) (shape_value bits vars cells asked x)
value_fits bits vars cells words asked (bin_of op at x to y) f =
    apply2_fits op (operand_width bits x y) _ _
    (subst (λ w. shape_value bits vars cells (operand_width bits x y) x < 2 ^ w) f.2 (value_fits bits vars cells words (operand_width bits x y) x f.0))
    (subst (λ w. shape_value bits vars cells (operand_width bits x y) y < 2 ^ w) f.3 (value_fits bits vars cells words (operand_width bits x y) y f.1))
value_fits bits vars cells words asked (zext_of at x width) f =
    let h = value_fits bits vars cells words bits x f.0 in
    let p : 2 ^ shape_width bits bits x ≤ 2 ^ width = pow-le-pow_right (lit< tt) (omega (arith, f.1)) in
    omega (arith, h, p)
value_fits bits vars cells words asked (sext_of at x width) f =
    sext_below (shape_value bits vars cells bits x) (shape_width bits bits x) width (omega (arith, f.1)) (value_fits bits vars cells words bits x f.0)
value_fits bits vars cells words asked (low at x width) f = mod_below _ _ (pow_pos width)

pub number_value : (bits : ℕ) (vars : List Declared) (cells : List ℕ) (x : SrcNodeModel) (n : ℕ) → number_of x ≡ Some n → shape_value bits vars cells bits x ≡ n
number_value bits vars cells (num k) n e = cc
number_value bits vars cells (plain name at) n e = absurd (cc e)
number_value bits vars cells (element name at to x) n e = absurd (cc e)
number_value bits vars cells (un_of op at x) n e = absurd (cc e)
number_value bits vars cells (bin_of op at x to y) n e = absurd (cc e)
number_value bits vars cells (zext_of at x width) n e = absurd (cc e)
number_value bits vars cells (sext_of at x width) n e = absurd (cc e)
number_value bits vars cells (low at x width) n e = absurd (cc e)
