use Rattle.std.proofs.lemmas.Result.{IfOk-from_err}
use Rattle.std.proofs.Common.{◌≡◌, ℕ, ◌-◌, ◌<◌, ◌≤◌, ◌∙◌, length, sym, true, arith}
use Rattle.std.specs.List.{AllByRecursion}
use Rattle.net_model.specs.declared.hardware.Gate.TheVariants.{Word, Un, Bin, Slice, Cat, Zext, Sext, Case}
use Rattle.net_model.specs.CheckedRules.{is_control_gate}
use Rattle.net_model.specs.Nets.{gate_nets, width_at}
use Rattle.net_model.specs.Widths.{GateFits}
use Rattle.net_model.proofs.Fits.{typed_width}
use Rattle.ctl_bdd.specs.Tables.{sets_at}
use Rattle.ctl_bdd.proofs.Values.{word_gate, not_gate, slice_gate, cat_gate, zext_gate, sext_gate, rows_have, rest_has}
use Rattle.ctl_bdd.proofs.gates.gate_bits.Goals as goal

last_in : (n : ℕ) → 1 ≤ n → n - 1 < n
last_in n some = omega (arith, some)

at_most : (m n : ℕ) → m < n → m ≤ n
at_most m n less = omega (arith, less)

pub slice_bits-requires-clause-within : goal.slice_bits-requires-clause-within
slice_bits-requires-clause-within c =
    let fits : GateFits c.args.netlist.now c.args.net.now.width (Slice c.in-Slice.of c.in-Slice.hi c.in-Slice.lo) = rw c.in-Slice.is at c.requires.gate in
    let named : AllByRecursion (λ n. length (sets_at c.args.table.now n) ≡ width_at c.args.netlist.now n) (gate_nets (Slice c.in-Slice.of c.in-Slice.hi c.in-Slice.lo)) = rw c.in-Slice.is at c.requires.named in
    rw (c.sets_of-in-Slice.ensures, named.0) fits.2

pub overflow_sub-sets : goal.overflow_sub-sets
overflow_sub-sets c =
    let fits : GateFits c.args.netlist.now c.args.net.now.width (Sext c.in-Sext.a) = rw c.in-Sext.is at c.requires.gate in
    let named : AllByRecursion (λ n. length (sets_at c.args.table.now n) ≡ width_at c.args.netlist.now n) (gate_nets (Sext c.in-Sext.a)) = rw c.in-Sext.is at c.requires.named in
    rw (c.sets_of-sets.ensures, named.0) (typed_width c.args.netlist.now c.in-Sext.a c.requires.typed fits.0).0

pub bounds-sets-sets : goal.bounds-sets-sets
bounds-sets-sets c =
    let fits : GateFits c.args.netlist.now c.args.net.now.width (Sext c.in-Sext.a) = rw c.in-Sext.is at c.requires.gate in
    let named : AllByRecursion (λ n. length (sets_at c.args.table.now n) ≡ width_at c.args.netlist.now n) (gate_nets (Sext c.in-Sext.a)) = rw c.in-Sext.is at c.requires.named in
    last_in _ (rw (c.sets_of-sets.ensures, named.0) (typed_width c.args.netlist.now c.in-Sext.a c.requires.typed fits.0).0)

pub extend-requires : goal.extend-requires
extend-requires c =
    let fits : GateFits c.args.netlist.now c.args.net.now.width (Zext c.in-Zext.a) = rw c.in-Zext.is at c.requires.gate in
    let named : AllByRecursion (λ n. length (sets_at c.args.table.now n) ≡ width_at c.args.netlist.now n) (gate_nets (Zext c.in-Zext.a)) = rw c.in-Zext.is at c.requires.named in
    rw (c.sets_of-in-Zext.ensures, named.0) (at_most _ _ fits.1)

pub extend-requires-in-Sext : goal.extend-requires-in-Sext
extend-requires-in-Sext c =
    let fits : GateFits c.args.netlist.now c.args.net.now.width (Sext c.in-Sext.a) = rw c.in-Sext.is at c.requires.gate in
    let named : AllByRecursion (λ n. length (sets_at c.args.table.now n) ≡ width_at c.args.netlist.now n) (gate_nets (Sext c.in-Sext.a)) = rw c.in-Sext.is at c.requires.named in
    rw (c.sets_of-sets.ensures, named.0) (at_most _ _ fits.1)

pub operator_bits-requires-clause-long : goal.operator_bits-requires-clause-long
operator_bits-requires-clause-long c =
    let fits : GateFits c.args.netlist.now c.args.net.now.width (Bin c.in-Bin.op c.in-Bin.a c.in-Bin.b) = rw c.in-Bin.is at c.requires.gate in
    let named : AllByRecursion (λ n. length (sets_at c.args.table.now n) ≡ width_at c.args.netlist.now n) (gate_nets (Bin c.in-Bin.op c.in-Bin.a c.in-Bin.b)) = rw c.in-Bin.is at c.requires.named in
    rw (c.sets_of-in-Bin.ensures, c.sets_of-in-Bin-2.ensures) (named.0 ∙ sym (named.1.0 ∙ fits.1.1))

pub case_bits-requires-clause-few : goal.case_bits-requires-clause-few
case_bits-requires-clause-few c =
    let fits : GateFits c.args.netlist.now c.args.net.now.width (Case c.in-Case.sel c.in-Case.rows c.in-Case.rest) = rw c.in-Case.is at c.requires.gate in
    let named : AllByRecursion (λ n. length (sets_at c.args.table.now n) ≡ width_at c.args.netlist.now n) (gate_nets (Case c.in-Case.sel c.in-Case.rows c.in-Case.rest)) = rw c.in-Case.is at c.requires.named in
    rw (c.sets_of-sets-in-Case.ensures, named.0) (typed_width c.args.netlist.now c.in-Case.sel c.requires.typed fits.0).1

pub case_bits-requires-clause-rows : goal.case_bits-requires-clause-rows
case_bits-requires-clause-rows c =
    let fits : GateFits c.args.netlist.now c.args.net.now.width (Case c.in-Case.sel c.in-Case.rows c.in-Case.rest) = rw c.in-Case.is at c.requires.gate in
    let named : AllByRecursion (λ n. length (sets_at c.args.table.now n) ≡ width_at c.args.netlist.now n) (gate_nets (Case c.in-Case.sel c.in-Case.rows c.in-Case.rest)) = rw c.in-Case.is at c.requires.named in
    rw (c.as_slice.ensures, c.sets_of-sets-in-Case.ensures) (rows_have c.args.netlist.now c.args.table.now c.args.net.now.width _ _ c.in-Case.rows c.in-Case.rest (sym named.0) fits.1 named.1)

pub case_bits-requires-clause-rest : goal.case_bits-requires-clause-rest
case_bits-requires-clause-rest c =
    let fits : GateFits c.args.netlist.now c.args.net.now.width (Case c.in-Case.sel c.in-Case.rows c.in-Case.rest) = rw c.in-Case.is at c.requires.gate in
    let named : AllByRecursion (λ n. length (sets_at c.args.table.now n) ≡ width_at c.args.netlist.now n) (gate_nets (Case c.in-Case.sel c.in-Case.rows c.in-Case.rest)) = rw c.in-Case.is at c.requires.named in
    rest_has c.args.netlist.now c.args.table.now c.args.net.now.width c.in-Case.rows c.in-Case.rest fits.2 named.1

pub returns-in_ok-out-in-Word-clause-bits : goal.returns-in_ok-out-in-Word-clause-bits
returns-in_ok-out-in-Word-clause-bits c =
    let fits : GateFits c.args.netlist.now c.args.net.now.width (Word c.in-Word.field-0) = rw c.in-Word.is at c.requires.gate in
    rw c.in-Word.is
    (word_gate c.args.netlist.now c.args.book.now c.word_bits.new.book c.args.table.now c.args.net.now.width c.in-Word.field-0 c.in_ok-out-in-Word.out c.requires.code c.requires.word c.requires.low fits
    c.in_ok-out-in-Word.ensures.sets c.in_ok-out-in-Word.ensures.long c.in_ok-out-in-Word.ensures.number)

pub returns-in_ok-out-in-Un-clause-bits : goal.returns-in_ok-out-in-Un-clause-bits
returns-in_ok-out-in-Un-clause-bits c =
    let fits : GateFits c.args.netlist.now c.args.net.now.width (Un c.in-Un.field-0 c.in-Un.a) = rw c.in-Un.is at c.requires.gate in
    let named : AllByRecursion (λ n. length (sets_at c.args.table.now n) ≡ width_at c.args.netlist.now n) (gate_nets (Un c.in-Un.field-0 c.in-Un.a)) = rw c.in-Un.is at c.requires.named in
    let control : is_control_gate (Un c.in-Un.field-0 c.in-Un.a) ≡ true = rw c.in-Un.is at c.requires.control in
    rw c.in-Un.is
    (not_gate c.args.netlist.now c.args.book.now c.not_bits.new.book c.args.table.now c.args.net.now.width c.in-Un.field-0 c.in-Un.a c.in_ok-out-in-Un.out control fits named.0
    c.in_ok-out-in-Un.ensures.sets (rw c.sets_of-in-Un.ensures at c.in_ok-out-in-Un.ensures.long) (rw c.sets_of-in-Un.ensures at c.in_ok-out-in-Un.ensures.words))

pub returns-in_ok-out-in-Slice-clause-bits : goal.returns-in_ok-out-in-Slice-clause-bits
returns-in_ok-out-in-Slice-clause-bits c =
    let fits : GateFits c.args.netlist.now c.args.net.now.width (Slice c.in-Slice.of c.in-Slice.hi c.in-Slice.lo) = rw c.in-Slice.is at c.requires.gate in
    let named : AllByRecursion (λ n. length (sets_at c.args.table.now n) ≡ width_at c.args.netlist.now n) (gate_nets (Slice c.in-Slice.of c.in-Slice.hi c.in-Slice.lo)) = rw c.in-Slice.is at c.requires.named in
    rw c.in-Slice.is
    (slice_gate c.args.netlist.now c.args.book.now c.args.table.now c.requires.table c.args.net.now.width c.in-Slice.of c.in-Slice.hi c.in-Slice.lo c.in_ok-out-in-Slice.out fits named.0
    (rw c.sets_of-in-Slice.ensures at c.in_ok-out-in-Slice.ensures))

pub returns-in_ok-out-in-Cat-clause-bits : goal.returns-in_ok-out-in-Cat-clause-bits
returns-in_ok-out-in-Cat-clause-bits c =
    let fits : GateFits c.args.netlist.now c.args.net.now.width (Cat c.in-Cat.a c.in-Cat.b) = rw c.in-Cat.is at c.requires.gate in
    let named : AllByRecursion (λ n. length (sets_at c.args.table.now n) ≡ width_at c.args.netlist.now n) (gate_nets (Cat c.in-Cat.a c.in-Cat.b)) = rw c.in-Cat.is at c.requires.named in
    rw c.in-Cat.is
    (cat_gate c.args.netlist.now c.args.book.now c.args.table.now c.requires.table c.args.net.now.width c.in-Cat.a c.in-Cat.b c.in_ok-out-in-Cat.out fits named.0 named.1.0
    (rw (c.sets_of-in-Cat.ensures, c.sets_of-in-Cat-2.ensures) at c.in_ok-out-in-Cat.ensures))

pub returns-in_ok-out-in-Zext-clause-bits : goal.returns-in_ok-out-in-Zext-clause-bits
returns-in_ok-out-in-Zext-clause-bits c =
    let fits : GateFits c.args.netlist.now c.args.net.now.width (Zext c.in-Zext.a) = rw c.in-Zext.is at c.requires.gate in
    let named : AllByRecursion (λ n. length (sets_at c.args.table.now n) ≡ width_at c.args.netlist.now n) (gate_nets (Zext c.in-Zext.a)) = rw c.in-Zext.is at c.requires.named in
    rw c.in-Zext.is
    (zext_gate c.args.netlist.now c.args.book.now c.args.table.now c.requires.table c.args.net.now.width c.in-Zext.a c.constant_set-none.result c.in_ok-out-in-Zext.out fits named.0
    c.constant_set-none.ensures.within c.constant_set-none.ensures.words (rw c.sets_of-in-Zext.ensures at c.in_ok-out-in-Zext.ensures))

pub returns-in_ok-out-in-Sext-clause-bits : goal.returns-in_ok-out-in-Sext-clause-bits
returns-in_ok-out-in-Sext-clause-bits c =
    let fits : GateFits c.args.netlist.now c.args.net.now.width (Sext c.in-Sext.a) = rw c.in-Sext.is at c.requires.gate in
    let named : AllByRecursion (λ n. length (sets_at c.args.table.now n) ≡ width_at c.args.netlist.now n) (gate_nets (Sext c.in-Sext.a)) = rw c.in-Sext.is at c.requires.named in
    rw c.in-Sext.is
    (sext_gate c.args.netlist.now c.args.book.now c.args.table.now c.requires.table c.args.net.now.width c.in-Sext.a c.in_ok-out-in-Sext.out fits (typed_width c.args.netlist.now c.in-Sext.a c.requires.typed fits.0).0 named.0
    (rw c.sets_of-sets.ensures at c.in_ok-out-in-Sext.ensures))

pub returns-in_err-out-in-Bin-clause-bits : goal.returns-in_err-out-in-Bin-clause-bits
returns-in_err-out-in-Bin-clause-bits c = IfOk-from_err c.from_residual-in_err-out-in-Bin.result _ c.from_residual-in_err-out-in-Bin.ensures.0

pub returns-in_err-out-in-Case-clause-bits : goal.returns-in_err-out-in-Case-clause-bits
returns-in_err-out-in-Case-clause-bits c = IfOk-from_err c.from_residual-in_err-out-in-Case.result _ c.from_residual-in_err-out-in-Case.ensures.0

pub returns-in_err-out-in-Cat-clause-bits : goal.returns-in_err-out-in-Cat-clause-bits
returns-in_err-out-in-Cat-clause-bits c = IfOk-from_err c.from_residual-in_err-out-in-Cat.result _ c.from_residual-in_err-out-in-Cat.ensures.0

pub returns-in_err-out-in-Const-clause-bits : goal.returns-in_err-out-in-Const-clause-bits
returns-in_err-out-in-Const-clause-bits c = IfOk-from_err c.from_residual-in_err-out-in-Const.result _ c.from_residual-in_err-out-in-Const.ensures.0

pub returns-in_err-out-in-Sext-clause-bits : goal.returns-in_err-out-in-Sext-clause-bits
returns-in_err-out-in-Sext-clause-bits c = IfOk-from_err c.from_residual-in_err-out-in-Sext.result _ c.from_residual-in_err-out-in-Sext.ensures.0

pub returns-in_err-out-in-Slice-clause-bits : goal.returns-in_err-out-in-Slice-clause-bits
returns-in_err-out-in-Slice-clause-bits c = IfOk-from_err c.from_residual-in_err-out-in-Slice.result _ c.from_residual-in_err-out-in-Slice.ensures.0

pub returns-in_err-out-in-Un-clause-bits : goal.returns-in_err-out-in-Un-clause-bits
returns-in_err-out-in-Un-clause-bits c = IfOk-from_err c.from_residual-in_err-out-in-Un.result _ c.from_residual-in_err-out-in-Un.ensures.0

pub returns-in_err-out-in-Wire-clause-bits : goal.returns-in_err-out-in-Wire-clause-bits
returns-in_err-out-in-Wire-clause-bits c = IfOk-from_err c.from_residual-in_err-out-in-Wire.result _ c.from_residual-in_err-out-in-Wire.ensures.0

pub returns-in_err-out-in-Word-clause-bits : goal.returns-in_err-out-in-Word-clause-bits
returns-in_err-out-in-Word-clause-bits c = IfOk-from_err c.from_residual.result _ c.from_residual.ensures.0

pub returns-in_err-out-in-Zext-clause-bits : goal.returns-in_err-out-in-Zext-clause-bits
returns-in_err-out-in-Zext-clause-bits c = IfOk-from_err c.from_residual-in_err-out-in-Zext.result _ c.from_residual-in_err-out-in-Zext.ensures.0
