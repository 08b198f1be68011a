use Rattle.std.proofs.Common.{◌≤◌, ◌∙◌, sym, arith}
use Rattle.std.proofs.lemmas.Bool.{eq-eqb, le-leb}
use Rattle.std.proofs.lemmas.Nat.Bits.{bit_at_above}
use Rattle.emit_seq.proofs.homes.is_free.Goals as goal

pub returns-then-cell-ge64 : goal.returns-then-cell-ge64
returns-then-cell-ge64 c =
    let above : 64 ≤ c.args.cell = omega arith in
    le-leb 64 c.args.cell above ∙ sym (eq-eqb _ 0 (bit_at_above c.args.held 64 c.args.cell (omega arith) above))
