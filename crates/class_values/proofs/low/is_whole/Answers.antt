use Rattle.std.proofs.Common.{◌+◌, ap, eqb-true, sym, ◌∙◌}
use Rattle.class_values.proofs.LowBits.{whole_is_low}
use Rattle.class_values.proofs.low.is_whole.Goals as goal

pub returns-in-Some : goal.returns-in-Some
returns-in-Some c e =
    let x = c.in-Some.ensures in
    whole_is_low c.args.table.now c.args.a c.args.hi x.0 (sym x.1 ∙ sym c.from.ensures ∙ eqb-true c.from.result (c.from-in-Some.result + 1) e ∙ ap (λ n. n + 1) c.from-in-Some.ensures)
