use Rattle.std.proofs.Common.{◌≡◌, ◌*◌, ◌%◌, ◌^◌}
use Rattle.std.proofs.Math.Nat.{mod-eq_of_lt}
use Rattle.asm_words.proofs.Bits.{placed_below}
use Rattle.asm_words.proofs.asking.field_of.Goals as goal

pub returns : goal.returns
returns c =
    let bits = c.span.ensures in
    let value : c.args.item.value * 2 ^ c.args.item.lo % 2 ^ 64 ≡ c.args.item.value * 2 ^ c.args.item.lo = mod-eq_of_lt (placed_below c.args.item c.requires) in
    (λ j. record { mask = bits j; value = value j })
