use Rattle.std.proofs.lemmas.Grind.{elements}
use Rattle.std.proofs.Common.{arith}
use Rattle.net_model.specs.declared.hardware.Gate.TheVariants.{Cat, Sext}
use Rattle.net_model.specs.Widths.{GateFits}
use Rattle.rec_bits.proofs.Fits.{room_above}
use Rattle.net_model.proofs.Fits.{typed_width}
use Rattle.cycle_sim.proofs.values.gate_of.Goals as goal

pub cat-requires-clause-left : goal.cat-requires-clause-left
cat-requires-clause-left c =
    let g : GateFits c.args.netlist.now c.args.net.now.width (Cat c.in-Cat.a c.in-Cat.b) = rw c.in-Cat.is at c.requires.gate in
    rw (c.value_at-in-Cat.ensures, c.net_width-low_width.ensures)
    (room_above _ _ _ (c.requires.fit.fits c.in-Cat.a) (omega (arith, g.2, c.requires.high)))

pub sext-requires-clause-low : goal.sext-requires-clause-low
sext-requires-clause-low c =
    let g : GateFits c.args.netlist.now c.args.net.now.width (Sext c.in-Sext.a) = rw c.in-Sext.is at c.requires.gate in
    rw c.net_width-from.ensures (typed_width c.args.netlist.now c.in-Sext.a c.requires.typed g.0).0

pub apply2-requires-clause-low : goal.apply2-requires-clause-low
apply2-requires-clause-low c = grind (arith, elements)

pub cat-requires-clause-low : goal.cat-requires-clause-low
cat-requires-clause-low c = grind (arith, elements)
