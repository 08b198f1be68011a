use Rattle.std.proofs.Common.{◌≡◌, ◌*◌, ◌∙◌, ap}
use Rattle.fault_sim.specs.Reports.{bits_of}
use Rattle.test_command.proofs.Answering.{counted}
use Rattle.test_command.proofs.testing.evaluations.Goals as goal

pub returns : goal.returns
returns c =
    let e : c.all_bits-bits.result ≡ bits_of c.args.netlist.now.nets = c.all_bits-bits.ensures.bits ∙ ap bits_of c.as_slice.ensures in
    ap (λ n. 2 * c.all_bits-bits.result * c.args.words * n) c.len.ensures ∙ counted c.args.netlist.now c.all_bits-bits.result c.args.words e
