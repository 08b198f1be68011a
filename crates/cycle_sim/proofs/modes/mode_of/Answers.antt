use Rattle.std.proofs.Common.{◌≡◌, ◌∙◌, ◌<◌, ℕ, List, Option, Some, ap, arith, length, slice_index, subst, sym}
use Rattle.net_model.specs.declared.hardware.Netlist.{Netlist}
use Rattle.net_model.specs.Fixed.{mode_in}
use Rattle.cycle_sim.proofs.Sims.{mode_within}
use Rattle.cycle_sim.proofs.modes.mode_of.Goals as goal

pub returns-in-Some-clause-within : goal.returns-in-Some-clause-within
returns-in-Some-clause-within c =
    let special : c.args.modes.now.netlist.special ≡ Some c.in-Some.id = ap (λ (n : Netlist). n.special) (sym c.netlist.ensures.value) ∙ c.in-Some.is in
    let within : slice_index c.args.state.now.regs c.in-Some.id < length c.args.modes.now.bases =
    subst (λ (o : Option ℕ). mode_in o c.args.state.now < length c.args.modes.now.bases) special
    (mode_within c.args.modes.now.netlist c.args.modes.now.bases c.args.state.now c.netlist.ensures.kept c.requires) in
    let read : slice_index c.as_slice.result.now c.in-Some.id ≡ slice_index c.args.state.now.regs c.in-Some.id =
    ap (λ (xs : List ℕ). slice_index xs c.in-Some.id) c.as_slice.ensures in
    omega (arith, within, c.value_at.ensures, read)
