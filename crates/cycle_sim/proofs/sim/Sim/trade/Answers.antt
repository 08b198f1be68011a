use Rattle.std.proofs.Common.{◌∙◌, ap, map, sym, List, Option, ℕ}
use Rattle.net_model.specs.declared.hardware.Space.{Space}
use Rattle.cycle_sim.specs.Shown.{Shown}
use Rattle.cycle_sim.specs.Trades.{AreAlike, shape_of}
use Rattle.cycle_sim.proofs.Trading.{alike_state}
use Rattle.cycle_sim.proofs.sim.Sim.trade.Goals as goal

-- the kinds, widths and sizes of a simulator's storages
abbrev shapes : Shown → List (Option Space × ℕ × ℕ)
shapes sim = map shape_of sim.netlist.storages

pub invariant_of-self : goal.invariant_of-self
invariant_of-self c =
    let alike : AreAlike c.self.inside.checked.now.netlist c.other.inside.checked.now.netlist =
    ap shapes c.self.view_is ∙ c.requires ∙ sym (ap shapes c.other.view_is) in
    record {
      typed = c.self.invariant.typed;
      few = c.self.invariant.few;
      words_fit = c.self.invariant.words_fit;
      state = rw c.swap.ensures.x_after (alike_state c.other.inside.checked.now.netlist c.self.inside.checked.now.netlist (sym alike) c.other.inside.state c.other.invariant.state);
      decoded = c.self.invariant.decoded;
      cell_width = c.self.invariant.cell_width;
      port_fits = c.self.invariant.port_fits;
      room = c.self.invariant.room;
    }

pub invariant_of-other : goal.invariant_of-other
invariant_of-other c =
    let alike : AreAlike c.self.inside.checked.now.netlist c.other.inside.checked.now.netlist =
    ap shapes c.self.view_is ∙ c.requires ∙ sym (ap shapes c.other.view_is) in
    record {
      typed = c.other.invariant.typed;
      few = c.other.invariant.few;
      words_fit = c.other.invariant.words_fit;
      state = rw c.swap.ensures.y_after (alike_state c.self.inside.checked.now.netlist c.other.inside.checked.now.netlist alike c.self.inside.state c.self.invariant.state);
      decoded = c.other.invariant.decoded;
      cell_width = c.other.invariant.cell_width;
      port_fits = c.other.invariant.port_fits;
      room = c.other.invariant.room;
    }
