use Rattle.std.proofs.Common.{◌≡◌, ℕ, List, length, slice_index, ap, sym, subst, ◌∙◌}
use Rattle.std.proofs.lemmas.List.{length-replicate}
use Rattle.net_model.specs.declared.hardware.Netlist.{Netlist}
use Rattle.net_model.specs.Widths.{ValuesFit}
use Rattle.net_model.proofs.Fits.{zeros_fit}
use Rattle.net_model.proofs.Memories.{few_sizes}
use Rattle.fault_sim.proofs.sim.FaultSim.new.Goals as goal

pub invariant_of-result : goal.invariant_of-result
invariant_of-result c =
    let nets : c.len.result ≡ length c.args.checked.now.netlist.nets = c.len.ensures ∙ ap (λ (n : Netlist). length n.nets) c.netlist-netlist.ensures.value in
    record {
      few = few_sizes _ _ c.netlist-netlist.ensures.kept;
      stuck = c.requires.fault;
      words_fit = c.requires.words;
      state = c.requires.start;
      long = ap length c.in_ok-values.ensures ∙ length-replicate _ _ ∙ nets;
      fit = subst (λ (l : List ℕ). ValuesFit c.args.checked.now.netlist (slice_index l)) (sym c.in_ok-values.ensures) (zeros_fit c.args.checked.now.netlist _);
    }
