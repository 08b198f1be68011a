use Rattle.std.proofs.Common.{◌≡◌, None, map, take}
use Rattle.std.specs.List.{AllByRecursion}
use Rattle.net_model.specs.CheckedRules.{Ordered}
use Rattle.cycle_sim.specs.Shown.{Shown}
use Rattle.cycle_sim.proofs.modes.blank_sims.Given as goal

-- a simulator for each of the modes so far
abbrev pub invariant-loop-base : goal.invariant-loop-base
invariant-loop-base l = record {
  bases : map (λ (sim : Shown). sim.netlist) l.sims.items ≡ map (λ (base : Ordered). base.netlist) (take l.base-index l.base-items);
  words : AllByRecursion (λ (sim : Shown). sim.words ≡ l.words) l.sims.items;
  unwritten : AllByRecursion (λ (sim : Shown). sim.last_write ≡ None) l.sims.items;
}
