use Rattle.isa_extract.proofs.Cleans.{clean_set}
use Rattle.isa_extract.proofs.netlists.routed.Goals as goal

pub returns-clause-extracted : goal.returns-clause-extracted
returns-clause-extracted c = record {
  ready = c.in_ok-patterns.ensures.ready;
  legal = clean_set c.args.checked.now.netlist c.args.controlled.book c.patterns_of.new.book c.in_ok-patterns.ensures.grows c.args.controlled.controls c.requires.controls;
}
