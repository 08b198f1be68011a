use Rattle.std.proofs.Common.{take}
use Rattle.bit_bdd.specs.Diagrams.{Extends}
use Rattle.transfer_set.specs.Machines.{IsReadyFor}
use Rattle.form_model.specs.Covers.{stock_with}
use Rattle.src_trees.specs.Jobs.{models_of_jobs}
use Rattle.code_gen.specs.Machines.{known_netlist, known_patterns}
use Rattle.test_code.specs.Codes.{IsCodeOf}
use Rattle.test_code.proofs.code.code_of.Given as goal

abbrev pub invariant-loop-job : goal.invariant-loop-job
invariant-loop-job l = record {
  grows : Extends l.initial.book l.book;
  ready : IsReadyFor l.known.machine l.book;
  code : IsCodeOf (known_netlist l.known) (known_patterns l.known) (stock_with l.forms.list.items l.tests.temps l.forms.file) (take l.job-index (models_of_jobs l.tests.blocks.jobs.items)) l.code;
}
