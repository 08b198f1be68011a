use Rattle.std.proofs.Common.{refl, subst, ◌∙◌}
use Rattle.net_model.specs.declared.states.State.{State}
use Rattle.code_model.specs.Places.{words_of}
use Rattle.run_command.proofs.LimitLaws.{words_fit}
use Rattle.right_code.specs.Tasks.{read_task}
use Rattle.make_command.specs.Stops.{IsAtEnd, StopsAt}
use Rattle.make_command.proofs.RightRuns.{right_runs}
use Rattle.make_command.proofs.summing.summarize.Goals as goal

pub run_image-requires-clause-words : goal.run_image-requires-clause-words
run_image-requires-clause-words c =
    words_fit c.args.modes.now.netlist c.requires.rules c.args.image.now.words c.requires.image.fits.words

pub run_image-requires-clause-start : goal.run_image-requires-clause-start
run_image-requires-clause-start c = c.in_ok-start.ensures.starts.here.state

pub run_image-requires-clause-clean : goal.run_image-requires-clause-clean
run_image-requires-clause-clean c =
    right_runs (read_task c.args.modes.now c.args.typed.now) c.args.image.now refl c.requires.image.right c.in_ok-start.start c.in_ok-start.ensures.starts 1000000

pub returns : goal.returns
returns c =
    let netlist = c.args.modes.now.netlist in
    let image = c.args.image.now in
    record {
      cycles = c.in_ok-cycles.cycles;
      last = c.in_ok-cycles.sim.state;
      stops = subst (λ (s : State). StopsAt netlist (words_of image) (IsAtEnd netlist image) s 1000000 c.in_ok-cycles.cycles c.in_ok-cycles.sim.state) c.in_ok-start.ensures.zeros c.in_ok-cycles.ensures;
      text_is = c.in_ok-text.ensures ∙ rw (c.as_slice.ensures, c.in_ok-head.ensures, c.len.ensures, c.in_ok-checkpoints.ensures) refl;
    }
