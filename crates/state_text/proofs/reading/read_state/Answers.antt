use Rattle.std.proofs.Common.{sym, ◌∙◌}
use Rattle.state_text.proofs.Progress.{begins, goes_on, stops, ends}
use Rattle.state_text.proofs.Starts.{is_within}
use Rattle.state_text.proofs.Told.{setting_fits}
use Rattle.state_text.proofs.reading.read_state.Goals as goal

pub loop-line-init : goal.loop-line-init
loop-line-init c = rw c.in_ok-state.ensures.zeros (begins c.args.checked.now.netlist c.args.still c.args.bytes.now)

pub put-requires : goal.put-requires
put-requires c = is_within c.args.checked.now.netlist c.args.still c.loop-line.state c.in-Some-setting_of.setting c.loop-line.invariant.start (setting_fits c.args.checked.now.netlist c.args.still c.in-Some.line.now c.in-Some-setting_of.setting (sym c.setting_of.ensures ∙ c.in-Some-setting_of.is))

pub loop-line-preserved : goal.loop-line-preserved
loop-line-preserved c = rw c.put.ensures (goes_on c.args.checked.now.netlist c.args.still c.args.bytes.now c.loop-line.rest.now c.in-Some.line.now c.in-Some.more.now c.loop-line.state c.in-Some-setting_of.setting c.loop-line.invariant c.in-Some.ensures.some (sym c.setting_of.ensures ∙ c.in-Some-setting_of.is))

pub returns-clause-found : goal.returns-clause-found
returns-clause-found c = ends c.args.checked.now.netlist c.args.still c.args.bytes.now c.loop-line.rest.now c.loop-line.state c.loop-line.invariant c.in_default.ensures.none

pub returns-in_default-setting_of-clause-refused : goal.returns-in_default-setting_of-clause-refused
returns-in_default-setting_of-clause-refused c =
    stops c.args.checked.now.netlist c.args.still c.args.checked.now.order c.args.bytes.now c.loop-line.rest.now c.in-Some.line.now c.in-Some.more.now c.loop-line.state c.blank.ensures.kept c.loop-line.invariant c.in-Some.ensures.some (sym c.setting_of.ensures ∙ c.in_default-setting_of.is)
