use Rattle.std.proofs.Common.{◌∙◌, ap}
use Rattle.net_model.proofs.ModeFaults.{modes_keep}
use Rattle.job_gen.specs.NetText.{net_text}
use Rattle.job_gen.specs.SrcText.{src_text}
use Rattle.compile_command.proofs.TaskLemmas.{holds_of_read}
use Rattle.make_command.specs.Summaries.{IsSummaryOf}
use Rattle.make_command.proofs.making.make.Goals as goal

pub summarize-requires-clause-rules : goal.summarize-requires-clause-rules
summarize-requires-clause-rules c =
    let modes = c.in_ok-made.made.modes in
    modes_keep modes.netlist modes.bases c.in_ok-made.ensures.compiled.read.net_file.routed.netlist.rules

pub summarize-requires-clause-image : goal.summarize-requires-clause-image
summarize-requires-clause-image c = c.in_ok-made.ensures.compiled.image

pub returns-clause-summary : goal.returns-clause-summary
returns-clause-summary c =
    let made = c.in_ok-made.made in
    let is = c.in_ok-made.ensures.compiled in
    rw (c.deref.ensures.value ∙ c.in_ok-net.ensures.text ∙ ap net_text c.from.ensures, c.deref-2.ensures.value ∙ c.in_ok-src.ensures.text ∙ ap src_text c.from-2.ensures) at
    (holds_of_read c.deref.result.now c.deref-2.result.now made.modes made.typed is.read.net_file is.read.width is.read.src_file (IsSummaryOf c.args.number c.in_ok-text.text.items)
    (record { image = made.image; right = is.image; shown = c.in_ok-text.ensures }))
