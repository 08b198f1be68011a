use Rattle.std.proofs.Common.{refl}
use Rattle.std.proofs.lemmas.Result.{IfOk-from_err, IfOk-weaker}
use Rattle.job_places.specs.Places.{model_of_job_place}
use Rattle.src_trees.specs.Jobs.{model_of_job}
use Rattle.explain_command.specs.Explained.{IsCoverText, IsJobText}
use Rattle.explain_command.specs.Inner.Telling.{netlist_of, stock_of}
use Rattle.explain_command.specs.Lines.{job_head}
use Rattle.explain_command.proofs.Growing.{adds_both}
use Rattle.explain_command.proofs.telling.add_job.Goals as goal

pub returns : goal.returns
returns c =
    let netlist = netlist_of c.args.subject.now in
    let stock = stock_of c.args.subject.now in
    let src = c.args.subject.now.src.now in
    let spot = model_of_job_place c.args.place.now in
    let job = model_of_job c.args.job.now in
    IfOk-weaker c.add_cover.result _ _
    (λ _ told. adds_both c.args.text.now.items c.add_head.new.text.items c.add_cover.new.text.items (job_head netlist src c.args.number spot job) (IsCoverText netlist stock job)
    (IsJobText netlist stock src c.args.number spot job) (λ more is. record { cover = more; shown = is; lines = refl }) c.in_ok-add_head.ensures told)
    c.add_cover.ensures

pub returns-in_err-add_head : goal.returns-in_err-add_head
returns-in_err-add_head c = IfOk-from_err c.from_residual.result _ c.from_residual.ensures.0
