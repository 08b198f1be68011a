use Rattle.std.proofs.Common.{[], ap, inl, inr, refl, sym}
use Rattle.std.proofs.lemmas.List.{append-nil}
use Rattle.std.proofs.lemmas.Result.{IfOk-weaker}
use Rattle.cover.specs.Best.{model_of_job_cover}
use Rattle.src_trees.specs.Jobs.{model_of_job}
use Rattle.explain_command.specs.Inner.Telling.{netlist_of}
use Rattle.explain_command.specs.Lines.{equal_lines}
use Rattle.explain_command.proofs.equal.add_other.Goals as goal

pub returns-in-Ok : goal.returns-in-Ok
returns-in-Ok c = λ job stands.
    let lines = equal_lines (netlist_of c.args.subject.now) c.args.turned (model_of_job c.args.other.now) in
    IfOk-weaker c.add_equal_lines.result _ _
    (λ _ is. record {
      more = lines c.in-Ok.found.cost;
      is = inr (record {
        turned = c.args.turned;
        other = model_of_job c.args.other.now;
        stands = stands;
        choice = model_of_job_cover c.in-Ok.found;
        chosen = c.in-Ok.ensures.chosen;
        lines = ap lines c.in-Ok.ensures.cost;
      });
      text = is;
    })
    c.add_equal_lines.ensures

pub returns-in-Err-NoCover : goal.returns-in-Err-NoCover
returns-in-Err-NoCover c = λ job stands. record { more = []; is = inl refl; text = sym (append-nil c.args.text.now.items) }
