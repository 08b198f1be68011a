use Rattle.std.proofs.Common.{ap, map}
use Rattle.form_model.specs.Trees.{model_of_tree}
use Rattle.src_trees.specs.Jobs.{model_of_job}
use Rattle.std.proofs.lemmas.Result.{on_ok_weaker}
use Rattle.mark_start.proofs.Telling.{mark_told}
use Rattle.mark_start.proofs.Learning.{nothing_on}
use Rattle.mark_start.proofs.run.Start.tell.Goals as goal

pub returns : goal.returns
returns c =
    let seg = c.args.self.now in
    let t4 = c.all_elements.new.table in
    let r4 = c.all_elements.new.run in
    on_ok_weaker c.all_elements.result
    (mark_told seg (model_of_job c.args.job.now) c.as_slice.result.now c.as_slice-2.result.now (map model_of_tree c.as_slice-3.result.now)
    c.as_slice.ensures c.as_slice-2.ensures (ap (map model_of_tree) c.as_slice-3.ensures.value)
    c.args.table.now c.all_symbols.new.table c.views.new.table c.numbers.new.table t4
    c.args.run.now c.all_symbols.new.run c.views.new.run c.numbers.new.run r4
    (nothing_on seg c.args.table.now c.count.new.table c.all_symbols.new.table c.args.run.now c.count.new.run c.all_symbols.new.run c.in_ok-count.ensures c.in_ok-all_symbols.ensures)
    c.in_ok-views.ensures c.in_ok-numbers.ensures) c.all_elements.ensures
