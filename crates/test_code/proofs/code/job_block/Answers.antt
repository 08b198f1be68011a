use Rattle.std.proofs.Common.{◌≡◌, ◌∙◌, List, ap, subst, sym}
use Rattle.std.proofs.lemmas.Result.{IfOk-from_err}
use Rattle.compaction.specs.Laws.{operation_in}
use Rattle.cover.specs.Best.{model_of_job_cover}
use Rattle.form_model.specs.Covers.{stock_with}
use Rattle.form_model.specs.declared.forms.Step.{Step}
use Rattle.form_model.specs.Live.{Regs, no_regs, regs_of, singles}
use Rattle.form_model.specs.Forms.{models_of_forms}
use Rattle.form_model.specs.Steps.{cover_steps}
use Rattle.src_trees.specs.Jobs.{model_of_job}
use Rattle.word_fit.specs.Fits.{fits_over}
use Rattle.word_fit.specs.Groups.{AllHaveWords}
use Rattle.right_code.specs.Jobs.{job_steps, tree_or_none}
use Rattle.code_gen.specs.Blocks.{IsPackedBlock}
use Rattle.code_gen.specs.Machines.{known_netlist, known_patterns}
use Rattle.code_gen.proofs.Packing.{none_live, told_words}
use Rattle.test_code.proofs.Fitting.{job_have, words_fit}
use Rattle.test_code.proofs.code.job_block.Goals as goal

pub emit-requires : goal.emit-requires
emit-requires c = c.requires.chosen.covers

pub pack_block-requires-clause-words : goal.pack_block-requires-clause-words
pack_block-requires-clause-words c =
    let netlist = known_netlist c.args.known.now in
    let order = c.args.known.now.machine.checked.now.order in
    let keeps = c.netlist-netlist.ensures.kept in
    let patterns = known_patterns c.args.known.now in
    let forms = c.args.stock.now.forms.now in
    let stock = stock_with forms.list.items c.args.stock.now.temps forms.file in
    let job = model_of_job c.args.job.now in
    let choice = model_of_job_cover c.args.chosen.now in
    let emitted = c.in_ok-emitted.ensures in
    let is : c.as_slice.result.now ≡ job_steps stock job choice =
    c.as_slice.ensures ∙ emitted.steps ∙ ap (λ x. cover_steps stock job.destination x choice.cover) (sym (ap tree_or_none emitted.used)) in
    told_words c.args.known.now.machine _ _ c.requires.ready.patterns.file
    (subst (λ (steps : List Step). AllHaveWords (operation_in netlist patterns) (fits_over netlist (operation_in netlist patterns)) (singles steps) (regs_of 0)) (sym is)
    (job_have netlist order keeps patterns c.requires.patterns (models_of_forms forms.list.items) forms.reach c.requires.forms c.args.stock.now.temps forms.file job choice c.requires.job c.requires.file c.requires.chosen))

pub returns-clause-words : goal.returns-clause-words
returns-clause-words c =
    let netlist = known_netlist c.args.known.now in
    let patterns = known_patterns c.args.known.now in
    let stock = stock_with c.args.stock.now.forms.now.list.items c.args.stock.now.temps c.args.stock.now.forms.now.file in
    let job = model_of_job c.args.job.now in
    let choice = model_of_job_cover c.args.chosen.now in
    let emitted = c.in_ok-emitted.ensures in
    let is : c.as_slice.result.now ≡ job_steps stock job choice =
    c.as_slice.ensures ∙ emitted.steps ∙ ap (λ x. cover_steps stock job.destination x choice.cover) (sym (ap tree_or_none emitted.used)) in
    let packed : IsPackedBlock netlist patterns (job_steps stock job choice) no_regs c.in_ok-block.block =
    subst (λ (after : Regs). IsPackedBlock netlist patterns (job_steps stock job choice) after c.in_ok-block.block) none_live
    (subst (λ (steps : List Step). IsPackedBlock netlist patterns steps (regs_of 0) c.in_ok-block.block) is c.in_ok-block.ensures.packed) in
    record { groups = c.in_ok-block.block.groups; packing = packed.packing; least = packed.least }

pub returns-clause-fit : goal.returns-clause-fit
returns-clause-fit c =
    let packed = c.in_ok-block.ensures.packed in
    words_fit (known_netlist c.args.known.now) (known_patterns c.args.known.now) c.in_ok-block.block.groups (regs_of 0) c.in_ok-block.block.words packed.least

pub returns-in_err-block-clause-words : goal.returns-in_err-block-clause-words
returns-in_err-block-clause-words c = IfOk-from_err c.from_residual-in_err-block.result _ c.from_residual-in_err-block.ensures.0

pub returns-in_err-block-clause-fit : goal.returns-in_err-block-clause-fit
returns-in_err-block-clause-fit c = IfOk-from_err c.from_residual-in_err-block.result _ c.from_residual-in_err-block.ensures.0

pub returns-in_err-emitted-clause-words : goal.returns-in_err-emitted-clause-words
returns-in_err-emitted-clause-words c = IfOk-from_err c.from_residual.result _ c.from_residual.ensures.0

pub returns-in_err-emitted-clause-fit : goal.returns-in_err-emitted-clause-fit
returns-in_err-emitted-clause-fit c = IfOk-from_err c.from_residual.result _ c.from_residual.ensures.0
