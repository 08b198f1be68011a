use Rattle.std.proofs.Common.{arith, ◌+◌, ◌<◌, ◌∙◌, sym, ap, length, drop, get_or, add-one, slice_get}
use Rattle.std.proofs.lemmas.List.{drop_more}
use Rattle.std.proofs.lemmas.Option.{slice_get-get_or}
use Rattle.form_model.specs.declared.flow.Flow.TheVariants.{Assign}
use Rattle.form_model.specs.Forms.{models_of_forms}
use Rattle.src_trees.specs.Blocks.{continues}
use Rattle.branch_fix.specs.Parts.{blocks_before, parts_of, place_blocks, place_tests, tests_before}
use Rattle.branch_fix.proofs.Laying.{made_more}
use Rattle.branch_fix.proofs.cut.parts.Goals as goal

pub loop-at-preserved : goal.loop-at-preserved
loop-at-preserved c =
    let o = c.args.outline.now in
    let forms = models_of_forms o.forms.now.list.items in
    let flow = o.flow.now in
    let at = c.loop-at.at in
    let within : at < length flow = omega arith in
    let here = slice_get-get_or flow at (Assign 0) within in
    let before = c.loop-at.before in
    let i = c.loop-at.invariant in
    let next = c.in_ok-before.ensures in
    record {
      made = made_more forms flow o.sizes.now o.branches.now (get_or flow at (Assign 0)) (drop at flow) (drop (at + 1) flow)
          at before.blocks before.tests c.loop-at.parts c.push.new.self (parts_of forms flow o.sizes.now o.branches.now) c.part_at.result
          (drop_more flow at (Assign 0) within) (c.part_at.ensures (get_or flow at (Assign 0)) here) i.blocks i.tests c.in_ok-push.ensures.pushed i.made;
      blocks = next.blocks ∙ ap (λ n. n + place_blocks (slice_get flow at) (continues flow at)) i.blocks ∙ sym (ap (blocks_before flow) (add-one at));
      tests = next.tests ∙ ap (λ n. n + place_tests (slice_get flow at)) i.tests ∙ sym (ap (tests_before flow) (add-one at));
      few = next.few;
    }
