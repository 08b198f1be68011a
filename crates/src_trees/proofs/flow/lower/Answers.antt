use Rattle.std.proofs.Common.{subst, sym, map}
use Rattle.src_model.specs.Written.{model_of_stmt, stmts_of}
use Rattle.src_trees.specs.Lowered.{MemoryMap}
use Rattle.src_trees.specs.Inner.Lowering.{ArePlain}
use Rattle.src_trees.proofs.Plain.{body_plain}
use Rattle.src_trees.proofs.flow.lower.Goals as goal

pub lower_body-requires-clause-plain : goal.lower_body-requires-clause-plain
lower_body-requires-clause-plain c =
    subst (λ (m : MemoryMap). ArePlain m.word m.places (stmts_of (map model_of_stmt c.as_slice-2.result.now))) (sym c.new-memory.ensures)
    (body_plain c.args.typed.now.width c.width.result c.args.typed.now.program c.program.result.now c.args.places.now c.as_slice.result.now c.as_slice-2.result.now c.width.ensures.value c.program.ensures.value c.as_slice-2.ensures.value c.as_slice.ensures
    c.width.ensures.kept c.requires.held.stand c.requires.few)
