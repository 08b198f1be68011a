use Rattle.std.proofs.Common.{List, subst, sym}
use Rattle.form_model.specs.declared.forms.Step.{Step}
use Rattle.form_model.specs.Live.{regs_of}
use Rattle.word_fit.specs.Groups.{AreLeast}
use Rattle.compaction.specs.Machines.{known_fits, known_operation}
use Rattle.compaction.proofs.packer.packed.Goals as goal

pub group_words-requires-clause-draft : goal.group_words-requires-clause-draft
group_words-requires-clause-draft c = (regs_of c.args.after, c.in_ok-draft.ensures.draft)

pub returns-clause-least : goal.returns-clause-least
returns-clause-least c =
    let known = c.args.known.now in
    let after = regs_of c.args.after in
    subst (λ (z : List (List Step)). AreLeast (known_operation known) (known_fits known) c.in_ok-words.words z after) (sym c.from_vec.ensures)
    (c.in_ok-words.ensures.least after c.in_ok-draft.ensures.draft)
