use Rattle.std.proofs.Common.{◌≡◌, List, map, subst, sym}
use Rattle.form_model.specs.declared.forms.Step.{Step}
use Rattle.form_model.specs.Live.{regs_of, singles}
use Rattle.word_fit.specs.Groups.{lives_of}
use Rattle.compaction.specs.Machines.{known_fits, known_operation}
use Rattle.compaction.specs.Inner.Machines.{HaveFound, PackedTo}
use Rattle.compaction.proofs.Found.{none_found}
use Rattle.compaction.proofs.draft.draft_of.Goals as goal

pub returns-clause-draft : goal.returns-clause-draft
returns-clause-draft c =
    let known = c.args.known.now in
    let m = known_operation known in
    let after = regs_of c.args.after in
    record {
      lives = subst (λ (z : List (List Step)). map regs_of c.in_ok-lives.lives.items ≡ lives_of m z after) c.as_slice.ensures.value c.in_ok-lives.ensures;
      found =
          subst (λ z. HaveFound known c.in_ok-found.found.items z after) (sym c.in_ok-groups.ensures)
          (subst (λ z. HaveFound known z (singles c.args.steps.now) after) (sym c.in_ok-found.ensures)
          (none_found m (known_fits known) after c.args.steps.now));
      packed = subst (λ (z : List (List Step)). PackedTo known after 0 z) (sym c.in_ok-groups.ensures) c.requires.start;
    }
