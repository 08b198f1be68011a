use Rattle.src_model.specs.Written.{model_of_program}
use Rattle.follow.proofs.Whole.{followed_right}
use Rattle.followed.proofs.Laying.{words_fit}
use Rattle.followed.proofs.Leads.{both_ok}
use Rattle.followed.proofs.checks.passes.Goals as goal

pub passed-requires-clause-words : goal.passed-requires-clause-words
passed-requires-clause-words c =
    words_fit c.args.claim.now.checked.now.netlist c.args.claim.now.checked.now.order c.netlist-netlist.ensures.kept c.args.claim.now.viewed.now.image.words c.requires.words

pub returns-clause-passed : goal.returns-clause-passed
returns-clause-passed c =
    both_ok c.passed.result _ _ _
    (λ found h ways. record {
      right = followed_right c.args.claim.now.checked.now.netlist c.args.claim.now.typed.now.width (model_of_program c.args.claim.now.typed.now.program) c.args.claim.now.viewed.now _ h;
      ways = ways;
    }) c.passed.ensures.passes c.passed.ensures.ways
