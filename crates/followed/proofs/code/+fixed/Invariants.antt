use Rattle.followed.proofs.code.+fixed.Given as goal

abbrev pub decreases-fixed : goal.decreases-fixed
decreases-fixed l = l.id
