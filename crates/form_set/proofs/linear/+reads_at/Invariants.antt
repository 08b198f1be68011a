use Rattle.form_set.proofs.linear.+reads_at.Given as goal

-- parts come before their wholes
abbrev pub decreases-reads_at : goal.decreases-reads_at
decreases-reads_at l = l.expr
