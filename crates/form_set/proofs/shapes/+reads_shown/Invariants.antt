use Rattle.form_set.proofs.shapes.+reads_shown.Given as goal

-- parts come before their wholes
abbrev pub decreases-reads_shown : goal.decreases-reads_shown
decreases-reads_shown l = l.expr
