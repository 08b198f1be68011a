use Rattle.form_set.proofs.shapes.+is_static.Given as goal

-- parts come before their wholes
abbrev pub decreases-is_static : goal.decreases-is_static
decreases-is_static l = l.expr
