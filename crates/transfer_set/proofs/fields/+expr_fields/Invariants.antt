use Rattle.transfer_set.proofs.fields.+expr_fields.Given as goal

-- parts come before their wholes
abbrev pub decreases-expr_fields : goal.decreases-expr_fields
decreases-expr_fields l = l.expr
