use Rattle.form_set.proofs.copies.sides_at.Goals as goal

pub returns-clause-levels : goal.returns-clause-levels
returns-clause-levels c = record { addr = c.in_ok-addr.ensures.levels; value = c.in_ok-value.ensures.levels }
