use Rattle.law_rounds.proofs.gate.+uses.Given as goal

-- parts come before their wholes
abbrev pub decreases-uses : goal.decreases-uses
decreases-uses l = l.top
