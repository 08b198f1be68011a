use Rattle.check_command.proofs.checking.Read.passed.Goals as goal

pub returns-in-Ok-clause-passed : goal.returns-in-Ok-clause-passed
returns-in-Ok-clause-passed c = record { relation = _; has = c.in-Ok.ensures.passed }
