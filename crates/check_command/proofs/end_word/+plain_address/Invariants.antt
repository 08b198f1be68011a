use Rattle.check_command.proofs.end_word.+plain_address.Given as goal

abbrev pub decreases-plain_address : goal.decreases-plain_address
decreases-plain_address l = l.id
