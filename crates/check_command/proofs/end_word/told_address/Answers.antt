use Rattle.check_command.proofs.end_word.told_address.Goals as goal

pub written_address-requires : goal.written_address-requires
written_address-requires c = c.requires c.in-Some.found c.in-Some.is
