use Rattle.dual_bank.proofs.Held.{bank_held, bank_room}
use Rattle.dual_bank.proofs.laws.law_of_banks.Goals as goal

pub returns-clause-held : goal.returns-clause-held
returns-clause-held c = bank_held

pub returns-clause-room : goal.returns-clause-room
returns-clause-room c = bank_room
