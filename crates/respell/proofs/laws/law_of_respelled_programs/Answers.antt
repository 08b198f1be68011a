use Rattle.respell.proofs.RespelledPrograms.{program_told}
use Rattle.respell.proofs.laws.law_of_respelled_programs.Goals as goal

pub returns : goal.returns
returns c = λ m temps l turned own respelled r d. program_told m temps l turned own respelled r d
