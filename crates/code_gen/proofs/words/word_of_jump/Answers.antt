use Rattle.std.proofs.lemmas.Result.{IfOk-from_err}
use Rattle.code_gen.proofs.words.word_of_jump.Goals as goal

pub returns-in_err-found-clause-least : goal.returns-in_err-found-clause-least
returns-in_err-found-clause-least c = IfOk-from_err c.from_residual.result _ c.from_residual.ensures.0
