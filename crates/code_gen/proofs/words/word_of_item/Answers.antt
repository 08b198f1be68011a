use Rattle.std.proofs.lemmas.Result.{IfOk-from_err}
use Rattle.code_gen.proofs.words.word_of_item.Goals as goal

pub returns-in_err-patterns-in-Group-clause-word : goal.returns-in_err-patterns-in-Group-clause-word
returns-in_err-patterns-in-Group-clause-word c = IfOk-from_err c.from_residual.result _ c.from_residual.ensures.0

pub returns-in_err-patterns-in-Jump-clause-word : goal.returns-in_err-patterns-in-Jump-clause-word
returns-in_err-patterns-in-Jump-clause-word c = IfOk-from_err c.from_residual-in_err-patterns-in-Jump.result _ c.from_residual-in_err-patterns-in-Jump.ensures.0

pub returns-in_err-word-in-Jump-clause-word : goal.returns-in_err-word-in-Jump-clause-word
returns-in_err-word-in-Jump-clause-word c = IfOk-from_err c.from_residual-in_err-word-in-Jump.result _ c.from_residual-in_err-word-in-Jump.ensures.0
