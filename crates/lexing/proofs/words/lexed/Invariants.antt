use Rattle.std.proofs.Common.{◌≡◌, take, map}
use Rattle.lexing.specs.Words.{lexed_of}
use Rattle.lexing.proofs.words.lexed.Given as goal

abbrev pub invariant-loop-token : goal.invariant-loop-token
invariant-loop-token g l = l.list.items ≡ map (lexed_of g.V.Vocabulary.reserved g.V.Vocabulary.sign l.bytes) (take l.token-index l.tokens)
