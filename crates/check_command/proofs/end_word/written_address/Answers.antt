use Rattle.std.proofs.Common.{subst}
use Rattle.word_moves.specs.Moves.{IsMoveWithin}
use Rattle.word_moves.specs.declared.moves.StorageMove.{StorageMove}
use Rattle.check_command.proofs.end_word.written_address.Goals as goal

pub plain_address-requires : goal.plain_address-requires
plain_address-requires c = subst (λ (m : StorageMove). IsMoveWithin c.args.pool.now m) c.in-Write.is c.requires
