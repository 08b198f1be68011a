use Rattle.std.proofs.Common.{◌≡◌, ◌↔◌, ℕ, Option, Some, IsTrue, subst}
use Rattle.check_command.proofs.end_word.goes_to.Goals as goal

pub returns : goal.returns
returns c = subst (λ (told : Option ℕ). IsTrue c.is_told.result ↔ (told ≡ Some c.args.address)) c.told_address.ensures c.is_told.ensures
