use Rattle.std.proofs.Common.{◌≡◌, rules, subst}
use Rattle.lexing.specs.Table.{Lexicon, is_reserved}
use Rattle.lexing.proofs.Lists.{list_any_map}
use Rattle.lexing.proofs.language.Language.is_reserved.Goals as goal

pub returns : goal.returns
returns c = subst (λ (table : Lexicon). c.is_one_of.result ≡ is_reserved table c.args.name.now) c.self.view_is (rw list_any_map (search rules))
