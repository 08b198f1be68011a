use Rattle.grammar.proofs.Passing.{gives_too}
use Rattle.grammar.proofs.Tokens.{word_leads}
use Rattle.net_parser.proofs.ItemParts.{no_item}
use Rattle.net_model.specs.Grammar.{ItemByWord}
use Rattle.net_model.specs.Written.{model_of_unit}
use Rattle.net_parser.proofs.item.item.Goals as goal

pub returns-in_default : goal.returns-in_default
returns-in_default c = no_item c.in_default.ensures

pub returns : goal.returns
returns c = gives_too (λ x. (model_of_unit x.0, x.1.now)) (word_leads ItemByWord c.in-Some.ensures.parts c.in-Some.ensures.is) c.item_behind.result c.item_behind.ensures
