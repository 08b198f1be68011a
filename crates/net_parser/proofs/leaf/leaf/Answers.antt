use Rattle.grammar.proofs.Passing.{gives_too}
use Rattle.grammar.proofs.Tokens.{word_leads, word_ended, word_missed}
use Rattle.net_model.specs.Grammar.{LeafBehind}
use Rattle.net_model.specs.Written.{model_of_net_expr}
use Rattle.net_parser.proofs.Leaves.{there_leaf, no_leaf}
use Rattle.net_parser.proofs.leaf.leaf.Goals as goal

pub returns-in_default : goal.returns-in_default
returns-in_default c = word_ended LeafBehind there_leaf c.in_default.ensures

pub returns-in-Name : goal.returns-in-Name
returns-in-Name c = gives_too (λ x. (model_of_net_expr x.0, x.1.now)) (word_leads LeafBehind c.in-Some.ensures c.in-Name.is) c.named.result c.named.ensures

pub returns-in-Number : goal.returns-in-Number
returns-in-Number c = gives_too (λ x. (model_of_net_expr x.0, x.1.now)) (word_leads LeafBehind c.in-Some.ensures c.in-Number.is) c.constant.result c.constant.ensures

pub returns-in_default-word : goal.returns-in_default-word
returns-in_default-word c = word_missed LeafBehind there_leaf c.in-Some.ensures (λ x v h. no_leaf c.in-Some.t.now.word c.in_default-word.not-Name c.in_default-word.not-Number c.in-Some.t.now.at x v h)
