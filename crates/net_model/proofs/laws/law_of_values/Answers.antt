use Rattle.net_model.proofs.Meanings.{value_is_mean}
use Rattle.net_model.proofs.laws.law_of_values.Goals as goal

pub returns : goal.returns
returns c = λ netlist s word typed controlled fits word_fits n. value_is_mean netlist s word typed controlled fits word_fits n
