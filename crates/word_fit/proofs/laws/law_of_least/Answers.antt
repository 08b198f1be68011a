use Rattle.word_fit.specs.Fits.{fits_over}
use Rattle.word_fit.proofs.Least.{all_fit, least_one}
use Rattle.word_fit.proofs.laws.law_of_least.Goals as goal

pub returns-clause-fits : goal.returns-clause-fits
returns-clause-fits c = λ netlist m words groups after l. all_fit m (fits_over netlist m) after words groups l

pub returns-clause-one : goal.returns-clause-one
returns-clause-one c = λ netlist m words others groups after a b. least_one m (fits_over netlist m) after words others groups a b
