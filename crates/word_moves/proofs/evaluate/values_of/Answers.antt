use Rattle.net_model.proofs.Fits.{zeros_fit}
use Rattle.word_moves.proofs.Evaluated.{blank_fits}
use Rattle.word_moves.proofs.evaluate.values_of.Goals as goal

pub evaluate-requires-clause-fit : goal.evaluate-requires-clause-fit
evaluate-requires-clause-fit c = rw c.in_ok-values.ensures (zeros_fit _ _)

pub evaluate-requires-clause-state : goal.evaluate-requires-clause-state
evaluate-requires-clause-state c = rw c.blank_state-state.ensures (blank_fits _)
