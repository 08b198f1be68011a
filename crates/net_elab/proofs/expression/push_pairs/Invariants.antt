use Rattle.std.proofs.Common.{◌≡◌, ℕ, map, drop, ◌++◌}
use Rattle.net_elab.proofs.expression.push_pairs.Given as goal

abbrev pub invariant-loop-number : goal.invariant-loop-number
invariant-loop-number l = l.pairs ++ map (λ (n : ℕ). (n, l.net)) (drop l.number-index l.numbers) ≡ l.fn.pairs ++ map (λ (n : ℕ). (n, l.net)) l.numbers
