use Rattle.std.proofs.Common.{◌+◌, ◌*◌, ◌-◌, length}
use Rattle.grammar.specs.Reading.{Within, Tail, Leads}
use Rattle.src_model.specs.Grammar.{op_at, join, Chains, IsUnary}
use Rattle.src_model.specs.Written.{model_of_src_expr}
use Rattle.src_parser.specs.Inner.Steps.{after}
use Rattle.src_parser.proofs.expression.+expr.Given as goal

abbrev pub decreases-bracket : goal.decreases-bracket
decreases-bracket l = 30 * l.levels + 19

abbrev pub decreases-index : goal.decreases-index
decreases-index l = 30 * l.levels + 1

abbrev pub decreases-named : goal.decreases-named
decreases-named l = 30 * l.levels + 2

abbrev pub decreases-unary : goal.decreases-unary
decreases-unary l = 30 * l.levels + 3

abbrev pub decreases-signed : goal.decreases-signed
decreases-signed l = 30 * l.levels + 4

abbrev pub decreases-tail : goal.decreases-tail
decreases-tail l = 30 * l.levels + 2 * l.k + 4

abbrev pub decreases-chain : goal.decreases-chain
decreases-chain l = 30 * l.levels + 2 * l.k + 5

abbrev pub decreases-closed : goal.decreases-closed
decreases-closed l = 30 * l.levels + 18

abbrev pub decreases-argument : goal.decreases-argument
decreases-argument l = 30 * l.levels + 18

abbrev pub decreases-enclosed : goal.decreases-enclosed
decreases-enclosed l = 30 * l.levels + 19

abbrev pub decreases-call : goal.decreases-call
decreases-call l = 30 * l.levels + 19

abbrev pub decreases-opened : goal.decreases-opened
decreases-opened l = 30 * l.levels + 20

-- what completes the chain so far completes it behind its first operand
abbrev pub invariant-tail-chain : goal.invariant-tail-chain
invariant-tail-chain l = Leads (λ v. v) (Within l.spare (Tail (Chains (l.k - 1) (IsUnary l.levels)) (op_at l.k) join (model_of_src_expr l.left))) (after l.k) l.rest
    (Within l.fn.room (Tail (Chains (l.k - 1) (IsUnary l.levels)) (op_at l.k) join (model_of_src_expr l.fn.first))) (after l.k) l.fn.ts

abbrev pub decreases-tail-chain : goal.decreases-tail-chain
decreases-tail-chain l = length l.rest
