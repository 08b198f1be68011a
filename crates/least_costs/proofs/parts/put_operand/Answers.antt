use Rattle.std.proofs.Common.{refl, subst, sym}
use Rattle.least_costs.specs.Searches.{HasOperand}
use Rattle.least_costs.proofs.parts.put_operand.Goals as goal

pub returns-in_ok-push-in-Operand : goal.returns-in_ok-push-in-Operand
returns-in_ok-push-in-Operand c =
    subst (λ p. HasOperand p c.args.out.now.items c.push.new.self.items) (sym c.in-Operand.is) (_, c.in_ok-push-in-Operand.ensures.items, refl, refl)
