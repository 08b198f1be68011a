use Rattle.std.proofs.Common.{ℕ, List, length, subst, ◌∙◌}
use Rattle.asm_text.specs.Inner.Numbers.{HasNumbers}
use Rattle.asm_text.proofs.Numbered.{found_only, found_some}
use Rattle.asm_text.proofs.table.Transfers.number.Goals as goal

pub returns-clause-some : goal.returns-clause-some
returns-clause-some c =
    let has = subst (λ (texts : List (List ℕ)). HasNumbers c.self.inside.numbers.entries texts (length texts)) c.self.view_is c.self.invariant in
    found_some c.self.inside.numbers.entries c.args.self.now has c.args.text.now c.copied.result (c.copied.ensures ∙ c.get.ensures.value)

pub returns-clause-only : goal.returns-clause-only
returns-clause-only c =
    let has = subst (λ (texts : List (List ℕ)). HasNumbers c.self.inside.numbers.entries texts (length texts)) c.self.view_is c.self.invariant in
    λ number lt is none.
    found_only c.self.inside.numbers.entries c.args.self.now has c.args.text.now c.copied.result (c.copied.ensures ∙ c.get.ensures.value) number lt is none
