use Rattle.std.proofs.Common.{◌≡◌, ℕ, ◌<◌, ◌^◌, false, length, nat_eq, IsTrue, ◌↔◌, sym, ◌∙◌, subst}
use Rattle.std.proofs.lemmas.Bool.{eqb-true, eq-eqb}
use Rattle.bit_bdd.specs.Diagrams.{Diagrams, set_of, bits_of}
use Rattle.bit_bdd.proofs.Canonical.{empty_id}
use Rattle.bit_bdd.proofs.Book.is_empty.Goals as goal

pub returns : goal.returns
returns c =
    let within = subst (λ (d : Diagrams). c.args.a < length d.nodes) (sym c.self.view_is) c.requires in
    subst (λ (d : Diagrams). IsTrue (nat_eq c.args.a c.constant.result) ↔ ((word : ℕ) → word < 2 ^ d.bits → set_of d.nodes c.args.a (bits_of word) ≡ false)) c.self.view_is
    (empty_id _ c.self.invariant.reduced c.args.a within (nat_eq c.args.a c.constant.result)
    (λ h. eqb-true c.args.a c.constant.result h ∙ c.constant.ensures.id, λ h. eq-eqb c.args.a c.constant.result (h ∙ sym c.constant.ensures.id)))
