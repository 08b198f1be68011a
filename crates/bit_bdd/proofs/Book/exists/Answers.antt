use Rattle.std.proofs.Common.{◌≡◌, ℕ, ◌<◌, ◌^◌, ◌↔◌, true, subst}
use Rattle.std.proofs.lemmas.Result.{IfOk-weaker}
use Rattle.bit_bdd.specs.Diagrams.{Diagrams, CanReach, has_word, set_of}
use Rattle.bit_bdd.specs.Shape.{IsProjection, IsReducedBook}
use Rattle.bit_bdd.proofs.Words.{can_reach}
use Rattle.bit_bdd.proofs.Book.exists.Goals as goal

pub returns-clause-words : goal.returns-clause-words
returns-clause-words c =
    let old = c.args.self.now in
    let new = c.project.new.self in
    let book = subst (λ (d : Diagrams). IsReducedBook d.bits d.nodes) c.self.view_is c.self.invariant.reduced in
    let mask = c.args.bits in
    IfOk-weaker c.project.result (λ id. IsProjection mask (set_of old.nodes c.args.a) (set_of new.nodes id))
    (λ id. (word : ℕ) → word < 2 ^ old.bits → (has_word new id word ≡ true) ↔ CanReach old c.args.a mask word)
    (λ id is. can_reach old book c.args.a mask c.requires (set_of new.nodes id) is) c.project.ensures.is
