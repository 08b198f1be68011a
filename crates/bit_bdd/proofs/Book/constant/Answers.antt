use Rattle.std.proofs.Common.{◌≡◌, if◌then◌else◌, rules, subst}
use Rattle.bit_bdd.specs.Diagrams.{Diagrams, set_of}
use Rattle.bit_bdd.specs.Shape.{AsksBelow}
use Rattle.bit_bdd.proofs.Canonical.{constant_set, constant_below}
use Rattle.bit_bdd.proofs.Book.constant.Goals as goal

id_is : (c : goal.After-from) → c.from.result ≡ (if c.args.value then 1 else 0)
id_is c = search rules

pub returns-clause-below : goal.returns-clause-below
returns-clause-below c =
    rw (id_is c) (subst (λ (d : Diagrams). AsksBelow d (if c.args.value then 1 else 0) 0) c.self.view_is (constant_below _ c.self.invariant.reduced c.args.value))

pub returns-clause-set : goal.returns-clause-set
returns-clause-set c =
    rw (id_is c)
    (subst (λ (d : Diagrams). set_of d.nodes (if c.args.value then 1 else 0) ≡ (λ _. c.args.value)) c.self.view_is (constant_set _ c.self.invariant.reduced c.args.value))
