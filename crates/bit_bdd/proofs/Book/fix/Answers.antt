use Rattle.std.proofs.lemmas.Grind.{common_steps}
use Rattle.std.proofs.Common.{◌≡◌, ℕ, ◌*◌, ◌%◌, ◌^◌, ◌<◌, ◌≤◌, subst, ap, ◌∙◌, arith}
use Rattle.std.proofs.lemmas.Result.{IfOk-weaker}
use Rattle.bit_bdd.specs.Diagrams.{Diagrams, bits_of, has_word, set_of, with_bit}
use Rattle.bit_bdd.specs.Shape.{IsProjection, choice}
use Rattle.bit_bdd.proofs.Reduced.{same_set}
use Rattle.bit_bdd.proofs.Words.{fix_point, with_bit_point}
use Rattle.bit_bdd.proofs.Book.fix.Goals as goal

pub returns-clause-words : goal.returns-clause-words
returns-clause-words c =
    let old = c.args.self.now in
    let asked = c.literal.new.self in
    let new = c.project.new.self in
    let few = subst (λ (d : Diagrams). d.bits ≤ 64) c.self.view_is c.self.invariant.reduced.few in
    let small : c.args.bit < 64 = omega (arith, few, c.requires.bit) in
    let a = same_set old asked c.in_ok-asked.ensures.grows c.args.a c.requires.a in
    let both = c.in_ok-both.ensures.set ∙ (λ j. choice (c.in_ok-asked.ensures.set j) (a j) (set_of asked.nodes c.constant-empty.result)) in
    IfOk-weaker c.project.result (λ id. IsProjection (1 * 2 ^ c.args.bit % 18446744073709551616) (set_of c.choose.new.self.nodes c.in_ok-both.both) (set_of new.nodes id))
    (λ id. (word : ℕ) → has_word new id word ≡ has_word old c.args.a (with_bit word c.args.bit c.args.value))
    (λ id is word. fix_point c.args.bit small c.args.value (set_of old.nodes c.args.a) _ (set_of new.nodes id) _ both c.constant-empty.ensures.set is (bits_of word)
    ∙ ap (set_of old.nodes c.args.a) (with_bit_point word c.args.bit c.args.value)) c.project.ensures.is

pub returns-in_err-both-clause-grows : goal.returns-in_err-both-clause-grows
returns-in_err-both-clause-grows c = grind (arith, common_steps)

pub returns-clause-grows : goal.returns-clause-grows
returns-clause-grows c = grind (arith, common_steps)
