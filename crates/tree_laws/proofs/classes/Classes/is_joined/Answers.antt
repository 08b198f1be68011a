use Rattle.std.proofs.Common.{◌≡◌, ◌<◌, ◌≤◌, arith, eqb-true, sym, ◌∙◌}
use Rattle.std.proofs.lemmas.Bool.{le-ltb}
use Rattle.tree_laws.specs.Classes.{class_count, head_in}
use Rattle.tree_laws.proofs.Found.{apart_there, joined_there}
use Rattle.tree_laws.proofs.Meanings.{heads_one}
use Rattle.tree_laws.proofs.classes.Classes.is_joined.Goals as goal

pub returns-then-b-len-clause-one : goal.returns-then-b-len-clause-one
returns-then-b-len-clause-one c = λ e.
    let self = c.args.self.now in
    let there : c.args.b < class_count self = omega (arith, c.if-b-len.true, c.len.ensures) in
    let same : head_in self c.args.a ≡ head_in self c.args.b = sym c.head.ensures ∙ eqb-true c.head.result c.head-then-b-len.result e ∙ c.head-then-b-len.ensures in
    heads_one self c.args.a c.args.b (joined_there self c.args.a c.args.b there same) there same

pub returns-else-b-len-clause-heads : goal.returns-else-b-len-clause-heads
returns-else-b-len-clause-heads c = λ la.
    let past : c.len.result ≤ c.args.b = c.if-b-len.false in
    le-ltb c.args.b c.len.result past ∙ sym (apart_there c.args.self.now c.args.a c.args.b la (omega (arith, past, c.len.ensures)))
