use Rattle.std.proofs.Common.{◌∙◌, arith}
use Rattle.segment.specs.Copied.{IsCopy}
use Rattle.segment.proofs.Copying.{copies_alike}
use Rattle.sym_run.proofs.Walking.{answer_of}
use Rattle.segment.specs.declared.rounds.Pair.{Pair}
use Rattle.segment.proofs.rounds.Source.+are_one_by.Goals as goal

pub returns-then-are_same : goal.returns-then-are_same
returns-then-are_same t c e =
    let table = c.args.self.now.table.now in
    let facts = c.args.self.now.facts.now in
    let to = c.both.new.to in
    let pair = c.in-Some.pair in
    copies_alike table facts to (c.in_ok-pair.ensures.grows.bits ∙ c.requires) c.args.a c.args.b pair.first pair.second
    (answer_of (λ (p : Pair). IsCopy table facts to c.args.a p.first) c.in_ok-pair.field-0 pair c.in-Some.is c.in_ok-pair.ensures.first)
    (answer_of (λ (p : Pair). IsCopy table facts to c.args.b p.second) c.in_ok-pair.field-0 pair c.in-Some.is c.in_ok-pair.ensures.second)
    (c.are_same.ensures c.if-are_same.true)

pub are_one_by-requires : goal.are_one_by-requires
are_one_by-requires t c = (omega (arith, c.decreases, c.if-count-eq0.false), c.round.ensures ∙ c.in_ok-pair.ensures.grows.bits ∙ c.requires)
