use Rattle.segment.specs.Copied.{IsCopy}
use Rattle.class_values.proofs.Made.{some_of}
use Rattle.segment.proofs.Copying.{copy_kept}
use Rattle.segment.proofs.rounds.Source.both.Goals as goal

pub returns-clause-first : goal.returns-clause-first
returns-clause-first c =
    let table = c.args.self.now.table.now in
    let facts = c.args.self.now.facts.now in
    let x = c.in-Some.first in
    copy_kept table facts c.copied.new.to c.copied-2.new.to c.copied-2.ensures.grows c.args.a x (some_of (IsCopy table facts c.copied.new.to c.args.a) c.in_ok-first.field-0 x c.in-Some.is c.in_ok-first.ensures.is)

pub returns-clause-second : goal.returns-clause-second
returns-clause-second c =
    some_of (IsCopy c.args.self.now.table.now c.args.self.now.facts.now c.copied-2.new.to c.args.b) c.in_ok-second.field-0 c.in-Some-2.second c.in-Some-2.is c.in_ok-second.ensures.is
