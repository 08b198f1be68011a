use Rattle.sym_run.proofs.Writing.{listed_array, numbered_array}
use Rattle.sym_run.proofs.moves.is_of_array.Goals as goal

pub returns-then-is_listed : goal.returns-then-is_listed
returns-then-is_listed c e = listed_array c.args.table.now c.args.facts.now c.args.known.now c.args.class (c.is_listed.ensures c.if-is_listed.true)

pub returns : goal.returns
returns c e = numbered_array c.args.table.now c.args.facts.now c.args.known.now c.args.class c.in-Some.address c.in-Some.ensures (c.is_array_at.ensures e)
