use Rattle.std.proofs.Common.{◌≡◌, map}
use Rattle.net_model.specs.Editions.{lexed_in}
use Rattle.net_parser.proofs.editions.edited.Given as goal

abbrev pub invariant-loop-t : goal.invariant-loop-t
invariant-loop-t l = l.list.items ≡ map (lexed_in l.added) l.yielded
