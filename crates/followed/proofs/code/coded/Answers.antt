use Rattle.std.proofs.Common.{◌∙◌, sym, ap, map}
use Rattle.followed.specs.Inner.Coded.{move_of}
use Rattle.followed.proofs.Words.{none_of, word_of}
use Rattle.followed.proofs.code.coded.Goals as goal

pub returns-clause-is : goal.returns-clause-is
returns-clause-is c =
    word_of c.args.checked.now.netlist c.args.word c.word_moves.new.pool c.in_ok-found.found c.in_ok-found.ensures.moves c.requires
    (none_of c.in_ok-found.found.clash (sym c.is_some.ensures ∙ c.if-is_some.false)) c.in_ok-moves.moves (c.in_ok-moves.ensures ∙ ap (map move_of) c.as_slice.ensures)
