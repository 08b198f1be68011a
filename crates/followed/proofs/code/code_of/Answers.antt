use Rattle.std.proofs.Common.{length-append, arith}
use Rattle.sym_expr.proofs.CallerLemmas.{grows_trans}
use Rattle.followed.specs.Inner.Coded.{IsWordOf}
use Rattle.followed.proofs.Leads.{some_of}
use Rattle.followed.proofs.Words.{words_more}
use Rattle.followed.proofs.code.code_of.Goals as goal

pub loop-i-preserved : goal.loop-i-preserved
loop-i-preserved c =
    let pushed = c.in_ok-push.ensures.pushed in
    record {
      grows = grows_trans _ _ _ c.loop-i.invariant.grows c.coded.ensures.grows;
      long = rw pushed (grind (arith, length-append, c.loop-i.invariant.long));
      is = words_more c.loop-i.pool c.coded.new.pool c.coded.ensures.grows c.args.checked.now.netlist c.args.words.now c.loop-i.code c.push.new.self c.in-Some.one c.loop-i.i c.loop-i.invariant.long c.loop-i.invariant.is
          (some_of (IsWordOf c.args.checked.now.netlist c.coded.new.pool _) c.in_ok-one.field-0 c.in-Some.one c.in-Some.is c.in_ok-one.ensures.is) pushed;
    }
