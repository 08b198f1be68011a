use Rattle.std.proofs.Common.{◌++◌, ◌∷◌, [], sym, subst, arith}
use Rattle.std.proofs.lemmas.Grind.{common_steps}
use Rattle.rec_bits.proofs.Faults.{among_front}
use Rattle.net_model.specs.Depends.{Among}
use Rattle.net_check.specs.Inner.Components.{Rising}
use Rattle.net_check.proofs.Marks.{rising_parts}
use Rattle.net_check.proofs.Closes.{merged_here, still_kept}
use Rattle.net_check.proofs.cycle.merge.Goals as goal

pub returns-then-start-at : goal.returns-then-start-at
returns-then-start-at c =
    let rising : Rising (c.pop.new.self ++ c.in-Some.start ∷ []) = subst Rising c.in-Some.ensures c.loop-start.invariant.rising in
    rw c.in_ok-push.ensures.pushed (merged_here c.args.at c.args.starts.now c.pop.new.self c.in-Some.start rising
    (λ s h. c.loop-start.invariant.from s (subst (Among s) (sym c.in-Some.ensures) h))
    (λ s h l. subst (Among s) c.in-Some.ensures (c.loop-start.invariant.kept s h l)) c.if-start-at.true)

pub loop-start-preserved : goal.loop-start-preserved
loop-start-preserved c =
    let rising : Rising (c.pop.new.self ++ c.in-Some.start ∷ []) = subst Rising c.in-Some.ensures c.loop-start.invariant.rising in
    record {
      rising = (rising_parts _ _ rising).0;
      from = λ s h. c.loop-start.invariant.from s (subst (Among s) (sym c.in-Some.ensures) (among_front s c.in-Some.start c.pop.new.self h));
      kept = still_kept c.args.at c.args.starts.now c.pop.new.self c.in-Some.start (λ s h l. subst (Among s) c.in-Some.ensures (c.loop-start.invariant.kept s h l)) c.if-start-at.false;
    }

pub returns : goal.returns
returns c =
    rw c.in_default.ensures.1 (record {
      from = λ s h. absurd h;
      kept = λ s h l. subst (Among s) c.in_default.ensures.0 (c.loop-start.invariant.kept s h l);
      low = λ s h. absurd h;
      rising = tt;
    })

pub loop-start-smaller : goal.loop-start-smaller
loop-start-smaller c = grind (arith, common_steps)
