use Rattle.std.proofs.Common.{◌≡◌, sym}
use Rattle.net_check.specs.Inner.Walk.{stage_at}
use Rattle.net_check.specs.declared.walk.Stage.TheVariants.{New}
use Rattle.net_check.proofs.Ends.{root_walk, root_later, root_open}
use Rattle.net_check.proofs.walk.place.Goals as goal
use Rattle.net_check.proofs.walk.place.Goals.{in-New+in_ok-push, in_default}

pub loop-top-init : goal.loop-top-init
loop-top-init c =
    let at : c.stage_of.result ≡ stage_at c.args.walk.now.stages c.args.root = rw c.as_slice.ensures at c.stage_of.ensures in
    elim c.match-stage_of.branch [
      | in-New+in_ok-push w ↦
          let fresh : New ≡ stage_at c.args.walk.now.stages c.args.root = rw c.as_slice.ensures at w.in-New.ensures in
          rw w.walk-is (record {
            kept = root_walk _ _ _ _ c.requires.kept c.requires.empty c.args.root c.requires.inside (sym fresh) _ _ w.set.ensures w.in_ok-push.ensures.pushed;
            later = root_later _ _ _ _ c.requires.kept c.requires.empty c.args.root c.requires.inside (sym fresh) _ w.set.ensures;
            here = root_open _ _ _ _ c.requires.kept c.requires.empty c.args.root c.requires.inside (sym fresh) _ w.set.ensures;
          })
      | in_default w ↦ rw w.walk-is (record {
        kept = c.requires.kept;
        later = λ m h. h;
        here = λ h. w.in_default.not-New (rw at h);
      })
    ]
