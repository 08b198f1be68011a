use Rattle.std.proofs.Common.{◌≡◌, sym, arith}
use Rattle.net_check.specs.Inner.Components.{mark_at}
use Rattle.net_check.specs.declared.cycle.Mark.TheVariants.{New}
use Rattle.net_check.proofs.Meets.{met_kept, met_later}
use Rattle.net_check.proofs.SearchEnds.{root_all, root_here}
use Rattle.net_check.proofs.cycle.search_from.Goals as goal
use Rattle.net_check.proofs.cycle.search_from.Goals.{in-New+in_ok-meet, in_default}

pub loop-top-init : goal.loop-top-init
loop-top-init c =
    let at : c.mark_of.result ≡ mark_at c.args.search.now.marks c.args.root = rw c.as_slice.ensures at c.mark_of.ensures in
    elim c.match-mark_of.branch [
      | in-New+in_ok-meet w ↦
          let fresh : New ≡ mark_at c.args.search.now.marks c.args.root = rw c.as_slice.ensures at w.in-New.ensures in
          let is = w.in_ok-meet.ensures in
          let all = root_all c.args.graph.now c.args.search.now.marks c.args.search.now.met c.args.search.now.starts c.args.search.now.path c.requires.kept c.requires.empty c.args.root in
          rw w.search-is (record {
            kept = met_kept c.args.graph.now c.args.search.now.marks c.args.search.now.met c.args.search.now.starts c.args.search.now.path c.requires.kept c.args.root c.requires.inside (sym fresh) all _ _ _ _ is.marks is.met is.starts is.path;
            later = met_later c.args.graph.now c.args.search.now.marks c.args.search.now.met c.args.search.now.starts c.args.search.now.path c.requires.kept c.args.root c.requires.inside (sym fresh) all _ is.marks;
            here = root_here _ _ c.args.root is (omega (arith, c.requires.inside, c.requires.kept.long));
          })
      | in_default w ↦ rw w.search-is (record {
        kept = c.requires.kept;
        later = λ m h. h;
        here = λ h. w.in_default.not-New (rw at h);
      })
    ]
