use Rattle.std.proofs.Common.{sym, subst, arith}
use Rattle.bit_bdd.specs.Diagrams.{Diagrams, PointSet, set_of, Extends}
use Rattle.bit_bdd.specs.Shape.{IsProjection}
use Rattle.bit_bdd.proofs.Reduced.{extends_trans, same_set, same_level, still_within}
use Rattle.bit_bdd.proofs.Projection.{project_step, put_unseen}
use Rattle.bit_bdd.proofs.Book.+project.Goals as goal

pub project_branch-requires-clause-low : goal.project_branch-requires-clause-low
project_branch-requires-clause-low t c =
    let e = c.in_ok-low-in-Ask.ensures in
    let same = same_level c.project.new.self c.project-in-Ask.new.self c.in_ok-high-in-Ask.ensures.grows c.in_ok-low-in-Ask.low e.within in
    record {
      within = still_within c.project.new.self c.project-in-Ask.new.self c.in_ok-high-in-Ask.ensures.grows c.in_ok-low-in-Ask.low e.within;
      lower = omega (arith, same, e.lower, c.in-Ask.ensures.place.low_lower);
    }

pub project_branch-requires-clause-high : goal.project_branch-requires-clause-high
project_branch-requires-clause-high t c =
    let e = c.in_ok-high-in-Ask.ensures in
    let place = c.in-Ask.ensures.place in
    let same = same_level c.args.self.now c.project.new.self c.in_ok-low-in-Ask.ensures.grows c.in-Ask.high (omega (arith, place.high_before, c.requires)) in
    record { within = e.within; lower = omega (arith, same, e.lower, place.high_lower) }

pub remember-requires : goal.remember-requires
remember-requires t c =
    let d0 = c.args.self.now in
    let d1 = c.project.new.self in
    let d2 = c.project-in-Ask.new.self in
    let d3 = c.project_branch.new.self in
    let g01 = c.in_ok-low-in-Ask.ensures.grows in
    let g12 = c.in_ok-high-in-Ask.ensures.grows in
    let g03 = extends_trans d0 d2 d3 (extends_trans d0 d1 d2 g01 g12) c.in_ok-id-in-Ask.ensures.grows in
    let place = c.in-Ask.ensures.place in
    let low = same_set d1 d2 g12 c.in_ok-low-in-Ask.low c.in_ok-low-in-Ask.ensures.within in
    let high = same_set d0 d1 g01 c.in-Ask.high (omega (arith, place.high_before, c.requires)) in
    let set = same_set d0 d3 g03 c.args.set c.requires in
    record {
      set_within = still_within d0 d3 g03 c.args.set c.requires;
      within = c.in_ok-id-in-Ask.ensures.lower.within;
      lower = omega (arith, c.in-Ask.ensures.level, c.in_ok-id-in-Ask.ensures.lower.lower, same_level d0 d3 g03 c.args.set c.requires);
      is = subst (λ (s : PointSet). IsProjection c.args.mask s (set_of d3.nodes c.in_ok-id-in-Ask.id)) (sym set)
          (project_step c.args.mask c.in-Ask.bit (set_of d0.nodes c.args.set) (set_of d0.nodes c.in-Ask.low) (set_of d0.nodes c.in-Ask.high) _ _ _ c.in-Ask.ensures.set
          (put_unseen d0 c.in-Ask.low c.in-Ask.bit c.in-Ask.ensures.below.0) (put_unseen d0 c.in-Ask.high c.in-Ask.bit c.in-Ask.ensures.below.1)
          (subst (λ (s : PointSet). IsProjection c.args.mask (set_of d0.nodes c.in-Ask.low) s) (sym low) c.in_ok-low-in-Ask.ensures.is)
          (subst (λ (s : PointSet). IsProjection c.args.mask s (set_of d2.nodes c.in_ok-high-in-Ask.high)) high c.in_ok-high-in-Ask.ensures.is)
          c.in_ok-id-in-Ask.ensures.set);
    }

pub returns-in_ok-remember-in-Ask-clause-is : goal.returns-in_ok-remember-in-Ask-clause-is
returns-in_ok-remember-in-Ask-clause-is t c =
    let d0 = c.args.self.now in
    let d1 = c.project.new.self in
    let d2 = c.project-in-Ask.new.self in
    let d3 = c.project_branch.new.self in
    let d4 = c.remember.new.self in
    let g03 = extends_trans d0 d2 d3 (extends_trans d0 d1 d2 c.in_ok-low-in-Ask.ensures.grows c.in_ok-high-in-Ask.ensures.grows) c.in_ok-id-in-Ask.ensures.grows in
    let g04 = subst (λ (d : Diagrams). Extends d0 d) (sym c.in_ok-remember-in-Ask.ensures.same) g03 in
    subst (λ (s : PointSet). IsProjection c.args.mask s (set_of d4.nodes c.in_ok-id-in-Ask.id)) (same_set d0 d4 g04 c.args.set c.requires) c.in_ok-remember-in-Ask.ensures.right.is
