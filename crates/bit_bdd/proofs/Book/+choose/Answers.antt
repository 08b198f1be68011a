use Rattle.std.proofs.Common.{◌-◌, sym, subst, ◌∙◌, arith}
use Rattle.bit_bdd.specs.Diagrams.{Diagrams, Extends}
use Rattle.bit_bdd.specs.Shape.{choice}
use Rattle.bit_bdd.proofs.Reduced.{extends_trans, same_set, same_level, still_within}
use Rattle.bit_bdd.proofs.Choice.{choose_step}
use Rattle.bit_bdd.proofs.Book.+choose.Goals as goal

pub choose-requires-2 : goal.choose-requires-2
choose-requires-2 t c =
    let grows = c.in_ok-low.ensures.grows in
    let test = same_level c.args.self.now c.choose.new.self grows c.split-test_low.result.1 c.split-test_low.ensures.high.within in
    let on = same_level c.args.self.now c.choose.new.self grows c.split-on_low.result.1 c.split-on_low.ensures.high.within in
    let off = same_level c.args.self.now c.choose.new.self grows c.split-off_low.result.1 c.split-off_low.ensures.high.within in (
      omega (arith, c.in-Ask.ensures.level, c.split-test_low.ensures.high.lower, c.split-on_low.ensures.high.lower, c.split-off_low.ensures.high.lower),
      (
        still_within c.args.self.now c.choose.new.self grows _ c.split-test_low.ensures.high.within,
        (
          still_within c.args.self.now c.choose.new.self grows _ c.split-on_low.ensures.high.within,
          still_within c.args.self.now c.choose.new.self grows _ c.split-off_low.ensures.high.within,
        ),
      ),
    )

pub make-requires-clause-low : goal.make-requires-clause-low
make-requires-clause-low t c =
    let same = same_level c.choose.new.self c.choose-2.new.self c.in_ok-high.ensures.grows c.in_ok-low.low c.in_ok-low.ensures.within in
    record {
      within = still_within c.choose.new.self c.choose-2.new.self c.in_ok-high.ensures.grows c.in_ok-low.low c.in_ok-low.ensures.within;
      lower = omega (arith, c.in-Ask.ensures.level, same, c.in_ok-low.ensures.lower, c.split-test_low.ensures.low.lower, c.split-on_low.ensures.low.lower, c.split-off_low.ensures.low.lower);
    }

pub make-requires-clause-high : goal.make-requires-clause-high
make-requires-clause-high t c =
    let grows = c.in_ok-low.ensures.grows in
    let test = same_level c.args.self.now c.choose.new.self grows c.split-test_low.result.1 c.split-test_low.ensures.high.within in
    let on = same_level c.args.self.now c.choose.new.self grows c.split-on_low.result.1 c.split-on_low.ensures.high.within in
    let off = same_level c.args.self.now c.choose.new.self grows c.split-off_low.result.1 c.split-off_low.ensures.high.within in
    record {
      within = c.in_ok-high.ensures.within;
      lower = omega (arith, c.in-Ask.ensures.level, c.in_ok-high.ensures.lower, c.split-test_low.ensures.high.lower, c.split-on_low.ensures.high.lower, c.split-off_low.ensures.high.lower);
    }

pub remember-requires : goal.remember-requires
remember-requires t c =
    let d0 = c.args.self.now in
    let d1 = c.choose.new.self in
    let d2 = c.choose-2.new.self in
    let d3 = c.make.new.self in
    let g01 = c.in_ok-low.ensures.grows in
    let g12 = c.in_ok-high.ensures.grows in
    let g03 = extends_trans d0 d2 d3 (extends_trans d0 d1 d2 g01 g12) c.in_ok-id.ensures.grows in
    let test = same_set d0 d1 g01 c.split-test_low.result.1 c.split-test_low.ensures.high.within in
    let on = same_set d0 d1 g01 c.split-on_low.result.1 c.split-on_low.ensures.high.within in
    let off = same_set d0 d1 g01 c.split-off_low.result.1 c.split-off_low.ensures.high.within in
    let low = same_set d1 d2 g12 c.in_ok-low.low c.in_ok-low.ensures.within ∙ c.in_ok-low.ensures.set in
    let high = c.in_ok-high.ensures.set ∙ (λ j. choice (test j) (on j) (off j)) in
    let test' = same_set d0 d3 g03 c.args.test c.requires.test in
    let on' = same_set d0 d3 g03 c.args.on c.requires.on in
    let off' = same_set d0 d3 g03 c.args.off c.requires.off in
    record {
      test_within = still_within d0 d3 g03 c.args.test c.requires.test;
      on_within = still_within d0 d3 g03 c.args.on c.requires.on;
      off_within = still_within d0 d3 g03 c.args.off c.requires.off;
      within = c.in_ok-id.ensures.lower.within;
      lower = omega (arith, c.in-Ask.ensures.level, c.in_ok-id.ensures.lower.lower, same_level d0 d3 g03 c.args.test c.requires.test, same_level d0 d3 g03 c.args.on c.requires.on, same_level d0 d3 g03 c.args.off c.requires.off);
      set = choose_step (c.max-bit.result - 1) _ _ _ _ _ _ _ _ _ _ _ _ c.split-test_low.ensures.set c.split-on_low.ensures.set c.split-off_low.ensures.set low high c.in_ok-id.ensures.set
          ∙ (λ j. choice (sym test' j) (sym on' j) (sym off' j));
    }

pub returns-clause-set : goal.returns-clause-set
returns-clause-set t c =
    let d0 = c.args.self.now in
    let d1 = c.choose.new.self in
    let d2 = c.choose-2.new.self in
    let d3 = c.make.new.self in
    let d4 = c.remember.new.self in
    let g03 = extends_trans d0 d2 d3 (extends_trans d0 d1 d2 c.in_ok-low.ensures.grows c.in_ok-high.ensures.grows) c.in_ok-id.ensures.grows in
    let g04 = subst (λ (d : Diagrams). Extends d0 d) (sym c.in_ok-remember.ensures.same) g03 in
    let test = same_set d0 d4 g04 c.args.test c.requires.test in
    let on = same_set d0 d4 g04 c.args.on c.requires.on in
    let off = same_set d0 d4 g04 c.args.off c.requires.off in
    c.in_ok-remember.ensures.right.set ∙ (λ j. choice (test j) (on j) (off j))
