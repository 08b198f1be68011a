-- What is known at a mark, all told.
use Rattle.std.proofs.Common.{◌≡◌, List, sym, subst}
use Rattle.net_model.specs.Exprs.{ExprModel}
use Rattle.src_trees.specs.Lowered.{JobModel}
use Rattle.tree_laws.specs.declared.classes.Classes.{Classes}
use Rattle.mark_start.specs.declared.hints.Numbered.{Numbered}
use Rattle.mark_start.specs.declared.hints.Spot.{Spot}
use Rattle.mark_start.specs.declared.run.Run.{Run}
use Rattle.mark_start.specs.declared.run.Start.{Start}
use Rattle.mark_start.specs.Marked.{AllReadArrays, AllNumbered, SpotsSeen}
use Rattle.mark_start.specs.Runs.{IsAtStart, IsGathered, IsLearnt, IsStarted}
use Rattle.mark_start.proofs.Learning.{learnt_elements, learnt_on}

module _ (start : Start) where
  pub mark_told : (job : JobModel) (spots : List Spot) (numbers : List Numbered) (trees : List ExprModel)
      → spots ≡ start.from.now.spots → numbers ≡ start.from.now.numbers → trees ≡ job.trees
      → (t0 t1 t2 t3 t4 : Classes) (r0 r1 r2 r3 r4 : Run)
      → IsLearnt start (λ s cells. Unit {0}) t0 t1 r0 r1 → IsLearnt start (SpotsSeen start.pool.now spots) t1 t2 r1 r2 → IsLearnt start (λ s cells. AllNumbered numbers cells) t2 t3 r2 r3
      → IsGathered start (λ cells. AllReadArrays start.from.now.spots cells trees) t3 t4 r3 r4 → IsLearnt start (λ s cells. AllReadArrays start.from.now.spots cells job.trees) t0 t4 r0 r4
  mark_told job spots numbers trees a b e t0 t1 t2 t3 t4 r0 r1 r2 r3 r4 first second third gathered =
      let pool = start.pool.now in
      let own = start.from.now.spots in
      let four = learnt_elements start (λ cells. AllReadArrays own cells trees) t3 t4 r3 r4 gathered in
      let three = learnt_on start (λ s cells. AllNumbered numbers cells) (λ s cells. AllReadArrays own cells trees) t2 t3 t4 r2 r3 r4 third four in
      let two = learnt_on start (SpotsSeen pool spots) (λ s cells. AllNumbered numbers cells × AllReadArrays own cells trees) t1 t2 t4 r1 r2 r4 second three in
      let one = learnt_on start (λ s cells. Unit {0}) (λ s cells. SpotsSeen pool spots s cells × (AllNumbered numbers cells × AllReadArrays own cells trees)) t0 t1 t4 r0 r1 r4 first two in
      record {
        grows = one.grows;
        arrays = one.arrays;
        stands = λ s cells memory m reads. one.stands s cells memory m (
          tt,
          (
            subst (λ (xs : List Spot). SpotsSeen pool xs s cells) (sym a) m.mark.hinted.seen,
            (subst (λ (xs : List Numbered). AllNumbered xs cells) (sym b) m.mark.hinted.numbers, subst (λ (xs : List ExprModel). AllReadArrays own cells xs) (sym e) reads),
          ),
        );
      }

  pub started : (job : JobModel) (old new : Classes) (first run : Run) → IsAtStart start old first
      → IsLearnt start (λ s cells. AllReadArrays start.from.now.spots cells job.trees) old new first run → IsStarted start job old new run
  started job old new first run begun told =
      record { grows = told.grows; arrays = told.arrays begun.arrays; stands = λ s cells memory m reads. told.stands s cells memory m reads begun.arrays (begun.stands s cells memory m) }
