use Rattle.std.proofs.Common.{ℕ, suc, ◌∷◌, List, sym, ap, subst, ◌∙◌, arith, if◌then◌else◌}
use Rattle.src_model.specs.declared.checkpoint.Checkpoint.TheVariants.{At}
use Rattle.src_model.specs.Ways.{Passed}
use Rattle.src_eval.specs.Formulas.{Sound, SoundSides, met, stored}
use Rattle.src_eval.specs.Steps.{ahead}
use Rattle.src_eval.proofs.FormulaLemmas.{below, sides_sound, words_set, Words}
use Rattle.src_eval.proofs.FlowLemmas.{found, missing, within, assign_fits, test_fits, stored_is, over_assign, over_choice, over_end, need_less}
use Rattle.src_eval.proofs.machine.Machine.advance.Goals as goal

pub returns-in_default-clause-passes : goal.returns-in_default-clause-passes
returns-in_default-clause-passes c = λ more.
    let m = c.loop-step.self in
    sym (c.loop-step.invariant.ahead (suc more)) ∙ over_end m.steps m.at (missing m.steps m.at c.get.result c.get.ensures c.in_default.is) (suc more) m.store.cells

pub returns-in_default-clause-ended : goal.returns-in_default-clause-ended
returns-in_default-clause-ended c = λ e more.
    let m = c.loop-step.self in
    over_end m.steps m.at (missing m.steps m.at c.get.result c.get.ensures c.in_default.is) (suc more) m.store.cells

pub value-offset-requires : goal.value-offset-requires
value-offset-requires c =
    let m = c.loop-step.self in
    let k = c.loop-step.invariant.kept in
    let is = found m.steps m.at c.get.result c.in-Some.step _ c.get.ensures c.in-Some.is c.in-Assign.is in
    let f = assign_fits m.typed.now.width m.steps k.steps_fit m.at c.in-Assign.first c.in-Assign.index c.in-Assign.value c.in-Assign.next is in
    subst (λ cells. Sound cells c.in-Assign.index) (sym c.as_slice-cells.ensures) (below m.typed.now.width m.store.cells k.below m.typed.now.width c.in-Assign.index f.0).sound

pub value-value-requires : goal.value-value-requires
value-value-requires c =
    let m = c.loop-step.self in
    let k = c.loop-step.invariant.kept in
    let is = found m.steps m.at c.get.result c.in-Some.step _ c.get.ensures c.in-Some.is c.in-Assign.is in
    let f = assign_fits m.typed.now.width m.steps k.steps_fit m.at c.in-Assign.first c.in-Assign.index c.in-Assign.value c.in-Assign.next is in
    subst (λ cells. Sound cells c.in-Assign.value) (sym c.as_slice-cells.ensures) (below m.typed.now.width m.store.cells k.below m.typed.now.width c.in-Assign.value f.1).sound

pub loop-step-smaller : goal.loop-step-smaller
loop-step-smaller c =
    let m = c.loop-step.self in
    let k = c.loop-step.invariant.kept in
    let is = found m.steps m.at c.get.result c.in-Some.step _ c.get.ensures c.in-Some.is c.in-Assign.is in
    need_less m.typed.now.width m.steps k.steps_fit m.at c.in-Assign.first c.in-Assign.index c.in-Assign.value c.in-Assign.next is

pub loop-step-preserved : goal.loop-step-preserved
loop-step-preserved c =
    let m = c.loop-step.self in
    let k = c.loop-step.invariant.kept in
    let is = found m.steps m.at c.get.result c.in-Some.step _ c.get.ensures c.in-Some.is c.in-Assign.is in
    let f = assign_fits m.typed.now.width m.steps k.steps_fit m.at c.in-Assign.first c.in-Assign.index c.in-Assign.value c.in-Assign.next is in
    let put = stored_is c.put.new.cells m.store.cells c.as_slice-cells.result.now c.in-Assign.first c.in-Assign.index c.in-Assign.value c.value-offset.result c.value-value.result
    c.put.ensures c.value-offset.ensures c.value-value.ensures c.as_slice-cells.ensures in
    let words : Words m.typed.now.width (stored c.in-Assign.first c.in-Assign.index c.in-Assign.value m.store.cells) =
    words_set m.typed.now.width m.store.cells _ _ k.below (below m.typed.now.width m.store.cells k.below m.typed.now.width c.in-Assign.value f.1).below in
    record {
      kept = record { steps_fit = k.steps_fit; few = k.few; below = subst (Words m.typed.now.width) (sym put) words };
      same = c.loop-step.invariant.same;
      ahead = λ more.
          ap (λ (cells : List ℕ). ahead m.steps more c.in-Assign.next cells) put
          ∙ sym (over_assign m.typed.now.width m.steps k.steps_fit m.at c.in-Assign.first c.in-Assign.index c.in-Assign.value c.in-Assign.next is more m.store.cells)
          ∙ c.loop-step.invariant.ahead more;
    }

pub overflow_cast-label : goal.overflow_cast-label
overflow_cast-label c =
    let m = c.loop-step.self in
    let lt = within m.steps m.at _ (found m.steps m.at c.get.result c.in-Some.step _ c.get.ensures c.in-Some.is c.in-Test.is) in
    omega (arith, lt, c.loop-step.invariant.kept.few)

pub choose-self-requires : goal.choose-self-requires
choose-self-requires c =
    let m = c.loop-step.self in
    let k = c.loop-step.invariant.kept in
    let is = found m.steps m.at c.get.result c.in-Some.step _ c.get.ensures c.in-Some.is c.in-Test.is in
    subst (λ cells. SoundSides cells c.in-Test.test) (sym c.as_slice-cells-in-Test.ensures)
    (sides_sound m.typed.now.width m.store.cells k.below c.in-Test.test (test_fits m.typed.now.width m.steps k.steps_fit m.at c.in-Test.test c.in-Test.on_true c.in-Test.on_false is))

pub returns-in-Test-clause-passes : goal.returns-in-Test-clause-passes
returns-in-Test-clause-passes c = λ more.
    let m = c.loop-step.self in
    let is = found m.steps m.at c.get.result c.in-Some.step _ c.get.ensures c.in-Some.is c.in-Test.is in
    let to = c.choose-self.ensures ∙ ap (λ (cells : List ℕ). if met c.in-Test.test cells then c.in-Test.on_true else c.in-Test.on_false) c.as_slice-cells-in-Test.ensures in
    let label : Passed = record { label = At m.at; cells = m.store.cells } in
    sym (c.loop-step.invariant.ahead (suc more))
    ∙ over_choice m.steps m.at c.in-Test.test c.in-Test.on_true c.in-Test.on_false is more m.store.cells
    ∙ ap (λ (next : ℕ). label ∷ ahead m.steps more next m.store.cells) (sym to)
