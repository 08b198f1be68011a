use Rattle.std.proofs.Common.{refl, sym, ap, ◌∙◌}
use Rattle.std.proofs.lemmas.List.{take_all}
use Rattle.rec_bits.proofs.Faults.{sooner_none}
use Rattle.src_model.specs.Names.{declared}
use Rattle.indexmap.proofs.CallerLemmas.{insert_entry-new}
use Rattle.src_check.proofs.Tables.{there, none_found, repeats_next, repeats_end, next_new, next_old}
use Rattle.src_check.proofs.names.declare.Goals as goal
use Rattle.src_check.proofs.names.declare.Goals.{then-is_some, else-is_some+in_ok-insert}

pub loop-var-preserved : goal.loop-var-preserved
loop-var-preserved c =
    let asked = c.loop-var.invariant.finds c.as_slice.result.now in
    let found = there c.get.result _ _ c.get.ensures.value asked in
    let seen = rw c.as_slice.ensures at found in
    let all = repeats_next _ _ c.var-item.result _ _ c.loop-var-test.true c.var-item.is c.loop-var.invariant.all in
    elim c.if-is_some.branch [
      | then-is_some w ↦
          let old = seen ∙ sym c.is_some.ensures ∙ w.if-is_some.true in
          record {
            finds = rw w.first-is (next_old _ _ _ c.var-item.result c.loop-var-test.true c.var-item.is old c.loop-var.invariant.finds);
            all = rw (w.repeated-is, w.lesser_offset-repeated.ensures) (rw old at all);
          }
      | else-is_some+in_ok-insert w ↦
          let new = seen ∙ sym c.is_some.ensures ∙ w.if-is_some.false in
          let absent = none_found _ _ (c.loop-var.invariant.finds w.as_slice-else-is_some.result.now) (rw w.as_slice-else-is_some.ensures new) in
          record {
            finds = rw w.first-is (next_new _ _ _ c.var-item.result c.loop-var-test.true c.var-item.is w.insert.new.self.entries _ _
                (w.in_ok-insert.ensures.entries ∙ insert_entry-new _ c.loop-var.first _ _ absent) w.as_slice-else-is_some.ensures refl c.loop-var.invariant.finds);
            all = rw w.repeated-is (rw (new, sooner_none c.loop-var.repeated) at all);
          }
    ]

pub invariant_of-result : goal.invariant_of-result
invariant_of-result c = λ name. c.loop-var.invariant.finds name ∙ ap (λ l. declared l name) (take_all _ _ c.loop-var-test.false)

pub returns-clause-repeated : goal.returns-clause-repeated
returns-clause-repeated c = repeats_end _ _ _ _ c.loop-var-test.false c.loop-var.invariant.all
