use Rattle.std.proofs.Common.{not, refl, ap, ◌∙◌, arith}
use Rattle.rec_bits.proofs.Faults.{drop_item}
use Rattle.src_model.specs.Meaning.{cell_count}
use Rattle.indexmap.proofs.CallerLemmas.{insert_entry-new}
use Rattle.src_eval.proofs.TableLemmas.{there, none_found, next_new, next_old, next_count}
use Rattle.src_eval.proofs.table.declare.Goals as goal
use Rattle.src_eval.proofs.table.declare.Goals.{then-is_none+in_ok-insert, else-is_none}

pub loop-var-preserved : goal.loop-var-preserved
loop-var-preserved c =
    let i = c.loop-var.invariant in
    let asked = i.finds c.as_slice.result.now in
    let found = there c.get.result _ _ c.get.ensures.value asked in
    let seen = rw c.as_slice.ensures at found in
    let count = next_count c.loop-var.first.entries _ _ c.var-item.result c.loop-var-test.true c.var-item.is c.loop-var.total i.count ∙ refl in
    let here = ap cell_count (drop_item c.args.vars.now c.loop-var.var-index c.var-item.result c.loop-var-test.true c.var-item.is) in
    elim c.if-is_none.branch [
      | then-is_none+in_ok-insert w ↦
          let new = seen ∙ c.is_none.ensures ∙ ap not w.if-is_none.true in
          let absent = none_found _ _ (i.finds w.as_slice-then-is_none.result.now) (rw w.as_slice-then-is_none.ensures new) in
          record {
            finds = rw w.first-is (next_new _ _ _ c.var-item.result c.loop-var-test.true c.var-item.is w.insert.new.self.entries _ _
                (w.in_ok-insert.ensures.entries ∙ insert_entry-new _ c.loop-var.first _ _ absent) w.as_slice-then-is_none.ensures i.count i.finds);
            count = rw (← c.unwrap_or-total.ensures) at count;
            left = omega (arith, here, i.left, c.unwrap_or-total.ensures);
          }
      | else-is_none w ↦
          let old = seen ∙ c.is_none.ensures ∙ ap not w.if-is_none.false in
          record {
            finds = rw w.first-is (next_old _ _ _ c.var-item.result c.loop-var-test.true c.var-item.is old i.finds);
            count = rw (← c.unwrap_or-total.ensures) at count;
            left = omega (arith, here, i.left, c.unwrap_or-total.ensures);
          }
    ]
