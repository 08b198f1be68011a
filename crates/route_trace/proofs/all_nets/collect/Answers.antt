use Rattle.std.proofs.lemmas.Result.{IfOk-from_err}
use Rattle.std.proofs.Common.{◌≡◌, ℕ, ◌<◌, ◌^◌, true, false, [], length, length-set, replicate, slice_get, slice_index, Option, Some, get_or, refl, sym, ap, subst, ◌∙◌, arith}
use Rattle.std.proofs.lemmas.List.{length-replicate}
use Rattle.std.proofs.lemmas.Option.{slice_get_read}
use Rattle.bit_bdd.proofs.CallerLemmas.{extends_refl, extends_trans, still_within}
use Rattle.net_model.specs.declared.hardware.Net.{Net}
use Rattle.net_model.specs.Nets.{gate_nets, nets_of}
use Rattle.net_model.specs.Order.{IsOrder}
use Rattle.net_model.specs.Widths.{NetFits}
use Rattle.net_model.specs.Symbolic.{all_nets, sym_of}
use Rattle.sym_expr.proofs.CallerLemmas.{grows_refl, grows_trans}
use Rattle.transfer_set.specs.Routes.{models_under, only, routes_at}
use Rattle.route_trace.specs.Inner.Verdicts.{kept_at}
use Rattle.route_trace.specs.declared.verdict.Verdict.TheVariants.{Many, Skipped}
use Rattle.route_trace.proofs.Firsts.{tables_later}
use Rattle.net_model.proofs.WordWidths.{has_bits}
use Rattle.route_trace.proofs.Judging.{alone_by, has_many, judged, lost_by, many_found}
use Rattle.route_trace.proofs.Knowing.{decided}
use Rattle.route_trace.proofs.Turns.{all_given, done_later, found_more, lost_done, named_found, new_gives, no_tables, no_widths, none_yet, over_sym, turn_done, turn_tables, turn_widths, widths_later}
use Rattle.route_trace.proofs.all_nets.collect.Goals as goal
use Rattle.route_trace.proofs.all_nets.collect.Goals.{then-all_kept+in-Ok, then-all_kept+in-Err-Many, else-all_kept}

pub set-requires : goal.set-requires
set-requires c =
    let o : IsOrder c.args.checked.now.netlist c.as_slice-order.result.now = rw (c.as_slice-order.ensures, c.order.ensures.value) c.order.ensures.kept.ordered in
    rw c.loop-id.invariant.judged (o.nets c.loop-id.id-index c.loop-id-test.true)

pub set-requires-in-Ok : goal.set-requires-in-Ok
set-requires-in-Ok c =
    let o : IsOrder c.args.checked.now.netlist c.as_slice-order.result.now = rw (c.as_slice-order.ensures, c.order.ensures.value) c.order.ensures.kept.ordered in
    rw c.loop-id.invariant.long (o.nets c.loop-id.id-index c.loop-id-test.true)

pub set-requires-in-Err-Many : goal.set-requires-in-Err-Many
set-requires-in-Err-Many c =
    let o : IsOrder c.args.checked.now.netlist c.as_slice-order.result.now = rw (c.as_slice-order.ensures, c.order.ensures.value) c.order.ensures.kept.ordered in
    rw c.loop-id.invariant.judged (o.nets c.loop-id.id-index c.loop-id-test.true)

pub set-requires-else-all_kept : goal.set-requires-else-all_kept
set-requires-else-all_kept c =
    let o : IsOrder c.args.checked.now.netlist c.as_slice-order.result.now = rw (c.as_slice-order.ensures, c.order.ensures.value) c.order.ensures.kept.ordered in
    rw c.loop-id.invariant.judged (o.nets c.loop-id.id-index c.loop-id-test.true)

pub returns-in-Err-Memory-clause-book : goal.returns-in-Err-Memory-clause-book
returns-in-Err-Memory-clause-book c = extends_trans c.args.book.now c.loop-id.book c.net_routes.new.book c.loop-id.invariant.book c.net_routes.ensures.book

pub returns-in-Err-Memory-clause-pool : goal.returns-in-Err-Memory-clause-pool
returns-in-Err-Memory-clause-pool c = grows_trans c.args.pool.now c.loop-id.pool c.net_routes.new.pool c.loop-id.invariant.pool c.net_routes.ensures.pool

pub bounds-nets-at : goal.bounds-nets-at
bounds-nets-at c =
    let o : IsOrder c.args.checked.now.netlist c.as_slice-order.result.now = rw (c.as_slice-order.ensures, c.order.ensures.value) c.order.ensures.kept.ordered in
    rw (c.as_slice-nets.ensures, c.netlist-netlist.ensures.value) (o.nets c.loop-id.id-index c.loop-id-test.true)

pub net_routes-requires-clause-legal : goal.net_routes-requires-clause-legal
net_routes-requires-clause-legal c = still_within c.args.book.now c.loop-id.book c.loop-id.invariant.book c.args.controls.now.legal c.requires.controls.within

pub net_routes-requires-clause-typed : goal.net_routes-requires-clause-typed
net_routes-requires-clause-typed c = rw c.netlist-netlist.ensures.value c.netlist-netlist.ensures.sound.typed

pub loop-id-init : goal.loop-id-init
loop-id-init c =
    let nets = rw c.netlist-netlist.ensures.value at c.as_slice-nets.ensures in
    let none = (λ (n : ℕ). none_yet (length c.as_slice-nets.result.now) n) in
    rw (c.in_ok-routes.ensures, c.in_ok-verdicts.ensures)
    (record {
      book = extends_refl c.args.book.now;
      pool = grows_refl c.args.pool.now;
      long = length-replicate _ _ ∙ ap length nets;
      judged = length-replicate _ _ ∙ ap length nets;
      tables = no_tables c.args.book.now c.args.pool.now (replicate (length c.as_slice-nets.result.now) []) none;
      widths = no_widths c.args.checked.now.netlist c.args.pool.now (replicate (length c.as_slice-nets.result.now) []) none;
      found = λ m lt. absurd (omega (arith, lt));
      done = λ m word lt kept low. absurd (omega (arith, lt));
    })

pub net_routes-requires-clause-decided : goal.net_routes-requires-clause-decided
net_routes-requires-clause-decided c =
    let is : c.index-nets-at.result ≡ get_or c.args.checked.now.netlist.nets (slice_index c.as_slice-order.result.now c.loop-id.id-index) c.index-nets-at.result = rw (c.as_slice-nets.ensures, c.netlist-netlist.ensures.value) at c.index-nets-at.is in
    let o : IsOrder c.args.checked.now.netlist c.as_slice-order.result.now = rw (c.as_slice-order.ensures, c.order.ensures.value) c.order.ensures.kept.ordered in
    let there : slice_get c.args.checked.now.netlist.nets (slice_index c.as_slice-order.result.now c.loop-id.id-index) ≡ Some c.index-nets-at.result =
    slice_get_read c.args.checked.now.netlist.nets (length c.args.checked.now.netlist.nets) (slice_index c.as_slice-order.result.now c.loop-id.id-index) c.index-nets-at.result refl (o.nets c.loop-id.id-index c.loop-id-test.true) is in
    let fit : NetFits c.args.checked.now.netlist (Some c.index-nets-at.result) = subst (λ (x : Option Net). NetFits c.args.checked.now.netlist x) there (c.netlist-netlist.ensures.sound.typed.nets _) in
    rw c.netlist-netlist.ensures.value
    (decided c.args.checked.now.netlist c.args.checked.now.order c.netlist-netlist.ensures.kept c.args.book.now c.loop-id.book c.args.controls.now c.requires.controls c.loop-id.invariant.book _ c.index-nets-at.result there fit)

pub net_routes-requires-clause-fits : goal.net_routes-requires-clause-fits
net_routes-requires-clause-fits c =
    let is : c.index-nets-at.result ≡ get_or c.args.checked.now.netlist.nets (slice_index c.as_slice-order.result.now c.loop-id.id-index) c.index-nets-at.result = rw (c.as_slice-nets.ensures, c.netlist-netlist.ensures.value) at c.index-nets-at.is in
    let o : IsOrder c.args.checked.now.netlist c.as_slice-order.result.now = rw (c.as_slice-order.ensures, c.order.ensures.value) c.order.ensures.kept.ordered in
    let there : slice_get c.args.checked.now.netlist.nets (slice_index c.as_slice-order.result.now c.loop-id.id-index) ≡ Some c.index-nets-at.result =
    slice_get_read c.args.checked.now.netlist.nets (length c.args.checked.now.netlist.nets) (slice_index c.as_slice-order.result.now c.loop-id.id-index) c.index-nets-at.result refl (o.nets c.loop-id.id-index c.loop-id-test.true) is in
    let fit : NetFits c.args.checked.now.netlist (Some c.index-nets-at.result) = subst (λ (x : Option Net). NetFits c.args.checked.now.netlist x) there (c.netlist-netlist.ensures.sound.typed.nets _) in
    rw c.netlist-netlist.ensures.value fit

pub loop-id-preserved : goal.loop-id-preserved
loop-id-preserved c =
    let netlist = c.args.checked.now.netlist in
    let order = c.as_slice-order.result.now in
    let i = c.loop-id.id-index in
    let n = slice_index c.as_slice-order.result.now c.loop-id.id-index in
    let o : IsOrder c.args.checked.now.netlist c.as_slice-order.result.now = rw (c.as_slice-order.ensures, c.order.ensures.value) c.order.ensures.kept.ordered in
    let is : c.index-nets-at.result ≡ get_or c.args.checked.now.netlist.nets (slice_index c.as_slice-order.result.now c.loop-id.id-index) c.index-nets-at.result = rw (c.as_slice-nets.ensures, c.netlist-netlist.ensures.value) at c.index-nets-at.is in
    let lt = o.nets c.loop-id.id-index c.loop-id-test.true in
    let there : slice_get c.args.checked.now.netlist.nets (slice_index c.as_slice-order.result.now c.loop-id.id-index) ≡ Some c.index-nets-at.result =
    slice_get_read c.args.checked.now.netlist.nets (length c.args.checked.now.netlist.nets) n c.index-nets-at.result refl lt is in
    let judged_in : slice_index c.as_slice-order.result.now c.loop-id.id-index < length c.loop-id.verdicts = omega (arith, lt, c.loop-id.invariant.judged) in
    let names : nets_of (slice_get c.args.checked.now.netlist.nets (slice_index c.as_slice-order.result.now c.loop-id.id-index)) ≡ gate_nets c.index-nets-at.result.gate = ap nets_of there in
    let before = named_found netlist order o i c.loop-id-test.true c.loop-id.verdicts c.loop-id.invariant.found in
    let legal : c.args.controls.now.legal < length c.loop-id.book.nodes = omega (arith, c.requires.controls.within, c.loop-id.invariant.book.longer) in
    let told = rw (c.as_slice.ensures, c.as_slice-in-loop-id.ensures, c.in_ok-named.ensures) at c.all_kept.ensures in
    elim c.if-all_kept.branch [
      | then-all_kept+in-Ok w ↦
          (let kept : all_nets (kept_at c.loop-id.verdicts) (gate_nets c.index-nets-at.result.gate) ≡ true = sym told ∙ w.if-all_kept.true in
          let exprs = rw (c.netlist-netlist.ensures.value, w.as_slice-then-all_kept.ensures) at w.in-Ok.ensures.exprs in
          let gives = (λ (word : ℕ) (low : word < 2 ^ c.loop-id.book.bits).
          exprs (sym_of netlist word) word low
          (all_given netlist order o i c.loop-id-test.true c.loop-id.book c.loop-id.pool c.loop-id.routes c.args.controls.now.legal c.loop-id.verdicts c.loop-id.invariant.done c.index-nets-at.result there kept word low)) in
          let table = w.in-Ok.ensures.table in
          let grows = extends_trans c.args.book.now c.loop-id.book w.net_routes.new.book c.loop-id.invariant.book w.in-Ok.ensures.book in
          let new = new_gives netlist order o i c.loop-id-test.true c.loop-id.book c.loop-id.pool c.loop-id.routes c.args.controls.now.legal c.loop-id.verdicts c.loop-id.invariant.done
          c.loop-id.invariant.long legal w.net_routes.new.book w.net_routes.new.pool w.in-Ok.ensures.book w.in-Ok.ensures.pool c.loop-id.invariant.tables w.in-Ok.out table c.index-nets-at.result there gives in
          let alone = alone_by netlist c.loop-id.verdicts n before (ap (all_nets (kept_at c.loop-id.verdicts)) names ∙ kept) in
          let verdict = judged netlist c.args.controls.now c.args.book.now w.net_routes.new.book c.requires.controls grows c.requires.word (has_bits netlist c.args.checked.now.order c.netlist-netlist.ensures.kept) w.net_routes.new.pool w.judge-verdict.ensures.ids n w.in-Ok.out table
          (λ word fits. new word (subst (λ b. word < 2 ^ b) w.in-Ok.ensures.book.bits fits)) lt alone w.judge-verdict.result (rw w.as_slice-in-Ok.ensures at w.judge-verdict.ensures.judged) in
          rw (w.book-is, w.pool-is, w.routes-is, w.verdicts-is, w.set.ensures, w.set-in-Ok.ensures)
          (record {
            book = grows;
            pool = grows_trans c.args.pool.now c.loop-id.pool w.net_routes.new.pool c.loop-id.invariant.pool w.in-Ok.ensures.pool;
            long = simp length-set c.loop-id.invariant.long;
            judged = simp length-set c.loop-id.invariant.judged;
            tables = turn_tables netlist order o i c.loop-id-test.true c.loop-id.book c.loop-id.pool c.loop-id.routes c.args.controls.now.legal c.loop-id.verdicts c.loop-id.invariant.done
                c.loop-id.invariant.long legal w.net_routes.new.book w.net_routes.new.pool w.in-Ok.ensures.book w.in-Ok.ensures.pool c.loop-id.invariant.tables w.in-Ok.out table c.index-nets-at.result there gives;
            widths = turn_widths netlist order o i c.loop-id-test.true c.loop-id.book c.loop-id.pool c.loop-id.routes c.args.controls.now.legal c.loop-id.verdicts c.loop-id.invariant.done
                c.loop-id.invariant.long legal w.net_routes.new.book w.net_routes.new.pool w.in-Ok.ensures.book w.in-Ok.ensures.pool c.loop-id.invariant.tables w.in-Ok.out table c.index-nets-at.result there gives c.netlist-netlist.ensures.sound.typed c.loop-id.invariant.widths;
            found = found_more netlist order i c.loop-id-test.true c.loop-id.verdicts judged_in c.loop-id.invariant.found w.judge-verdict.result verdict;
            done = turn_done netlist order o i c.loop-id-test.true c.loop-id.book c.loop-id.pool c.loop-id.routes c.args.controls.now.legal c.loop-id.verdicts c.loop-id.invariant.done
                c.loop-id.invariant.long legal w.net_routes.new.book w.net_routes.new.pool w.in-Ok.ensures.book w.in-Ok.ensures.pool c.loop-id.invariant.tables w.in-Ok.out table c.index-nets-at.result there gives w.judge-verdict.result;
          }))
      | then-all_kept+in-Err-Many w ↦
          (let kept : all_nets (kept_at c.loop-id.verdicts) (gate_nets c.index-nets-at.result.gate) ≡ true = sym told ∙ w.if-all_kept.true in
          let e = w.in-Err-Many.ensures.book in
          let g = w.in-Err-Many.ensures.pool in
          let over = over_sym netlist order o i c.loop-id-test.true c.loop-id.book c.loop-id.pool c.loop-id.routes c.args.controls.now.legal c.loop-id.verdicts c.loop-id.invariant.done
          c.loop-id.invariant.long legal w.net_routes.new.book w.net_routes.new.pool e g c.loop-id.invariant.tables c.index-nets-at.result there kept
          (rw (w.in-Err-Many.field-0-is, c.netlist-netlist.ensures.value, w.as_slice-then-all_kept.ensures) at w.in-Err-Many.ensures.many) in
          let grows = extends_trans c.args.book.now c.loop-id.book w.net_routes.new.book c.loop-id.invariant.book e in
          let alone = alone_by netlist c.loop-id.verdicts n before (ap (all_nets (kept_at c.loop-id.verdicts)) names ∙ kept) in
          let many = has_many netlist c.args.controls.now c.args.book.now w.net_routes.new.book c.requires.controls grows c.requires.word (has_bits netlist c.args.checked.now.order c.netlist-netlist.ensures.kept) w.net_routes.new.pool w.give_up.ensures.ids n over.routes over.table over.part over.many in
          rw (w.book-is, w.pool-is, w.routes-is, w.verdicts-is, w.set-in-Err-Many.ensures, w.give_up.ensures.many)
          (record {
            book = grows;
            pool = grows_trans c.args.pool.now c.loop-id.pool w.net_routes.new.pool c.loop-id.invariant.pool g;
            long = c.loop-id.invariant.long;
            judged = simp length-set c.loop-id.invariant.judged;
            tables = tables_later c.loop-id.book w.net_routes.new.book c.loop-id.pool w.net_routes.new.pool e g c.loop-id.routes c.loop-id.invariant.tables;
            widths = widths_later netlist order o i c.loop-id-test.true c.loop-id.book c.loop-id.pool c.loop-id.routes c.args.controls.now.legal c.loop-id.verdicts c.loop-id.invariant.done
                c.loop-id.invariant.long legal w.net_routes.new.book w.net_routes.new.pool e g c.loop-id.invariant.tables c.loop-id.invariant.widths;
            found = found_more netlist order i c.loop-id-test.true c.loop-id.verdicts judged_in c.loop-id.invariant.found Many (many_found netlist c.args.controls.now c.args.book.now w.net_routes.new.book c.requires.controls grows c.requires.word (has_bits netlist c.args.checked.now.order c.netlist-netlist.ensures.kept) n lt alone many);
            done = λ m word less kept low.
                lost_done order i c.loop-id-test.true c.loop-id.verdicts judged_in (λ k. (word : ℕ) → word < 2 ^ w.net_routes.new.book.bits → models_under w.net_routes.new.book w.net_routes.new.pool (routes_at c.loop-id.routes k) word ≡ only w.net_routes.new.book c.args.controls.now.legal word (sym_of netlist word k))
                (λ k before is word low. done_later netlist order o i c.loop-id-test.true c.loop-id.book c.loop-id.pool c.loop-id.routes c.args.controls.now.legal c.loop-id.verdicts c.loop-id.invariant.done
                c.loop-id.invariant.long legal w.net_routes.new.book w.net_routes.new.pool e g c.loop-id.invariant.tables k word before is low) Many refl m less kept word low;
          }))
      | else-all_kept w ↦
          (let lost : all_nets (kept_at c.loop-id.verdicts) (gate_nets c.index-nets-at.result.gate) ≡ false = sym told ∙ w.if-all_kept.false in
          let broken = lost_by netlist c.loop-id.verdicts n before (ap (all_nets (kept_at c.loop-id.verdicts)) names ∙ lost) in
          rw (w.book-is, w.pool-is, w.routes-is, w.verdicts-is, w.set-else-all_kept.ensures)
          (record {
            book = c.loop-id.invariant.book;
            pool = c.loop-id.invariant.pool;
            long = c.loop-id.invariant.long;
            judged = simp length-set c.loop-id.invariant.judged;
            tables = c.loop-id.invariant.tables;
            widths = c.loop-id.invariant.widths;
            found = found_more netlist order i c.loop-id-test.true c.loop-id.verdicts judged_in c.loop-id.invariant.found Skipped broken;
            done = λ m word less kept low.
                lost_done order i c.loop-id-test.true c.loop-id.verdicts judged_in (λ k. (word : ℕ) → word < 2 ^ c.loop-id.book.bits → models_under c.loop-id.book c.loop-id.pool (routes_at c.loop-id.routes k) word ≡ only c.loop-id.book c.args.controls.now.legal word (sym_of netlist word k))
                (λ k before is word low. c.loop-id.invariant.done k word before is low) Skipped refl m less kept word low;
          }))
    ]

pub returns-in_err-named-clause-long : goal.returns-in_err-named-clause-long
returns-in_err-named-clause-long c = IfOk-from_err c.from_residual-in_err-named.result _ c.from_residual-in_err-named.ensures.0

pub returns-in_err-named-clause-judged : goal.returns-in_err-named-clause-judged
returns-in_err-named-clause-judged c = IfOk-from_err c.from_residual-in_err-named.result _ c.from_residual-in_err-named.ensures.0

pub returns-in_err-named-clause-tables : goal.returns-in_err-named-clause-tables
returns-in_err-named-clause-tables c = IfOk-from_err c.from_residual-in_err-named.result _ c.from_residual-in_err-named.ensures.0

pub returns-in_err-named-clause-found : goal.returns-in_err-named-clause-found
returns-in_err-named-clause-found c = IfOk-from_err c.from_residual-in_err-named.result _ c.from_residual-in_err-named.ensures.0

pub returns-in_err-named-clause-gives : goal.returns-in_err-named-clause-gives
returns-in_err-named-clause-gives c = IfOk-from_err c.from_residual-in_err-named.result _ c.from_residual-in_err-named.ensures.0

pub returns-in_err-routes-clause-long : goal.returns-in_err-routes-clause-long
returns-in_err-routes-clause-long c = IfOk-from_err c.from_residual.result _ c.from_residual.ensures.0

pub returns-in_err-routes-clause-judged : goal.returns-in_err-routes-clause-judged
returns-in_err-routes-clause-judged c = IfOk-from_err c.from_residual.result _ c.from_residual.ensures.0

pub returns-in_err-routes-clause-tables : goal.returns-in_err-routes-clause-tables
returns-in_err-routes-clause-tables c = IfOk-from_err c.from_residual.result _ c.from_residual.ensures.0

pub returns-in_err-routes-clause-found : goal.returns-in_err-routes-clause-found
returns-in_err-routes-clause-found c = IfOk-from_err c.from_residual.result _ c.from_residual.ensures.0

pub returns-in_err-routes-clause-gives : goal.returns-in_err-routes-clause-gives
returns-in_err-routes-clause-gives c = IfOk-from_err c.from_residual.result _ c.from_residual.ensures.0

pub returns-in_err-verdicts-clause-long : goal.returns-in_err-verdicts-clause-long
returns-in_err-verdicts-clause-long c = IfOk-from_err c.from_residual-in_err-verdicts.result _ c.from_residual-in_err-verdicts.ensures.0

pub returns-in_err-verdicts-clause-judged : goal.returns-in_err-verdicts-clause-judged
returns-in_err-verdicts-clause-judged c = IfOk-from_err c.from_residual-in_err-verdicts.result _ c.from_residual-in_err-verdicts.ensures.0

pub returns-in_err-verdicts-clause-tables : goal.returns-in_err-verdicts-clause-tables
returns-in_err-verdicts-clause-tables c = IfOk-from_err c.from_residual-in_err-verdicts.result _ c.from_residual-in_err-verdicts.ensures.0

pub returns-in_err-verdicts-clause-found : goal.returns-in_err-verdicts-clause-found
returns-in_err-verdicts-clause-found c = IfOk-from_err c.from_residual-in_err-verdicts.result _ c.from_residual-in_err-verdicts.ensures.0

pub returns-in_err-verdicts-clause-gives : goal.returns-in_err-verdicts-clause-gives
returns-in_err-verdicts-clause-gives c = IfOk-from_err c.from_residual-in_err-verdicts.result _ c.from_residual-in_err-verdicts.ensures.0
