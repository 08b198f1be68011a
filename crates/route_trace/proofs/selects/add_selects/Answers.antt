use Rattle.std.proofs.Common.{◌≡◌, ◌+◌, ◌<◌, ◌^◌, length, slice_get, Some, refl, sym, subst, ◌∙◌, arith}
use Rattle.std.specs.List.{slice_index_or}
use Rattle.std.proofs.lemmas.Option.{slice_get-get_or}
use Rattle.std.proofs.lemmas.Result.{err_from_is_err_and, IfOk-from_err}
use Rattle.bit_bdd.specs.Diagrams.{has_word}
use Rattle.bit_bdd.proofs.CallerLemmas.{same_words, extends_trans, still_within}
use Rattle.sym_expr.proofs.CallerLemmas.{grows_refl, grows_trans}
use Rattle.transfer_set.specs.Routes.{IsSet, models_under}
use Rattle.transfer_set.proofs.Collecting.{held_later, set_at, expr_at}
use Rattle.route_trace.specs.Inner.Routing.{each}
use Rattle.route_trace.specs.Inner.Selects.{under}
use Rattle.route_trace.proofs.Products.{table_later, both_later}
use Rattle.route_trace.proofs.Loops.{each_apart, each_step}
use Rattle.route_trace.proofs.Choices.{binary_fit_later, select_fit_at, under_later}
use Rattle.route_trace.specs.declared.heads.Binary.TheVariants.{Select}
use Rattle.route_trace.proofs.Stopping.{many_in, part_taken}
use Rattle.route_trace.proofs.selects.add_selects.Goals as goal

pub and-requires-clause-a : goal.and-requires-clause-a
and-requires-clause-a c = still_within c.args.book.now c.loop-route.book c.loop-route.invariant.book c.args.set c.requires.set

pub returns-in_err-both-clause-book : goal.returns-in_err-both-clause-book
returns-in_err-both-clause-book c = extends_trans c.args.book.now c.loop-route.book c.and.new.self c.loop-route.invariant.book c.in_err-both.ensures.grows

pub returns-in_err-add_pairs-clause-book : goal.returns-in_err-add_pairs-clause-book
returns-in_err-add_pairs-clause-book c = extends_trans c.args.book.now c.and.new.self c.add_pairs.new.book (extends_trans c.args.book.now c.loop-route.book c.and.new.self c.loop-route.invariant.book c.in_ok-both.ensures.grows) c.in_err-add_pairs.ensures.book

pub returns-in_err-add_pairs-clause-pool : goal.returns-in_err-add_pairs-clause-pool
returns-in_err-add_pairs-clause-pool c = grows_trans c.args.pool.now c.loop-route.pool c.add_pairs.new.pool c.loop-route.invariant.pool c.in_err-add_pairs.ensures.pool

at : (c : goal.After-and-arg-1) → slice_get c.args.selection.now.choices.now c.loop-route.route-index ≡ Some (slice_index_or c.args.selection.now.choices.now c.loop-route.route-index (record { expr = 0; set = 0 }))
at c = slice_get-get_or c.args.selection.now.choices.now c.loop-route.route-index (record { expr = 0; set = 0 }) c.loop-route-test.true

set_within : (c : goal.After-and-arg-1) → IsSet c.args.book.now (slice_index_or c.args.selection.now.choices.now c.loop-route.route-index (record { expr = 0; set = 0 })).set
set_within c = set_at c.args.book.now c.args.selection.now.choices.now c.loop-route.route-index _ (at c) c.requires.choice.right.sets

expr_within : (c : goal.After-and-arg-1) → (slice_index_or c.args.selection.now.choices.now c.loop-route.route-index (record { expr = 0; set = 0 })).expr < length c.args.pool.now
expr_within c = expr_at (length c.args.pool.now) c.args.selection.now.choices.now c.loop-route.route-index _ (at c) c.requires.choice.exprs

pub and-requires-clause-b : goal.and-requires-clause-b
and-requires-clause-b c = omega (arith, (set_within c).within, c.loop-route.invariant.book.longer)

pub add_pairs-requires-clause-parts : goal.add_pairs-requires-clause-parts
add_pairs-requires-clause-parts c =
    let at = slice_get-get_or c.args.selection.now.choices.now c.loop-route.route-index (record { expr = 0; set = 0 }) c.loop-route-test.true in
    (omega (arith, expr_at (length c.args.pool.now) c.args.selection.now.choices.now c.loop-route.route-index _ at c.requires.choice.exprs, c.loop-route.invariant.pool.longer), tt)

pub add_pairs-requires-clause-first : goal.add_pairs-requires-clause-first
add_pairs-requires-clause-first c = table_later c.args.book.now c.and.new.self c.args.pool.now c.loop-route.pool (extends_trans c.args.book.now c.loop-route.book c.and.new.self c.loop-route.invariant.book c.in_ok-both.ensures.grows) c.loop-route.invariant.pool c.args.selection.now.firsts.now c.requires.first

pub add_pairs-requires-clause-second : goal.add_pairs-requires-clause-second
add_pairs-requires-clause-second c = table_later c.args.book.now c.and.new.self c.args.pool.now c.loop-route.pool (extends_trans c.args.book.now c.loop-route.book c.and.new.self c.loop-route.invariant.book c.in_ok-both.ensures.grows) c.loop-route.invariant.pool c.args.selection.now.seconds.now c.requires.second

pub add_pairs-requires-clause-first_one : goal.add_pairs-requires-clause-first_one
add_pairs-requires-clause-first_one c word fits =
    let e = held_later c.args.book.now c.and.new.self (extends_trans c.args.book.now c.loop-route.book c.and.new.self c.loop-route.invariant.book c.in_ok-both.ensures.grows) c.args.selection.now.firsts.now c.requires.first.right.sets word in
    rw e (c.requires.first_one word (subst (λ b. word < 2 ^ b) (extends_trans c.args.book.now c.loop-route.book c.and.new.self c.loop-route.invariant.book c.in_ok-both.ensures.grows).bits fits))

pub add_pairs-requires-clause-second_one : goal.add_pairs-requires-clause-second_one
add_pairs-requires-clause-second_one c word fits =
    let e = held_later c.args.book.now c.and.new.self (extends_trans c.args.book.now c.loop-route.book c.and.new.self c.loop-route.invariant.book c.in_ok-both.ensures.grows) c.args.selection.now.seconds.now c.requires.second.right.sets word in
    rw e (c.requires.second_one word (subst (λ b. word < 2 ^ b) (extends_trans c.args.book.now c.loop-route.book c.and.new.self c.loop-route.invariant.book c.in_ok-both.ensures.grows).bits fits))

pub add_pairs-requires-clause-fits : goal.add_pairs-requires-clause-fits
add_pairs-requires-clause-fits c =
    let at = slice_get-get_or c.args.selection.now.choices.now c.loop-route.route-index (record { expr = 0; set = 0 }) c.loop-route-test.true in
    binary_fit_later c.args.pool.now c.loop-route.pool c.loop-route.invariant.pool (Select (slice_index_or c.args.selection.now.choices.now c.loop-route.route-index (record { expr = 0; set = 0 })).expr)
    (expr_at (length c.args.pool.now) c.args.selection.now.choices.now c.loop-route.route-index _ at c.requires.choice.exprs, tt) c.args.selection.now.firsts.now c.args.selection.now.seconds.now c.requires.first.exprs c.requires.second.exprs
    (select_fit_at c.args.pool.now c.args.selection.now.choices.now c.args.selection.now.firsts.now c.args.selection.now.seconds.now c.loop-route.route-index _ at c.requires.fits)

pub add_pairs-requires-clause-table : goal.add_pairs-requires-clause-table
add_pairs-requires-clause-table c = table_later c.loop-route.book c.and.new.self c.loop-route.pool c.loop-route.pool c.in_ok-both.ensures.grows (grows_refl c.loop-route.pool) c.loop-route.out c.loop-route.invariant.table

pub add_pairs-requires-clause-apart : goal.add_pairs-requires-clause-apart
add_pairs-requires-clause-apart c word fits both =
    let low = subst (λ b. word < 2 ^ b) (extends_trans c.args.book.now c.loop-route.book c.and.new.self c.loop-route.invariant.book c.in_ok-both.ensures.grows).bits fits in
    let at = slice_get-get_or c.args.selection.now.choices.now c.loop-route.route-index (record { expr = 0; set = 0 }) c.loop-route-test.true in
    held_later c.loop-route.book c.and.new.self c.in_ok-both.ensures.grows c.loop-route.out c.loop-route.invariant.table.right.sets word
    ∙ each_apart _ c.args.book.now c.args.pool.now c.args.selection.now.choices.now c.args.set word c.loop-route.route-index _ at (c.requires.choice_one word low)
    c.loop-route.pool _ _ _ _
    (same_words c.args.book.now c.loop-route.book c.loop-route.invariant.book c.args.set c.requires.set word)
    (same_words c.args.book.now c.loop-route.book c.loop-route.invariant.book _ (set_at c.args.book.now c.args.selection.now.choices.now c.loop-route.route-index _ at c.requires.choice.right.sets).within word)
    (c.loop-route.invariant.exprs word low) (sym (c.in_ok-both.ensures.words word) ∙ both)

pub loop-route-preserved : goal.loop-route-preserved
loop-route-preserved c =
    let grows = extends_trans c.args.book.now c.loop-route.book c.and.new.self c.loop-route.invariant.book c.in_ok-both.ensures.grows in
    let at = slice_get-get_or c.args.selection.now.choices.now c.loop-route.route-index (record { expr = 0; set = 0 }) c.loop-route-test.true in
    let in_set = (set_at c.args.book.now c.args.selection.now.choices.now c.loop-route.route-index _ at c.requires.choice.right.sets).within in
    let in_pool = expr_at (length c.args.pool.now) c.args.selection.now.choices.now c.loop-route.route-index _ at c.requires.choice.exprs in
    record {
      book = extends_trans c.args.book.now c.and.new.self c.add_pairs.new.book grows c.in_ok-add_pairs.ensures.book;
      pool = grows_trans c.args.pool.now c.loop-route.pool c.add_pairs.new.pool c.loop-route.invariant.pool c.in_ok-add_pairs.ensures.pool;
      table = c.in_ok-add_pairs.ensures.table;
      exprs = λ word low.
          each_step _ c.args.book.now c.args.pool.now c.args.selection.now.choices.now c.args.set word c.loop-route.route-index _ at (c.requires.choice_one word low)
          c.loop-route.book c.and.new.self c.loop-route.pool c.loop-route.invariant.book c.in_ok-both.ensures.grows c.loop-route.out c.loop-route.invariant.table c.requires.set in_set
          _ _ _ c.in_ok-both.both (c.in_ok-both.ensures.words word) (c.loop-route.invariant.exprs word low)
          (under_later c.args.pool.now c.loop-route.pool c.loop-route.invariant.pool _ in_pool _ _ _ _
          (both_later c.args.book.now c.and.new.self c.args.pool.now c.loop-route.pool grows c.loop-route.invariant.pool c.args.selection.now.firsts.now c.requires.first word)
          (both_later c.args.book.now c.and.new.self c.args.pool.now c.loop-route.pool grows c.loop-route.invariant.pool c.args.selection.now.seconds.now c.requires.second word))
          (c.in_ok-add_pairs.ensures.exprs word (subst (λ b. word < 2 ^ b) (sym grows.bits) low));
    }

pub returns-in_err-add_pairs-clause-many : goal.returns-in_err-add_pairs-clause-many
returns-in_err-add_pairs-clause-many c =
    let grows = extends_trans c.args.book.now c.loop-route.book c.and.new.self c.loop-route.invariant.book c.in_ok-both.ensures.grows in
    let at = slice_get-get_or c.args.selection.now.choices.now c.loop-route.route-index (record { expr = 0; set = 0 }) c.loop-route-test.true in
    let in_set = (set_at c.args.book.now c.args.selection.now.choices.now c.loop-route.route-index _ at c.requires.choice.right.sets).within in
    let in_pool = expr_at (length c.args.pool.now) c.args.selection.now.choices.now c.loop-route.route-index _ at c.requires.choice.exprs in
    let p = err_from_is_err_and c.from_residual-in_err-add_pairs.result c.from_residual-in_err-add_pairs.ensures.1 in
    rw (p.1, p.2)
    (many_in c.in_err-add_pairs.field-0.0 c.add_pairs.new.book c.add_pairs.new.pool _ _
    (λ word fits exprs e.
    (let low = subst (λ b. word < 2 ^ b) (extends_trans c.args.book.now c.and.new.self c.add_pairs.new.book grows c.in_err-add_pairs.ensures.book).bits fits in
    part_taken (each (λ t. under t (models_under c.args.book.now c.args.pool.now c.args.selection.now.firsts.now word) (models_under c.args.book.now c.args.pool.now c.args.selection.now.seconds.now word))) refl c.args.book.now c.args.pool.now c.args.selection.now.choices.now (c.loop-route.route-index + 1) word (c.requires.choice_one word low)
    (has_word c.args.book.now c.args.set word) _ exprs
    (each_step _ c.args.book.now c.args.pool.now c.args.selection.now.choices.now c.args.set word c.loop-route.route-index _ at (c.requires.choice_one word low)
    c.loop-route.book c.and.new.self c.loop-route.pool c.loop-route.invariant.book c.in_ok-both.ensures.grows c.loop-route.out c.loop-route.invariant.table c.requires.set in_set
    _ _ exprs c.in_ok-both.both (c.in_ok-both.ensures.words word) (c.loop-route.invariant.exprs word low)
    (under_later c.args.pool.now c.loop-route.pool c.loop-route.invariant.pool _ in_pool _ _ _ _
    (both_later c.args.book.now c.and.new.self c.args.pool.now c.loop-route.pool grows c.loop-route.invariant.pool c.args.selection.now.firsts.now c.requires.first word)
    (both_later c.args.book.now c.and.new.self c.args.pool.now c.loop-route.pool grows c.loop-route.invariant.pool c.args.selection.now.seconds.now c.requires.second word))
    e)))
    c.in_err-add_pairs.ensures.many)

pub returns-in_err-add_pairs-clause-table : goal.returns-in_err-add_pairs-clause-table
returns-in_err-add_pairs-clause-table c = IfOk-from_err c.from_residual-in_err-add_pairs.result _ c.from_residual-in_err-add_pairs.ensures.0

pub returns-in_err-add_pairs-clause-exprs : goal.returns-in_err-add_pairs-clause-exprs
returns-in_err-add_pairs-clause-exprs c = IfOk-from_err c.from_residual-in_err-add_pairs.result _ c.from_residual-in_err-add_pairs.ensures.0

pub returns-in_err-both-clause-table : goal.returns-in_err-both-clause-table
returns-in_err-both-clause-table c = IfOk-from_err c.from_residual.result _ c.from_residual.ensures.0

pub returns-in_err-both-clause-exprs : goal.returns-in_err-both-clause-exprs
returns-in_err-both-clause-exprs c = IfOk-from_err c.from_residual.result _ c.from_residual.ensures.0
