use Rattle.std.proofs.Common.{◌≡◌, ℕ, ◌+◌, ◌<◌, ◌^◌, ◌&&◌, not, Bool, length, refl, sym, ap, subst, ◌∙◌, arith}
use Rattle.std.proofs.lemmas.Result.{err_from_is_err_and, IfOk-from_err}
use Rattle.std.specs.List.{slice_index_or}
use Rattle.std.proofs.lemmas.Option.{slice_get-get_or}
use Rattle.transfer_set.proofs.Collecting.{held_later}
use Rattle.bit_bdd.specs.Diagrams.{has_word, Extends}
use Rattle.bit_bdd.proofs.CallerLemmas.{same_words, extends_trans, still_within}
use Rattle.sym_expr.proofs.CallerLemmas.{grows_refl, grows_trans}
use Rattle.route_trace.specs.Inner.Routing.{AreTables}
use Rattle.route_trace.proofs.Products.{table_later, both_later}
use Rattle.route_trace.proofs.Firsts.{all_fit_same, test_at, first_apart, first_step, left_more, tables_later}
use Rattle.route_trace.proofs.Stopping.{many_in, part_tested}
use Rattle.route_trace.proofs.tracer.Tracer.add_first.Goals as goal

pub returns-in_err-here-clause-book : goal.returns-in_err-here-clause-book
returns-in_err-here-clause-book c = extends_trans c.args.book.now c.loop-test.book c.and.new.self c.loop-test.invariant.book c.in_err-here.ensures.grows

pub returns-in_err-add_all-clause-book : goal.returns-in_err-add_all-clause-book
returns-in_err-add_all-clause-book c = extends_trans c.args.book.now c.and.new.self c.add_all.new.book (extends_trans c.args.book.now c.loop-test.book c.and.new.self c.loop-test.invariant.book c.in_ok-here.ensures.grows) c.in_err-add_all.ensures.book

pub returns-in_err-add_all-clause-pool : goal.returns-in_err-add_all-clause-pool
returns-in_err-add_all-clause-pool c = grows_trans c.args.pool.now c.loop-test.pool c.add_all.new.pool c.loop-test.invariant.pool c.in_err-add_all.ensures.pool

pub without-requires-clause-set : goal.without-requires-clause-set
without-requires-clause-set c = still_within c.loop-test.book c.add_all.new.book (extends_trans c.loop-test.book c.and.new.self c.add_all.new.book c.in_ok-here.ensures.grows c.in_ok-add_all.ensures.book) c.loop-test.left c.loop-test.invariant.left_within

pub returns-in_err-left-clause-book : goal.returns-in_err-left-clause-book
returns-in_err-left-clause-book c = extends_trans c.args.book.now c.add_all.new.book c.without.new.book (extends_trans c.args.book.now c.and.new.self c.add_all.new.book (extends_trans c.args.book.now c.loop-test.book c.and.new.self c.loop-test.invariant.book c.in_ok-here.ensures.grows) c.in_ok-add_all.ensures.book) c.in_err-left.ensures.book

pub returns-in_err-left-clause-pool : goal.returns-in_err-left-clause-pool
returns-in_err-left-clause-pool c = grows_trans c.args.pool.now c.loop-test.pool c.add_all.new.pool c.loop-test.invariant.pool c.in_ok-add_all.ensures.pool

pub and-requires-clause-b : goal.and-requires-clause-b
and-requires-clause-b c =
    let at = slice_get-get_or c.args.tests.now c.loop-test.test-index (0, 0) c.loop-test-test.true in
    omega (arith, test_at c.args.book.now c.args.tests.now c.loop-test.test-index _ at c.requires.tests, c.loop-test.invariant.book.longer)

-- the book from the start to the words of this turn
more : (c : goal.After-operation-1) → Extends c.args.book.now c.and.new.self
more c = extends_trans c.args.book.now c.loop-test.book c.and.new.self c.loop-test.invariant.book c.in_ok-here.ensures.grows

tables : (c : goal.After-operation-1) → AreTables c.and.new.self c.loop-test.pool c.args.self.now.nets.now
tables c = tables_later c.args.book.now c.and.new.self c.args.pool.now c.loop-test.pool (more c) c.loop-test.invariant.pool c.args.self.now.nets.now c.requires.nets

pub add_all-requires-clause-source : goal.add_all-requires-clause-source
add_all-requires-clause-source c = rw c.routes_of-routes.ensures ((tables c).tables _)

pub add_all-requires-clause-one : goal.add_all-requires-clause-one
add_all-requires-clause-one c word fits = rw c.routes_of-routes.ensures ((tables c).one _ word fits)

pub add_all-requires-clause-fits : goal.add_all-requires-clause-fits
add_all-requires-clause-fits c = all_fit_same c.loop-test.pool c.routes_of-routes.result.now

pub add_all-requires-clause-table : goal.add_all-requires-clause-table
add_all-requires-clause-table c = table_later c.loop-test.book c.and.new.self c.loop-test.pool c.loop-test.pool c.in_ok-here.ensures.grows (grows_refl c.loop-test.pool) c.loop-test.out c.loop-test.invariant.table

pub add_all-requires-clause-apart : goal.add_all-requires-clause-apart
add_all-requires-clause-apart c word fits both =
    let low = subst (λ b. word < 2 ^ b) (more c).bits fits in
    let at = slice_get-get_or c.args.tests.now c.loop-test.test-index (0, 0) c.loop-test-test.true in
    held_later c.loop-test.book c.and.new.self c.in_ok-here.ensures.grows c.loop-test.out c.loop-test.invariant.table.right.sets word
    ∙ first_apart c.args.book.now c.args.pool.now c.args.self.now.nets.now word c.args.tests.now c.loop-test.test-index _ at
    c.loop-test.pool _ _ (has_word c.args.book.now c.args.self.now.controls.now.legal word) _ (has_word c.loop-test.book (slice_index_or c.args.tests.now c.loop-test.test-index (0, 0)).0 word) refl
    (c.loop-test.invariant.exprs word low)
    (ap (λ b. b && has_word c.loop-test.book (slice_index_or c.args.tests.now c.loop-test.test-index (0, 0)).0 word) (sym (c.loop-test.invariant.left word low)) ∙ sym (c.in_ok-here.ensures.words word) ∙ both)

pub without-requires-clause-other : goal.without-requires-clause-other
without-requires-clause-other c =
    let at = slice_get-get_or c.args.tests.now c.loop-test.test-index (0, 0) c.loop-test-test.true in
    omega (arith, test_at c.args.book.now c.args.tests.now c.loop-test.test-index _ at c.requires.tests, c.loop-test.invariant.book.longer, c.in_ok-here.ensures.grows.longer, c.in_ok-add_all.ensures.book.longer)

pub loop-test-preserved : goal.loop-test-preserved
loop-test-preserved c =
    let at = slice_get-get_or c.args.tests.now c.loop-test.test-index (0, 0) c.loop-test-test.true in
    let in_start = test_at c.args.book.now c.args.tests.now c.loop-test.test-index _ at c.requires.tests in
    let one = extends_trans c.args.book.now c.loop-test.book c.and.new.self c.loop-test.invariant.book c.in_ok-here.ensures.grows in
    let two = extends_trans c.loop-test.book c.and.new.self c.add_all.new.book c.in_ok-here.ensures.grows c.in_ok-add_all.ensures.book in
    let in_loop : (slice_index_or c.args.tests.now c.loop-test.test-index (0, 0)).0 < length c.loop-test.book.nodes = omega (arith, in_start, c.loop-test.invariant.book.longer) in
    let test_same = (λ (word : ℕ). same_words c.args.book.now c.loop-test.book c.loop-test.invariant.book _ in_start word) in
    record {
      book = extends_trans c.args.book.now c.loop-test.book c.without.new.book c.loop-test.invariant.book (extends_trans c.loop-test.book c.add_all.new.book c.without.new.book two c.in_ok-left.ensures.book);
      pool = grows_trans c.args.pool.now c.loop-test.pool c.add_all.new.pool c.loop-test.invariant.pool c.in_ok-add_all.ensures.pool;
      table = table_later c.add_all.new.book c.without.new.book c.add_all.new.pool c.add_all.new.pool c.in_ok-left.ensures.book (grows_refl c.add_all.new.pool) c.add_all.new.out c.in_ok-add_all.ensures.table;
      left_within = c.in_ok-left.ensures.within;
      left = λ word low.
          left_more c.args.book.now c.args.pool.now c.args.self.now.nets.now word c.args.tests.now c.loop-test.test-index _ at (has_word c.args.book.now c.args.self.now.controls.now.legal word) _ (has_word c.args.book.now (slice_index_or c.args.tests.now c.loop-test.test-index (0, 0)).0 word) _ refl refl
          (c.in_ok-left.ensures.words word
          ∙ both_same (same_words c.loop-test.book c.add_all.new.book two c.loop-test.left c.loop-test.invariant.left_within word ∙ c.loop-test.invariant.left word low)
          (same_words c.loop-test.book c.add_all.new.book two _ in_loop word ∙ test_same word));
      exprs = λ word low.
          both_later c.add_all.new.book c.without.new.book c.add_all.new.pool c.add_all.new.pool c.in_ok-left.ensures.book (grows_refl c.add_all.new.pool) c.add_all.new.out c.in_ok-add_all.ensures.table word
          ∙ first_step c.args.book.now c.args.pool.now c.args.self.now.nets.now word c.args.tests.now c.loop-test.test-index _ at
          c.loop-test.book c.and.new.self c.loop-test.pool c.loop-test.invariant.book c.in_ok-here.ensures.grows c.loop-test.invariant.pool c.loop-test.out c.loop-test.invariant.table in_start c.requires.nets
          _ _ (has_word c.args.book.now c.args.self.now.controls.now.legal word) c.loop-test.left c.in_ok-here.here (c.loop-test.invariant.left word low) (c.in_ok-here.ensures.words word) (c.loop-test.invariant.exprs word low)
          c.routes_of-routes.result.now c.routes_of-routes.ensures (c.in_ok-add_all.ensures.exprs word (subst (λ b. word < 2 ^ b) (sym one.bits) low));
    }
  where
    both_same : {a b d e : Bool} → a ≡ b → d ≡ e → (a && not d) ≡ (b && not e)
    both_same p q = (λ j. p j && not (q j))

pub returns-in_err-add_all-clause-many : goal.returns-in_err-add_all-clause-many
returns-in_err-add_all-clause-many c =
    let at = slice_get-get_or c.args.tests.now c.loop-test.test-index (0, 0) c.loop-test-test.true in
    let in_start = test_at c.args.book.now c.args.tests.now c.loop-test.test-index _ at c.requires.tests in
    let one = extends_trans c.args.book.now c.loop-test.book c.and.new.self c.loop-test.invariant.book c.in_ok-here.ensures.grows in
    let p = err_from_is_err_and c.from_residual-in_err-add_all.result c.from_residual-in_err-add_all.ensures.1 in
    rw (p.1, p.2)
    (many_in c.in_err-add_all.field-0.0 c.add_all.new.book c.add_all.new.pool _ _
    (λ word fits exprs e.
    (let low = subst (λ b. word < 2 ^ b) (extends_trans c.args.book.now c.and.new.self c.add_all.new.book one c.in_err-add_all.ensures.book).bits fits in
    part_tested c.args.book.now c.args.pool.now c.args.self.now.nets.now word c.args.tests.now (c.loop-test.test-index + 1) (has_word c.args.book.now c.args.self.now.controls.now.legal word) _ exprs
    (first_step c.args.book.now c.args.pool.now c.args.self.now.nets.now word c.args.tests.now c.loop-test.test-index _ at
    c.loop-test.book c.and.new.self c.loop-test.pool c.loop-test.invariant.book c.in_ok-here.ensures.grows c.loop-test.invariant.pool c.loop-test.out c.loop-test.invariant.table in_start c.requires.nets
    _ exprs (has_word c.args.book.now c.args.self.now.controls.now.legal word) c.loop-test.left c.in_ok-here.here (c.loop-test.invariant.left word low) (c.in_ok-here.ensures.words word) (c.loop-test.invariant.exprs word low)
    c.routes_of-routes.result.now c.routes_of-routes.ensures e)))
    c.in_err-add_all.ensures.many)

pub returns-in_err-add_all-clause-table : goal.returns-in_err-add_all-clause-table
returns-in_err-add_all-clause-table c = IfOk-from_err c.from_residual-in_err-add_all.result _ c.from_residual-in_err-add_all.ensures.0

pub returns-in_err-add_all-clause-exprs : goal.returns-in_err-add_all-clause-exprs
returns-in_err-add_all-clause-exprs c = IfOk-from_err c.from_residual-in_err-add_all.result _ c.from_residual-in_err-add_all.ensures.0

pub returns-in_err-add_all-clause-left_within : goal.returns-in_err-add_all-clause-left_within
returns-in_err-add_all-clause-left_within c = IfOk-from_err c.from_residual-in_err-add_all.result _ c.from_residual-in_err-add_all.ensures.0

pub returns-in_err-add_all-clause-left : goal.returns-in_err-add_all-clause-left
returns-in_err-add_all-clause-left c = IfOk-from_err c.from_residual-in_err-add_all.result _ c.from_residual-in_err-add_all.ensures.0

pub returns-in_err-here-clause-table : goal.returns-in_err-here-clause-table
returns-in_err-here-clause-table c = IfOk-from_err c.from_residual.result _ c.from_residual.ensures.0

pub returns-in_err-here-clause-exprs : goal.returns-in_err-here-clause-exprs
returns-in_err-here-clause-exprs c = IfOk-from_err c.from_residual.result _ c.from_residual.ensures.0

pub returns-in_err-here-clause-left_within : goal.returns-in_err-here-clause-left_within
returns-in_err-here-clause-left_within c = IfOk-from_err c.from_residual.result _ c.from_residual.ensures.0

pub returns-in_err-here-clause-left : goal.returns-in_err-here-clause-left
returns-in_err-here-clause-left c = IfOk-from_err c.from_residual.result _ c.from_residual.ensures.0

pub returns-in_err-left-clause-table : goal.returns-in_err-left-clause-table
returns-in_err-left-clause-table c = IfOk-from_err c.from_residual-in_err-left.result _ c.from_residual-in_err-left.ensures.0

pub returns-in_err-left-clause-exprs : goal.returns-in_err-left-clause-exprs
returns-in_err-left-clause-exprs c = IfOk-from_err c.from_residual-in_err-left.result _ c.from_residual-in_err-left.ensures.0

pub returns-in_err-left-clause-left_within : goal.returns-in_err-left-clause-left_within
returns-in_err-left-clause-left_within c = IfOk-from_err c.from_residual-in_err-left.result _ c.from_residual-in_err-left.ensures.0

pub returns-in_err-left-clause-left : goal.returns-in_err-left-clause-left
returns-in_err-left-clause-left c = IfOk-from_err c.from_residual-in_err-left.result _ c.from_residual-in_err-left.ensures.0
