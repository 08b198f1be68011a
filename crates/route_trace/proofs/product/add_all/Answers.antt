use Rattle.std.proofs.lemmas.Result.{IfOk-from_err}
use Rattle.std.proofs.Common.{◌<◌, ◌^◌, ◌&&◌, not, [], ◌∷◌, map, length, refl, sym, ap, subst, ◌∙◌, arith}
use Rattle.transfer_set.proofs.Collecting.{held_later, set_at, expr_at}
use Rattle.rec_bits.proofs.Booleans.{and_left}
use Rattle.bit_bdd.specs.Diagrams.{has_word}
use Rattle.bit_bdd.proofs.CallerLemmas.{extends_refl, extends_trans, same_words}
use Rattle.net_model.specs.Exprs.{expr_width}
use Rattle.sym_expr.specs.Pools.{expr_of_id}
use Rattle.sym_expr.proofs.CallerLemmas.{grows_refl, grows_trans, same_expr}
use Rattle.route_trace.specs.Inner.Heads.{head_expr}
use Rattle.route_trace.specs.Inner.Lookups.{is_free}
use Rattle.route_trace.proofs.Products.{both_later, fits-later, head-same, fit_at, table_later}
use Rattle.route_trace.proofs.Lookups.{fewer, left_apart, left_first, left_free, left_none, left_part, left_step, held_at}
use Rattle.route_trace.proofs.product.add_all.Goals as goal

pub place_of-requires : goal.place_of-requires
place_of-requires c = record {
  sets = (table_later c.args.book.now c.loop-word.book c.args.pool.now c.loop-word.pool c.loop-word.invariant.book c.loop-word.invariant.pool c.args.operation.now.routes.now c.requires.source).right.sets;
}

pub held_words-requires-clause-sets : goal.held_words-requires-clause-sets
held_words-requires-clause-sets c = (table_later c.args.book.now c.loop-word.book c.args.pool.now c.loop-word.pool c.loop-word.invariant.book c.loop-word.invariant.pool c.args.operation.now.routes.now c.requires.source).right.sets

pub loop-word-init : goal.loop-word-init
loop-word-init c = record {
  book = extends_refl c.args.book.now;
  pool = grows_refl c.args.pool.now;
  table = c.requires.table;
  within = c.requires.set;
  inside = λ word h. h;
  exprs = λ word fits. left_first (has_word c.args.book.now c.args.set word) _ _ (λ h. ap (map (expr_of_id c.args.pool.now)) (c.requires.apart word fits h));
}

pub add_one-requires-clause-route_set : goal.add_one-requires-clause-route_set
add_one-requires-clause-route_set c =
    let h = held_at c.loop-word.book c.args.operation.now.routes.now c.in-Some-place_of.place c.in-Some.word c.in-Some-place_of.ensures.some (record { expr = 0; set = 0 }) in
    omega (arith, (set_at c.args.book.now c.args.operation.now.routes.now c.in-Some-place_of.place _ h.0 c.requires.source.right.sets).within, c.loop-word.invariant.book.longer)

pub add_one-requires-clause-route_expr : goal.add_one-requires-clause-route_expr
add_one-requires-clause-route_expr c =
    let h = held_at c.loop-word.book c.args.operation.now.routes.now c.in-Some-place_of.place c.in-Some.word c.in-Some-place_of.ensures.some (record { expr = 0; set = 0 }) in
    omega (arith, expr_at (length c.args.pool.now) c.args.operation.now.routes.now c.in-Some-place_of.place _ h.0 c.requires.source.exprs, c.loop-word.invariant.pool.longer)

pub add_one-requires-clause-meet : goal.add_one-requires-clause-meet
add_one-requires-clause-meet c = record {
  word = c.in-Some.word;
  fits = c.in-Some.ensures.within;
  first = c.in-Some.ensures.some;
  second = (held_at c.loop-word.book c.args.operation.now.routes.now c.in-Some-place_of.place c.in-Some.word c.in-Some-place_of.ensures.some (record { expr = 0; set = 0 })).1;
}

pub add_one-requires-clause-fits : goal.add_one-requires-clause-fits
add_one-requires-clause-fits c =
    let h = held_at c.loop-word.book c.args.operation.now.routes.now c.in-Some-place_of.place c.in-Some.word c.in-Some-place_of.ensures.some (record { expr = 0; set = 0 }) in
    fits-later c.args.pool.now c.loop-word.pool c.loop-word.invariant.pool c.args.operation.now.head c.requires.parts _ _
    (sym (ap expr_width (same_expr c.args.pool.now c.loop-word.pool c.loop-word.invariant.pool _ (expr_at (length c.args.pool.now) c.args.operation.now.routes.now c.in-Some-place_of.place _ h.0 c.requires.source.exprs))))
    (fit_at c.args.operation.now.head c.args.pool.now c.args.operation.now.routes.now c.in-Some-place_of.place _ h.0 c.requires.fits)

pub add_one-requires-clause-apart : goal.add_one-requires-clause-apart
add_one-requires-clause-apart c word fits both =
    left_apart (expr_of_id c.loop-word.pool) _ (has_word c.args.book.now c.args.set word) (has_word c.loop-word.book c.loop-word.left word) _ _
    (c.loop-word.invariant.inside word) (c.loop-word.invariant.exprs word (subst (λ b. word < 2 ^ b) c.loop-word.invariant.book.bits fits)) (and_left _ _ both)

pub loop-word-preserved : goal.loop-word-preserved
loop-word-preserved c =
    let h = held_at c.loop-word.book c.args.operation.now.routes.now c.in-Some-place_of.place c.in-Some.word c.in-Some-place_of.ensures.some (record { expr = 0; set = 0 }) in
    let in_set = (set_at c.args.book.now c.args.operation.now.routes.now c.in-Some-place_of.place _ h.0 c.requires.source.right.sets).within in
    let in_pool = expr_at (length c.args.pool.now) c.args.operation.now.routes.now c.in-Some-place_of.place _ h.0 c.requires.source.exprs in
    record {
      book = extends_trans c.args.book.now c.loop-word.book c.add_one.new.book c.loop-word.invariant.book c.in_ok-left-2.ensures.book;
      pool = grows_trans c.args.pool.now c.loop-word.pool c.add_one.new.pool c.loop-word.invariant.pool c.in_ok-left-2.ensures.pool;
      table = c.in_ok-left-2.ensures.table;
      within = c.in_ok-left-2.ensures.left_within;
      inside = λ word is. c.loop-word.invariant.inside word (and_left _ _ (sym (c.in_ok-left-2.ensures.left word) ∙ is));
      exprs = λ word low.
          left_step (map (head_expr c.args.operation.now.head (expr_of_id c.args.pool.now))) c.args.book.now c.args.pool.now c.args.operation.now.routes.now word c.in-Some-place_of.place _ h.0 (c.requires.one word low)
          _ _ _ _ _ _ _ _ (c.loop-word.invariant.inside word)
          (same_words c.args.book.now c.loop-word.book c.loop-word.invariant.book _ in_set word)
          (c.in_ok-left-2.ensures.left word) (c.loop-word.invariant.exprs word low)
          (λ j. head-same c.args.pool.now c.loop-word.pool c.loop-word.invariant.pool c.args.operation.now.head c.requires.parts _ _ (same_expr c.args.pool.now c.loop-word.pool c.loop-word.invariant.pool _ in_pool) j ∷ [])
          (c.in_ok-left-2.ensures.exprs word (subst (λ b. word < 2 ^ b) (sym c.loop-word.invariant.book.bits) low));
    }

pub loop-word-smaller : goal.loop-word-smaller
loop-word-smaller c =
    let h = held_at c.loop-word.book c.args.operation.now.routes.now c.in-Some-place_of.place c.in-Some.word c.in-Some-place_of.ensures.some (record { expr = 0; set = 0 }) in
    rw c.in_ok-left-2.ensures.book.bits
    (fewer c.loop-word.book c.add_one.new.book c.loop-word.left c.in_ok-left-2.left _ (λ word is. and_left _ _ (sym (c.in_ok-left-2.ensures.left word) ∙ is))
    c.in-Some.word c.in-Some.ensures.within c.in-Some.ensures.some
    (c.in_ok-left-2.ensures.left c.in-Some.word ∙ (λ j. c.in-Some.ensures.some j && not (h.1 j))))

pub loop-word-preserved-in_default-place_of : goal.loop-word-preserved-in_default-place_of
loop-word-preserved-in_default-place_of c =
    let grows = extends_trans c.args.book.now c.loop-word.book c.held_words.new.book c.loop-word.invariant.book c.in_ok-left.ensures.book in
    record {
      book = grows;
      pool = c.loop-word.invariant.pool;
      table = table_later c.loop-word.book c.held_words.new.book c.loop-word.pool c.loop-word.pool c.in_ok-left.ensures.book (grows_refl c.loop-word.pool) c.loop-word.out c.loop-word.invariant.table;
      within = c.in_ok-left.ensures.within;
      inside = λ word is. c.loop-word.invariant.inside word (and_left _ _ (sym (c.in_ok-left.ensures.words word) ∙ is));
      exprs = λ word low.
          left_free (map (head_expr c.args.operation.now.head (expr_of_id c.args.pool.now))) c.args.book.now c.args.pool.now c.args.operation.now.routes.now word refl
          (has_word c.args.book.now c.args.set word) (has_word c.loop-word.book c.loop-word.left word) _ _ _
          (c.in_ok-left.ensures.words word ∙ ap (λ xs. has_word c.loop-word.book c.loop-word.left word && not (is_free xs)) (held_later c.args.book.now c.loop-word.book c.loop-word.invariant.book c.args.operation.now.routes.now c.requires.source.right.sets word))
          (both_later c.loop-word.book c.held_words.new.book c.loop-word.pool c.loop-word.pool c.in_ok-left.ensures.book (grows_refl c.loop-word.pool) c.loop-word.out c.loop-word.invariant.table word ∙ c.loop-word.invariant.exprs word low);
    }

pub loop-word-smaller-in_default-place_of : goal.loop-word-smaller-in_default-place_of
loop-word-smaller-in_default-place_of c =
    rw c.in_ok-left.ensures.book.bits
    (fewer c.loop-word.book c.held_words.new.book c.loop-word.left c.in_ok-left.left _ (λ word is. and_left _ _ (sym (c.in_ok-left.ensures.words word) ∙ is))
    c.in-Some.word c.in-Some.ensures.within c.in-Some.ensures.some
    (c.in_ok-left.ensures.words c.in-Some.word ∙ (λ j. c.in-Some.ensures.some j && not (is_free (c.in_default-place_of.ensures.none j)))))

pub returns-then-len-gt-MOST_VALUES-clause-many : goal.returns-then-len-gt-MOST_VALUES-clause-many
returns-then-len-gt-MOST_VALUES-clause-many c = record {
  routes = c.loop-word.out;
  many = omega (arith, c.len.ensures, c.if-len-gt-MOST_VALUES.true);
  table = c.loop-word.invariant.table;
  part = λ word fits.
      left_part (has_word c.args.book.now c.args.set word) (has_word c.loop-word.book c.loop-word.left word) _ _ _
      (c.loop-word.invariant.exprs word (subst (λ b. word < 2 ^ b) c.loop-word.invariant.book.bits fits));
}

pub returns-clause-exprs : goal.returns-clause-exprs
returns-clause-exprs c word fits =
    left_none (has_word c.args.book.now c.args.set word) (has_word c.loop-word.book c.loop-word.left word) _ _ _ (c.in_default.ensures.none word) (c.loop-word.invariant.exprs word fits)

pub returns-in_err-left-clause-table : goal.returns-in_err-left-clause-table
returns-in_err-left-clause-table c = IfOk-from_err c.from_residual.result _ c.from_residual.ensures.0

pub returns-in_err-left-clause-exprs : goal.returns-in_err-left-clause-exprs
returns-in_err-left-clause-exprs c = IfOk-from_err c.from_residual.result _ c.from_residual.ensures.0

pub returns-in_err-left-2-clause-table : goal.returns-in_err-left-2-clause-table
returns-in_err-left-2-clause-table c = IfOk-from_err c.from_residual-in_err-left-2.result _ c.from_residual-in_err-left-2.ensures.0

pub returns-in_err-left-2-clause-exprs : goal.returns-in_err-left-2-clause-exprs
returns-in_err-left-2-clause-exprs c = IfOk-from_err c.from_residual-in_err-left-2.result _ c.from_residual-in_err-left-2.ensures.0
