use Rattle.std.proofs.Common.{◌<◌, ◌^◌, ◌&&◌, not, map, length, refl, sym, ap, subst, ◌∙◌, arith}
use Rattle.std.proofs.lemmas.List.{append-nil}
use Rattle.std.proofs.lemmas.Result.{err_from_is_err_and, IfOk-from_err}
use Rattle.rec_bits.proofs.Booleans.{and_left}
use Rattle.bit_bdd.specs.Diagrams.{has_word}
use Rattle.bit_bdd.proofs.CallerLemmas.{extends_refl, extends_trans, same_words}
use Rattle.sym_expr.specs.Pools.{expr_of_id}
use Rattle.sym_expr.proofs.CallerLemmas.{grows_refl, grows_trans}
use Rattle.route_trace.specs.declared.heads.Head.{Head}
use Rattle.route_trace.specs.Inner.Heads.{binary_expr, head_expr}
use Rattle.route_trace.specs.Inner.Lookups.{is_free}
use Rattle.route_trace.specs.Inner.Routing.{each}
use Rattle.transfer_set.specs.Routes.{models_under}
use Rattle.transfer_set.proofs.Collecting.{held_later, set_at, expr_at}
use Rattle.route_trace.proofs.Products.{below_later, both_later, table_later}
use Rattle.route_trace.proofs.Loops.{all_fit_later, map-same, binary-same, binary_below, binary_fit_at}
use Rattle.route_trace.proofs.Stopping.{many_in}
use Rattle.route_trace.proofs.Lookups.{fewer, held_at, left_apart, left_first, left_free, left_none, left_part, left_step}
use Rattle.route_trace.proofs.pairs.add_pairs.Goals as goal

pub loop-word-init : goal.loop-word-init
loop-word-init c = record {
  book = extends_refl c.args.book.now;
  pool = grows_refl c.args.pool.now;
  table = c.requires.table;
  within = c.requires.set;
  inside = λ word h. h;
  exprs = λ word fits. left_first (has_word c.args.book.now c.args.set word) _ _ (λ h. ap (map (expr_of_id c.args.pool.now)) (c.requires.apart word fits h));
}

pub place_of-requires : goal.place_of-requires
place_of-requires c = record {
  sets = (table_later c.args.book.now c.loop-word.book c.args.pool.now c.loop-word.pool c.loop-word.invariant.book c.loop-word.invariant.pool c.args.operation.now.firsts.now c.requires.first).right.sets;
}

pub held_words-requires-clause-sets : goal.held_words-requires-clause-sets
held_words-requires-clause-sets c = (table_later c.args.book.now c.loop-word.book c.args.pool.now c.loop-word.pool c.loop-word.invariant.book c.loop-word.invariant.pool c.args.operation.now.firsts.now c.requires.first).right.sets

pub add_part-requires-clause-part : goal.add_part-requires-clause-part
add_part-requires-clause-part c =
    let h = held_at c.loop-word.book c.args.operation.now.firsts.now c.in-Some-place_of.place c.in-Some.word c.in-Some-place_of.ensures.some (record { expr = 0; set = 0 }) in
    omega (arith, (set_at c.args.book.now c.args.operation.now.firsts.now c.in-Some-place_of.place _ h.0 c.requires.first.right.sets).within, c.loop-word.invariant.book.longer)

pub add_part-requires-clause-parts : goal.add_part-requires-clause-parts
add_part-requires-clause-parts c =
    let h = held_at c.loop-word.book c.args.operation.now.firsts.now c.in-Some-place_of.place c.in-Some.word c.in-Some-place_of.ensures.some (record { expr = 0; set = 0 }) in
    rw c.with_first-head.ensures
    (binary_below _ c.args.operation.now.binary _ (omega (arith, expr_at (length c.args.pool.now) c.args.operation.now.firsts.now c.in-Some-place_of.place _ h.0 c.requires.first.exprs, c.loop-word.invariant.pool.longer))
    (below_later c.args.pool.now c.loop-word.pool c.loop-word.invariant.pool _ c.requires.parts))

pub add_part-requires-clause-source : goal.add_part-requires-clause-source
add_part-requires-clause-source c = table_later c.args.book.now c.loop-word.book c.args.pool.now c.loop-word.pool c.loop-word.invariant.book c.loop-word.invariant.pool c.args.operation.now.seconds.now c.requires.second

pub add_part-requires-clause-one : goal.add_part-requires-clause-one
add_part-requires-clause-one c word fits =
    let e = held_later c.args.book.now c.loop-word.book c.loop-word.invariant.book c.args.operation.now.seconds.now c.requires.second.right.sets word in
    rw e (c.requires.second_one word (subst (λ b. word < 2 ^ b) c.loop-word.invariant.book.bits fits))

pub add_part-requires-clause-fits : goal.add_part-requires-clause-fits
add_part-requires-clause-fits c =
    let h = held_at c.loop-word.book c.args.operation.now.firsts.now c.in-Some-place_of.place c.in-Some.word c.in-Some-place_of.ensures.some (record { expr = 0; set = 0 }) in
    rw c.with_first-head.ensures
    (all_fit_later c.args.pool.now c.loop-word.pool c.loop-word.invariant.pool _ (binary_below _ c.args.operation.now.binary _ (expr_at (length c.args.pool.now) c.args.operation.now.firsts.now c.in-Some-place_of.place _ h.0 c.requires.first.exprs) c.requires.parts)
    c.args.operation.now.seconds.now c.requires.second.exprs (binary_fit_at c.args.operation.now.binary c.args.pool.now c.args.operation.now.firsts.now c.args.operation.now.seconds.now c.in-Some-place_of.place _ h.0 c.requires.fits))

pub add_part-requires-clause-apart : goal.add_part-requires-clause-apart
add_part-requires-clause-apart c word fits both =
    left_apart (expr_of_id c.loop-word.pool) _ (has_word c.args.book.now c.args.set word) (has_word c.loop-word.book c.loop-word.left word) _ _
    (c.loop-word.invariant.inside word) (c.loop-word.invariant.exprs word (subst (λ b. word < 2 ^ b) c.loop-word.invariant.book.bits fits)) (and_left _ _ both)

pub loop-word-preserved : goal.loop-word-preserved
loop-word-preserved c =
    let h = held_at c.loop-word.book c.args.operation.now.firsts.now c.in-Some-place_of.place c.in-Some.word c.in-Some-place_of.ensures.some (record { expr = 0; set = 0 }) in
    let in_set = (set_at c.args.book.now c.args.operation.now.firsts.now c.in-Some-place_of.place _ h.0 c.requires.first.right.sets).within in
    let in_pool = expr_at (length c.args.pool.now) c.args.operation.now.firsts.now c.in-Some-place_of.place _ h.0 c.requires.first.exprs in
    record {
      book = extends_trans c.args.book.now c.loop-word.book c.add_part.new.book c.loop-word.invariant.book c.in_ok-left-2.ensures.book;
      pool = grows_trans c.args.pool.now c.loop-word.pool c.add_part.new.pool c.loop-word.invariant.pool c.in_ok-left-2.ensures.pool;
      table = c.in_ok-left-2.ensures.table;
      within = c.in_ok-left-2.ensures.left_within;
      inside = λ word is. c.loop-word.invariant.inside word (and_left _ _ (sym (c.in_ok-left-2.ensures.left word) ∙ is));
      exprs = λ word low.
          left_step (each (λ a. map (binary_expr c.args.operation.now.binary (expr_of_id c.args.pool.now) a) (models_under c.args.book.now c.args.pool.now c.args.operation.now.seconds.now word))) c.args.book.now c.args.pool.now c.args.operation.now.firsts.now word c.in-Some-place_of.place _ h.0 (c.requires.first_one word low)
          _ _ _ _ _ _ _ _ (c.loop-word.invariant.inside word)
          (same_words c.args.book.now c.loop-word.book c.loop-word.invariant.book _ in_set word)
          (c.in_ok-left-2.ensures.left word) (c.loop-word.invariant.exprs word low)
          (map-same _ _ (λ t. ap (λ (h : Head). head_expr h (expr_of_id c.loop-word.pool) t) c.with_first-head.ensures ∙ binary-same c.args.pool.now c.loop-word.pool c.loop-word.invariant.pool c.args.operation.now.binary c.requires.parts _ in_pool t) _ _
          (both_later c.args.book.now c.loop-word.book c.args.pool.now c.loop-word.pool c.loop-word.invariant.book c.loop-word.invariant.pool c.args.operation.now.seconds.now c.requires.second word)
          ∙ sym (append-nil _))
          (c.in_ok-left-2.ensures.exprs word (subst (λ b. word < 2 ^ b) (sym c.loop-word.invariant.book.bits) low));
    }

pub loop-word-smaller : goal.loop-word-smaller
loop-word-smaller c =
    let h = held_at c.loop-word.book c.args.operation.now.firsts.now c.in-Some-place_of.place c.in-Some.word c.in-Some-place_of.ensures.some (record { expr = 0; set = 0 }) in
    rw c.in_ok-left-2.ensures.book.bits
    (fewer c.loop-word.book c.add_part.new.book c.loop-word.left c.in_ok-left-2.left _ (λ word is. and_left _ _ (sym (c.in_ok-left-2.ensures.left word) ∙ is))
    c.in-Some.word c.in-Some.ensures.within c.in-Some.ensures.some
    (c.in_ok-left-2.ensures.left c.in-Some.word ∙ (λ j. c.in-Some.ensures.some j && not (h.1 j))))

pub loop-word-preserved-in_default-place_of : goal.loop-word-preserved-in_default-place_of
loop-word-preserved-in_default-place_of c = record {
  book = extends_trans c.args.book.now c.loop-word.book c.held_words.new.book c.loop-word.invariant.book c.in_ok-left.ensures.book;
  pool = c.loop-word.invariant.pool;
  table = table_later c.loop-word.book c.held_words.new.book c.loop-word.pool c.loop-word.pool c.in_ok-left.ensures.book (grows_refl c.loop-word.pool) c.loop-word.out c.loop-word.invariant.table;
  within = c.in_ok-left.ensures.within;
  inside = λ word is. c.loop-word.invariant.inside word (and_left _ _ (sym (c.in_ok-left.ensures.words word) ∙ is));
  exprs = λ word low.
      left_free (each (λ a. map (binary_expr c.args.operation.now.binary (expr_of_id c.args.pool.now) a) (models_under c.args.book.now c.args.pool.now c.args.operation.now.seconds.now word))) c.args.book.now c.args.pool.now c.args.operation.now.firsts.now word refl
      (has_word c.args.book.now c.args.set word) (has_word c.loop-word.book c.loop-word.left word) _ _ _
      (c.in_ok-left.ensures.words word ∙ ap (λ xs. has_word c.loop-word.book c.loop-word.left word && not (is_free xs)) (held_later c.args.book.now c.loop-word.book c.loop-word.invariant.book c.args.operation.now.firsts.now c.requires.first.right.sets word))
      (both_later c.loop-word.book c.held_words.new.book c.loop-word.pool c.loop-word.pool c.in_ok-left.ensures.book (grows_refl c.loop-word.pool) c.loop-word.out c.loop-word.invariant.table word ∙ c.loop-word.invariant.exprs word low);
}

pub loop-word-smaller-in_default-place_of : goal.loop-word-smaller-in_default-place_of
loop-word-smaller-in_default-place_of c =
    rw c.in_ok-left.ensures.book.bits
    (fewer c.loop-word.book c.held_words.new.book c.loop-word.left c.in_ok-left.left _ (λ word is. and_left _ _ (sym (c.in_ok-left.ensures.words word) ∙ is))
    c.in-Some.word c.in-Some.ensures.within c.in-Some.ensures.some
    (c.in_ok-left.ensures.words c.in-Some.word ∙ (λ j. c.in-Some.ensures.some j && not (is_free (c.in_default-place_of.ensures.none j)))))

pub returns-in_err-left-2-clause-many : goal.returns-in_err-left-2-clause-many
returns-in_err-left-2-clause-many c =
    let h = held_at c.loop-word.book c.args.operation.now.firsts.now c.in-Some-place_of.place c.in-Some.word c.in-Some-place_of.ensures.some (record { expr = 0; set = 0 }) in
    let in_set = (set_at c.args.book.now c.args.operation.now.firsts.now c.in-Some-place_of.place _ h.0 c.requires.first.right.sets).within in
    let in_pool = expr_at (length c.args.pool.now) c.args.operation.now.firsts.now c.in-Some-place_of.place _ h.0 c.requires.first.exprs in
    let p = err_from_is_err_and c.from_residual-in_err-left-2.result c.from_residual-in_err-left-2.ensures.1 in
    rw (p.1, p.2)
    (many_in c.in_err-left-2.field-0.0 c.add_part.new.book c.add_part.new.pool _ _
    (λ word fits exprs e.
    (let low = subst (λ b. word < 2 ^ b) (extends_trans c.args.book.now c.loop-word.book c.add_part.new.book c.loop-word.invariant.book c.in_err-left-2.ensures.book).bits fits in
    left_part (has_word c.args.book.now c.args.set word) _ _ _ exprs
    (left_step (each (λ a. map (binary_expr c.args.operation.now.binary (expr_of_id c.args.pool.now) a) (models_under c.args.book.now c.args.pool.now c.args.operation.now.seconds.now word))) c.args.book.now c.args.pool.now c.args.operation.now.firsts.now word c.in-Some-place_of.place _ h.0 (c.requires.first_one word low)
    _ _ _ _ _ _ _ exprs (c.loop-word.invariant.inside word)
    (same_words c.args.book.now c.loop-word.book c.loop-word.invariant.book _ in_set word)
    refl (c.loop-word.invariant.exprs word low)
    (map-same _ _ (λ t. ap (λ (h : Head). head_expr h (expr_of_id c.loop-word.pool) t) c.with_first-head.ensures ∙ binary-same c.args.pool.now c.loop-word.pool c.loop-word.invariant.pool c.args.operation.now.binary c.requires.parts _ in_pool t) _ _
    (both_later c.args.book.now c.loop-word.book c.args.pool.now c.loop-word.pool c.loop-word.invariant.book c.loop-word.invariant.pool c.args.operation.now.seconds.now c.requires.second word)
    ∙ sym (append-nil _))
    e)))
    c.in_err-left-2.ensures.many)

pub returns-clause-exprs : goal.returns-clause-exprs
returns-clause-exprs c word fits =
    left_none (has_word c.args.book.now c.args.set word) (has_word c.loop-word.book c.loop-word.left word) _ _ _ (c.in_default.ensures.none word) (c.loop-word.invariant.exprs word fits)

pub returns-in_err-left-clause-table : goal.returns-in_err-left-clause-table
returns-in_err-left-clause-table c = IfOk-from_err c.from_residual.result _ c.from_residual.ensures.0

pub returns-in_err-left-clause-exprs : goal.returns-in_err-left-clause-exprs
returns-in_err-left-clause-exprs c = IfOk-from_err c.from_residual.result _ c.from_residual.ensures.0

pub returns-in_err-left-2-clause-table : goal.returns-in_err-left-2-clause-table
returns-in_err-left-2-clause-table c = IfOk-from_err c.from_residual-in_err-left-2.result _ c.from_residual-in_err-left-2.ensures.0

pub returns-in_err-left-2-clause-exprs : goal.returns-in_err-left-2-clause-exprs
returns-in_err-left-2-clause-exprs c = IfOk-from_err c.from_residual-in_err-left-2.result _ c.from_residual-in_err-left-2.ensures.0
