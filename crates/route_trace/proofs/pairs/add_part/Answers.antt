use Rattle.std.proofs.Common.{◌≡◌, inr, ℕ, ◌<◌, ◌^◌, ◌&&◌, map, sym, ap, subst, ◌∙◌}
use Rattle.std.proofs.lemmas.Result.{err_from_is_err_and, IfOk-from_err}
use Rattle.transfer_set.proofs.Collecting.{held_later}
use Rattle.bit_bdd.specs.Diagrams.{Extends, has_word}
use Rattle.bit_bdd.proofs.CallerLemmas.{extends_trans, same_words, still_within}
use Rattle.sym_expr.specs.Pools.{expr_of_id}
use Rattle.sym_expr.proofs.CallerLemmas.{grows_refl}
use Rattle.route_trace.specs.Inner.Heads.{head_expr}
use Rattle.route_trace.proofs.Products.{table_later, both_later}
use Rattle.route_trace.proofs.Stopping.{many_in}
use Rattle.route_trace.proofs.Lookups.{same_choice}
use Rattle.route_trace.proofs.pairs.add_part.Goals as goal

pub and-requires-clause-a : goal.and-requires-clause-a
and-requires-clause-a c = still_within c.args.book.now c.without.new.book c.in_ok-left.ensures.book c.args.cut.set c.requires.set

pub and-requires-clause-b : goal.and-requires-clause-b
and-requires-clause-b c = still_within c.args.book.now c.without.new.book c.in_ok-left.ensures.book c.args.cut.part c.requires.part

pub returns-in_err-both-clause-book : goal.returns-in_err-both-clause-book
returns-in_err-both-clause-book c = extends_trans c.args.book.now c.without.new.book c.and.new.self c.in_ok-left.ensures.book c.in_err-both.ensures.grows

-- the book from the start to the words that are in both sets
more : (c : goal.After-add_all-arg-3-1) → Extends c.args.book.now c.and.new.self
more c = extends_trans c.args.book.now c.without.new.book c.and.new.self c.in_ok-left.ensures.book c.in_ok-both.ensures.grows

words : (c : goal.After-add_all-arg-3-1) → (word : ℕ) → has_word c.and.new.self c.in_ok-both.both word ≡ (has_word c.args.book.now c.args.cut.set word && has_word c.args.book.now c.args.cut.part word)
words c word =
    let e = same_words c.args.book.now c.without.new.book c.in_ok-left.ensures.book c.args.cut.set c.requires.set word in
    let f = same_words c.args.book.now c.without.new.book c.in_ok-left.ensures.book c.args.cut.part c.requires.part word in
    c.in_ok-both.ensures.words word ∙ (λ j. e j && f j)

pub add_all-requires-clause-source : goal.add_all-requires-clause-source
add_all-requires-clause-source c = table_later c.args.book.now c.and.new.self c.args.pool.now c.args.pool.now (more c) (grows_refl c.args.pool.now) c.args.operation.now.routes.now c.requires.source

pub add_all-requires-clause-one : goal.add_all-requires-clause-one
add_all-requires-clause-one c word fits =
    let e = held_later c.args.book.now c.and.new.self (more c) c.args.operation.now.routes.now c.requires.source.right.sets word in
    rw e (c.requires.one word (subst (λ b. word < 2 ^ b) (more c).bits fits))

pub add_all-requires-clause-table : goal.add_all-requires-clause-table
add_all-requires-clause-table c = table_later c.args.book.now c.and.new.self c.args.pool.now c.args.pool.now (more c) (grows_refl c.args.pool.now) c.args.out.now c.requires.table

pub add_all-requires-clause-apart : goal.add_all-requires-clause-apart
add_all-requires-clause-apart c word fits both =
    held_later c.args.book.now c.and.new.self (more c) c.args.out.now c.requires.table.right.sets word
    ∙ c.requires.apart word (subst (λ b. word < 2 ^ b) (more c).bits fits) (sym (words c word) ∙ both)

pub returns-in_err-add_all-clause-book : goal.returns-in_err-add_all-clause-book
returns-in_err-add_all-clause-book c =
    extends_trans c.args.book.now c.and.new.self c.add_all.new.book
    (extends_trans c.args.book.now c.without.new.book c.and.new.self c.in_ok-left.ensures.book c.in_ok-both.ensures.grows) c.in_err-add_all.ensures.book

pub returns-clause-book : goal.returns-clause-book
returns-clause-book c =
    extends_trans c.args.book.now c.and.new.self c.add_all.new.book
    (extends_trans c.args.book.now c.without.new.book c.and.new.self c.in_ok-left.ensures.book c.in_ok-both.ensures.grows) c.in_ok-add_all.ensures.book

pub returns-clause-exprs : goal.returns-clause-exprs
returns-clause-exprs c word fits =
    let grows = extends_trans c.args.book.now c.without.new.book c.and.new.self c.in_ok-left.ensures.book c.in_ok-both.ensures.grows in
    let e = same_words c.args.book.now c.without.new.book c.in_ok-left.ensures.book c.args.cut.set c.requires.set word in
    let f = same_words c.args.book.now c.without.new.book c.in_ok-left.ensures.book c.args.cut.part c.requires.part word in
    same_choice _ _ _ _ _ _ _ (c.in_ok-both.ensures.words word ∙ (λ j. e j && f j))
    (ap (map (head_expr c.args.operation.now.head (expr_of_id c.args.pool.now))) (both_later c.args.book.now c.and.new.self c.args.pool.now c.args.pool.now grows (grows_refl c.args.pool.now) c.args.operation.now.routes.now c.requires.source word))
    (both_later c.args.book.now c.and.new.self c.args.pool.now c.args.pool.now grows (grows_refl c.args.pool.now) c.args.out.now c.requires.table word)
    (c.in_ok-add_all.ensures.exprs word (subst (λ b. word < 2 ^ b) (sym grows.bits) fits))

pub returns-clause-left_within : goal.returns-clause-left_within
returns-clause-left_within c =
    still_within c.without.new.book c.add_all.new.book (extends_trans c.without.new.book c.and.new.self c.add_all.new.book c.in_ok-both.ensures.grows c.in_ok-add_all.ensures.book)
    c.in_ok-left.left c.in_ok-left.ensures.within

pub returns-clause-left : goal.returns-clause-left
returns-clause-left c word =
    same_words c.without.new.book c.add_all.new.book (extends_trans c.without.new.book c.and.new.self c.add_all.new.book c.in_ok-both.ensures.grows c.in_ok-add_all.ensures.book)
    c.in_ok-left.left c.in_ok-left.ensures.within word
    ∙ c.in_ok-left.ensures.words word

pub returns-in_err-add_all-clause-many : goal.returns-in_err-add_all-clause-many
returns-in_err-add_all-clause-many c =
    let grows = extends_trans c.args.book.now c.without.new.book c.and.new.self c.in_ok-left.ensures.book c.in_ok-both.ensures.grows in
    let p = err_from_is_err_and c.from_residual-in_err-add_all.result c.from_residual-in_err-add_all.ensures.1 in
    rw (p.1, p.2)
    (many_in c.in_err-add_all.field-0.0 c.add_all.new.book c.add_all.new.pool _ _
    (λ word fits exprs is.
    (let e = same_words c.args.book.now c.without.new.book c.in_ok-left.ensures.book c.args.cut.set c.requires.set word in
    let f = same_words c.args.book.now c.without.new.book c.in_ok-left.ensures.book c.args.cut.part c.requires.part word in
    inr (same_choice _ _ _ _ _ _ exprs (c.in_ok-both.ensures.words word ∙ (λ j. e j && f j))
    (ap (map (head_expr c.args.operation.now.head (expr_of_id c.args.pool.now))) (both_later c.args.book.now c.and.new.self c.args.pool.now c.args.pool.now grows (grows_refl c.args.pool.now) c.args.operation.now.routes.now c.requires.source word))
    (both_later c.args.book.now c.and.new.self c.args.pool.now c.args.pool.now grows (grows_refl c.args.pool.now) c.args.out.now c.requires.table word)
    is)))
    c.in_err-add_all.ensures.many)

pub returns-in_err-add_all-clause-table : goal.returns-in_err-add_all-clause-table
returns-in_err-add_all-clause-table c = IfOk-from_err c.from_residual-in_err-add_all.result _ c.from_residual-in_err-add_all.ensures.0

pub returns-in_err-add_all-clause-exprs : goal.returns-in_err-add_all-clause-exprs
returns-in_err-add_all-clause-exprs c = IfOk-from_err c.from_residual-in_err-add_all.result _ c.from_residual-in_err-add_all.ensures.0

pub returns-in_err-add_all-clause-left_within : goal.returns-in_err-add_all-clause-left_within
returns-in_err-add_all-clause-left_within c = IfOk-from_err c.from_residual-in_err-add_all.result _ c.from_residual-in_err-add_all.ensures.0

pub returns-in_err-add_all-clause-left : goal.returns-in_err-add_all-clause-left
returns-in_err-add_all-clause-left c = IfOk-from_err c.from_residual-in_err-add_all.result _ c.from_residual-in_err-add_all.ensures.0

pub returns-in_err-both-clause-table : goal.returns-in_err-both-clause-table
returns-in_err-both-clause-table c = IfOk-from_err c.from_residual-in_err-both.result _ c.from_residual-in_err-both.ensures.0

pub returns-in_err-both-clause-exprs : goal.returns-in_err-both-clause-exprs
returns-in_err-both-clause-exprs c = IfOk-from_err c.from_residual-in_err-both.result _ c.from_residual-in_err-both.ensures.0

pub returns-in_err-both-clause-left_within : goal.returns-in_err-both-clause-left_within
returns-in_err-both-clause-left_within c = IfOk-from_err c.from_residual-in_err-both.result _ c.from_residual-in_err-both.ensures.0

pub returns-in_err-both-clause-left : goal.returns-in_err-both-clause-left
returns-in_err-both-clause-left c = IfOk-from_err c.from_residual-in_err-both.result _ c.from_residual-in_err-both.ensures.0

pub returns-in_err-left-clause-table : goal.returns-in_err-left-clause-table
returns-in_err-left-clause-table c = IfOk-from_err c.from_residual.result _ c.from_residual.ensures.0

pub returns-in_err-left-clause-exprs : goal.returns-in_err-left-clause-exprs
returns-in_err-left-clause-exprs c = IfOk-from_err c.from_residual.result _ c.from_residual.ensures.0

pub returns-in_err-left-clause-left_within : goal.returns-in_err-left-clause-left_within
returns-in_err-left-clause-left_within c = IfOk-from_err c.from_residual.result _ c.from_residual.ensures.0

pub returns-in_err-left-clause-left : goal.returns-in_err-left-clause-left
returns-in_err-left-clause-left c = IfOk-from_err c.from_residual.result _ c.from_residual.ensures.0
