use Rattle.record_core.specs.Words.{texts_of}
use Rattle.record_core.proofs.AnswerLemmas.{told_of}
use Rattle.record_core.proofs.UniqueLemmas.{both_of, tuned_with, exact_of, complete_of, compiled_of}
use Rattle.record_core.proofs.WroteLemmas.{wrote_of}
use Rattle.record_core.proofs.call.record_call.Goals as goal

pub returns-clause-shelf_calm : goal.returns-clause-shelf_calm
returns-clause-shelf_calm g c = told_of (texts_of c.args.words.now.items) (g.F.Shelf.state c.args.shelf.now) (g.F.Shelf.state c.answer.new.shelf) (g.S.Sink.state c.args.out.now) (g.S.Sink.state c.answer.new.out) c.answer.result (rw c.deref.ensures.value at c.answer.ensures.gives)

pub returns-clause-exactly : goal.returns-clause-exactly
returns-clause-exactly g c = exact_of (texts_of c.args.words.now.items) (g.F.Shelf.state c.args.shelf.now) (g.F.Shelf.state c.answer.new.shelf) (g.S.Sink.state c.args.out.now) (g.S.Sink.state c.answer.new.out) c.answer.result (rw c.deref.ensures.value at c.answer.ensures.gives)

pub returns-clause-complete : goal.returns-clause-complete
returns-clause-complete g c = complete_of (texts_of c.args.words.now.items) (g.F.Shelf.state c.args.shelf.now) (g.F.Shelf.state c.answer.new.shelf) (g.S.Sink.state c.args.out.now) (g.S.Sink.state c.answer.new.out) c.answer.result (rw c.deref.ensures.value at c.answer.ensures.gives)

pub returns-clause-compiles : goal.returns-clause-compiles
returns-clause-compiles g c = compiled_of (texts_of c.args.words.now.items) (g.F.Shelf.state c.args.shelf.now) (g.F.Shelf.state c.answer.new.shelf) (g.S.Sink.state c.args.out.now) (g.S.Sink.state c.answer.new.out) c.answer.result (rw c.deref.ensures.value at c.answer.ensures.gives)

pub returns-clause-compiles_tuned : goal.returns-clause-compiles_tuned
returns-clause-compiles_tuned g c = tuned_with (texts_of c.args.words.now.items) (g.F.Shelf.state c.args.shelf.now) (g.F.Shelf.state c.answer.new.shelf) (g.S.Sink.state c.args.out.now) (g.S.Sink.state c.answer.new.out) c.answer.result (rw c.deref.ensures.value at c.answer.ensures.gives)

pub returns-clause-compiles_dual : goal.returns-clause-compiles_dual
returns-clause-compiles_dual g c = both_of (texts_of c.args.words.now.items) (g.F.Shelf.state c.args.shelf.now) (g.F.Shelf.state c.answer.new.shelf) (g.S.Sink.state c.args.out.now) (g.S.Sink.state c.answer.new.out) c.answer.result (rw c.deref.ensures.value at c.answer.ensures.gives)

pub returns-clause-wrote : goal.returns-clause-wrote
returns-clause-wrote g c = wrote_of (texts_of c.args.words.now.items) (g.F.Shelf.state c.args.shelf.now) (g.F.Shelf.state c.answer.new.shelf) (g.S.Sink.state c.args.out.now) (g.S.Sink.state c.answer.new.out) c.answer.result (rw c.deref.ensures.value at c.answer.ensures.gives)
