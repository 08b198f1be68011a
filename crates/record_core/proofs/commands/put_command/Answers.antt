use Rattle.std.proofs.Common.{subst}
use Rattle.std.proofs.lemmas.Result.{IfOk-weaker}
use Rattle.record_core.specs.Words.{CommandFits}
use Rattle.record_core.specs.declared.stop.Told.TheVariants.{Nothing}
use Rattle.record_core.proofs.PutLemmas.{ends_alone, ends_made, ends_put, ends_reported}
use Rattle.record_core.proofs.commands.put_command.Goals as goal

pub returns-in-Compile : goal.returns-in-Compile
returns-in-Compile g c = λ line. rw c.in-Compile.is (
    ends_alone line _ _ _ _ c.compile_text.result c.alone.result c.put_made.result c.alone.ensures c.put_made.ensures
    (rw (c.file-first.ensures, c.file-second.ensures) at c.compile_text.ensures.ok (line Nothing))
    (rw (c.file-first.ensures, c.file-second.ensures) at c.compile_text.ensures.refused (line Nothing)) c.compile_text.ensures.other
    )

pub returns-in-Extract : goal.returns-in-Extract
returns-in-Extract g c = λ line. rw c.in-Extract.is (
    ends_alone line _ _ _ _ c.extract_text.result c.alone-in-Extract.result c.put_made-in-Extract.result c.alone-in-Extract.ensures c.put_made-in-Extract.ensures
    (rw c.file-first.ensures at c.extract_text.ensures.ok (line Nothing))
    (rw c.file-first.ensures at c.extract_text.ensures.refused (line Nothing)) c.extract_text.ensures.other
    )

pub returns-in-Run : goal.returns-in-Run
returns-in-Run g c = λ line. rw c.in-Run.is (
    ends_made line _ _ _ _ c.run_text.result c.put_made-in-Run.result c.put_made-in-Run.ensures
    (rw (c.file-first.ensures, c.file-second.ensures, c.file-third.ensures) at c.run_text.ensures.ok line)
    (rw (c.file-first.ensures, c.file-second.ensures, c.file-third.ensures) at c.run_text.ensures.refused line) c.run_text.ensures.other
    )

pub returns-in-Go : goal.returns-in-Go
returns-in-Go g c = λ line. rw c.in-Go.is (
    ends_put line _ _ _ _ c.go.result c.alone-in-Go.result c.alone-in-Go.ensures
    (IfOk-weaker c.go.result _ _ (λ put d. record { text = d.text; answers = rw (c.file-first.ensures, c.file-second.ensures, c.file-third.ensures) at d.answers; puts = d.puts }) (c.go.ensures.done (line Nothing)))
    (rw (c.file-first.ensures, c.file-second.ensures, c.file-third.ensures) at c.go.ensures.refused (line Nothing)) c.go.ensures.other c.go.ensures.still
    )

pub make_text-requires-clause-some : goal.make_text-requires-clause-some
make_text-requires-clause-some g c = (subst CommandFits c.in-Make.is c.requires.fits).0

pub make_text-requires-clause-most : goal.make_text-requires-clause-most
make_text-requires-clause-most g c = (subst CommandFits c.in-Make.is c.requires.fits).1

pub returns-in-Make : goal.returns-in-Make
returns-in-Make g c = λ line. rw c.in-Make.is (
    ends_alone line _ _ _ _ c.make_text.result c.alone-in-Make.result c.put_made-in-Make.result c.alone-in-Make.ensures c.put_made-in-Make.ensures
    (c.make_text.ensures.ok (line Nothing))
    (c.make_text.ensures.refused (line Nothing)) c.make_text.ensures.other
    )

pub returns-in-Asm : goal.returns-in-Asm
returns-in-Asm g c = λ line. rw c.in-Asm.is (
    ends_alone line _ _ _ _ c.assembled_text.result c.alone-in-Asm.result c.put_made-in-Asm.result c.alone-in-Asm.ensures c.put_made-in-Asm.ensures
    (rw (c.file-first.ensures, c.file-second.ensures) at c.assembled_text.ensures.ok (line Nothing))
    (rw (c.file-first.ensures, c.file-second.ensures) at c.assembled_text.ensures.refused (line Nothing)) c.assembled_text.ensures.other
    )

pub returns-in-Dis : goal.returns-in-Dis
returns-in-Dis g c = λ line. rw c.in-Dis.is (
    ends_alone line _ _ _ _ c.shown_text.result c.alone-in-Dis.result c.put_made-in-Dis.result c.alone-in-Dis.ensures c.put_made-in-Dis.ensures
    (rw (c.file-first.ensures, c.file-second.ensures) at c.shown_text.ensures.ok (line Nothing))
    (rw (c.file-first.ensures, c.file-second.ensures) at c.shown_text.ensures.refused (line Nothing)) c.shown_text.ensures.other
    )

pub returns-in-Test : goal.returns-in-Test
returns-in-Test g c = λ line. rw c.in-Test.is (
    ends_reported line _ _ _ _ c.test_text.result c.alone-in-Test.result c.put_report.result c.alone-in-Test.ensures c.put_report.ensures
    (rw c.file-first.ensures at c.test_text.ensures.ok (line Nothing))
    (rw c.file-first.ensures at c.test_text.ensures.refused (line Nothing)) c.test_text.ensures.other
    )

pub returns-in-Explain : goal.returns-in-Explain
returns-in-Explain g c = λ line. rw c.in-Explain.is (
    ends_alone line _ _ _ _ c.explained_text.result c.alone-in-Explain.result c.put_made-in-Explain.result c.alone-in-Explain.ensures c.put_made-in-Explain.ensures
    (rw (c.file-first.ensures, c.file-second.ensures) at c.explained_text.ensures.ok (line Nothing))
    (rw (c.file-first.ensures, c.file-second.ensures) at c.explained_text.ensures.refused (line Nothing)) c.explained_text.ensures.other
    )

pub returns-in-Tune : goal.returns-in-Tune
returns-in-Tune g c = λ line. rw c.in-Tune.is (
    ends_alone line _ _ _ _ c.tuned_text.result c.alone-in-Tune.result c.put_made-in-Tune.result c.alone-in-Tune.ensures c.put_made-in-Tune.ensures
    (rw (c.file-first.ensures, c.file-second.ensures) at c.tuned_text.ensures.ok (line Nothing))
    (rw (c.file-first.ensures, c.file-second.ensures) at c.tuned_text.ensures.refused (line Nothing)) c.tuned_text.ensures.other
    )

pub returns-in-Dual : goal.returns-in-Dual
returns-in-Dual g c = λ line. rw c.in-Dual.is (
    ends_alone line _ _ _ _ c.dual_text.result c.alone-in-Dual.result c.put_made-in-Dual.result c.alone-in-Dual.ensures c.put_made-in-Dual.ensures
    (rw (c.file-first.ensures, c.file-second.ensures, c.file-third.ensures) at c.dual_text.ensures.ok (line Nothing))
    (rw (c.file-first.ensures, c.file-second.ensures, c.file-third.ensures) at c.dual_text.ensures.refused (line Nothing)) c.dual_text.ensures.other
    )

pub returns-in-Check : goal.returns-in-Check
returns-in-Check g c = λ line. rw c.in-Check.is (
    ends_made line _ _ _ _ c.checked_text.result c.put_made-in-Check.result c.put_made-in-Check.ensures
    (rw (c.file-first.ensures, c.file-second.ensures, c.file-third.ensures) at c.checked_text.ensures.ok line)
    (rw (c.file-first.ensures, c.file-second.ensures, c.file-third.ensures) at c.checked_text.ensures.refused line) c.checked_text.ensures.other
    )
