use Rattle.std.proofs.lemmas.Result.{IfOk-from_err}
use Rattle.std.proofs.Common.{◌≡◌, [], arith, length, subst, sym}
use Rattle.std.specs.List.{AllByRecursion}
use Rattle.code_gen.specs.Blocks.{IsOnce}
use Rattle.code_gen.specs.Inner.Coded.{AreCodedTo, IsBlockCode}
use Rattle.code_gen.specs.Inner.Planning.{plans_in, jobs_in}
use Rattle.code_gen.proofs.Coding.{nothing_coded}
use Rattle.code_gen.proofs.blocks.block_code.Goals as goal

pub loop-at-init : goal.loop-at-init
loop-at-init c =
    let program = c.args.program.now in
    record {
      ready = c.requires.ready;
      once = subst (AllByRecursion IsOnce) (sym c.new.ensures.items) tt;
      code = λ task isas p.
          subst (λ blocks. IsBlockCode task isas program.flow.now (jobs_in program) (plans_in program) 0 blocks c.new-2.result.items) (sym c.new.ensures.items)
          (subst (IsBlockCode task isas program.flow.now (jobs_in program) (plans_in program) 0 []) (sym c.new-2.ensures.items)
          (nothing_coded task isas program.flow.now (jobs_in program) (plans_in program)));
    }

pub returns-clause-code : goal.returns-clause-code
returns-clause-code c =
    let program = c.args.program.now in
    let most = c.loop-at.auto.at-end in
    let least = c.loop-at-test.false in
    let all : c.loop-at.at ≡ length program.flow.now = omega (arith, most, least) in
    subst (λ upto. AreCodedTo c.args.program.now.modes program upto c.loop-at.code.blocks.items c.loop-at.code.branches.items) all c.loop-at.invariant.code

pub returns-in_err-entered-clause-code : goal.returns-in_err-entered-clause-code
returns-in_err-entered-clause-code c = IfOk-from_err c.from_residual.result _ c.from_residual.ensures.0

pub returns-in_err-entered-clause-once : goal.returns-in_err-entered-clause-once
returns-in_err-entered-clause-once c = IfOk-from_err c.from_residual.result _ c.from_residual.ensures.0

pub returns-in_err-push_code-clause-code : goal.returns-in_err-push_code-clause-code
returns-in_err-push_code-clause-code c = IfOk-from_err c.from_residual-in_err-push_code.result _ c.from_residual-in_err-push_code.ensures.0

pub returns-in_err-push_code-clause-once : goal.returns-in_err-push_code-clause-once
returns-in_err-push_code-clause-once c = IfOk-from_err c.from_residual-in_err-push_code.result _ c.from_residual-in_err-push_code.ensures.0

pub loop-at-preserved : goal.loop-at-preserved
loop-at-preserved c = record {
  ready = c.push_code.ensures.ready;
  once = c.in_ok-push_code.ensures.once;
  code = c.in_ok-push_code.ensures.code;
}
