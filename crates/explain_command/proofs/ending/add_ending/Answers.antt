use Rattle.std.proofs.Common.{inl, inr, refl}
use Rattle.std.proofs.lemmas.Result.{IfOk-weaker}
use Rattle.right_code.specs.Tasks.{read_task}
use Rattle.explain_command.specs.Lines.{done_line, end_line}
use Rattle.explain_command.proofs.Early.{late}
use Rattle.explain_command.proofs.ending.add_ending.Goals as goal

pub returns-in-Ok : goal.returns-in-Ok
returns-in-Ok c =
    IfOk-weaker c.add_bytes.result _ _ (λ _ is. record { more = done_line; is = inl (c.in-Ok.ensures.right, refl); text = is }) c.add_bytes.ensures

pub returns-in-Err : goal.returns-in-Err
returns-in-Err c =
    let fault = c.in-Err.fault in
    IfOk-weaker c.add_refusal.result _ _
    (λ _ told. record {
      more = end_line fault;
      is =
          inr
          (fault, late (read_task c.args.modes.now c.args.typed.now) c.requires.room c.requires.jumps fault told.1 c.in-Err.ensures.refused, refl);
      text = told.0;
    })
    c.add_refusal.ensures
