use Rattle.std.proofs.Common.{◌∙◌, List, ℕ, subst}
use Rattle.std.specs.Prelude.{IfErr, IfOk}
use Rattle.asm_text.specs.Texts.{IsAsmRefusal, IsAsmText}
use Rattle.asm_text.proofs.texts.lines.Goals as goal

pub returns-clause-read : goal.returns-clause-read
returns-clause-read c =
    subst (λ (texts : List (List ℕ)). IfOk c.read_lines.result (λ lines. IsAsmText texts c.args.bits c.args.size c.args.bytes.now lines.items))
    (c.in_ok-transfers.ensures ∙ c.as_slice.ensures.value) c.read_lines.ensures.read

pub returns-clause-refused : goal.returns-clause-refused
returns-clause-refused c =
    subst (λ (texts : List (List ℕ)). IfErr c.read_lines.result (IsAsmRefusal texts c.args.bits c.args.size c.args.bytes.now))
    (c.in_ok-transfers.ensures ∙ c.as_slice.ensures.value) c.read_lines.ensures.refused
