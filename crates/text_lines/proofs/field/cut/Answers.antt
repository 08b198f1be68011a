use Rattle.text_lines.proofs.Parts.{found, not_found}
use Rattle.text_lines.proofs.field.cut.Goals as goal

pub returns-then-before-text : goal.returns-then-before-text
returns-then-before-text c = found c.args.mark _ c.args.text.now c.bytes_before-before.ensures c.if-before-text.true

pub returns-else-before-text : goal.returns-else-before-text
returns-else-before-text c = not_found c.args.mark _ c.args.text.now c.bytes_before-before.ensures c.if-before-text.false
