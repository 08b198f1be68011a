use Rattle.std.proofs.Common.{sym, ◌∙◌}
use Rattle.image_text.proofs.Marks.{last_mark-get}
use Rattle.image_text.proofs.front.last_of.Goals as goal

pub returns : goal.returns
returns c = c.copied.ensures ∙ c.last.ensures.value ∙ sym (last_mark-get c.args.marks.now)
