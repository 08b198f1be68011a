use Rattle.std.proofs.Common.{◌∙◌, ap, sym}
use Rattle.asm_text.specs.Lines.{storage_in}
use Rattle.asm_text.proofs.Bytes.{storage_cut}
use Rattle.asm_text.proofs.Split.{text_at}
use Rattle.asm_text.proofs.apart.storage_of.Goals as goal

pub returns : goal.returns
returns c =
    storage_cut c.as_slice-text.result.now c.storage_len.result c.storage_len.ensures
    ∙ ap storage_in (c.as_slice-text.ensures ∙ c.index-texts-pattern.is ∙ sym (text_at c.args.texts.now c.args.pattern c.index-texts-pattern.result c.requires))
