use Rattle.std.proofs.Common.{bit_or, sym, ap, ◌∙◌, arith}
use Rattle.std.specs.Int.Bits.{or_zero_r}
use Rattle.std.proofs.lemmas.List.{drop_all}
use Rattle.form_model.specs.Steps.{cells_setting}
use Rattle.emit_seq.specs.Models.{models_of_cut_cells}
use Rattle.emit_seq.proofs.Emitting.{cut_joined}
use Rattle.emit_seq.proofs.settings.cells_setting.Goals as goal

pub loop-cut-preserved : goal.loop-cut-preserved
loop-cut-preserved c =
    cut_joined c.args.cuts.now c.loop-cut.cut-index _ c.loop-cut.setting c.in_ok-setting.field-0 _ c.cut-item.is (omega arith) c.in_ok-setting.ensures
    c.loop-cut.invariant

pub returns : goal.returns
returns c =
    sym (or_zero_r c.loop-cut.setting)
    ∙ ap (λ z. bit_or c.loop-cut.setting (cells_setting (models_of_cut_cells z))) (sym (drop_all c.loop-cut.cut-index c.args.cuts.now (omega arith)))
    ∙ c.loop-cut.invariant
