use Rattle.std.proofs.Common.{◌≡◌, bit_or, drop}
use Rattle.form_model.specs.Steps.{cells_setting}
use Rattle.emit_seq.specs.Models.{models_of_cut_cells}
use Rattle.emit_seq.proofs.settings.cells_setting.Given as goal

abbrev pub invariant-loop-cut : goal.invariant-loop-cut
invariant-loop-cut l = bit_or l.setting (cells_setting (models_of_cut_cells (drop l.cut-index l.cuts))) ≡ cells_setting (models_of_cut_cells l.cuts)
