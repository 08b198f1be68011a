use Rattle.std.proofs.Common.{ap, ◌∙◌}
use Rattle.std.specs.Map.{lookup}
use Rattle.rec_bits.specs.Faults.{same_name}
use Rattle.net_names.specs.Places.{name_pairs}
use Rattle.net_names.proofs.Tables.{pairs_lookup}
use Rattle.net_names.proofs.table.SymbolTable.place.Goals as goal

pub returns : goal.returns
returns c =
    c.copied.ensures ∙ c.get.ensures.value ∙ pairs_lookup c.as_slice.result.now c.self.inside.first.entries
    ∙ ap (λ name. lookup (same_name name) (name_pairs c.self.inside.first.entries)) c.as_slice.ensures
    ∙ ap (lookup (same_name c.args.name.now)) c.self.view_is
