-- The text that is kept of a pattern is that of its transfer.
use Rattle.std.proofs.Common.{◌≡◌, ℕ, ◌∙◌, sym, ap, subst, slice_get, Some, option_map}
use Rattle.std.proofs.lemmas.List.Elements.{All-get_or}
use Rattle.std.proofs.lemmas.Option.{slice_get-map, slice_get_within, get_or_from_slice_get}
use Rattle.std.specs.Prelude.{List}
use Rattle.bit_bdd.specs.Diagrams.{Diagrams}
use Rattle.net_model.specs.declared.hardware.Netlist.{Netlist}
use Rattle.net_model.specs.Patterns.{Pattern}
use Rattle.net_model.specs.Texts.{text_of_transfer}
use Rattle.sym_expr.specs.declared.pool.Node.{Node}
use Rattle.transfer_set.specs.Rows.{row_pattern, row_patterns}
use Rattle.transfer_set.specs.Tables.{IsPatternTable, IsRow, PatternTable}
use Rattle.transfer_set.specs.declared.row.Row.{Row}

pub text_of_pattern : (netlist : Netlist) (book : Diagrams) (pool : List Node) (table : PatternTable) → IsPatternTable netlist book pool table → (n : ℕ) (row : Row) → slice_get table.rows n ≡ Some row → option_map (λ (pattern : Pattern). text_of_transfer netlist pattern.storage pattern.move) (slice_get (row_patterns pool table.rows) n) ≡ Some row.text.items
text_of_pattern netlist book pool table is n row at =
    let told : IsRow netlist book pool row =
    subst (IsRow netlist book pool) (get_or_from_slice_get table.rows n row row at) (All-get_or (IsRow netlist book pool) table.rows n row (slice_get_within table.rows n row at) is.rows) in
    let text = λ (pattern : Pattern). text_of_transfer netlist pattern.storage pattern.move in
    ap (option_map text) (slice_get-map (row_pattern pool) table.rows n ∙ ap (option_map (row_pattern pool)) at) ∙ ap Some (sym told.told.text)
