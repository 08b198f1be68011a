-- The forms of a netlist.
use Rattle.std.specs.Prelude.{ℕ, List}
use Rattle.net_model.specs.declared.hardware.Netlist.{Netlist}
use Rattle.net_model.specs.Patterns.{ArePatterns, Pattern}
use Rattle.form_model.specs.Forms.{FormModel}
use Rattle.form_set.specs.Listing.{AreForms}

-- these are the netlist's forms in their order, with the greatest reach of its jump forms; a
-- netlist has one such list
pub record AreFormsOf (netlist : Netlist) (all : List FormModel) (reach : ℕ) : Type 0 where
  pub patterns : List Pattern
  pub are : ArePatterns netlist patterns
  pub forms : AreForms netlist patterns all reach
