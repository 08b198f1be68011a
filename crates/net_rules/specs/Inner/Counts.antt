-- What is counted apart.
use Rattle.std.specs.Prelude.{◌≡◌, ℕ, ◌+◌, ◌<◌, ◌^◌, List, [], ◌∷◌, Option, Some}
use Rattle.grammar.specs.declared.words.Ident.{Ident}
use Rattle.net_model.specs.declared.units.Port.{Port}
use Rattle.net_model.specs.declared.units.Unit.{Unit as Item}
use Rattle.net_model.specs.Written.{UnitModel, NetExprModel, model_of_unit}
use Rattle.net_model.specs.TextNames.{item_named}
use Rattle.net_model.specs.TextWidths.{ports_of}
use Rattle.net_model.specs.Numbering.{bound, count_if, count_outputs, count_equations, count_part, equations_of}
use Rattle.rec_bits.specs.Counts.{capped}

-- the nets that a part has for the outputs of its module
abbrev pub count_module : Option UnitModel → ℕ
count_module entry = count_outputs (ports_of entry) + count_equations (equations_of entry) (ports_of entry)

abbrev pub capped_module : Item → ℕ
capped_module item = capped (count_module (Some (model_of_unit item)))

abbrev pub count_part_of : List UnitModel → Ident → List (Ident × NetExprModel) → ℕ
count_part_of text owner links =
    count_part links (ports_of (item_named text owner.name)) (equations_of (item_named text owner.name))

-- each of these inputs gives the nets of its link and then its wire
abbrev pub count_linked : List (Ident × NetExprModel) → List Port → ℕ
count_linked links [] = 0
count_linked links (input ∷ inputs) = count_if (bound links input.name.name) + 1 + count_linked links inputs

-- a total so far, with what is further on, is the whole
abbrev pub Counted : ℕ → ℕ → ℕ → Type 0
Counted total rest all = (total < 2 ^ 64) × (capped (total + rest) ≡ capped all)
