-- What follows of words that are made for a netlist, as statements.
use Rattle.std.specs.Prelude.{ℕ, ◌≡◌, ◌≤◌, List, length, Option}
use Rattle.net_model.specs.declared.hardware.Netlist.{Netlist}
use Rattle.net_model.specs.CheckedRules.{KeepsRules, code_size}
use Rattle.net_model.specs.Nets.{memory_size}
use Rattle.form_model.specs.Covers.{JobCoverModel}
use Rattle.self_test.specs.Cells.{test_need}
use Rattle.test_code.specs.Tried.{IsMadeFor}
use Rattle.test_command.specs.Refusals.{IsTestText}
use Rattle.test_command.specs.Tested.{IsRightTest}

-- where there are cells and room for it, a self-test that is made for a netlist is right
abbrev pub MadeIsRight : Type 0
MadeIsRight =
    (netlist : Netlist) (order : List ℕ) → KeepsRules netlist order →
    (tried : List (Option JobCoverModel)) (words : List ℕ) (made : IsMadeFor netlist tried words) →
    test_need netlist made.all made.patterns ≤ memory_size netlist.storages →
    length words ≤ code_size netlist.codes →
    (good : List ℕ) × IsRightTest netlist tried words good

-- and its words have one text
abbrev pub WordsHaveOneText : Type 0
WordsHaveOneText =
    (netlist : Netlist) (text other : List ℕ) (a : IsTestText netlist text) (b : IsTestText netlist other) →
    a.words ≡ b.words → text ≡ other
