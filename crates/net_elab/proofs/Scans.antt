-- The scans that number a text.
use Rattle.std.proofs.Common.{ℕ, ◌≡◌, ◌+◌, ◌≤◌, List, ◌++◌}
use Rattle.grammar.specs.declared.words.Ident.{Ident}
use Rattle.net_model.specs.declared.units.Port.{Port}
use Rattle.net_model.specs.Written.{UnitModel, NetExprModel}
use Rattle.net_model.specs.Numbering.{count_inputs, count_outputs, count_items, port_wires, last_nets, storage_numbers, wires_from}

-- the wires so far, and those of the ports that are left
pub record Wired (start wire : ℕ) (links : List (Ident × NetExprModel)) (all left : List Port) (input output : ℕ) (wires : List ℕ) : Type 0 where
  pub wires_so : wires ++ port_wires input output links left ≡ port_wires start wire links all
  pub inputs_so : input + count_inputs links left ≡ start + count_inputs links all
  pub outputs_so : output + count_outputs left ≡ wire + count_outputs all

-- the numbers so far, and those of the items that are left
pub record Scanned (text : List UnitModel) (i : ℕ) (left : List UnitModel) (start storage : ℕ) (nets storages : List ℕ) (wires : List (List ℕ)) : Type 0 where
  pub nets_so : nets ++ last_nets text start left ≡ last_nets text 0 text
  pub storages_so : storages ++ storage_numbers storage left ≡ storage_numbers 0 text
  pub wires_so : wires ++ wires_from text start left ≡ wires_from text 0 text
  pub long : start + count_items text left ≡ count_items text text
  pub few : storage ≤ i
