-- A checked netlist is sound: what follows from the rules.
use mathlib.Core.Bool.{false}
use Rattle.std.proofs.Common.{refl, ◌≡◌, ℕ, ◌+◌, ◌≤◌, List, [], ◌∷◌, Option, Some, None, length, true, arith, slice_get, Bool, cond, ap, ◌==◌, subst, sym, ◌∙◌}
use Rattle.std.specs.List.{AllByRecursion}
use Rattle.net_model.proofs.Storages.{array_of, found}
use Rattle.net_model.specs.declared.hardware.Netlist.{Netlist}
use Rattle.net_model.specs.declared.hardware.Net.{Net}
use Rattle.net_model.specs.declared.hardware.Storage.{Storage}
use Rattle.net_model.specs.declared.hardware.Storage.TheVariants.{Register, Memory, File}
use Rattle.net_model.specs.declared.hardware.Space.{Space}
use Rattle.net_model.specs.declared.hardware.Space.TheVariants.{Memory as InMemory, File as InFile}
use Rattle.net_model.specs.declared.hardware.Gate.{Gate}
use Rattle.net_model.specs.declared.hardware.Gate.TheVariants.{Word, Reg, Read, Case}
use Rattle.net_model.specs.Nets.{IsRegister, counter_of, width_in, space_of, array_width, HasCells}
use Rattle.net_model.specs.Widths.{IsNet, GateFits, NetFits, StorageFits, IsTyped}
use Rattle.net_model.specs.Symbolic.{is_static}
use Rattle.net_model.specs.Control.{write_enables, bus_enables, IsSound}
use Rattle.net_model.proofs.Offsets.{all_parts}
use Rattle.net_model.specs.CheckedRules.{ReadKeeps, GateKeeps, NetKeeps, StorageKeeps, memory_count, register_count, IsWellFormed, IsCounter, KeepsRules, HasBankIf, HasFileIf, HasRoles, count_in}
use Rattle.net_model.specs.Editions.{is_banked}
use Rattle.net_model.proofs.ByEdition.{nets_within}

-- ---- widths: a space has one storage at most, so a read is of its cells

-- each space has one storage at most
pub one_each : (netlist : Netlist) → HasRoles netlist → (space : Space) → count_in space netlist.storages ≤ 1
one_each netlist r InMemory = omega (arith, r.memory)
one_each netlist r InFile = by (is_banked netlist.edition) r.file r.bank
  where
    few : (b : Bool) → count_in InFile netlist.storages ≡ cond b 1 0 → count_in InFile netlist.storages ≤ 1
    few true e = omega (arith, e)
    few false e = omega (arith, e)

    by : (b : Bool) → HasFileIf b netlist → HasBankIf b netlist → count_in InFile netlist.storages ≤ 1
    by true file bank = omega (arith, bank.one)
    by false file bank = few (netlist.edition == 2) file.0

read_fits : (netlist : Netlist) (id width addr : ℕ) → ((space : Space) → count_in space netlist.storages ≤ 1) → (o : Option Storage) → slice_get netlist.storages id ≡ o → ReadKeeps netlist width addr o → IsNet netlist addr × (width_in (space_of o) netlist.storages ≡ width)
read_fits netlist id width addr one None e h = absurd h
read_fits netlist id width addr one (Some (Register name own input when)) e h = absurd h
read_fits netlist id width addr one (Some (Memory cells)) e h =
    (h.1.0, ap array_width ((found InMemory netlist.storages id (one InMemory) (subst (HasCells InMemory) (sym e) tt)).array ∙ ap array_of e) ∙ h.0)
read_fits netlist id width addr one (Some (File cells)) e h =
    (h.1.0, ap array_width ((found InFile netlist.storages id (one InFile) (subst (HasCells InFile) (sym e) tt)).array ∙ ap array_of e) ∙ h.0)

gate_fits : (netlist : Netlist) (width : ℕ) (gate : Gate) → ((space : Space) → count_in space netlist.storages ≤ 1) → GateKeeps netlist width gate → GateFits netlist width gate
gate_fits netlist width (Word code) e h = h.1
gate_fits netlist width (Reg id) e h = h.1
gate_fits netlist width (Read memory addr) e h = read_fits netlist memory width addr e (slice_get netlist.storages memory) refl h
gate_fits netlist width (Case sel rows rest) e h = h.0
gate_fits netlist width _ e h = h

net_fits : (netlist : Netlist) (net : Option Net) → ((space : Space) → count_in space netlist.storages ≤ 1) → NetKeeps netlist net → NetFits netlist net
net_fits netlist None e h = tt
net_fits netlist (Some net) e h = (h.0.0, h.0.1, gate_fits netlist net.width net.gate e h.1)

storage_fits : (netlist : Netlist) (storage : Storage) → StorageKeeps netlist storage → StorageFits netlist storage
storage_fits netlist (Register name width input when) h = h.1
storage_fits netlist (Memory cells) h = h.2
storage_fits netlist (File cells) h = h.2

storages_fit : (netlist : Netlist) (storages : List Storage) → AllByRecursion (StorageKeeps netlist) storages → AllByRecursion (StorageFits netlist) storages
storages_fit netlist [] h = tt
storages_fit netlist (storage ∷ storages) h = (storage_fits netlist storage h.0, storages_fit netlist storages h.1)

-- a netlist that is well formed and has its roles has the widths that every evaluation asks for
pub typed_of : (netlist : Netlist) → IsWellFormed netlist → HasRoles netlist → IsTyped netlist
typed_of netlist w r = record {
  nets = λ n. net_fits netlist (slice_get netlist.nets n) (one_each netlist r) (w.nets n);
  storages = storages_fit netlist netlist.storages w.storages;
  few = omega (arith, w.limits.nets, nets_within netlist.edition);
}

-- ---- control

pub counter_register : (o : Option Storage) → IsCounter o → IsRegister o
counter_register None h = h
counter_register (Some (Register name width input None)) h = tt
counter_register (Some (Register name width input (Some when))) h = absurd h
counter_register (Some (Memory cells)) h = h
counter_register (Some (File cells)) h = h

-- a checked netlist is sound
pub sound_of : (netlist : Netlist) (order : List ℕ) → KeepsRules netlist order → IsSound netlist
sound_of netlist order k = record {
  typed = typed_of netlist k.formed k.roles;
  controlled = record { enables = (all_parts (λ n. is_static netlist n ≡ true) (write_enables netlist) (bus_enables netlist) k.enables).1; selectors = k.selectors };
  storages = (all_parts (λ n. is_static netlist n ≡ true) (write_enables netlist) (bus_enables netlist) k.enables).0;
  counter = counter_register (slice_get netlist.storages (counter_of netlist.codes)) k.roles.counter;
}

-- ---- few storages

pub length-storages : (storages : List Storage) → length storages ≡ register_count storages + memory_count storages + count_in InFile storages
length-storages [] = omega arith
length-storages (Register name width input when ∷ storages) = omega (arith, length-storages storages)
length-storages (Memory cells ∷ storages) = omega (arith, length-storages storages)
length-storages (File cells ∷ storages) = omega (arith, length-storages storages)

-- 13 registers, a memory and a file at most
pub few_storages : (netlist : Netlist) (order : List ℕ) → KeepsRules netlist order → length netlist.storages ≤ 15
few_storages netlist order k =
    omega (arith, length-storages netlist.storages, k.formed.limits.registers, k.roles.memory, one_each netlist k.roles InFile)
