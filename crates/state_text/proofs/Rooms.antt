-- How long the text of a state is at most.
use Rattle.std.proofs.Common.{◌≡◌, ℕ, zero, suc, ◌+◌, ◌*◌, ◌^◌, ◌<◌, ◌≤◌, List, [], ◌∷◌, ◌++◌, length, get_or, ◌==◌, Bool, true, false, cond, ap, length-append, arith}
use Rattle.std.proofs.lemmas.Fmt.{length-decimal-le}
use Rattle.std.specs.Prelude.{slice_get, codes}
use Rattle.std.specs.List.{AllByRecursion}
use Rattle.std.specs.Fmt.{decimal}
use Rattle.rec_bits.proofs.Bits.{below_64}
use Rattle.net_model.specs.declared.hardware.Netlist.{Netlist}
use Rattle.net_model.specs.declared.hardware.Storage.{Storage}
use Rattle.net_model.specs.declared.hardware.Storage.TheVariants.{Register, Memory, File}
use Rattle.net_model.specs.declared.hardware.Space.{Space}
use Rattle.net_model.specs.declared.hardware.Space.TheVariants.{Memory as InMemory, File as InFile}
use Rattle.net_model.specs.declared.states.State.{State}
use Rattle.net_model.specs.Nets.{storage_bits, place_in, size_in, width_in, held}
use Rattle.net_model.specs.Texts.{space_name}
use Rattle.net_model.specs.CheckedRules.{StorageKeeps, KeepsRules}
use Rattle.net_model.specs.Widths.{IsState}
use Rattle.net_model.proofs.Memories.{few_sizes, width_found}
use Rattle.state_text.specs.Shown.{register_lines, shown_cell, cell_lines, state_text, register_room, cell_room, state_room}
use Rattle.net_model.specs.MemoryText.{register_line}

digits_short : (n : ℕ) → n < 2 ^ 64 → length (decimal n) ≤ 20
digits_short n h = length-decimal-le 20 n (omega arith) (omega (arith, h)) h

line_short : (name : List ℕ) (value : ℕ) → value < 2 ^ 64 → length (register_line name value) ≤ length name + 22
line_short name value h =
    omega (arith, length-append name (32 ∷ (decimal value ++ (10 ∷ []))), length-append (decimal value) (10 ∷ []), digits_short value h)

registers_short : (regs : List ℕ) (id : ℕ) (storages : List Storage) → ((k : ℕ) → get_or regs k 0 < 2 ^ 64) → length (register_lines regs id storages) ≤ register_room storages
registers_short regs id [] h = omega arith
registers_short regs id (Register name width input when ∷ storages) h =
    omega (arith, length-append (register_line name (get_or regs id 0)) (register_lines regs (id + 1) storages), line_short name (get_or regs id 0) (h id), registers_short regs (id + 1) storages h)
registers_short regs id (Memory cells ∷ storages) h = registers_short regs (id + 1) storages h
registers_short regs id (File cells ∷ storages) h = registers_short regs (id + 1) storages h

cell_short : (name : List ℕ) (address value : ℕ) → address < 2 ^ 64 → value < 2 ^ 64 → length (shown_cell name address value) ≤ length name + 43
cell_short name address value a h = step (value == 0)
  where
    step : (t : Bool) → length (cond t [] (name ++ (32 ∷ (decimal address ++ (32 ∷ (decimal value ++ (10 ∷ []))))))) ≤ length name + 43
    step true = omega arith
    step false = omega (arith, length-append name (32 ∷ (decimal address ++ (32 ∷ (decimal value ++ (10 ∷ []))))), length-append (decimal address) (32 ∷ (decimal value ++ (10 ∷ []))), length-append (decimal value) (10 ∷ []), digits_short address a, digits_short value h)

cells_short : (name : List ℕ) (address : ℕ) (cells : List ℕ) → address + length cells ≤ 2 ^ 63 → ((k : ℕ) → get_or cells k 0 < 2 ^ 64) → length (cell_lines name address cells) ≤ length cells * (length name + 43)
cells_short name address [] small h = omega arith
cells_short name address (value ∷ cells) small h =
    let rest = cells_short name (address + 1) cells (omega (arith, small)) (λ k. h (suc k)) in
    let more : length (value ∷ cells) * (length name + 43) ≡ (length name + 43) + length cells * (length name + 43) = grind arith in
    omega (arith, length-append (shown_cell name address value) (cell_lines name (address + 1) cells), cell_short name address value (omega (arith, small)) (h 0), rest, more)

pub storage_narrow : (netlist : Netlist) (storages : List Storage) (k : ℕ) → AllByRecursion (StorageKeeps netlist) storages → storage_bits (slice_get storages k) ≤ 64
storage_narrow netlist [] k h = omega arith
storage_narrow netlist (Register name width input when ∷ storages) zero h = h.0.0.1
storage_narrow netlist (Memory cells ∷ storages) zero h = h.0.0.1
storage_narrow netlist (File cells ∷ storages) zero h = h.0.0.1
storage_narrow netlist (s ∷ storages) (suc k) h = storage_narrow netlist storages k h.1

space_short : (netlist : Netlist) (order : List ℕ) (s : State) (space : Space) → KeepsRules netlist order → IsState netlist s → length (cell_lines (space_name netlist space) 0 (held s space)) ≤ cell_room netlist space
space_short netlist order s space k h =
    let name = space_name netlist space in
    let wide : width_in space netlist.storages ≤ 64 = omega (arith, storage_narrow netlist netlist.storages (place_in space netlist.storages) k.formed.storages, width_found space netlist.storages) in
    let cells = cells_short name 0 (held s space) (omega (arith, h.cells space, few_sizes netlist order k space)) (λ (i : ℕ). below_64 (get_or (held s space) i 0) (width_in space netlist.storages) wide (h.fits.cells space i)) in
    let sized : length (held s space) * (length name + 43) ≡ size_in space netlist.storages * (length name + 43) = ap (λ n. n * (length name + 43)) (h.cells space) in
    omega (arith, cells, sized)

pub text_short : (netlist : Netlist) (order : List ℕ) (cycles : ℕ) (s : State) → KeepsRules netlist order → IsState netlist s → cycles < 2 ^ 64 → length (state_text netlist cycles s) ≤ state_room netlist
text_short netlist order cycles s k h c =
    let kept = k.formed.storages in
    let regs = registers_short s.regs 0 netlist.storages (λ (i : ℕ). below_64 (get_or s.regs i 0) (storage_bits (slice_get netlist.storages i)) (storage_narrow netlist netlist.storages i kept) (h.fits.regs i)) in
    let done = codes "done\n" ++ [] in
    let cells = cell_lines (space_name netlist InMemory) 0 s.cells in
    let file = cell_lines (space_name netlist InFile) 0 s.file in
    let back = file ++ (cells ++ done) in
    let front = register_lines s.regs 0 netlist.storages ++ back in
    omega (arith, length-append (decimal cycles) (10 ∷ front), length-append (register_lines s.regs 0 netlist.storages) back, length-append file (cells ++ done), length-append cells done, digits_short cycles c, regs, space_short netlist order s InFile k h, space_short netlist order s InMemory k h)
