-- Lines of registers and cells, one after the other.
use Rattle.std.proofs.Common.{◌≡◌, ℕ, zero, suc, ◌+◌, ◌<◌, List, [], ◌∷◌, ◌++◌, length, drop, get_or, refl, sym, ap, ◌∙◌, drop-cons, add-one, Some, None}
use Rattle.std.proofs.lemmas.List.{append-nil}
use Rattle.std.proofs.lemmas.Option.{get_or_from_slice_get, slice_get_within}
use Rattle.std.specs.Prelude.{slice_get}
use Rattle.net_model.specs.declared.hardware.Storage.{Storage}
use Rattle.net_model.specs.declared.hardware.Storage.TheVariants.{Register, Memory, File}
use Rattle.state_text.specs.Shown.{register_lines, shown_cell, cell_lines}
use Rattle.net_model.specs.MemoryText.{register_line}

one_register : (regs : List ℕ) (id : ℕ) (storage : Storage) (storages : List Storage) → register_lines regs id (storage ∷ storages) ≡ register_lines regs id (storage ∷ []) ++ register_lines regs (id + 1) storages
one_register regs id (Register name width input when) storages = ap (λ f. f ++ register_lines regs (id + 1) storages) (sym (append-nil (register_line name (get_or regs id 0))))
one_register regs id (Memory cells) storages = refl
one_register regs id (File cells) storages = refl

pub register_next : (regs : List ℕ) (id : ℕ) (storages : List Storage) (storage : Storage) → id < length storages → storage ≡ get_or storages id storage →
    register_lines regs id (drop id storages) ≡ register_lines regs id (storage ∷ []) ++ register_lines regs (id + 1) (drop (id + 1) storages)
register_next regs id storages storage lt e =
    ap (register_lines regs id) (drop-cons storages id storage lt ∙ ap (λ s. s ∷ drop (suc id) storages) (sym e)) ∙ one_register regs id storage (drop (suc id) storages)
    ∙ ap (λ n. register_lines regs id (storage ∷ []) ++ register_lines regs (id + 1) (drop n storages)) (sym (add-one id))

pub cell_next : (name : List ℕ) (address : ℕ) (cells : List ℕ) (value : ℕ) → slice_get cells address ≡ Some value →
    cell_lines name address (drop address cells) ≡ shown_cell name address value ++ cell_lines name (address + 1) (drop (address + 1) cells)
cell_next name address cells value e =
    let lt : address < length cells = slice_get_within cells address value e in
    ap (cell_lines name address) (drop-cons cells address 0 lt)
    ∙ ap (λ v. shown_cell name address v ++ cell_lines name (address + 1) (drop (suc address) cells)) (get_or_from_slice_get cells address value 0 e)
    ∙ ap (λ n. shown_cell name address value ++ cell_lines name (address + 1) (drop n cells)) (sym (add-one address))

pub no_more : (name out initial all : List ℕ) (address : ℕ) (cells : List ℕ) → slice_get cells address ≡ None → out ++ cell_lines name address (drop address cells) ≡ initial ++ all → out ≡ initial ++ all
no_more name out initial all address cells e h =
    let past : drop address cells ≡ [] = empty cells address e in
    sym (append-nil out) ∙ ap (λ r. out ++ cell_lines name address r) (sym past) ∙ h
  where
    empty : (cells : List ℕ) (address : ℕ) → slice_get cells address ≡ None → drop address cells ≡ []
    empty [] zero e = refl
    empty [] (suc n) e = refl
    empty (c ∷ cs) zero e = absurd cc
    empty (c ∷ cs) (suc n) e = empty cs n e
