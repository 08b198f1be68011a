-- The state in which a self-test starts fits the netlist.
use Rattle.std.proofs.Common.{◌≡◌, ℕ, zero, suc, ◌+◌, ◌-◌, ◌^◌, ◌%◌, ◌<◌, List, [], ◌∷◌, ◌++◌, append_assoc, length, slice_index, refl, ap, arith, sym, ◌∙◌}
use Rattle.std.proofs.lemmas.Nat.{pow_pos}
use Rattle.std.proofs.lemmas.List.{length-replicate}
use Rattle.std.proofs.Math.Nat.{mod-lt}
use Rattle.net_model.specs.declared.hardware.Netlist.{Netlist}
use Rattle.net_model.specs.declared.hardware.Space.TheVariants.{File as InFile}
use Rattle.net_model.proofs.Spaces.{by_space}
use Rattle.net_model.specs.Nets.{held, memory_size, memory_width, size_in, width_in}
use Rattle.net_model.specs.Widths.{IsState}
use Rattle.net_model.proofs.Blanks.{zeros_below}
use Rattle.test_run.specs.Starts.{cells_from, test_start}

cells_below : (w at n a : ℕ) → slice_index (cells_from w at n) a < 2 ^ w
cells_below w at zero a = pow_pos w
cells_below w at (suc n) zero = mod-lt (at + 1) (pow_pos w)
cells_below w at (suc n) (suc a) = cells_below w (at + 1) n a

pub length-cells_from : (w at n : ℕ) → length (cells_from w at n) ≡ n
length-cells_from w at zero = refl
length-cells_from w at (suc n) = ap suc (length-cells_from w (at + 1) n)

pub start_fits : (netlist : Netlist) → IsState netlist (test_start netlist)
start_fits netlist = record {
  regs = length-replicate _ _;
  cells = by_space (λ space. length (held (test_start netlist) space) ≡ size_in space netlist.storages)
      (length-cells_from (memory_width netlist.storages) 0 (memory_size netlist.storages))
      (length-replicate (size_in InFile netlist.storages) 0);
  fits = record {
    regs = λ id. zeros_below (length netlist.storages) _ id;
    cells = by_space (λ space. (a : ℕ) → slice_index (held (test_start netlist) space) a < 2 ^ width_in space netlist.storages)
        (cells_below (memory_width netlist.storages) 0 (memory_size netlist.storages))
        (λ a. zeros_below (size_in InFile netlist.storages) _ a);
  };
}

-- one more cell, and those that are left
pub cell_added : (w at size x : ℕ) (old new whole : List ℕ) → at < size → x ≡ (at + 1) % 2 ^ w → new ≡ old ++ x ∷ [] → old ++ cells_from w at (size - at) ≡ whole → new ++ cells_from w (at + 1) (size - (at + 1)) ≡ whole
cell_added w at size x old new whole lt e n h =
    let rest : List ℕ = cells_from w (at + 1) (size - (at + 1)) in
    ap (λ xs. xs ++ rest) n ∙ append_assoc old (x ∷ []) rest ∙ ap (λ y. old ++ y ∷ rest) e
    ∙ ap (λ xs. old ++ xs) (sym (ap (cells_from w at) (let k : size - at ≡ suc (size - (at + 1)) = omega (arith, lt) in k)))
    ∙ h
