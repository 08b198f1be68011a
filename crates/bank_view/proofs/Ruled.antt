-- The view keeps the rules that its netlist keeps.
use Rattle.std.proofs.Common.{ℕ, List, length}
use Rattle.net_model.specs.declared.hardware.Netlist.{Netlist}
use Rattle.net_model.specs.ModeRules.{KeepsInOrder}
use Rattle.net_model.specs.Order.{IsOrder}
use Rattle.bank_view.specs.Keeping.{HasBanks, KeepsBanks}
use Rattle.bank_view.specs.Views.{slots_of, view_of}
use Rattle.bank_view.proofs.Beside.{banks_of, beside_of}
use Rattle.bank_view.proofs.Flagged.{view_addresses, view_control, view_enables, view_selectors}
use Rattle.bank_view.proofs.Formed.{view_formed}
use Rattle.bank_view.proofs.Kept.{view_roles}
use Rattle.bank_view.proofs.Ranks.{rank_from, view_ordered}
use Rattle.bank_view.proofs.Sorted.{sorted}

pub view_kept : (d : Netlist) (order : List ℕ) → KeepsBanks d order → KeepsInOrder (view_of d)
view_kept d order k =
    let h : HasBanks d = banks_of d order k in
    let places : List ℕ = sorted (rank_from d order (slots_of d)) (length (view_of d).nets) in
    let o : IsOrder (view_of d) places = view_ordered d order k in
    record {
      order = places;
      rules = record {
        formed = view_formed d h;
        ordered = o;
        roles = view_roles d h;
        enables = view_enables d order k places o;
        control = view_control d order k places o;
        selectors = view_selectors d order k places o;
        addresses = view_addresses d (beside_of d h);
      };
    }
