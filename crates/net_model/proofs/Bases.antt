-- The netlist of a mode stands for the netlist while the mode is that.
use Rattle.std.proofs.Common.{ℕ, ◌≡◌, ◌<◌, ◌^◌, List, length, Option, Some, None, refl, sym, ◌∙◌, ap, subst, slice_get, slice_index}
use Rattle.net_model.specs.declared.hardware.Netlist.{Netlist}
use Rattle.net_model.specs.declared.hardware.Storage.{Storage}
use Rattle.net_model.specs.declared.states.State.{State}
use Rattle.net_model.specs.Nets.{storage_bits, size_in, width_in, held}
use Rattle.net_model.specs.Widths.{IsState}
use Rattle.net_model.specs.Fixed.{in_mode}
use Rattle.net_model.specs.Modes.{IsBase, IsInMode}
use Rattle.net_model.proofs.Clocking.{modes_are_fixed}

pub base_of : (netlist : Netlist) (special : Option ℕ) (v : ℕ) → IsBase netlist special v (in_mode special v netlist)
base_of netlist None v = record { storages = refl; codes = refl; clocks = λ words s is. refl }
base_of netlist (Some mode) v = record {
  storages = refl;
  codes = refl;
  clocks = λ words s is. (let h : IsInMode netlist (Some mode) v s = modes_are_fixed netlist (Some mode) v s is in sym (h.clock words));
}

-- a state fits netlists of the same storages alike
pub state_in : (a b : Netlist) (s : State) → a.storages ≡ b.storages → IsState a s → IsState b s
state_in a b s e h = record {
  regs = h.regs ∙ ap length e;
  cells = λ space. h.cells space ∙ ap (size_in space) e;
  fits = record {
    regs = λ id. subst (λ (list : List Storage). slice_index s.regs id < 2 ^ storage_bits (slice_get list id)) e (h.fits.regs id);
    cells = λ space x. subst (λ (list : List Storage). slice_index (held s space) x < 2 ^ width_in space list) e (h.fits.cells space x);
  };
}
