-- One clock more of a run.
use Rattle.std.proofs.Common.{◌≡◌, ℕ, suc, ◌+◌, List, ap}
use Rattle.net_model.specs.declared.hardware.Netlist.{Netlist}
use Rattle.net_model.specs.declared.states.State.{State}
use Rattle.net_model.specs.Clock.{clock, run_from, then_run, Next, Clash, Clashed}

-- a clock that leads on leaves one clock less
pub run_next : (netlist : Netlist) (words : List ℕ) (s t : State) (cycle more left : ℕ) → left ≡ suc more → clock netlist words s ≡ Next t → run_from cycle netlist words s left ≡ run_from (cycle + 1) netlist words t more
run_next netlist words s t cycle more left is next =
    rw is (ap (then_run cycle (λ (u : State). run_from (cycle + 1) netlist words u more)) next)

-- one that clashes ends the run
pub run_clash : (netlist : Netlist) (words : List ℕ) (s : State) (cycle bus more left : ℕ) → left ≡ suc more → clock netlist words s ≡ Clash bus → run_from cycle netlist words s left ≡ Clashed cycle bus
run_clash netlist words s cycle bus more left is clash =
    rw is (ap (then_run cycle (λ (u : State). run_from (cycle + 1) netlist words u more)) clash)
