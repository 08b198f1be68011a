-- A simulator that is about to be watched.
use Rattle.std.specs.Prelude.{ℕ, ◌≡◌, List}
use Rattle.net_model.specs.Widths.{IsState}
use Rattle.src_model.specs.declared.program.Var.{Var as Declared}
use Rattle.code_model.specs.declared.image.Image.{Image}
use Rattle.code_model.specs.Machine.{mtrace}
use Rattle.code_model.specs.Places.{words_of}
use Rattle.cycle_sim.specs.Shown.{Shown}
use Rattle.src_model.specs.Meaning.{zeros}
use Rattle.checkpoint_watch.specs.Inner.Scenes.{IsScene}
use Rattle.checkpoint_watch.specs.Inner.Traces.{IsShown}

-- it has the image's words, and no clock up to the end mark clashes; nothing was told of the
-- variables
pub record IsWatchable (sim : Shown) (image : Image) (vars : List Declared) (address : ℕ)
    (last_cells : List ℕ) (clocks : ℕ) : Type 0 where
  pub scene : IsScene sim.netlist image vars address
  pub state : IsState sim.netlist sim.state
  pub words : sim.words ≡ words_of image
  pub fresh : last_cells ≡ zeros vars
  pub shown : IsShown (mtrace sim.netlist image sim.state 0 clocks)
