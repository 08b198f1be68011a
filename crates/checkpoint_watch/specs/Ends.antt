-- When the end mark is seen, and when a program ends.
use Rattle.std.specs.Prelude.{ℕ, ◌≡◌, ◌||◌, Bool, true, false, List, [], ◌∷◌}
use Rattle.net_model.specs.declared.hardware.Netlist.{Netlist}
use Rattle.net_model.specs.declared.states.State.{State}
use Rattle.src_model.specs.Ways.{Passed}
use Rattle.code_model.specs.declared.image.Image.{Image}
use Rattle.code_model.specs.Machine.{TraceEntry, Shows, mtrace}
use Rattle.code_model.specs.Right.{passed_of}
use Rattle.checkpoint_watch.specs.Texts.{is_end}

-- the end is one of these checkpoints
abbrev pub has_passed_end : List Passed → Bool
has_passed_end [] = false
has_passed_end (p ∷ ps) = is_end p.label || has_passed_end ps

-- over some number of clocks from this state, none of which clashes before, the netlist comes to
-- the end mark
pub record ReachesEnd (netlist : Netlist) (image : Image) (s : State) : Type 0 where
  pub clocks : ℕ
  pub entries : List TraceEntry
  pub traced : mtrace netlist image s 0 clocks ≡ Shows entries
  pub ended : has_passed_end (passed_of entries) ≡ true

-- the source, whose first checkpoints from a store are given, comes to its end
pub record PassesEnd (trace : List ℕ → ℕ → List Passed) (cells : List ℕ) : Type 0 where
  pub count : ℕ
  pub ended : has_passed_end (trace cells count) ≡ true
