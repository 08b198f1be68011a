-- How clocks lead from checkpoint to checkpoint, where something holds of each state at a mark. What
-- is said of the store is said over a function that finds it in a state (`FollowsBy`, `RestsBy`), and
-- then of the store at the places.
use Rattle.std.specs.Prelude.{ℕ, Bool, true, false, List, [], ◌∷◌, ◌≡◌, ◌≤◌, Some}
use Rattle.net_model.specs.declared.hardware.Netlist.{Netlist}
use Rattle.net_model.specs.declared.states.State.{State}
use Rattle.src_model.specs.declared.checkpoint.Checkpoint.{Checkpoint}
use Rattle.src_model.specs.declared.checkpoint.Checkpoint.TheVariants.{At, End}
use Rattle.code_model.specs.declared.image.Image.{Image}
use Rattle.net_model.specs.Clock.{clock, Next}
use Rattle.src_model.specs.Ways.{Passed, Onward}
use Rattle.code_model.specs.Places.{words_of}
use Rattle.code_model.specs.Machine.{label_in, store_in}
use Rattle.code_model.specs.Flow.{Reaches}

-- what holds after a checkpoint: nothing comes after the end, and something after a test
abbrev pub Then : Checkpoint → List Passed → Type 0 → Type 0
Then (At tree) ps Later = Later
Then End ps Later = ps ≡ []

-- from s the machine shows these checkpoints: the first within d clocks, each later one within l
-- clocks of the clock that leaves the one before; and each state at a mark is good
abbrev pub FollowsBy : (State → List ℕ) → Netlist → Image → (State → Type 0) → ℕ → ℕ → State → List Passed → Type 0
FollowsBy store netlist image good l d s [] = Unit {0}
FollowsBy store netlist image good l d s (p ∷ ps) =
    (n : ℕ) × (t : State) × (n ≤ d) × Reaches netlist image s n t
    × (label_in netlist image t ≡ Some p.label) × (store t ≡ p.cells) × good t
    × Then p.label ps ((u : State) × (clock netlist (words_of image) t ≡ Next u) × FollowsBy store netlist image good l l u ps)

abbrev pub Follows : Netlist → Image → (State → Type 0) → ℕ → ℕ → State → List Passed → Type 0
Follows netlist image good l d s ps = FollowsBy (store_in image) netlist image good l d s ps

-- from each of these states the machine shows the checkpoints of a way on, up to m of them, the
-- first within d clocks
abbrev pub Stands : Netlist → Image → (State → Type 0) → ℕ → ℕ → (State → Type 0) → Onward → ℕ → Type 0
Stands netlist image good l d P way m =
    (j : ℕ) → j ≤ m → (s : State) → P s → Follows netlist image good l d s (way j (store_in image s))

-- within so many clocks, and without a mark before the last state, s leads to such a state with
-- this store
pub record Leads (netlist : Netlist) (image : Image) (Q : State → Type 0) (cells : List ℕ)
    (clocks : ℕ) (s : State) : Type 0 where
  pub taken : ℕ
  pub last : State
  pub within : taken ≤ clocks
  pub reaches : Reaches netlist image s taken last
  pub holds : Q last
  pub store : store_in image last ≡ cells

-- s stands at the mark of a test, and the test decides where it leads, which leaves the store
pub record Tests (netlist : Netlist) (image : Image) (tree : ℕ) (test : List ℕ → Bool)
    (Q R : State → Type 0) (clocks : ℕ) (s : State) : Type 0 where
  pub label : label_in netlist image s ≡ Some (At tree)
  pub next : State
  pub clocked : clock netlist (words_of image) s ≡ Next next
  pub on_true : test (store_in image s) ≡ true → Leads netlist image Q (store_in image s) clocks next
  pub on_false : test (store_in image s) ≡ false → Leads netlist image R (store_in image s) clocks next

-- at a good state at the end's mark a clock leads to another one, and leaves the store
pub record RestsBy (store : State → List ℕ) (netlist : Netlist) (image : Image) (good : State → Type 0)
    (s : State) : Type 0 where
  pub next : State
  pub clocked : clock netlist (words_of image) s ≡ Next next
  pub label : label_in netlist image next ≡ Some End
  pub holds : good next
  pub same : store next ≡ store s

abbrev pub Rests : Netlist → Image → (State → Type 0) → State → Type 0
Rests netlist image good s = RestsBy (store_in image) netlist image good s
