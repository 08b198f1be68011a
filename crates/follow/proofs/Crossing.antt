-- Where the marks of an image follow a program, the machine shows what the program passes, but for what
-- is hidden.
use Rattle.std.proofs.Common.{ℕ, ◌≡◌, Bool, if◌then◌else◌, List, [], ◌∷◌, Option, Some, None, refl, sym, ◌∙◌, ap, subst, slice_get}
use Rattle.rec_bits.proofs.Options.{same_Some}
use Rattle.net_model.specs.declared.hardware.Netlist.{Netlist}
use Rattle.net_model.specs.declared.states.State.{State}
use Rattle.net_model.specs.Clock.{clock, Next}
use Rattle.net_model.specs.Nets.{memory_size}
use Rattle.src_model.specs.declared.checkpoint.Checkpoint.{Checkpoint}
use Rattle.src_model.specs.declared.checkpoint.Checkpoint.TheVariants.{At, End as TheEnd}
use Rattle.src_model.specs.Written.{ProgramModel}
use Rattle.src_model.specs.Ways.{Passed}
use Rattle.code_model.specs.declared.views.Viewed.{Viewed}
use Rattle.code_model.specs.Inner.Flow.{Then, FollowsBy}
use Rattle.code_model.specs.Machine.{IsCalm, IsRestful}
use Rattle.code_model.specs.Places.{words_of, label_at}
use Rattle.code_model.specs.Views.{hidden_at, mask_store, masked, shown_store}
use Rattle.form_model.specs.declared.flow.Flow.{Flow}
use Rattle.form_model.specs.declared.flow.Flow.TheVariants.{Assign, Test, Jump, End}
use Rattle.src_trees.specs.Doing.{all_done}
use Rattle.src_trees.specs.Flows.{program_flow, program_jobs}
use Rattle.src_trees.specs.Held.{HasCellRoom, HoldsCells}
use Rattle.src_trees.specs.Lowered.{MemoryMap}
use Rattle.src_trees.specs.Seen.{seen_store}
use Rattle.follow.specs.Followed.{Arrives, Crosses, IsFollowed}
use Rattle.follow.specs.Paths.{Path, path_from, checkpoint_at}
use Rattle.follow.specs.Relations.{Relation, IsRelated}
use Rattle.follow.specs.Safe.{AreSafe, IsTestSafe}
use Rattle.follow.proofs.Passing.{Onwards, PassesFrom}
use Rattle.follow.proofs.Showing.{related_shows}

module _ (netlist : Netlist) (viewed : Viewed) (relation : ℕ → Relation) (m : MemoryMap) (temps : ℕ) (l : ProgramModel) (room : HasCellRoom temps m (memory_size netlist.storages)) (places : viewed.image.places ≡ m.places)
    (f : IsFollowed netlist viewed relation m temps l) where
  -- s comes to the next checkpoint over each path from a place
  abbrev Comes : ℕ → List ℕ → State → Type 0
  Comes at cells s = (n : ℕ) (path : Path) → path_from (program_flow l) (program_jobs m l) n at ≡ Some path → AreSafe m temps l.vars cells path.jobs
      → IsTestSafe m temps l.vars (program_jobs m l) (checkpoint_at (slice_get (program_flow l) path.to)) (all_done path.jobs cells)
      → Arrives netlist viewed relation m f.last (checkpoint_at (slice_get (program_flow l) path.to)) (all_done path.jobs cells) s

  abbrev Shown : State → List Passed → Type 0
  Shown s ps = FollowsBy (shown_store netlist viewed) netlist viewed.image (IsRestful netlist) f.last f.last s (masked viewed ps)

  -- what comes behind a mark
  behind : (x : Option Flow) (at address : ℕ) (cells : List ℕ) (label : Checkpoint) (ps : List Passed) (s : State) → slice_get (program_flow l) at ≡ x → checkpoint_at x ≡ Some label
      → label_at viewed.image.marks address ≡ Some label → IsCalm netlist address s → IsRelated viewed m relation address s cells → HoldsCells temps m cells
      → Onwards m temps l.vars (program_flow l) (program_jobs m l) x cells ps (λ (to : ℕ). PassesFrom m temps l.vars (program_flow l) (program_jobs m l) to cells ps)
      → ((to : ℕ) (u : State) → PassesFrom m temps l.vars (program_flow l) (program_jobs m l) to cells ps → Comes to cells u → Shown u ps)
      → Then label (masked viewed ps) ((u : State) × (clock netlist (words_of viewed.image) s ≡ Next u) × Shown u ps)
  behind None at address cells label ps s e c marked calm r h o later = absurd o
  behind (Some (Assign tree)) at address cells label ps s e c marked calm r h o later = absurd o
  behind (Some (Jump to)) at address cells label ps s e c marked calm r h o later = absurd o
  behind (Some End) at address cells label ps s e c marked calm r h o later =
      subst (λ (x : Checkpoint). Then x (masked viewed ps) ((u : State) × (clock netlist (words_of viewed.image) s ≡ Next u) × Shown u ps)) (same_Some TheEnd label c) (ap (masked viewed) o)
  behind (Some (Test tree one zer)) at address cells label ps s e c marked calm r h o later =
      subst (λ (x : Checkpoint). Then x (masked viewed ps) ((u : State) × (clock netlist (words_of viewed.image) s ≡ Next u) × Shown u ps)) (same_Some (At tree) label c)
      (let d : Bool = o.0 in
      let to : ℕ = if d then one else zer in
      let w = o.5.0 in
      let same : label_at viewed.image.marks address ≡ Some (At tree) = marked ∙ sym c in
      let first : Crosses netlist viewed relation m f.last (checkpoint_at (slice_get (program_flow l) w.path.to)) (all_done w.path.jobs cells) s =
      f.tests address tree at one zer same e d w.most w.path w.is o.1 o.2 s cells calm r h o.3 o.4 w.safe w.asks in
      let each : Comes to cells first.next = λ n path is safe asks.
      (let other : Crosses netlist viewed relation m f.last (checkpoint_at (slice_get (program_flow l) path.to)) (all_done path.jobs cells) s =
      f.tests address tree at one zer same e d n path is o.1 o.2 s cells calm r h o.3 o.4 safe asks in
      subst (λ (u : State). Arrives netlist viewed relation m f.last (checkpoint_at (slice_get (program_flow l) path.to)) (all_done path.jobs cells) u)
      (next_same other.next first.next (sym other.clocked ∙ first.clocked)) other.arrives) in
      (first.next, first.clocked, later to first.next o.5 each))
    where
      next_same : (a b : State) → Next a ≡ Next b → a ≡ b
      next_same a b e = cc

  -- what is passed from a place is shown from each state that comes to its next checkpoint
  pub shown : (ps : List Passed) (at : ℕ) (cells : List ℕ) (s : State) → PassesFrom m temps l.vars (program_flow l) (program_jobs m l) at cells ps → Comes at cells s → Shown s ps
  shown [] at cells s h comes = tt
  shown (p ∷ ps) at cells s h comes =
      let w = h.0 in
      let done : List ℕ = all_done w.path.jobs cells in
      let a : Arrives netlist viewed relation m f.last (checkpoint_at (slice_get (program_flow l) w.path.to)) done s = comes w.most w.path w.is w.safe w.asks in
      let marked : label_at viewed.image.marks a.address ≡ Some p.label = a.marked ∙ h.1.0 in (
        a.taken,
        a.last,
        a.within,
        a.reaches,
        ap (label_at viewed.image.marks) a.here.here.counter ∙ marked,
        related_shows netlist viewed relation m temps a.address a.last done room places a.here w.holds a.related
            ∙ ap (λ (label : Option Checkpoint). mask_store (hidden_at viewed.hidden label) viewed.image.places (seen_store m done)) marked
            ∙ ap (mask_store (hidden_at viewed.hidden (Some p.label)) viewed.image.places) h.1.1,
        record { state = a.here.here.state; mode = a.here.mode },
        behind (slice_get (program_flow l) w.path.to) w.path.to a.address done p.label ps a.last refl h.1.0 marked a.here a.related w.holds h.1.2 (λ to u q c. shown ps to done u q c),
      )
