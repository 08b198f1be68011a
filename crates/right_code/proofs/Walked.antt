-- Words that fit groups, clocked one after the other, each clock to the next address, in the mode
-- in which the first one is clocked.
use Rattle.std.proofs.Common.{ℕ, zero, suc, ◌≡◌, ◌≤◌, ◌<◌, ◌+◌, ◌^◌, List, [], ◌∷◌, length, drop, Option, Some, None, refl, sym, ◌∙◌, ap, arith, subst, slice_index}
use Rattle.std.specs.List.{AllByRecursion}
use Rattle.std.proofs.Math.Nat.{mod-eq_of_lt}
use Rattle.net_model.specs.declared.hardware.Netlist.{Netlist}
use Rattle.net_model.specs.declared.hardware.Space.TheVariants.{Memory as InMemory, File as InFile}
use Rattle.net_model.specs.Widths.{IsState}
use Rattle.net_model.specs.declared.states.State.{State}
use Rattle.net_model.specs.CheckedRules.{KeepsRules}
use Rattle.net_model.specs.Control.{IsSound}
use Rattle.net_model.specs.Nets.{counter_width, file_place, size_in}
use Rattle.net_model.specs.Clock.{Next, Reached, counter_in, run_from, then_run}
use Rattle.net_model.specs.Patterns.{Pattern}
use Rattle.net_model.specs.Transfers.{Moved}
use Rattle.net_model.proofs.Effects.{moved}
use Rattle.net_model.proofs.KeptRules.{sound_of}
use Rattle.code_model.specs.declared.image.Image.{Image}
use Rattle.code_model.specs.Places.{words_of}
use Rattle.code_model.specs.Machine.{IsAt}
use Rattle.code_model.proofs.Fixed.{fixed_is}
use Rattle.form_model.specs.Covers.{StockModel}
use Rattle.compaction.specs.Laws.{operation_in}
use Rattle.form_model.specs.Effects.{Operation, steps_effect}
use Rattle.form_model.specs.Live.{Regs, live_before}
use Rattle.word_fit.specs.Fits.{fits_over, FitsGroup}
use Rattle.word_fit.specs.Groups.{Agree, GroupsFit}
use Rattle.word_fit.specs.Runs.{IsClocked, StandAt, RunsTo}
use Rattle.word_fit.proofs.Clocks.{clocks, one_on, step}
use Rattle.compaction.specs.Meant.{MeansSteps}
use Rattle.emit_seq.specs.Formed.{AreFormed}
use Rattle.net_model.specs.Fixed.{mode_in}
use Rattle.net_model.specs.Modes.{IsBase}
use Rattle.code_model.specs.Words.{KeepsMode}
use Rattle.code_model.proofs.Bases.{at_in}
use Rattle.src_trees.specs.Lowered.{JobModel}
use Rattle.branch_fix.specs.Made.{Walks, image_word}
use Rattle.branch_fix.specs.Sections.{DoesIn, PutsMode}
use Rattle.right_code.specs.Jobs.{jobs_steps}
use Rattle.right_code.specs.Inner.Jobs.{LeavesDone}
use Rattle.right_code.specs.Inner.Blocks.{WalksTo, IsBlockMade, IsModeWordMade}
use Rattle.right_code.proofs.Jobs.{jobs_left}

reached_same : (s t : State) → Reached s ≡ Reached t → s ≡ t
reached_same s t e = cc

next_same : (s t : State) → Next s ≡ Next t → s ≡ t
next_same s t e = cc

mode_kept : (base : Netlist) (words : List ℕ) (i : ℕ) (s : State) (m : Moved base words i s) (o : Option ℕ) → KeepsMode o base i → mode_in o m.next ≡ mode_in o s
mode_kept base words i s m None k = refl
mode_kept base words i s m (Some id) k = m.regs id k.0 ∙ rw k.1 refl

-- the file of a state has as many cells as the netlist says
pub filed : (netlist : Netlist) (n : ℕ) (s : State) → n ≡ size_in InFile netlist.storages → IsState netlist s → n ≤ length s.file
filed netlist n s e h = let c : length s.file ≡ size_in InFile netlist.storages = h.cells InFile in omega (arith, e, c)

-- `base` is what the netlist is in the mode v
module _ (netlist base : Netlist) (v : ℕ) (is : IsBase netlist netlist.special v base) (order : List ℕ) (keeps : KeepsRules base order) (image : Image) where
  sound : IsSound base
  sound = sound_of base order keeps

  here_in : (at : ℕ) (s : State) → IsAt netlist at s → IsAt base at s
  here_in at s h = at_in netlist base at s (sym is.storages) (sym is.codes) h

  out_of : (at : ℕ) (s : State) → IsAt base at s → IsAt netlist at s
  out_of at s h = at_in base netlist at s is.storages is.codes h

  -- a walk is a run
  walk_runs : (n at cycle : ℕ) (s t : State) → Walks base image at s n t → run_from cycle base (words_of image) s n ≡ Reached t
  walk_runs zero at cycle s t w = ap Reached w.0
  walk_runs (suc n) at cycle s t w =
      ap (then_run cycle (λ u. run_from (cycle + 1) base (words_of image) u n)) w.1.1 ∙ walk_runs n (at + 1) (cycle + 1) w.1.0 t w.1.2

  -- both walks to one state
  record WalksBoth (at n : ℕ) (s : State) : Type 0 where
    last : State
    inner : Walks base image at s n last
    outer : Walks netlist image at s n last
    mode : mode_in netlist.special last ≡ v

  module _ {A : Type 0} (m : A → Operation) (after : Regs) where
    walk : (ws : List ℕ) (gs : List (List A)) (at : ℕ) (s : State) → GroupsFit m (fits_over base m) ws gs after → AllByRecursion (KeepsMode netlist.special base) ws → IsAt base at s → mode_in netlist.special s ≡ v
        → StandAt (words_of image) at ws → at + length ws < 2 ^ counter_width base → WalksBoth at (length ws) s
    walk [] [] at s f kept h mode p b = record { last = s; inner = (refl, h); outer = (refl, out_of at s h); mode = mode }
    walk [] (g ∷ gs) at s f kept h mode p b = absurd f
    walk (w ∷ ws) [] at s f kept h mode p b = absurd f
    walk (w ∷ ws) (g ∷ gs) at s f kept h mode p b =
        let l : Regs = live_before m gs after in
        let fit : FitsGroup base m w g l = f.0 in
        let d : IsClocked base m (words_of image) g l s = clocks base order keeps (words_of image) w s h.state fit.clean (ap (slice_index (words_of image)) h.counter ∙ p.0) m g l fit in
        let c : counter_in base s ≡ at = h.counter in
        let one : counter_in base d.next ≡ at + 1 = d.counter ∙ mod-eq_of_lt (omega (arith, b, c)) ∙ ap (λ n. n + 1) c in
        let mv : Moved base (words_of image) w s = moved base (words_of image) w s sound h.state fit.clean (ap (slice_index (words_of image)) h.counter ∙ p.0) in
        let same : mv.next ≡ d.next = next_same mv.next d.next (sym mv.clocked ∙ d.clocked) in
        let in_mode : mode_in netlist.special d.next ≡ v = ap (mode_in netlist.special) (sym same) ∙ mode_kept base (words_of image) w s mv netlist.special kept.0 ∙ mode in
        let r : WalksBoth (at + 1) (length ws) d.next = walk ws gs (at + 1) d.next f.1 kept.1 (record { state = d.state; counter = one }) in_mode p.1 (omega (arith, b)) in
        record {
          last = r.last;
          inner = (h, (d.next, d.clocked, r.inner));
          outer = (out_of at s h, (d.next, is.clocks (words_of image) s mode ∙ d.clocked, r.outer));
          mode = r.mode;
        }

    -- and leads to what the steps leave that the groups mean, in the memory and in the live
    -- registers
    pub walked : (xs : List A) (gs : List (List A)) (ws : List ℕ) (at : ℕ) (s : State) → MeansSteps base m after xs gs → GroupsFit m (fits_over base m) ws gs after → AllByRecursion (KeepsMode netlist.special base) ws
        → IsAt netlist at s → mode_in netlist.special s ≡ v → StandAt (words_of image) at ws → at + length ws < 2 ^ counter_width base → WalksTo netlist v image at (length ws) after s (steps_effect m xs s)
    walked xs gs ws at s means f kept here mode p b =
        let h : IsAt base at s = here_in at s here in
        let c : counter_in base s ≡ at = h.counter in
        let w : WalksBoth at (length ws) s = walk ws gs at s f kept h mode p b in
        let r : RunsTo base (words_of image) s (length ws) after (steps_effect m xs s) =
        means (words_of image) ws s f h.state (subst (λ n. StandAt (words_of image) n ws) (sym c) p) (omega (arith, b, c)) in
        let e : r.last ≡ w.last = reached_same r.last w.last (sym r.is ∙ walk_runs (length ws) at 0 s w.last w.inner) in
        record { last = w.last; walks = w.outer; mode = w.mode; agree = subst (λ t. Agree after t (steps_effect m xs s)) e r.agree }

  -- the words of jobs of the mode do them
  pub block_does : (patterns : List Pattern) (stock : StockModel) → stock.file ≡ size_in InFile base.storages → AreFormed (file_place base.storages) patterns (length base.storages) stock.file stock.forms → (jobs : List JobModel) (at n : ℕ) → IsBlockMade base netlist.special patterns stock image jobs at n
      → at + n < 2 ^ counter_width base → DoesIn netlist image stock.temps v jobs at n
  block_does patterns stock sized formed jobs at n made b = record {
    walks = λ s here mode lie.
        (let w : WalksTo netlist v image at (length made.words) made.live s (steps_effect (operation_in base patterns) (jobs_steps stock jobs made.choices) s) =
        walked (operation_in base patterns) made.live (jobs_steps stock jobs made.choices) made.groups made.words at s made.means made.fit made.kept here mode made.stand (subst (λ k. at + k < 2 ^ counter_width base) made.long b) in
        let l : LeavesDone stock.temps jobs s (steps_effect (operation_in base patterns) (jobs_steps stock jobs made.choices) s) = jobs_left stock (file_place base.storages) patterns (length base.storages) formed jobs made.choices s made.covered (here_in at s here).state.regs (filed base stock.file s sized (here_in at s here).state) lie in
        (w.last, subst (λ k. Walks netlist image at s k w.last) (sym made.long) w.walks, w.mode, ap (drop stock.temps) w.agree.cells ∙ sym l.same));
  }

  -- a mode word leads from the mode v to its number
  pub word_puts : (at to : ℕ) → IsModeWordMade base netlist.special (image_word image at) to → at + 1 < 2 ^ counter_width base → PutsMode netlist image v to at
  word_puts at to made b = record {
    puts = λ s here mode.
        (let h : IsAt base at s = here_in at s here in
        let held : slice_index (words_of image) (counter_in base s) ≡ image_word image at = ap (slice_index (words_of image)) h.counter in
        let m : Moved base (words_of image) (image_word image at) s = step base order keeps (words_of image) (image_word image at) s h.state made.clean held in
        let c : counter_in base s ≡ at = h.counter in
        let one : counter_in base m.next ≡ at + 1 =
        one_on base order keeps (words_of image) (image_word image at) s h.state made.clean held made.steps ∙ mod-eq_of_lt (omega (arith, b, c)) ∙ ap (λ n. n + 1) c in
        let put : slice_index m.next.regs made.id ≡ to = m.regs made.id made.register ∙ rw made.move (fixed_is made.value (image_word image at) to s made.puts) in
        let in_mode : mode_in netlist.special m.next ≡ to = ap (λ o. mode_in o m.next) made.is ∙ put in
        (m.next, is.clocks (words_of image) s mode ∙ m.clocked, out_of (at + 1) m.next (record { state = m.state; counter = one }), in_mode, m.cells InMemory ∙ rw made.memory refl));
  }
