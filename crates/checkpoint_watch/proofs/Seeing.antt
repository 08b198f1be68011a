-- What a single state adds to the text of a trace.
use Rattle.std.proofs.Common.{◌≡◌, ℕ, Bool, true, false, List, [], ◌++◌, Option, Some, None, refl, sym}
use Rattle.std.proofs.lemmas.List.{append-nil}
use Rattle.net_model.specs.declared.states.State.{State}
use Rattle.net_model.specs.Clock.{Outcome, Next, Clash}
use Rattle.src_model.specs.declared.checkpoint.Checkpoint.{Checkpoint}
use Rattle.src_model.specs.declared.checkpoint.Checkpoint.TheVariants.{At, End}
use Rattle.src_model.specs.declared.program.Var.{Var as Declared}
use Rattle.code_model.specs.Machine.{Traced, Shows, Clashes, after_clock, with_checkpoint}
use Rattle.checkpoint_watch.specs.Texts.{checkpoint_line, trace_entry}
use Rattle.checkpoint_watch.specs.Inner.Traces.{IsNext, IsShown, ends_at, line_at, store_after_line, trace_ends, trace_lines}

module _ (vars : List Declared) (last : List ℕ) where
  -- the lines are that of the state, and those of what comes later
  pub record GoesOn (o : Option Checkpoint) (cycle : ℕ) (cells : List ℕ) (later : Traced) : Type 0 where
    pub shown : IsShown later
    pub lines : trace_lines vars last (with_checkpoint o cycle cells later) ≡ line_at vars last o cycle cells ++ trace_lines vars (store_after_line o last cells) later
    pub ends : trace_ends (with_checkpoint o cycle cells later) ≡ trace_ends later

  pub goes_on : (o : Option Checkpoint) (cycle : ℕ) (cells : List ℕ) (later : Traced) → ends_at o ≡ false → IsShown (with_checkpoint o cycle cells later) → GoesOn o cycle cells later
  goes_on None cycle cells later e h = record { shown = h; lines = refl; ends = refl }
  goes_on (Some (At tree)) cycle cells (Shows entries) e h = record { shown = tt; lines = refl; ends = refl }
  goes_on (Some (At tree)) cycle cells Clashes e h = absurd h
  goes_on (Some End) cycle cells later e h = absurd (cc)

  -- or it is the last state that is looked at
  pub record EndsHere (o : Option Checkpoint) (cycle : ℕ) (cells : List ℕ) (trace : Traced) (ended : Bool) : Type 0 where
    pub lines : trace_lines vars last trace ≡ line_at vars last o cycle cells
    pub ends : trace_ends trace ≡ ended

  pub ends_here : (o : Option Checkpoint) (cycle : ℕ) (cells : List ℕ) (later : Traced) → ends_at o ≡ true → EndsHere o cycle cells (with_checkpoint o cycle cells later) true
  ends_here None cycle cells later e = absurd (cc)
  ends_here (Some (At tree)) cycle cells later e = absurd (cc)
  ends_here (Some End) cycle cells later e = record { lines = append-nil _; ends = refl }

  pub last_here : (o : Option Checkpoint) (cycle : ℕ) (cells : List ℕ) → EndsHere o cycle cells (with_checkpoint o cycle cells (Shows [])) (ends_at o)
  last_here None cycle cells = record { lines = refl; ends = refl }
  last_here (Some (At tree)) cycle cells = record { lines = append-nil _; ends = refl }
  last_here (Some End) cycle cells = record { lines = append-nil _; ends = refl }

-- where what comes after a clock is shown, there was no clash
pub clock_shown : (f : State → Traced) (o : Outcome) → IsShown (after_clock f o) → IsNext o
clock_shown f (Next t) h = tt
clock_shown f (Clash bus) h = h

-- at a mark
pub line_is : (vars : List Declared) (last : List ℕ) (o : Option Checkpoint) (label : Checkpoint) (cycle : ℕ) (cells store : List ℕ) → o ≡ Some label → cells ≡ store → checkpoint_line vars last (trace_entry cycle label store) ≡ line_at vars last o cycle cells
line_is vars last o label cycle cells store e f = rw (e, f) refl

pub told_is : (last : List ℕ) (o : Option Checkpoint) (label : Checkpoint) (cells store : List ℕ) → o ≡ Some label → cells ≡ store → store ≡ store_after_line o last cells
told_is last o label cells store e f = rw e (sym f)
