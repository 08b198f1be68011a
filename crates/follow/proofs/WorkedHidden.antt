-- A loop that keeps its variable in a register and doesn't store it at its end is right code by views
-- where the variable is hidden at the end, and it isn't where it is shown there.
use Rattle.std.proofs.Common.{ℕ, zero, suc, ◌≡◌, ◌<◌, ◌==◌, true, false, List, [], ◌∷◌, Some, refl, sym, ◌∙◌, ap, subst, arith, slice_index, slice_set, take}
use Rattle.std.proofs.lemmas.Nat.{mod_below, pow_pos}
use Rattle.rec_bits.specs.Operators.{apply2_of}
use Rattle.rec_bits.specs.declared.operator.Op2.TheVariants.{Sub}
use Rattle.net_model.specs.declared.states.State.{State}
use Rattle.net_model.specs.Clock.{clock, Outcome, Next}
use Rattle.net_model.specs.Worked.{a16}
use Rattle.src_model.specs.declared.checkpoint.Checkpoint.TheVariants.{At, End as TheEnd}
use Rattle.code_model.specs.Flow.{GoesTo}
use Rattle.code_model.specs.Machine.{IsCalm, trace_of}
use Rattle.code_model.specs.Places.{words_of}
use Rattle.code_model.specs.WorkedViews.{bare_counter, hidden_counter, hidden_plain, passed}
use Rattle.src_trees.specs.Flows.{program_flow}
use Rattle.src_trees.specs.Held.{HoldsCells}
use Rattle.src_model.specs.Trace.{strace, run_stmt, run_in, run_else}
use Rattle.src_model.specs.Ways.{Passed}
use Rattle.code_model.specs.Right.{ShowsBy, passed_of}
use Rattle.code_model.specs.Views.{masked_trace, shown_store}
use Rattle.std.specs.Prelude.{replicate}
use Rattle.follow.specs.Followed.{Arrives, Crosses, IsFollowed}
use Rattle.follow.specs.Relations.{IsRelated}
use Rattle.follow.specs.RightByViews.{HasMarksOf, IsLaidFor, IsRightByViews}
use Rattle.follow.specs.Worked.{counted, map}
use Rattle.follow.proofs.Whole.{followed_right}
use Rattle.follow.proofs.WorkedStates.{Fits, Parts, calm_at, fits_in, parts, set_same, three_kept, with_acc, with_cell}
use Rattle.follow.proofs.WorkedLoop.{loop_followed, loop_has_marks, one_kept}
use Rattle.follow.proofs.WorkedClocks.{at}

-- ---- its clocks

module _ (acc none : ℕ) (cells file : List ℕ) where
  abbrev clocked : State → Outcome
  clocked s = clock a16 (words_of hidden_counter.image) s

  first : clocked (at acc none cells file 0) ≡ Next (record { regs = 1 ∷ 1 ∷ none ∷ []; cells = cells; file = file })
  first = refl

  second : clocked (at acc none cells file 1) ≡ Next (record { regs = 2 ∷ acc ∷ none ∷ []; cells = slice_set cells 0 acc; file = file })
  second = refl

  third : clocked (at acc none cells file 2) ≡ Next (record { regs = 3 ∷ slice_index cells 3 ∷ none ∷ []; cells = cells; file = file })
  third = refl

  taken : (acc == 0) ≡ true → clocked (at acc none cells file 3) ≡ Next (at acc none cells file 6)
  taken e = rw e refl

  not_taken : (acc == 0) ≡ false → clocked (at acc none cells file 3) ≡ Next (at acc none cells file 4)
  not_taken e = rw e refl

  less : clocked (at acc none cells file 4) ≡ Next (record { regs = 5 ∷ apply2_of Sub 16 acc (slice_index cells 0) ∷ none ∷ []; cells = cells; file = file })
  less = refl

  back : clocked (at acc none cells file 5) ≡ Next (at acc none cells file 3)
  back = refl

  rest : clocked (at acc none cells file 6) ≡ Next (at acc none cells file 6)
  rest = refl

-- ---- the start

start_crosses : (s : State) → IsCalm a16 0 s → Arrives a16 hidden_counter one_kept map 6 (Some (At 0)) s.cells s
start_crosses s h = by (parts 0 s h)
  where
    module_at : (acc none : ℕ) (cells file : List ℕ) → Fits acc none cells file → Arrives a16 hidden_counter one_kept map 6 (Some (At 0)) cells (at acc none cells file 0)
    module_at acc none cells file f =
        let one : Fits 1 none cells file = with_acc acc none cells file 1 (omega arith) f in
        let two : Fits 1 none (slice_set cells 0 1) file = with_cell 1 none cells file 0 1 (omega arith) one in
        let new : List ℕ = slice_set cells 0 1 in
        let read : Fits (slice_index new 3) none new file = with_acc 1 none new file (slice_index new 3) (two.words 3) two in
        record {
          taken = 3;
          last = at (slice_index new 3) none new file 3;
          address = 3;
          within = omega arith;
          reaches = (at 1 none cells file 1, refl, first acc none cells file, (at 1 none new file 2, refl, second 1 none cells file, (at (slice_index new 3) none new file 3, refl, third 1 none new file, refl)));
          here = calm_at (slice_index new 3) none new file 3 (omega arith) read;
          marked = refl;
          related = record {
            seen = ((refl, three_kept 1 cells), tt);
            holds = (set_same 0 1 cells (let l = f.long in omega (arith, l)), tt);
            known = tt;
          };
        }

    by : Parts 0 s → Arrives a16 hidden_counter one_kept map 6 (Some (At 0)) s.cells s
    by p =
        subst (λ (u : State). Arrives a16 hidden_counter one_kept map 6 (Some (At 0)) s.cells u) (sym p.is)
        (module_at p.acc p.none s.cells s.file (fits_in p.acc p.none s.cells s.file 0 (subst (λ (u : State). IsCalm a16 0 u) p.is h)))

-- ---- the test

module _ (acc none : ℕ) (cells file program : List ℕ) (f : Fits acc none cells file) (h : HoldsCells 3 map program) (r : IsRelated hidden_counter map one_kept 3 (at acc none cells file 3) program) where
  -- to the end, where the variable isn't put back
  goes_out : (slice_index program 3 == 0) ≡ true → Crosses a16 hidden_counter one_kept map 6 (Some TheEnd) program (at acc none cells file 3)
  goes_out e =
      let same : acc ≡ slice_index program 3 = r.seen.0.1 in
      record {
        next = at acc none cells file 6;
        clocked = taken acc none cells file (ap (λ v. v == 0) same ∙ e);
        arrives = record {
          taken = 0;
          last = at acc none cells file 6;
          address = 6;
          within = omega arith;
          reaches = refl;
          here = calm_at acc none cells file 6 (omega arith) f;
          marked = refl;
          related = record { seen = (tt, tt); holds = (r.holds.0, tt); known = tt };
        };
      }

  -- round the loop, where 1 is taken off the accumulator
  goes_round : (slice_index program 3 == 0) ≡ false → Crosses a16 hidden_counter one_kept map 6 (Some (At 0)) (slice_set program 3 (apply2_of Sub 16 (slice_index program 3) 1)) (at acc none cells file 3)
  goes_round e =
      let same : acc ≡ slice_index program 3 = r.seen.0.1 in
      let new : ℕ = apply2_of Sub 16 acc (slice_index cells 0) in
      let done : Fits new none cells file = with_acc acc none cells file new (mod_below _ _ (pow_pos 16)) f in
      record {
        next = at acc none cells file 4;
        clocked = not_taken acc none cells file (ap (λ v. v == 0) same ∙ e);
        arrives = record {
          taken = 2;
          last = at new none cells file 3;
          address = 3;
          within = omega arith;
          reaches = (at new none cells file 5, refl, less acc none cells file, (at new none cells file 3, refl, back new none cells file, refl));
          here = calm_at new none cells file 3 (omega arith) done;
          marked = refl;
          related = record {
            seen = ((refl, (λ i. apply2_of Sub 16 (same i) (r.holds.0 i)) ∙ sym (set_same 3 (apply2_of Sub 16 (slice_index program 3) 1) program (let l = h.room.within.1 in omega (arith, l)))), tt);
            holds = (r.holds.0, tt);
            known = tt;
          };
        };
      }

-- ---- all marks

last_word : GoesTo a16 hidden_counter.image 6 6
last_word = record {
  goes = λ s h.
      (let p = parts 6 s h in
      record {
        next = s;
        clocked = ap (λ u. clock a16 (words_of hidden_counter.image) u) p.is ∙ rest p.acc p.none s.cells s.file ∙ ap Next (sym p.is);
        here = h;
        same = refl;
      });
}

pub hidden_followed : IsFollowed a16 hidden_counter one_kept map 3 counted
hidden_followed = loop_followed hidden_counter 6 refl goes_out goes_round start_crosses refl last_word

pub hidden_marks : HasMarksOf (program_flow counted) hidden_counter.image
hidden_marks = loop_has_marks hidden_counter 6 refl refl refl

-- ---- right code

pub hidden_laid : IsLaidFor a16 16 counted hidden_counter.image
hidden_laid = record {
  held = record { some = omega arith; narrow = omega arith; stand = (refl, refl, tt); within = (omega arith, omega arith, tt); alone = (tt, tt) };
  room = record { below = omega arith; within = (omega arith, omega arith, tt) };
}

pub hidden_right : IsRightByViews a16 16 counted hidden_counter
hidden_right = followed_right a16 16 counted hidden_counter one_kept (record { program = refl; words = refl; laid = hidden_laid; views = hidden_plain; start = refl; marks = hidden_marks; followed = hidden_followed })

-- ---- the same image, where nothing is hidden

-- a is 1 at the start
abbrev one_cells : List ℕ
one_cells = 0 ∷ 0 ∷ 0 ∷ 1 ∷ replicate 252 0

abbrev from_one : State
from_one = at 0 0 one_cells [] 0

-- what the machine shows, and what the program passes
pub machine_shows : passed (trace_of (shown_store a16 bare_counter) a16 bare_counter.image from_one 0 21)
    ≡ record { label = At 0; cells = 1 ∷ [] } ∷ record { label = At 0; cells = 0 ∷ [] } ∷ record { label = TheEnd; cells = 1 ∷ [] } ∷ []
machine_shows = refl

pub program_passes : masked_trace bare_counter (strace 16 counted) (shown_store a16 bare_counter from_one) 3
    ≡ record { label = At 0; cells = 1 ∷ [] } ∷ record { label = At 0; cells = 0 ∷ [] } ∷ record { label = TheEnd; cells = 0 ∷ [] } ∷ []
unfolding run_stmt run_in run_else
program_passes = refl

zero_at : (n k : ℕ) → slice_index (replicate n 0) k ≡ 0
zero_at zero k = refl
zero_at (suc n) zero = refl
zero_at (suc n) (suc k) = zero_at n k

start_fits : Fits 0 0 one_cells []
start_fits = record { acc_fits = omega arith; none_fits = omega arith; long = refl; words = λ k. by k; file_long = refl; file_words = λ k. omega arith }
  where
    by : (k : ℕ) → slice_index one_cells k < 65536
    by zero = omega arith
    by (suc zero) = omega arith
    by (suc (suc zero)) = omega arith
    by (suc (suc (suc zero))) = omega arith
    by (suc (suc (suc (suc k)))) = (let e : slice_index one_cells (suc (suc (suc (suc k)))) ≡ 0 = zero_at 252 k in omega (arith, e))

-- the first cell of the third checkpoint
abbrev third_cell : List Passed → ℕ
third_cell (a ∷ b ∷ c ∷ ps) = slice_index c.cells 0
third_cell _ = 7

-- the image isn't right code
pub bare_refused : IsRightByViews a16 16 counted bare_counter → ⊥
bare_refused h =
    let shown : ShowsBy (shown_store a16 bare_counter) a16 bare_counter.image (masked_trace bare_counter (strace 16 counted)) from_one 3 = h.traces.shows from_one (calm_at 0 0 one_cells [] 0 (omega arith) start_fits) 3 in
    let entries : passed_of shown.entries ≡ record { label = At 0; cells = 1 ∷ [] } ∷ record { label = At 0; cells = 0 ∷ [] } ∷ record { label = TheEnd; cells = 1 ∷ [] } ∷ [] = ap passed (sym shown.traced) ∙ machine_shows in
    let one_is : 1 ≡ third_cell (take 3 (passed_of shown.entries)) = ap (λ ps. third_cell (take 3 ps)) (sym entries) in
    let none_is : third_cell (take 3 (passed_of shown.entries)) ≡ 0 = ap third_cell (shown.passed ∙ program_passes) in
    omega (arith, one_is, none_is)
