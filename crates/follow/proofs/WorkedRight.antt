-- A loop that keeps its variable in a register is right code by views: each of its marks follows the
-- program.
use Rattle.std.proofs.Common.{ℕ, ◌≡◌, ◌+◌, ◌==◌, true, false, List, Some, refl, sym, ◌∙◌, ap, subst, arith, slice_index, slice_set}
use Rattle.std.proofs.lemmas.Nat.{mod_below, pow_pos}
use Rattle.rec_bits.specs.Operators.{apply2_of}
use Rattle.rec_bits.specs.declared.operator.Op2.TheVariants.{Sub}
use Rattle.net_model.specs.declared.states.State.{State}
use Rattle.net_model.specs.Clock.{clock, Next}
use Rattle.net_model.specs.Worked.{a16}
use Rattle.src_model.specs.declared.checkpoint.Checkpoint.TheVariants.{At, End as TheEnd}
use Rattle.code_model.specs.Flow.{GoesTo}
use Rattle.code_model.specs.Machine.{IsCalm}
use Rattle.code_model.specs.Places.{words_of}
use Rattle.code_model.specs.WorkedViews.{kept_counter, plain}
use Rattle.src_trees.specs.Flows.{program_flow}
use Rattle.src_trees.specs.Held.{HoldsCells}
use Rattle.follow.specs.Followed.{Arrives, Crosses, IsFollowed}
use Rattle.follow.specs.Relations.{IsRelated}
use Rattle.follow.specs.RightByViews.{HasMarksOf, IsLaidFor, IsRightByViews}
use Rattle.follow.specs.Worked.{counted, map}
use Rattle.follow.proofs.Whole.{followed_right}
use Rattle.follow.proofs.WorkedStates.{Fits, Parts, calm_at, fits_in, parts, set_same, three_kept, with_acc, with_cell, zero_kept}
use Rattle.follow.proofs.WorkedLoop.{loop_followed, loop_has_marks, one_kept}
use Rattle.follow.proofs.WorkedClocks.{at, first, second, third, taken, passed, less, back, put, rest}

-- ---- the start

start_crosses : (s : State) → IsCalm a16 0 s → Arrives a16 kept_counter one_kept map 7 (Some (At 0)) s.cells s
start_crosses s h = by (parts 0 s h)
  where
    module_at : (acc none : ℕ) (cells file : List ℕ) → Fits acc none cells file → Arrives a16 kept_counter one_kept map 7 (Some (At 0)) cells (at acc none cells file 0)
    module_at acc none cells file f =
        let one : Fits 1 none cells file = with_acc acc none cells file 1 (omega arith) f in
        let two : Fits 1 none (slice_set cells 0 1) file = with_cell 1 none cells file 0 1 (omega arith) one in
        let new : List ℕ = slice_set cells 0 1 in
        let read : Fits (slice_index new 3) none new file = with_acc 1 none new file (slice_index new 3) (two.words 3) two in
        record {
          taken = 3;
          last = at (slice_index new 3) none new file 3;
          address = 3;
          within = omega arith;
          reaches = (at 1 none cells file 1, refl, first acc none cells file, (at 1 none new file 2, refl, second 1 none cells file, (at (slice_index new 3) none new file 3, refl, third 1 none new file, refl)));
          here = calm_at (slice_index new 3) none new file 3 (omega arith) read;
          marked = refl;
          related = record {
            seen = ((refl, three_kept 1 cells), tt);
            holds = (set_same 0 1 cells (let l = f.long in omega (arith, l)), tt);
            known = tt;
          };
        }

    by : Parts 0 s → Arrives a16 kept_counter one_kept map 7 (Some (At 0)) s.cells s
    by p =
        subst (λ (u : State). Arrives a16 kept_counter one_kept map 7 (Some (At 0)) s.cells u) (sym p.is)
        (module_at p.acc p.none s.cells s.file (fits_in p.acc p.none s.cells s.file 0 (subst (λ (u : State). IsCalm a16 0 u) p.is h)))

-- ---- the test

module _ (acc none : ℕ) (cells file program : List ℕ) (f : Fits acc none cells file) (h : HoldsCells 3 map program) (r : IsRelated kept_counter map one_kept 3 (at acc none cells file 3) program) where
  -- to the end, where the accumulator is put back
  goes_out : (slice_index program 3 == 0) ≡ true → Crosses a16 kept_counter one_kept map 7 (Some TheEnd) program (at acc none cells file 3)
  goes_out e =
      let same : acc ≡ slice_index program 3 = r.seen.0.1 in
      let done : Fits acc none (slice_set cells 3 acc) file = with_cell acc none cells file 3 acc f.acc_fits f in
      record {
        next = at acc none cells file 6;
        clocked = taken acc none cells file (ap (λ v. v == 0) same ∙ e);
        arrives = record {
          taken = 1;
          last = at acc none (slice_set cells 3 acc) file 7;
          address = 7;
          within = omega arith;
          reaches = (at acc none (slice_set cells 3 acc) file 7, refl, put acc none cells file, refl);
          here = calm_at acc none (slice_set cells 3 acc) file 7 (omega arith) done;
          marked = refl;
          related = record {
            seen = ((λ k lt. (let z : 3 + k ≡ 3 = omega arith in ap (slice_index (slice_set cells 3 acc)) z ∙ set_same 3 acc cells (let l = f.long in omega (arith, l)) ∙ same ∙ ap (slice_index program) (sym z))), tt);
            holds = (zero_kept acc cells ∙ r.holds.0, tt);
            known = tt;
          };
        };
      }

  -- round the loop, where 1 is taken off the accumulator
  goes_round : (slice_index program 3 == 0) ≡ false → Crosses a16 kept_counter one_kept map 7 (Some (At 0)) (slice_set program 3 (apply2_of Sub 16 (slice_index program 3) 1)) (at acc none cells file 3)
  goes_round e =
      let same : acc ≡ slice_index program 3 = r.seen.0.1 in
      let new : ℕ = apply2_of Sub 16 acc (slice_index cells 0) in
      let done : Fits new none cells file = with_acc acc none cells file new (mod_below _ _ (pow_pos 16)) f in
      record {
        next = at acc none cells file 4;
        clocked = passed acc none cells file (ap (λ v. v == 0) same ∙ e);
        arrives = record {
          taken = 2;
          last = at new none cells file 3;
          address = 3;
          within = omega arith;
          reaches = (at new none cells file 5, refl, less acc none cells file, (at new none cells file 3, refl, back new none cells file, refl));
          here = calm_at new none cells file 3 (omega arith) done;
          marked = refl;
          related = record {
            seen = ((refl, (λ i. apply2_of Sub 16 (same i) (r.holds.0 i)) ∙ sym (set_same 3 (apply2_of Sub 16 (slice_index program 3) 1) program (let l = h.room.within.1 in omega (arith, l)))), tt);
            holds = (r.holds.0, tt);
            known = tt;
          };
        };
      }

-- ---- all marks

last_word : GoesTo a16 kept_counter.image 7 7
last_word = record {
  goes = λ s h.
      (let p = parts 7 s h in
      record {
        next = s;
        clocked = ap (λ u. clock a16 (words_of kept_counter.image) u) p.is ∙ rest p.acc p.none s.cells s.file ∙ ap Next (sym p.is);
        here = h;
        same = refl;
      });
}

pub kept_followed : IsFollowed a16 kept_counter one_kept map 3 counted
kept_followed = loop_followed kept_counter 7 refl goes_out goes_round start_crosses refl last_word

kept_marks : HasMarksOf (program_flow counted) kept_counter.image
kept_marks = loop_has_marks kept_counter 7 refl refl refl

-- ---- right code

kept_laid : IsLaidFor a16 16 counted kept_counter.image
kept_laid = record {
  held = record { some = omega arith; narrow = omega arith; stand = (refl, refl, tt); within = (omega arith, omega arith, tt); alone = (tt, tt) };
  room = record { below = omega arith; within = (omega arith, omega arith, tt) };
}

pub kept_right : IsRightByViews a16 16 counted kept_counter
kept_right = followed_right a16 16 counted kept_counter one_kept (record { program = refl; words = refl; laid = kept_laid; views = plain; start = refl; marks = kept_marks; followed = kept_followed })
