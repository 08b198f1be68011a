-- A loop of one test, which takes 1 off its variable: at its mark the temporary cell 0 is 1. Its marks
-- follow the program where its start, its way out and its way round do.
use Rattle.std.proofs.Common.{ℕ, zero, suc, ◌≡◌, ◌+◌, ◌==◌, Bool, true, false, if◌then◌else◌, List, [], ◌∷◌, length, Some, None, refl, sym, ◌∙◌, ap, subst, arith, eqb-true, slice_get, slice_index, slice_set}
use Rattle.std.specs.Prelude.{codes}
use Rattle.rec_bits.proofs.Options.{same_Some}
use Rattle.rec_bits.specs.Operators.{apply2_of}
use Rattle.rec_bits.specs.declared.operator.Op2.TheVariants.{Sub}
use Rattle.net_model.specs.declared.hardware.Space.TheVariants.{Memory as InMemory}
use Rattle.net_model.specs.declared.states.State.{State}
use Rattle.net_model.specs.Exprs.{const, read, bin}
use Rattle.net_model.specs.Worked.{a16}
use Rattle.src_model.specs.Written.{plain as plain_of, num}
use Rattle.src_model.specs.declared.checkpoint.Checkpoint.TheVariants.{At, End as TheEnd}
use Rattle.src_model.specs.declared.program.Cmp.TheVariants.{Ne}
use Rattle.code_model.specs.declared.image.Mark.{Mark}
use Rattle.code_model.specs.declared.views.Viewed.{Viewed}
use Rattle.code_model.specs.Flow.{GoesTo}
use Rattle.code_model.specs.Machine.{IsCalm}
use Rattle.code_model.specs.Places.{label_at, words_of}
use Rattle.form_model.specs.Forms.{cell}
use Rattle.form_model.specs.declared.flow.Flow.TheVariants.{Test}
use Rattle.src_trees.specs.Doing.{AllAre}
use Rattle.src_trees.specs.Flows.{program_flow, program_jobs}
use Rattle.src_trees.specs.Held.{HoldsCells}
use Rattle.src_trees.specs.Lowered.{JobModel, job_of_test}
use Rattle.follow.specs.Followed.{Arrives, Crosses, IsSegment, IsStart, IsFollowed}
use Rattle.follow.specs.Paths.{Path, path_from}
use Rattle.follow.specs.Relations.{Relation, IsRelated}
use Rattle.follow.specs.RightByViews.{HasMarksOf}
use Rattle.follow.specs.Worked.{counted, map}
use Rattle.follow.proofs.OnePath.{one_path}
use Rattle.follow.proofs.WorkedClocks.{at}
use Rattle.follow.proofs.WorkedStates.{Fits, bit_false, bit_true, fits_in, parts}

-- the temporary cell 0 is 1
abbrev pub one_kept : ℕ → Relation
one_kept address = record { holdings = record { place = read InMemory (const 8 0) 16; tree = const 16 1 } ∷ []; known = [] }

-- ---- the program

one_test : (place tree one zer : ℕ) → slice_get (program_flow counted) place ≡ Some (Test tree one zer) → (one ≡ 3) × (zer ≡ 1)
one_test zero tree one zer e = (cc, cc)
one_test (suc zero) tree one zer e = absurd (cc)
one_test (suc (suc zero)) tree one zer e = absurd (cc)
one_test (suc (suc (suc zero))) tree one zer e = absurd (cc)
one_test (suc (suc (suc (suc place)))) tree one zer e = absurd (cc)

first_tree : (place tree one zer : ℕ) → slice_get (program_flow counted) place ≡ Some (Test tree one zer) → 0 ≡ tree
first_tree zero tree one zer e = cc
first_tree (suc zero) tree one zer e = absurd (cc)
first_tree (suc (suc zero)) tree one zer e = absurd (cc)
first_tree (suc (suc (suc zero))) tree one zer e = absurd (cc)
first_tree (suc (suc (suc (suc place)))) tree one zer e = absurd (cc)

abbrev test_job : JobModel
test_job = job_of_test map (record {
  cmp = Ne;
  left = record { at = 0; shape = plain_of (codes "a") 0 };
  right = record { at = 0; shape = num 0 };
})

abbrev less_job : JobModel
less_job = record { destination = cell 3; trees = bin Sub (read InMemory (const 8 3) 16) (const 16 1) ∷ [] }

flow_at : (n : ℕ) (to : ℕ) (path wanted : Path) → path_from (program_flow counted) (program_jobs map counted) 4 to ≡ Some wanted → path_from (program_flow counted) (program_jobs map counted) n to ≡ Some path → path ≡ wanted
flow_at n to path wanted e f = one_path (program_flow counted) (program_jobs map counted) n 4 to path wanted f e

-- ---- the image

-- its test has the mark at address 3, and its last word that of the end
abbrev pub loop_marks : ℕ → List Mark
loop_marks last = record { address = 3; label = Some 0 } ∷ record { address = last; label = None } ∷ []

module _ (viewed : Viewed) (last : ℕ) (marks_are : viewed.image.marks ≡ loop_marks last) where
  label_is : (address : ℕ) → label_at viewed.image.marks address ≡ (if 3 == address then Some (At 0) else if last == address then Some TheEnd else None)
  label_is address = ap (λ (marks : List Mark). label_at marks address) marks_are

  pub at_three : (address tree : ℕ) → label_at viewed.image.marks address ≡ Some (At tree) → (address ≡ 3) × (tree ≡ 0)
  at_three address tree e = by (3 == address) (last == address) refl (sym (label_is address) ∙ e)
    where
      by : (x y : Bool) → (3 == address) ≡ x → (if x then Some (At 0) else if y then Some TheEnd else None) ≡ Some (At tree) → (address ≡ 3) × (tree ≡ 0)
      by true y f g = (sym (eqb-true 3 address f), cc)
      by false true f g = absurd (cc)
      by false false f g = absurd (cc)

  at_last : (address : ℕ) → label_at viewed.image.marks address ≡ Some TheEnd → last ≡ address
  at_last address e = by (3 == address) (last == address) refl (sym (label_is address) ∙ e)
    where
      by : (x y : Bool) → (last == address) ≡ y → (if x then Some (At 0) else if y then Some TheEnd else None) ≡ Some TheEnd → last ≡ address
      by true y f g = absurd (cc)
      by false true f g = eqb-true last address f
      by false false f g = absurd (cc)

  pub loop_has_marks : length (words_of viewed.image) ≡ last + 1 → label_at viewed.image.marks last ≡ Some TheEnd → HasMarksOf (program_flow counted) viewed.image
  loop_has_marks long ends = record {
    all = λ tree t. record { address = 3; marked = label_is 3 ∙ ap (λ n. Some (At n)) (first_tree t.at tree t.when_one t.when_zero t.is) };
    only = λ address tree e. record { at = 0; when_one = 3; when_zero = 1; is = ap (λ n. Some (Test n 3 1)) (sym (at_three address tree e).1) };
    end = λ address e. (let f : address ≡ last = omega (arith, e, long) in ap (label_at viewed.image.marks) f ∙ ends);
    end_only = λ address e. (let f : last ≡ address = at_last address e in omega (arith, f, long));
  }

  abbrev Segment : ℕ → ℕ → Bool → Path → Type 0
  Segment address tree answer path = IsSegment a16 viewed one_kept map 3 counted last address tree answer path

  -- the way out of the loop, to the end
  abbrev pub GoesOut : Type 0
  GoesOut =
      (acc none : ℕ) (cells file program : List ℕ) → Fits acc none cells file → HoldsCells 3 map program → IsRelated viewed map one_kept 3 (at acc none cells file 3) program
      → (slice_index program 3 == 0) ≡ true → Crosses a16 viewed one_kept map last (Some TheEnd) program (at acc none cells file 3)

  -- the way round
  abbrev pub GoesRound : Type 0
  GoesRound =
      (acc none : ℕ) (cells file program : List ℕ) → Fits acc none cells file → HoldsCells 3 map program → IsRelated viewed map one_kept 3 (at acc none cells file 3) program
      → (slice_index program 3 == 0) ≡ false → Crosses a16 viewed one_kept map last (Some (At 0)) (slice_set program 3 (apply2_of Sub 16 (slice_index program 3) 1)) (at acc none cells file 3)

  out_segment : GoesOut → Segment 3 0 true (record { jobs = []; to = 3 })
  out_segment goes_out job is s cells calm related holds safe are later asks =
      let p = parts 3 s calm in
      let value : AllAre 1 cells test_job.trees = subst (λ (x : JobModel). AllAre 1 cells x.trees) (sym (same_Some test_job job is)) are in
      subst (λ (u : State). Crosses a16 viewed one_kept map last (Some TheEnd) cells u) (sym p.is)
      (goes_out p.acc p.none s.cells s.file cells (fits_in p.acc p.none s.cells s.file 3 (subst (λ (u : State). IsCalm a16 3 u) p.is calm)) holds
      (subst (λ (u : State). IsRelated viewed map one_kept 3 u cells) p.is related) (bit_true _ value.0))

  round_segment : GoesRound → Segment 3 0 false (record { jobs = less_job ∷ []; to = 0 })
  round_segment goes_round job is s cells calm related holds safe are later asks =
      let p = parts 3 s calm in
      let value : AllAre 0 cells test_job.trees = subst (λ (x : JobModel). AllAre 0 cells x.trees) (sym (same_Some test_job job is)) are in
      subst (λ (u : State). Crosses a16 viewed one_kept map last (Some (At 0)) (slice_set cells 3 (apply2_of Sub 16 (slice_index cells 3) 1)) u) (sym p.is)
      (goes_round p.acc p.none s.cells s.file cells (fits_in p.acc p.none s.cells s.file 3 (subst (λ (u : State). IsCalm a16 3 u) p.is calm)) holds
      (subst (λ (u : State). IsRelated viewed map one_kept 3 u cells) p.is related) (bit_false _ value.0))

  module _ (goes_out : GoesOut) (goes_round : GoesRound) where
    each_test : (address tree place one zer : ℕ) → label_at viewed.image.marks address ≡ Some (At tree) → slice_get (program_flow counted) place ≡ Some (Test tree one zer) → (answer : Bool) → (n : ℕ) (path : Path)
        → path_from (program_flow counted) (program_jobs map counted) n (if answer then one else zer) ≡ Some path → Segment address tree answer path
    each_test address tree place one zer label is answer n path e = by answer e
      where
        a : (address ≡ 3) × (tree ≡ 0)
        a = at_three address tree label

        t : (one ≡ 3) × (zer ≡ 1)
        t = one_test place tree one zer is

        moved : (answer : Bool) (wanted : Path) → path ≡ wanted → Segment 3 0 answer wanted → Segment address tree answer path
        moved answer wanted p h =
            subst (λ (x : ℕ). Segment x tree answer path) (sym a.0)
            (subst (λ (x : ℕ). Segment 3 x answer path) (sym a.1) (subst (λ (x : Path). Segment 3 0 answer x) (sym p) h))

        by : (answer : Bool) → path_from (program_flow counted) (program_jobs map counted) n (if answer then one else zer) ≡ Some path → Segment address tree answer path
        by true e =
            moved true (record { jobs = []; to = 3 })
            (flow_at n 3 path (record { jobs = []; to = 3 }) refl (subst (λ (x : ℕ). path_from (program_flow counted) (program_jobs map counted) n x ≡ Some path) t.0 e)) (out_segment goes_out)
        by false e =
            moved false (record { jobs = less_job ∷ []; to = 0 })
            (flow_at n 1 path (record { jobs = less_job ∷ []; to = 0 }) refl (subst (λ (x : ℕ). path_from (program_flow counted) (program_jobs map counted) n x ≡ Some path) t.1 e)) (round_segment goes_round)

    module _ (starts : (s : State) → IsCalm a16 0 s → Arrives a16 viewed one_kept map last (Some (At 0)) s.cells s) where
      first_segment : (n : ℕ) (path : Path) → path_from (program_flow counted) (program_jobs map counted) n 0 ≡ Some path → IsStart a16 viewed one_kept map 3 counted last path
      first_segment n path e =
          subst (λ (x : Path). IsStart a16 viewed one_kept map 3 counted last x) (sym (flow_at n 0 path (record { jobs = []; to = 0 }) refl e)) (λ s calm safe asks. starts s calm)

      pub loop_followed : length (words_of viewed.image) ≡ last + 1 → GoesTo a16 viewed.image last last → IsFollowed a16 viewed one_kept map 3 counted
      loop_followed long end_word = record { last = last; long = long; end_word = end_word; start = first_segment; tests = each_test }
