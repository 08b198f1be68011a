-- A program that keeps its rules: what is known of each of its statements.
use Rattle.std.proofs.Common.{ℕ, ◌≡◌, ◌+◌, ◌^◌, false, not, is_some, nat_lt, nat_le, List, [], ◌∷◌, ◌++◌, Option, Some, None, refl}
use Rattle.rec_bits.specs.Faults.{offsets_if, least}
use Rattle.rec_bits.proofs.Faults.{least_none}
use Rattle.src_model.specs.declared.program.Var.{Var as Declared}
use Rattle.src_model.specs.Written.{SrcNodeModel, num, plain, element, un as un_of, bin as bin_of, zext as zext_of, sext as sext_of, low, StmtModel, assign, choice, while, count, StmtsModel, no_acts, act, ElseModel, without, otherwise, ProgramModel, stmts_of}
use Rattle.src_model.specs.Names.{declared, is_plain, unknown}
use Rattle.rec_bits.specs.Faults.{same_name}
use Rattle.rec_bits.proofs.Booleans.{left_false}
use Rattle.rec_bits.proofs.Lists.{append_none}
use Rattle.src_model.specs.Indexes.{loose}
use Rattle.src_model.specs.Loops.{Round, place_shape, breaks, breaks_in, breaks_else, changes_rule, miscounted, counters}
use Rattle.src_model.specs.Rules.{names, indexes, first_fault}
use Rattle.src_model.specs.Inner.Fitting.{FitsStmt, FitsStmts, FitsElse}
use Rattle.src_model.proofs.Bounds.{rules_hold}
use Rattle.src_model.proofs.FittingLemmas.{program_fits, not_broken}
use Rattle.src_model.specs.Inside.{Known}
use Rattle.src_model.specs.Inner.Sound.{Frees, Sound, SoundIn, SoundElse}
use Rattle.src_model.proofs.RangeLemmas.{kept}

no_least : (xs : List ℕ) → is_some (least xs) ≡ false → xs ≡ []
no_least xs h = by (least xs) refl h
  where
    by : (o : Option ℕ) → least xs ≡ o → is_some o ≡ false → xs ≡ []
    by None e h = least_none xs e
    by (Some n) e h = absurd (cc h)

known_of : (vars : List Declared) (e : SrcNodeModel) → unknown vars e ≡ [] → Known vars e
known_of vars (num n) h = tt
known_of vars (plain name at) h = kept _ at h
known_of vars (element name at to x) h = let p = append_none _ _ h in (kept _ at p.0, known_of vars x p.1)
known_of vars (un_of op at x) h = known_of vars x h
known_of vars (bin_of op at x to y) h = let p = append_none _ _ h in (known_of vars x p.0, known_of vars y p.1)
known_of vars (zext_of at x width) h = known_of vars x h
known_of vars (sext_of at x width) h = known_of vars x h
known_of vars (low at x width) h = known_of vars x h

-- ---- the counters of the loops round a statement aren't changed in it; g says where a name is

abbrev pub Untouched : (List ℕ → List Round → List ℕ) → List Round → Type 0
Untouched g [] = Unit {0}
Untouched g (round ∷ outer) = ((some : List Round) × (g round.counter some ≡ [])) × Untouched g outer

untouched_part : (g h : List ℕ → List Round → List ℕ) → ((name : List ℕ) (some : List Round) → g name some ≡ [] → (others : List Round) × (h name others ≡ [])) → (rounds : List Round) → Untouched g rounds → Untouched h rounds
untouched_part g h f [] u = tt
untouched_part g h f (round ∷ outer) u = (f round.counter u.0.0 u.0.1, untouched_part g h f outer u.1)

frees : (name : List ℕ) (g : List ℕ → List Round → List ℕ) → ((counter : List ℕ) (some : List Round) → g counter some ≡ [] → same_name name counter ≡ false) → (rounds : List Round) → Untouched g rounds → Frees rounds name
frees name g f [] u = tt
frees name g f (round ∷ outer) u = (f round.counter u.0.0 u.0.1, frees name g f outer u.1)

mutual
  sound : (bits : ℕ) (vars : List Declared) (rounds : List Round) (a : StmtModel) → FitsStmt bits a → breaks (names vars) rounds a ≡ [] → breaks (indexes vars) rounds a ≡ [] → breaks (counters bits) rounds a ≡ []
      → Untouched (λ name some. breaks (changes_rule name) some a) rounds → Sound bits vars rounds a
  sound bits vars rounds (assign place e) f n i c u =
      let p = append_none _ _ n in
      let q = append_none _ _ i in
      record {
        left = record { fits = f.0; known = known_of vars (place_shape place) p.0; within = q.0 };
        right = record { fits = f.1.parts; known = known_of vars e.shape p.1; within = q.1 };
        width = f.1.width;
        free = frees place.name (λ name some. breaks (changes_rule name) some (assign place e)) (λ counter some h. not_broken _ place.at h) rounds u;
      }
  sound bits vars rounds (choice test taken other) f n i c u =
      let p = append_none ((unknown vars test.left.shape ++ unknown vars test.right.shape) ++ breaks_in (names vars) rounds taken) _ n in
      let p1 = append_none (unknown vars test.left.shape ++ unknown vars test.right.shape) _ p.0 in
      let p2 = append_none (unknown vars test.left.shape) _ p1.0 in
      let q = append_none ((loose vars rounds test.left.shape ++ loose vars rounds test.right.shape) ++ breaks_in (indexes vars) rounds taken) _ i in
      let q1 = append_none (loose vars rounds test.left.shape ++ loose vars rounds test.right.shape) _ q.0 in
      let q2 = append_none (loose vars rounds test.left.shape) _ q1.0 in
      let r = append_none (breaks_in (counters bits) rounds taken) _ c in (
        record { sides = f.0; left_known = known_of vars test.left.shape p2.0; right_known = known_of vars test.right.shape p2.1; left_within = q2.0; right_within = q2.1 },
        sound_in bits vars rounds taken f.1 p1.1 q1.1 r.0
            (untouched_part (λ name some. breaks (changes_rule name) some (choice test taken other)) (λ name some. breaks_in (changes_rule name) some taken) (λ name some h. (some, (append_none (breaks_in (changes_rule name) some taken) _ h).0)) rounds u),
        sound_else bits vars rounds other f.2 p.1 q.1 r.1
            (untouched_part (λ name some. breaks (changes_rule name) some (choice test taken other)) (λ name some. breaks_else (changes_rule name) some other) (λ name some h. (some, (append_none (breaks_in (changes_rule name) some taken) _ h).1)) rounds u),
      )
  sound bits vars rounds (while test body) f n i c u =
      let p1 = append_none (unknown vars test.left.shape ++ unknown vars test.right.shape) _ n in
      let p2 = append_none (unknown vars test.left.shape) _ p1.0 in
      let q1 = append_none (loose vars rounds test.left.shape ++ loose vars rounds test.right.shape) _ i in
      let q2 = append_none (loose vars rounds test.left.shape) _ q1.0 in (
        record { sides = f.0; left_known = known_of vars test.left.shape p2.0; right_known = known_of vars test.right.shape p2.1; left_within = q2.0; right_within = q2.1 },
        sound_in bits vars rounds body f.1 p1.1 q1.1 c
            (untouched_part (λ name some. breaks (changes_rule name) some (while test body)) (λ name some. breaks_in (changes_rule name) some body) (λ name some h. (some, h)) rounds u),
      )
  sound bits vars rounds (count counter at from to body) f n i c u =
      let here : Round = record { counter = counter; from = from; to = to } in
      let p = append_none (offsets_if (not (is_plain (declared vars counter))) at) _ n in
      let r = append_none (offsets_if (miscounted bits here body) at) _ c in
      let m = left_false (is_some (least (breaks_in (changes_rule counter) [] body))) (nat_lt (to + 1) from) (left_false _ (nat_le (2 ^ bits) (to + 1)) (not_broken _ at r.0)) in (
        record {
          fits = f.0;
          plain = kept _ at p.0;
          free = frees counter (λ name some. breaks (changes_rule name) some (count counter at from to body)) (λ name some h. not_broken _ at (append_none (offsets_if (same_name counter name) at) _ h).0) rounds u;
        },
        sound_in bits vars (here ∷ rounds) body f.1 p.1 i r.1 (
          ([], no_least _ m),
          untouched_part (λ name some. breaks (changes_rule name) some (count counter at from to body)) (λ name some. breaks_in (changes_rule name) some body)
              (λ name some h. (here ∷ some, (append_none (offsets_if (same_name counter name) at) _ h).1)) rounds u,
        ),
      )

  sound_in : (bits : ℕ) (vars : List Declared) (rounds : List Round) (list : StmtsModel) → FitsStmts bits list → breaks_in (names vars) rounds list ≡ [] → breaks_in (indexes vars) rounds list ≡ [] → breaks_in (counters bits) rounds list ≡ []
      → Untouched (λ name some. breaks_in (changes_rule name) some list) rounds → SoundIn bits vars rounds list
  sound_in bits vars rounds no_acts f n i c u = tt
  sound_in bits vars rounds (act a rest) f n i c u =
      let p = append_none (breaks (names vars) rounds a) _ n in
      let q = append_none (breaks (indexes vars) rounds a) _ i in
      let r = append_none (breaks (counters bits) rounds a) _ c in (
        sound bits vars rounds a f.0 p.0 q.0 r.0
            (untouched_part (λ name some. breaks_in (changes_rule name) some (act a rest)) (λ name some. breaks (changes_rule name) some a) (λ name some h. (some, (append_none (breaks (changes_rule name) some a) _ h).0)) rounds u),
        sound_in bits vars rounds rest f.1 p.1 q.1 r.1
            (untouched_part (λ name some. breaks_in (changes_rule name) some (act a rest)) (λ name some. breaks_in (changes_rule name) some rest) (λ name some h. (some, (append_none (breaks (changes_rule name) some a) _ h).1)) rounds u),
      )

  sound_else : (bits : ℕ) (vars : List Declared) (rounds : List Round) (o : ElseModel) → FitsElse bits o → breaks_else (names vars) rounds o ≡ [] → breaks_else (indexes vars) rounds o ≡ [] → breaks_else (counters bits) rounds o ≡ []
      → Untouched (λ name some. breaks_else (changes_rule name) some o) rounds → SoundElse bits vars rounds o
  sound_else bits vars rounds without f n i c u = tt
  sound_else bits vars rounds (otherwise body) f n i c u = sound_in bits vars rounds body f n i c u

-- a program that keeps the rules
pub program_sound : (bits : ℕ) (l : ProgramModel) → first_fault bits l ≡ None → SoundIn bits l.vars [] (stmts_of l.body)
program_sound bits l h =
    let r = rules_hold bits l h in
    sound_in bits l.vars [] (stmts_of l.body) (program_fits bits l h) r.names_known r.indexes_within r.counters_kept tt
