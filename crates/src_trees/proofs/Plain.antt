-- A program that keeps its rules can be lowered.
use Rattle.std.proofs.Common.{ℕ, ◌≡◌, ◌≤◌, ◌<◌, ◌^◌, lit<, true, List, [], map, sym, ◌∙◌, ap, subst, arith, pos}
use Rattle.std.specs.Prelude.{int_le, int_lt}
use Rattle.std.proofs.lemmas.Int.{ints}
use Rattle.std.proofs.Math.Nat.{pow-le-pow_right}
use Rattle.rec_bits.proofs.Booleans.{both}
use Rattle.rec_bits.proofs.Lists.{append_none}
use Rattle.src_model.specs.declared.program.Program.{Program}
use Rattle.src_model.specs.declared.program.Var.{Var as Declared}
use Rattle.src_model.specs.Written.{SrcNodeModel, num, plain, element, un as un_of, bin as bin_of, zext as zext_of, sext as sext_of, low, StmtModel, assign, choice, while, count, StmtsModel, no_acts, act, ElseModel, without, otherwise, stmts_of, model_of_stmt, model_of_program}
use Rattle.src_model.specs.declared.program.Stmt.{Stmt}
use Rattle.code_model.specs.declared.image.Place.{Place as VariablePlace}
use Rattle.src_model.specs.Names.{declared, is_array}
use Rattle.src_model.specs.Indexes.{number_of, index_range, is_within, length_of, loose}
use Rattle.src_model.specs.Loops.{Round, place_shape}
use Rattle.src_model.specs.Rules.{KeepsSrcRules}
use Rattle.code_model.specs.declared.image.Places.{Places}
use Rattle.src_model.specs.Inside.{Known}
use Rattle.src_trees.specs.Held.{StandFor, LieWithin}
use Rattle.src_trees.specs.Inner.Near.{IsNear, IsNearAt}
use Rattle.src_model.specs.Inner.Sound.{Sound, SoundIn, SoundElse}
use Rattle.src_trees.specs.Inner.Lowering.{IsPlain, ArePlain, IsPlainElse}
use Rattle.src_model.proofs.CellLemmas.{array_var}
use Rattle.src_trees.proofs.Cells.{base_within}
use Rattle.src_model.proofs.RangeLemmas.{kept}
use Rattle.src_model.proofs.SoundLemmas.{program_sound}

module _ (bits first : ℕ) (places : List VariablePlace) (vars : List Declared) (wide : bits ≤ 64) (stand : StandFor places vars) (few : LieWithin first (2 ^ 32) places) where
  -- a literal index lies in its array
  near_at : (rounds : List Round) (name : List ℕ) (x : SrcNodeModel) → is_array (declared vars name) ≡ true → is_within (length_of (declared vars name)) (index_range rounds x) ≡ true → IsNearAt places name (number_of x)
  near_at rounds name (num n) k h =
      let t = both (int_le (pos 0) (pos n)) (int_lt (pos n) (pos (length_of (declared vars name)))) h in
      let lt : n < length_of (declared vars name) = omega (arith, ints, t) in
      let v = array_var (declared vars name) n k lt in
      let b = base_within first (2 ^ 32) places vars name v.0 stand few v.1 in
      omega (arith, b.1, v.2)
  near_at rounds name (plain a at) k h = tt
  near_at rounds name (element a at to x) k h = tt
  near_at rounds name (un_of op at x) k h = tt
  near_at rounds name (bin_of op at x to y) k h = tt
  near_at rounds name (zext_of at x width) k h = tt
  near_at rounds name (sext_of at x width) k h = tt
  near_at rounds name (low at x width) k h = tt

  near : (rounds : List Round) (e : SrcNodeModel) → Known vars e → loose vars rounds e ≡ [] → IsNear places e
  near rounds (num n) k h = tt
  near rounds (plain name at) k h = tt
  near rounds (element name at to x) k h = let p = append_none _ _ h in (near_at rounds name x k.0 (kept _ to p.0), near rounds x k.1 p.1)
  near rounds (un_of op at x) k h = near rounds x k h
  near rounds (bin_of op at x to y) k h = let p = append_none _ _ h in (near rounds x k.0 p.0, near rounds y k.1 p.1)
  near rounds (zext_of at x width) k h = near rounds x k h
  near rounds (sext_of at x width) k h = near rounds x k h
  near rounds (low at x width) k h = near rounds x k h

  mutual
    plain_stmt : (rounds : List Round) (a : StmtModel) → Sound bits vars rounds a → IsPlain bits places a
    plain_stmt rounds (assign place e) f = (f.left.fits, f.right.fits, near rounds (place_shape place) f.left.known f.left.within, near rounds e.shape f.right.known f.right.within)
    plain_stmt rounds (choice test taken other) f =
        (record { sides = f.0.sides; left = near rounds test.left.shape f.0.left_known f.0.left_within; right = near rounds test.right.shape f.0.right_known f.0.right_within }, plain_in rounds taken f.1, plain_else rounds other f.2)
    plain_stmt rounds (while test body) f =
        (record { sides = f.0.sides; left = near rounds test.left.shape f.0.left_known f.0.left_within; right = near rounds test.right.shape f.0.right_known f.0.right_within }, plain_in rounds body f.1)
    plain_stmt rounds (count counter at from to body) f =
        let p : 2 ^ bits ≤ 2 ^ 64 = pow-le-pow_right (lit< tt) wide in
        let b = f.0.fits.below in
        (omega (arith, p, b), plain_in _ body f.1)

    plain_in : (rounds : List Round) (list : StmtsModel) → SoundIn bits vars rounds list → ArePlain bits places list
    plain_in rounds no_acts f = tt
    plain_in rounds (act a rest) f = (plain_stmt rounds a f.0, plain_in rounds rest f.1)

    plain_else : (rounds : List Round) (o : ElseModel) → SoundElse bits vars rounds o → IsPlainElse bits places o
    plain_else rounds without f = tt
    plain_else rounds (otherwise body) f = plain_in rounds body f

-- a checked program, with places of its variables
pub program_plain : (width : ℕ) (program : Program) (places : Places) → KeepsSrcRules width program → StandFor places.list (model_of_program program).vars → LieWithin places.temps (2 ^ 32) places.list
    → ArePlain width places.list (stmts_of (model_of_program program).body)
program_plain width program places k stand few =
    plain_in width places.temps places.list (model_of_program program).vars k.most stand few [] (stmts_of (model_of_program program).body) (program_sound width (model_of_program program) k.kept)

-- as its parts are looked at
pub body_plain : (width w : ℕ) (program p : Program) (places : Places) (list : List VariablePlace) (body : List Stmt) → w ≡ width → p ≡ program → body ≡ p.body.items → list ≡ places.list → KeepsSrcRules width program
    → StandFor places.list (model_of_program program).vars → LieWithin places.temps (2 ^ 32) places.list → ArePlain w list (stmts_of (map model_of_stmt body))
body_plain width w program p places list body ew ep eb el k stand few =
    let h = program_plain width program places k stand few in
    subst (λ x. ArePlain x list (stmts_of (map model_of_stmt body))) (sym ew)
    (subst (λ x. ArePlain width x (stmts_of (map model_of_stmt body))) (sym el)
    (subst (λ x. ArePlain width places.list (stmts_of (map model_of_stmt x))) (sym (eb ∙ ap (λ (q : Program). q.body.items) ep)) h))
