-- Parts of a flow and of its jobs, and how jobs follow each other.
use Rattle.std.proofs.Common.{ℕ, zero, suc, ◌≡◌, ◌+◌, ◌-◌, Bool, true, false, ◌&&◌, not, nat_lt, List, [], ◌∷◌, ◌++◌, length, Some, refl, sym, ◌∙◌, ap, subst, arith, slice_get}
use Rattle.std.proofs.lemmas.List.{length-set, length-append}
use Rattle.rec_bits.proofs.Booleans.{or_left, or_right}
use Rattle.rec_bits.proofs.Lists.{get_seam}
use Rattle.form_model.specs.declared.flow.Flow.{Flow}
use Rattle.form_model.specs.declared.flow.Flow.TheVariants.{Assign, Jump}
use Rattle.form_model.specs.Forms.{DestinationModel, into, cell, filed, stored, temporary, tested}
use Rattle.net_model.specs.Exprs.{ExprModel}
use Rattle.src_model.specs.Written.{StmtModel, assign, choice, while, count, StmtsModel, no_acts, act, ElseModel, without, otherwise}
use Rattle.src_model.specs.Sizes.{statements, statements_in, statements_else}
use Rattle.src_trees.specs.Lowered.{MemoryMap, JobModel, stmt_jobs, jobs_in, jobs_else, job_of_step}
use Rattle.src_trees.specs.Flows.{places_for, places_in, places_else, flow_of, flow_in, flow_else}
use Rattle.src_trees.specs.Doing.{put_at, done, all_done, Lies, AllLie, AllAre}
use Rattle.src_trees.specs.Seen.{tree_value}
use Rattle.src_trees.specs.Blocks.{is_assign, enters, is_entered, continues}

-- these items stand in a list from a place on
abbrev pub Stand : {A : Type 0} → List A → ℕ → List A → Type 0
Stand all at [] = Unit {0}
Stand all at (x ∷ xs) = (slice_get all at ≡ Some x) × Stand all (at + 1) xs

pub stand_left : {A : Type 0} (all : List A) (at : ℕ) (xs ys : List A) → Stand all at (xs ++ ys) → Stand all at xs
stand_left all at [] ys h = tt
stand_left all at (x ∷ xs) ys h = (h.0, stand_left all (at + 1) xs ys h.1)

pub stand_right : {A : Type 0} (all : List A) (at N : ℕ) (xs ys : List A) → N ≡ at + length xs → Stand all at (xs ++ ys) → Stand all N ys
stand_right all at N [] ys e h = let f : at ≡ N = omega arith in subst (λ n. Stand all n ys) f h
stand_right all at N (x ∷ xs) ys e h = stand_right all (at + 1) N xs ys (omega arith) h.1

one_more : {A : Type 0} (before : List A) (x : A) (xs : List A) → (before ++ x ∷ []) ++ xs ≡ before ++ x ∷ xs
one_more [] x xs = refl
one_more (b ∷ before) x xs = ap (λ ys. b ∷ ys) (one_more before x xs)

length_more : {A : Type 0} (before : List A) (x : A) → length (before ++ x ∷ []) ≡ length before + 1
length_more [] x = refl
length_more (b ∷ before) x = let h = length_more before x in omega (arith, h)

stand_from : {A : Type 0} (before xs : List A) (N : ℕ) → N ≡ length before → Stand (before ++ xs) N xs
stand_from before [] N e = tt
stand_from before (x ∷ xs) N e = (
  ap (slice_get (before ++ x ∷ xs)) e ∙ get_seam before x xs,
  subst (λ all. Stand all (N + 1) xs) (one_more before x xs) (stand_from (before ++ x ∷ []) xs (N + 1) (let l = length_more before x in omega (arith, l))),
)

pub stand_all : {A : Type 0} (xs : List A) → Stand xs 0 xs
stand_all xs = stand_from [] xs 0 refl

-- ---- lengths

mutual
  pub flow_length : (a : StmtModel) (tree at : ℕ) → length (flow_of a tree at) ≡ places_for a
  flow_length (assign place e) tree at = refl
  flow_length (choice test taken other) tree at =
      let t = in_length taken (tree + 1) (at + 1) in
      let o = else_length other (tree + 1 + statements_in taken) (at + 1 + places_in taken) in
      omega (arith, length-append (flow_in taken (tree + 1) (at + 1)) (flow_else other (tree + 1 + statements_in taken) (at + 1 + places_in taken)), t, o)
  flow_length (while test body) tree at =
      let t = in_length body (tree + 1) (at + 1) in
      omega (arith, length-append (flow_in body (tree + 1) (at + 1)) (Jump at ∷ []), t)
  flow_length (count counter from_at from to body) tree at =
      let t = in_length body (tree + 2) (at + 2) in
      omega (arith, length-append (flow_in body (tree + 2) (at + 2)) (Assign (tree + 2 + statements_in body) ∷ (Jump (at + 1) ∷ [])), t)

  pub in_length : (list : StmtsModel) (tree at : ℕ) → length (flow_in list tree at) ≡ places_in list
  in_length no_acts tree at = refl
  in_length (act a rest) tree at =
      let t = flow_length a tree at in
      let o = in_length rest (tree + statements a) (at + places_for a) in
      omega (arith, length-append (flow_of a tree at) (flow_in rest (tree + statements a) (at + places_for a)), t, o)

  pub else_length : (o : ElseModel) (tree at : ℕ) → length (flow_else o tree at) ≡ places_else o
  else_length without tree at = refl
  else_length (otherwise body) tree at = let t = in_length body tree (at + 1) in omega (arith, t)

mutual
  pub stmt_jobs_length : (m : MemoryMap) (a : StmtModel) → length (stmt_jobs m a) ≡ statements a
  stmt_jobs_length m (assign place e) = refl
  stmt_jobs_length m (choice test taken other) = let t = jobs_in_length m taken in let o = jobs_else_length m other in omega (arith, length-append (jobs_in m taken) (jobs_else m other), t, o)
  stmt_jobs_length m (while test body) = let t = jobs_in_length m body in omega (arith, t)
  stmt_jobs_length m (count counter at from to body) =
      let t = jobs_in_length m body in
      omega (arith, length-append (jobs_in m body) (job_of_step m counter ∷ []), t)

  pub jobs_in_length : (m : MemoryMap) (list : StmtsModel) → length (jobs_in m list) ≡ statements_in list
  jobs_in_length m no_acts = refl
  jobs_in_length m (act a rest) = let t = stmt_jobs_length m a in let o = jobs_in_length m rest in omega (arith, length-append (stmt_jobs m a) (jobs_in m rest), t, o)

  pub jobs_else_length : (m : MemoryMap) (o : ElseModel) → length (jobs_else m o) ≡ statements_else o
  jobs_else_length m without = refl
  jobs_else_length m (otherwise body) = jobs_in_length m body

-- ---- jobs one after the other

pub all_done_more : (ts : List JobModel) (t : JobModel) (cells : List ℕ) → all_done (ts ++ t ∷ []) cells ≡ done t (all_done ts cells)
all_done_more [] t cells = refl
all_done_more (u ∷ ts) t cells = all_done_more ts t (done u cells)

pub all_lie_more : (at : ℕ) (ts : List JobModel) (t : JobModel) (cells : List ℕ) → AllLie at cells ts → Lies at (all_done ts cells) t → AllLie at cells (ts ++ t ∷ [])
all_lie_more at [] t cells h l = (l, tt)
all_lie_more at (u ∷ ts) t cells h l = (h.0, all_lie_more at ts t (done u cells) h.1 l)

put_length : (destination : DestinationModel) (v : ℕ) (cells : List ℕ) → length (put_at destination v cells) ≡ length cells
put_length (cell address) v cells = length-set cells address v
put_length (stored address) v cells = length-set cells (tree_value cells address) v
put_length (into id) v cells = refl
put_length temporary v cells = refl
put_length filed v cells = refl
put_length tested v cells = refl

pub all_done_length : (ts : List JobModel) (cells : List ℕ) → length (all_done ts cells) ≡ length cells
all_done_length [] cells = refl
all_done_length (t ∷ ts) cells = all_done_length ts (done t cells) ∙ put_length t.destination _ cells

-- one of some trees that have one value
pub all_are_at : (v : ℕ) (cells : List ℕ) (trees : List ExprModel) (k : ℕ) (t : ExprModel) → AllAre v cells trees → slice_get trees k ≡ Some t → tree_value cells t ≡ v
all_are_at v cells [] k t h e = absurd (cc e)
all_are_at v cells (u ∷ trees) zero t h e = let s : u ≡ t = cc in subst (λ x. tree_value cells x ≡ v) s h.0
all_are_at v cells (u ∷ trees) (suc k) t h e = all_are_at v cells trees k t h.1 e

-- ---- where blocks begin

pub entered_by : (flow : List Flow) (i : ℕ) (f : Flow) (at : ℕ) → slice_get flow i ≡ Some f → enters f at ≡ true → is_entered flow at ≡ true
entered_by [] i f at e h = absurd (cc e)
entered_by (g ∷ rest) zero f at e h = let s : f ≡ g = cc in or_left (enters g at) _ (sym (ap (λ x. enters x at) s) ∙ h)
entered_by (g ∷ rest) (suc i) f at e h = or_right (enters g at) _ (entered_by rest i f at e h)

no_fourth : (a b c d : Bool) → d ≡ true → (a && (b && (c && not d))) ≡ false
no_fourth true true true true e = refl
no_fourth true true true false e = absurd (cc e)
no_fourth true true false d e = refl
no_fourth true false c d e = refl
no_fourth false b c d e = refl

no_third : (a b c d : Bool) → c ≡ false → (a && (b && (c && d))) ≡ false
no_third true true true d e = absurd (cc e)
no_third true true false d e = refl
no_third true false c d e = refl
no_third false b c d e = refl

no_second : (a b d : Bool) → b ≡ false → (a && (b && d)) ≡ false
no_second true true d e = absurd (cc e)
no_second true false d e = refl
no_second false b d e = refl

-- where something enters a block begins
pub begins_entered : (flow : List Flow) (at : ℕ) → is_entered flow at ≡ true → continues flow at ≡ false
begins_entered flow at e = no_fourth (nat_lt 0 at) (is_assign (slice_get flow (at - 1))) (is_assign (slice_get flow at)) (is_entered flow at) e

-- what isn't an assignment continues nothing
pub begins_other : (flow : List Flow) (at : ℕ) (f : Flow) → slice_get flow at ≡ Some f → is_assign (Some f) ≡ false → continues flow at ≡ false
begins_other flow at f e n = no_third (nat_lt 0 at) (is_assign (slice_get flow (at - 1))) (is_assign (slice_get flow at)) (not (is_entered flow at)) (ap is_assign e ∙ n)

-- and isn't continued
pub begins_behind : (flow : List Flow) (at N : ℕ) (f : Flow) → N ≡ at + 1 → slice_get flow at ≡ Some f → is_assign (Some f) ≡ false → continues flow N ≡ false
begins_behind flow at N f p e n =
    let q : N - 1 ≡ at = omega arith in
    no_second (nat_lt 0 N) (is_assign (slice_get flow (N - 1))) _ (ap (λ k. is_assign (slice_get flow k)) q ∙ ap is_assign e ∙ n)
