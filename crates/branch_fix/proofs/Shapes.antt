-- The flow of a program has one end, and its tests go on behind themselves.
use Rattle.std.proofs.Common.{ℕ, zero, suc, ◌≡◌, ◌≤◌, ◌<◌, ◌+◌, Bool, true, false, if◌then◌else◌, List, [], ◌∷◌, ◌++◌, length, Some, refl, subst, arith, slice_get}
use Rattle.std.proofs.lemmas.List.{length-append}
use Rattle.src_model.specs.declared.program.Cmp.{Cmp}
use Rattle.src_model.specs.declared.program.Cmp.TheVariants.{Ne}
use Rattle.src_model.specs.Written.{StmtModel, assign, choice, while, count, StmtsModel, no_acts, act, ElseModel, without, otherwise, ProgramModel, stmts_of}
use Rattle.src_model.specs.Sizes.{statements, statements_in}
use Rattle.form_model.specs.declared.flow.Flow.{Flow}
use Rattle.form_model.specs.declared.flow.Flow.TheVariants.{Assign, Test, Jump, End}
use Rattle.src_trees.specs.Lowered.{holds_at_one}
use Rattle.src_trees.specs.Flows.{places_for, places_in, else_entry, asked, flow_of, flow_in, flow_else, program_flow}
use Rattle.src_trees.proofs.Parts.{flow_length, in_length, stand_all, stand_right}
use Rattle.branch_fix.specs.Inner.Flowing.{IsFlow}

-- from a place on there is no end, and tests go on behind themselves
abbrev Goes : ℕ → List Flow → Type 0
Goes at [] = Unit {0}
Goes at (Assign tree ∷ rest) = Goes (at + 1) rest
Goes at (Test tree one none ∷ rest) = (at < one) × (at < none) × Goes (at + 1) rest
Goes at (Jump to ∷ rest) = Goes (at + 1) rest
Goes at (End ∷ rest) = ⊥

goes_on : (at N : ℕ) (xs ys : List Flow) → N ≡ at + length xs → Goes at xs → Goes N ys → Goes at (xs ++ ys)
goes_on at N [] ys e g h = let f : N ≡ at = omega arith in subst (λ n. Goes n ys) f h
goes_on at N (Assign tree ∷ xs) ys e g h = goes_on (at + 1) N xs ys (omega arith) g h
goes_on at N (Test tree one none ∷ xs) ys e g h = (g.0, g.1, goes_on (at + 1) N xs ys (omega arith) g.2 h)
goes_on at N (Jump to ∷ xs) ys e g h = goes_on (at + 1) N xs ys (omega arith) g h
goes_on at N (End ∷ xs) ys e g h = absurd g

asked_goes : (cmp : Cmp) (tree at yes_to no_to : ℕ) (rest : List Flow) → at < yes_to → at < no_to → Goes (at + 1) rest
    → Goes at (asked cmp tree yes_to no_to ∷ rest)
asked_goes cmp tree at yes_to no_to rest l k g = by (holds_at_one cmp)
  where
    by : (b : Bool) → Goes at ((if b then Test tree yes_to no_to else Test tree no_to yes_to) ∷ rest)
    by true = (l, k, g)
    by false = (k, l, g)

entry_later : (o : ElseModel) (at : ℕ) → at ≤ else_entry o at
entry_later without at = omega arith
entry_later (otherwise list) at = omega arith

mutual
  flow_goes : (a : StmtModel) (tree at : ℕ) → Goes at (flow_of a tree at)
  flow_goes (assign place e) tree at = tt
  flow_goes (choice test taken other) tree at =
      let n = in_length taken (tree + 1) (at + 1) in
      let l = entry_later other (at + 1 + places_in taken) in
      asked_goes test.cmp tree at (at + 1) (else_entry other (at + 1 + places_in taken)) _ (omega arith) (omega (arith, l))
      (goes_on (at + 1) (at + 1 + places_in taken) (flow_in taken (tree + 1) (at + 1)) (flow_else other (tree + 1 + statements_in taken) (at + 1 + places_in taken)) (omega (arith, n)) (in_goes taken (tree + 1) (at + 1))
      (else_goes other (tree + 1 + statements_in taken) (at + 1 + places_in taken)))
  flow_goes (while test body) tree at =
      let n = in_length body (tree + 1) (at + 1) in
      asked_goes test.cmp tree at (at + 1) (at + 1 + places_in body + 1) _ (omega arith) (omega arith)
      (goes_on (at + 1) (at + 1 + places_in body) (flow_in body (tree + 1) (at + 1)) (Jump at ∷ []) (omega (arith, n)) (in_goes body (tree + 1) (at + 1)) tt)
  flow_goes (count counter from_at from to body) tree at =
      let n = in_length body (tree + 2) (at + 2) in
      let back : List Flow = Assign (tree + 2 + statements_in body) ∷ (Jump (at + 1) ∷ []) in
      asked_goes Ne (tree + 1) (at + 1) (at + 2) (at + 2 + places_in body + 2) (flow_in body (tree + 2) (at + 2) ++ back) (omega arith) (omega arith)
      (subst (λ k. Goes k (flow_in body (tree + 2) (at + 2) ++ back)) (let z : at + 2 ≡ at + 1 + 1 = omega arith in z)
      (goes_on (at + 2) (at + 2 + places_in body) (flow_in body (tree + 2) (at + 2)) back (omega (arith, n)) (in_goes body (tree + 2) (at + 2)) tt))

  in_goes : (list : StmtsModel) (tree at : ℕ) → Goes at (flow_in list tree at)
  in_goes no_acts tree at = tt
  in_goes (act a rest) tree at =
      let n = flow_length a tree at in
      goes_on at (at + places_for a) (flow_of a tree at) (flow_in rest (tree + statements a) (at + places_for a)) (omega (arith, n)) (flow_goes a tree at) (in_goes rest (tree + statements a) (at + places_for a))

  else_goes : (o : ElseModel) (tree at : ℕ) → Goes at (flow_else o tree at)
  else_goes without tree at = tt
  else_goes (otherwise body) tree at = in_goes body tree (at + 1)

-- a place before or at the end
goes_ahead : (at : ℕ) (xs : List Flow) (k N tree one none : ℕ) → Goes at xs → slice_get (xs ++ End ∷ []) k ≡ Some (Test tree one none) → N ≡ at + k
    → (N < one) × (N < none)
goes_ahead at [] zero N tree one none g e n = absurd (cc e)
goes_ahead at [] (suc k) N tree one none g e n = absurd (cc e)
goes_ahead at (Assign t ∷ xs) zero N tree one none g e n = absurd (cc e)
goes_ahead at (Assign t ∷ xs) (suc k) N tree one none g e n = goes_ahead (at + 1) xs k N tree one none g e (omega arith)
goes_ahead at (Test t a b ∷ xs) zero N tree one none g e n =
    let p : a ≡ one = cc in
    let q : b ≡ none = cc in
    (omega (arith, g.0), omega (arith, g.1))
goes_ahead at (Test t a b ∷ xs) (suc k) N tree one none g e n = goes_ahead (at + 1) xs k N tree one none g.2 e (omega arith)
goes_ahead at (Jump to ∷ xs) zero N tree one none g e n = absurd (cc e)
goes_ahead at (Jump to ∷ xs) (suc k) N tree one none g e n = goes_ahead (at + 1) xs k N tree one none g e (omega arith)
goes_ahead at (End ∷ xs) k N tree one none g e n = absurd g

goes_end : (at : ℕ) (xs : List Flow) (k : ℕ) → Goes at xs → slice_get (xs ++ End ∷ []) k ≡ Some End → k ≡ length xs
goes_end at [] zero g e = refl
goes_end at [] (suc k) g e = absurd (cc e)
goes_end at (Assign t ∷ xs) zero g e = absurd (cc e)
goes_end at (Assign t ∷ xs) (suc k) g e = let h = goes_end (at + 1) xs k g e in omega (arith, h)
goes_end at (Test t a b ∷ xs) zero g e = absurd (cc e)
goes_end at (Test t a b ∷ xs) (suc k) g e = let h = goes_end (at + 1) xs k g.2 e in omega (arith, h)
goes_end at (Jump to ∷ xs) zero g e = absurd (cc e)
goes_end at (Jump to ∷ xs) (suc k) g e = let h = goes_end (at + 1) xs k g e in omega (arith, h)
goes_end at (End ∷ xs) k g e = absurd g

pub program_is_flow : (l : ProgramModel) → IsFlow (program_flow l) (places_in (stmts_of l.body))
program_is_flow l =
    let n = in_length (stmts_of l.body) 0 0 in
    let g = in_goes (stmts_of l.body) 0 0 in
    record {
      long = omega (arith, n, length-append (flow_in (stmts_of l.body) 0 0) (End ∷ []));
      last = (stand_right (program_flow l) 0 (places_in (stmts_of l.body)) (flow_in (stmts_of l.body) 0 0) (End ∷ []) (omega (arith, n)) (stand_all (program_flow l))).0;
      only = λ k e. let h = goes_end 0 (flow_in (stmts_of l.body) 0 0) k g e in omega (arith, h, n);
      ahead = λ k tree one none e. goes_ahead 0 (flow_in (stmts_of l.body) 0 0) k k tree one none g e (omega arith);
    }
