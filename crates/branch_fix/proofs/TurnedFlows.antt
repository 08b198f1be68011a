-- A flow some tests of which are turned has the ends, the blocks, the costs and the bound of the flow.
use Rattle.std.proofs.Common.{◌≡◌, ℕ, ◌+◌, ◌<◌, Bool, true, false, cond, if◌then◌else◌, List, [], ◌∷◌, length, Option, None, Some, refl, sym, ◌∙◌, ap, subst, arith, slice_get, slice_index}
use Rattle.std.specs.Option.{option_map}
use Rattle.std.proofs.lemmas.Option.{slice_get-map}
use Rattle.std.proofs.lemmas.List.{length-map}
use Rattle.form_model.specs.declared.flow.Flow.{Flow}
use Rattle.form_model.specs.declared.flow.Flow.TheVariants.{Assign, Test, Jump, End}
use Rattle.src_trees.specs.Turned.{Turns, turned_flow, turned_place}
use Rattle.src_trees.specs.Blocks.{continues}
use Rattle.src_trees.proofs.TurnedTests.{same_continues}
use Rattle.branch_fix.specs.Bounds.{control_words}
use Rattle.branch_fix.specs.Costs.{block_costs, joined}
use Rattle.branch_fix.specs.Inner.Flowing.{IsFlow}

module _ (turned : Turns) where
  -- ---- places

  -- the place that a turned one was
  record Was (flow : List Flow) (at : ℕ) (g : Flow) : Type 0 where
    place : Flow
    there : slice_get flow at ≡ Some place
    is : turned_place turned place ≡ g

  was_place : (flow : List Flow) (at : ℕ) (g : Flow) → slice_get (turned_flow turned flow) at ≡ Some g → Was flow at g
  was_place flow at g e = by (slice_get flow at) refl (sym (slice_get-map (turned_place turned) flow at) ∙ e)
    where
      by : (o : Option Flow) → slice_get flow at ≡ o → option_map (turned_place turned) (slice_get flow at) ≡ Some g → Was flow at g
      by None h k = absurd (let none : None ≡ Some g = sym (ap (option_map (turned_place turned)) h) ∙ k in cc)
      by (Some f) h k =
          let same : Some (turned_place turned f) ≡ Some g = sym (ap (option_map (turned_place turned)) h) ∙ k in
          record { place = f; there = h; is = (cc) }

  was_end : (f : Flow) → turned_place turned f ≡ End → f ≡ End
  was_end End e = refl
  was_end (Assign tree) e = absurd (cc e)
  was_end (Jump to) e = absurd (cc e)
  was_end (Test tree one none) e = by (turned tree) e
    where
      by : (b : Bool) → cond b (Test tree none one) (Test tree one none) ≡ End → Test tree one none ≡ End
      by true e = absurd (cc e)
      by false e = absurd (cc e)

  -- both targets of a test, in either order
  both_ahead : (at : ℕ) (f : Flow) (tree one none : ℕ) → ((t a b : ℕ) → f ≡ Test t a b → (at < a) × (at < b)) → turned_place turned f ≡ Test tree one none → (at < one) × (at < none)
  both_ahead at (Assign t) tree one none h e = absurd (cc e)
  both_ahead at (Jump to) tree one none h e = absurd (cc e)
  both_ahead at End tree one none h e = absurd (cc e)
  both_ahead at (Test t a b) tree one none h e = by (turned t) e
    where
      by : (c : Bool) → cond c (Test t b a) (Test t a b) ≡ Test tree one none → (at < one) × (at < none)
      by true e =
          let p = h t a b refl in
          let first : b ≡ one = cc in
          let second : a ≡ none = cc in
          (subst (λ n. at < n) first p.1, subst (λ n. at < n) second p.0)
      by false e =
          let p = h t a b refl in
          let first : a ≡ one = cc in
          let second : b ≡ none = cc in
          (subst (λ n. at < n) first p.0, subst (λ n. at < n) second p.1)

  pub turned_is_flow : (flow : List Flow) (end : ℕ) → IsFlow flow end → IsFlow (turned_flow turned flow) end
  turned_is_flow flow end f = record {
    long = length-map flow (turned_place turned) ∙ f.long;
    last = slice_get-map (turned_place turned) flow end ∙ ap (option_map (turned_place turned)) f.last;
    only = λ at e.
        (let w = was_place flow at End e in
        f.only at (w.there ∙ ap Some (was_end w.place w.is)));
    ahead = λ at tree one none e.
        (let w = was_place flow at (Test tree one none) e in
        both_ahead at w.place tree one none (λ t a b is. f.ahead at t a b (w.there ∙ ap Some is)) w.is);
  }

  -- ---- costs

  pub turned_control : (flow : List Flow) → control_words (turned_flow turned flow) ≡ control_words flow
  turned_control [] = refl
  turned_control (Assign tree ∷ rest) = turned_control rest
  turned_control (Test tree one none ∷ rest) = by (turned tree) ∙ ap (λ n. 3 + n) (turned_control rest)
    where
      by : (b : Bool) → control_words (cond b (Test tree none one) (Test tree one none) ∷ turned_flow turned rest) ≡ 3 + control_words (turned_flow turned rest)
      by true = refl
      by false = refl
  turned_control (Jump to ∷ rest) = ap (λ n. 1 + n) (turned_control rest)
  turned_control (End ∷ rest) = ap (λ n. 1 + n) (turned_control rest)

  pub turned_costs : (flow : List Flow) (costs : List ℕ) (rest : List Flow) (at : ℕ) → block_costs (turned_flow turned flow) costs (turned_flow turned rest) at ≡ block_costs flow costs rest at
  turned_costs flow costs [] at = refl
  turned_costs flow costs (Assign tree ∷ rest) at =
      let c = same_continues turned flow (at + 1) in
      let r = turned_costs flow costs rest (at + 1) in
      ap (λ b. if b then joined (slice_index costs tree) (block_costs (turned_flow turned flow) costs (turned_flow turned rest) (at + 1)) else slice_index costs tree ∷ block_costs (turned_flow turned flow) costs (turned_flow turned rest) (at + 1)) c
      ∙ ap (λ bs. if continues flow (at + 1) then joined (slice_index costs tree) bs else slice_index costs tree ∷ bs) r
  turned_costs flow costs (Test tree one none ∷ rest) at = by (turned tree) ∙ ap (λ bs. slice_index costs tree ∷ bs) (turned_costs flow costs rest (at + 1))
    where
      by : (b : Bool) → block_costs (turned_flow turned flow) costs (cond b (Test tree none one) (Test tree one none) ∷ turned_flow turned rest) at
          ≡ slice_index costs tree ∷ block_costs (turned_flow turned flow) costs (turned_flow turned rest) (at + 1)
      by true = refl
      by false = refl
  turned_costs flow costs (Jump to ∷ rest) at = turned_costs flow costs rest (at + 1)
  turned_costs flow costs (End ∷ rest) at = turned_costs flow costs rest (at + 1)
