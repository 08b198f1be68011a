-- The least cost of orderly covers, and which trees are made.
use Rattle.std.proofs.Common.{◌≡◌, ℕ, ◌+◌, ◌<◌, List, [], ◌∷◌, ◌++◌, length, length-append, refl, ap, ◌∙◌, subst, Option, Some, None, Bool, true, false, arith, inl, inr}
use Rattle.std.specs.Prelude.{slice_get}
use Rattle.std.proofs.lemmas.Option.{slice_get_within}
use Rattle.std.proofs.lemmas.Bool.{eqb-true}
use Rattle.rec_bits.proofs.Lists.{pushed_at}
use Rattle.rec_bits.proofs.Options.{picked}
use Rattle.rec_bits.proofs.Bits.{and_zero_r}
use Rattle.net_model.specs.Exprs.{ExprModel}
use Rattle.form_model.specs.Forms.{FormModel, GoalModel, into_reg, into_memory, into_file, jumps, branches, DestinationModel, into, filed, cell, stored, temporary, tested}
use Rattle.form_model.specs.Matches.{MatchModel, goal_match, matched}
use Rattle.form_model.specs.CoverModels.{CoverModel, use_form, CoverOperandsModel, CoverCutsModel}
use Rattle.form_model.specs.Covers.{StockModel, IsOrderly, written}
use Rattle.tree_grammar.specs.Numbers.{HoldsSubtrees}
use Rattle.tree_grammar.specs.Leaves.{Stands}
use Rattle.least_costs.specs.Made.{IsCover, IsLeastCost, HoldsParts, IsMade, AreMade, part_goal}
use Rattle.least_costs.specs.Subgoals.{SubgoalModel, IsSparing, free}
use Rattle.least_costs.specs.Least.{IsLeast, IsLeastForm}
use Rattle.least_costs.specs.Inner.Made.{NeverMakes, TellsMade, AreMadeBelow}
use Rattle.least_costs.proofs.OrderlyLemmas.{to_orderly, from_orderly}

-- where all is free, such a cover is one that spares
sparing : (stock : StockModel) (ask : SubgoalModel) (p : CoverModel) → IsCover stock ask.destination ask.tree ask.whole p → IsSparing stock (free stock) ask p
sparing stock ask p h = from_orderly stock p ask (free stock) h.orderly (and_zero_r (written stock.forms p), h.enough)

covers_is : (stock : StockModel) (ask : SubgoalModel) (p : CoverModel) → IsSparing stock (free stock) ask p → IsCover stock ask.destination ask.tree ask.whole p
covers_is stock ask p h =
    let (orderly, kept) = to_orderly stock p ask (free stock) h in record { orderly = orderly; enough = kept.1 }

pub least_orderly : (stock : StockModel) (ask : SubgoalModel) (o : Option ℕ) → IsLeast stock (free stock) ask o → IsLeastCost stock ask.destination ask.tree ask.whole o
least_orderly stock ask None is = λ p h. is.least p (sparing stock ask p h)
least_orderly stock ask (Some n) is =
    let (p, spares, e) = is.reached in
    record {
      cover = p;
      covers = covers_is stock ask p spares;
      costs = e;
      least = λ q h. is.least q (sparing stock ask q h);
    }

-- ---- the form at the root

abbrev pub part_subgoal : DestinationModel → ExprModel → SubgoalModel
part_subgoal d t = record { destination = d; tree = t; whole = false }

-- that is a register, the file or a temporary cell
pub goal_holds : (kind : GoalModel) (d : DestinationModel) → part_goal kind ≡ Some d → HoldsParts d
goal_holds (into_reg id) d e = let h : into id ≡ d = cc in subst HoldsParts h tt
goal_holds into_memory d e = let h : temporary ≡ d = cc in subst HoldsParts h tt
goal_holds into_file d e = let h : filed ≡ d = cc in subst HoldsParts h tt
goal_holds (jumps reach) d e = absurd (cc)
goal_holds (branches when_one to) d e = absurd (cc)

-- the subtrees of a part stand from its number on
pub part_stands : (nodes : List ExprModel) (at : ℕ) (d : DestinationModel) (t : ExprModel) → HoldsParts d → HoldsSubtrees nodes at t → Stands nodes at d t
part_stands nodes at (into id) t h holds = record { address = tt; value = holds }
part_stands nodes at filed t h holds = record { address = tt; value = holds }
part_stands nodes at temporary t h holds = record { address = tt; value = holds }
part_stands nodes at (cell a) t h holds = absurd h
part_stands nodes at (stored a) t h holds = absurd h
part_stands nodes at tested t h holds = absurd h

-- a form that takes a part puts it where its goal is
pub goes_there : (temps : ℕ) (form : FormModel) (kind : GoalModel) (d : DestinationModel) (t : ExprModel) (found : MatchModel) → HoldsParts d → goal_match temps form kind d t false ≡ Some found → part_goal kind ≡ Some d
goes_there temps form (into_reg r) (into id) t found h e = ap (λ i. Some (into i)) (eqb-true r id (picked _ (matched temps form.value t false) found e).0)
goes_there temps form into_memory temporary t found h e = refl
goes_there temps form into_file filed t found h e = refl
goes_there temps form kind (cell a) t found h e = absurd h
goes_there temps form kind (stored a) t found h e = absurd h
goes_there temps form kind tested t found h e = absurd h
goes_there temps form (into_reg r) filed t found h e = absurd (cc)
goes_there temps form (into_reg r) temporary t found h e = absurd (cc)
goes_there temps form into_memory (into id) t found h e = absurd (cc)
goes_there temps form into_memory filed t found h e = absurd (cc)
goes_there temps form into_file (into id) t found h e = absurd (cc)
goes_there temps form into_file temporary t found h e = absurd (cc)
goes_there temps form (jumps reach) (into id) t found h e = absurd (cc)
goes_there temps form (jumps reach) filed t found h e = absurd (cc)
goes_there temps form (jumps reach) temporary t found h e = absurd (cc)
goes_there temps form (branches when_one to) (into id) t found h e = absurd (cc)
goes_there temps form (branches when_one to) filed t found h e = absurd (cc)
goes_there temps form (branches when_one to) temporary t found h e = absurd (cc)

module _ (stock : StockModel) (t : ExprModel) (k : ℕ) (form : FormModel) (get : slice_get stock.forms k ≡ Some form) where
  -- so a cover of a part that begins with a form goes where the form's goal is
  starts_there : (d : DestinationModel) (ps : CoverOperandsModel) (cs : CoverCutsModel) → HoldsParts d → IsOrderly stock d t false (use_form k ps cs) → part_goal form.goal ≡ Some d
  starts_there d ps cs holds (form', get', found, takes, orderly, cuts) =
      let same : form' ≡ form = cc in
      goes_there stock.temps form form.goal d t found holds (subst (λ (x : FormModel). goal_match stock.temps x x.goal d t false ≡ Some found) same takes)

  pub makes_nowhere : part_goal form.goal ≡ None → NeverMakes stock t k
  makes_nowhere none = λ d ps cs holds covers. (let e = starts_there d ps cs holds covers.orderly in absurd (cc))

  pub makes_none : (d : DestinationModel) → part_goal form.goal ≡ Some d → IsLeastForm stock (free stock) (part_subgoal d t) k None → NeverMakes stock t k
  makes_none d goal is = λ d' ps cs holds covers.
      let e = starts_there d' ps cs holds covers.orderly in
      let same : d' ≡ d = cc in
      is.least ps cs (sparing stock (part_subgoal d t) (use_form k ps cs) (subst (λ x. IsCover stock x t false (use_form k ps cs)) same covers))

  pub makes_some : (d : DestinationModel) (n : ℕ) → part_goal form.goal ≡ Some d → IsLeastForm stock (free stock) (part_subgoal d t) k (Some n) → IsMade stock t
  makes_some d n goal is =
      let (ps, cs, spares, e) = is.reached in
      record {
        destination = d;
        holds = goal_holds form.goal d goal;
        cover = use_form k ps cs;
        covers = covers_is stock (part_subgoal d t) (use_form k ps cs) spares;
      }

-- ---- all forms, and all trees

module _ (stock : StockModel) where
  pub never_made : (t : ExprModel) (n : ℕ) → n ≡ length stock.forms → ((k : ℕ) → k < n → NeverMakes stock t k) → IsMade stock t → ⊥
  never_made t n e below made = go made.destination made.holds made.cover made.covers
    where
      go : (d : DestinationModel) → HoldsParts d → (p : CoverModel) → IsCover stock d t false p → ⊥
      go d holds (use_form k ps cs) h = below k (let w = slice_get_within stock.forms k h.orderly.0 h.orderly.1 in omega (arith, w, e)) d ps cs holds h

  pub made_more : (trees : List ExprModel) (n : ℕ) (made : List Bool) (t : ExprModel) (flag : Bool) → AreMadeBelow stock trees n made → slice_get trees n ≡ Some t → TellsMade stock t flag → AreMadeBelow stock trees (n + 1) (made ++ flag ∷ [])
  made_more trees n made t flag below get tells = record {
    len = (let l = length-append made (flag ∷ []) in omega (arith, l, below.len));
    each = λ k u b at got. elim (pushed_at made flag k b got) [
      | inl w ↦ below.each k u b at w.1
      | inr w ↦ (let e : k ≡ n = omega (arith, w.0, below.len) in
          let there : slice_get trees n ≡ Some u = subst (λ j. slice_get trees j ≡ Some u) e at in
          let same : t ≡ u = cc in
          subst (λ v. TellsMade stock v b) same (subst (TellsMade stock t) w.1 tells))
    ];
  }

  pub made_all : (trees : List ExprModel) (n : ℕ) (made : List Bool) → n ≡ length trees → AreMadeBelow stock trees n made → AreMade stock trees made
  made_all trees n made e below = record {
    len = below.len ∙ e;
    yes = λ k u at flag. below.each k u true at flag;
    no = λ k u at flag. below.each k u false at flag;
  }
