-- The forms that match a tree, and what their matches give.
use Rattle.std.proofs.Common.{◌≡◌, ℕ, ◌+◌, ◌-◌, ◌*◌, ◌<◌, ◌≤◌, List, [], ◌∷◌, length, Option, Some, None, Bool, true, false, refl, sym, ap, ◌∙◌, subst, arith, inl, inr}
use Rattle.std.specs.Prelude.{slice_get, IfSome, if◌then◌else◌, ◌==◌, ◌&&◌}
use Rattle.std.specs.Option.{option_map}
use Rattle.std.proofs.lemmas.Bool.{cases_eq}
use Rattle.std.proofs.lemmas.List.{length-map}
use Rattle.std.proofs.lemmas.Option.{slice_get_within}
use Rattle.rec_bits.proofs.Options.{picked}
use Rattle.net_model.specs.Exprs.{ExprModel, size_of}
use Rattle.form_model.specs.Trees.{model_of_tree}
use Rattle.form_model.specs.Forms.{FormModel, model_of_form, model_of_goal, DestinationModel}
use Rattle.form_model.specs.Matches.{in_register, in_file, LeafModel, operand, cut, MatchModel, matched, taken}
use Rattle.form_model.specs.CoverModels.{use_form, CoverOperandsModel, CoverCutsModel, operands_cost, cuts_cost}
use Rattle.form_model.specs.Covers.{operands_of, cuts_of, cells_of_goal}
use Rattle.form_model.specs.declared.forms.Form.{Form}
use Rattle.tree_grammar.specs.declared.parts.Match.{Match}
use Rattle.tree_grammar.specs.declared.parts.Leaf.{Leaf}
use Rattle.tree_grammar.specs.declared.parts.Leaf.TheVariants
use Rattle.tree_grammar.specs.Numbers.{HoldsSubtrees}
use Rattle.tree_grammar.specs.Leaves.{model_of_destination, model_of_home, model_of_match, models_of_leaves, AreAt}
use Rattle.least_costs.specs.declared.limits.Limits.{Limits}
use Rattle.least_costs.specs.declared.slots.Slot.{Slot}
use Rattle.least_costs.specs.declared.slots.Slot.TheVariants.{Register, File, Temporary}
use Rattle.least_costs.specs.declared.search.Search.{Search}
use Rattle.least_costs.specs.declared.rows.Offer.{Offer}
use Rattle.least_costs.specs.declared.rows.Offer.TheVariants.{Nothing, Chains}
use Rattle.least_costs.specs.declared.matches.FormMatch.{FormMatch}
use Rattle.least_costs.specs.Subgoals.{KeepsTo, is_free, takes, rest, start_under, operands_size, exprs_size, rank, IsSparing, AreSparing, AreStored}
use Rattle.least_costs.specs.Least.{AtMost, NoMore, IsLeastOrder, IsLeastCut, IsFloor, IsCostBelow, summed}
use Rattle.least_costs.specs.Slots.{IsEntry, IsSlot, entry_destination, goal_slot, home_slot}
use Rattle.least_costs.specs.Rows.{Row, entry, row_subgoal, IsCheapOffer, IsOffer, offer_is}
use Rattle.least_costs.specs.Searches.{search_stock, search_nodes, open_operands, open_cuts, AreParts}
use Rattle.least_costs.specs.Matched.{rest_at, IsOpened, Takes, IsFormMatch, MatchesForm, with_match, AreFirstMatches}
use Rattle.tree_sharing.proofs.NodeLemmas.{nodes_hold}
use Rattle.least_costs.proofs.NodeLemmas.{node_size, whole_number}
use Rattle.least_costs.proofs.SizeLemmas.{size_pos, total_parts, small_le, rest_small, rest_less}
use Rattle.least_costs.proofs.PartLemmas.{parts_operands, parts_cuts}
use Rattle.least_costs.proofs.FewLemmas.{no_more_le, opened_low, order_few, cuts_few, form_few}
use Rattle.tree_sharing.proofs.SharingLemmas.{get_push}
use Rattle.least_costs.proofs.LeastLemmas.{some_form, both_at_most}
use Rattle.least_costs.proofs.OfferLemmas.{row_small, offer_no_spare, offer_chain, offer_form, get_old, get_new}
use Rattle.least_costs.proofs.StartLemmas.{Start, form_at}
use Rattle.tree_grammar.proofs.ValueLemmas.{no_value}

-- ---- the entry from which a match goes on

pub start_rest : (size : ℕ) (all : Bool) (leaves : List LeafModel) → rest size all leaves ≡ start_under (rest size true leaves) all
start_rest size all [] = refl
start_rest size all (operand (in_register id) tree whole ∷ []) = go (size_of tree == size)
  where
    go : (b : Bool) → (if b then Some (Register id) else None) ≡ start_under (if b then Some (Register id) else None) all
    go true = refl
    go false = refl
start_rest size all (operand (in_file shape) tree whole ∷ []) = go (size_of tree == size)
  where
    go : (b : Bool) → (if b then Some File else None) ≡ start_under (if b then Some File else None) all
    go true = refl
    go false = refl
start_rest size all (operand home tree whole ∷ s ∷ leaves) = refl
start_rest size all (cut shape tree ∷ []) = go all (size_of tree == size)
  where
    go : (f b : Bool) → (if f && b then Some Temporary else None) ≡ start_under (if b then Some Temporary else None) f
    go true true = refl
    go true false = refl
    go false true = refl
    go false false = refl
start_rest size all (cut shape tree ∷ s ∷ leaves) = refl

start_some : (s : Option Slot) (all : Bool) (q : Slot) → start_under s all ≡ Some q → s ≡ Some q
start_some None all q h = absurd (cc)
start_some (Some (Register r)) all q h = h
start_some (Some File) all q h = h
start_some (Some Temporary) all q h = (picked all (Some Temporary) q h).1

-- ---- one form

-- what goes on from the tree of this number goes on from the whole tree
rest_number : (number : ℕ) (t : ExprModel) (parts : List Leaf) → ((nodes : List ExprModel) → HoldsSubtrees nodes number t → AreAt nodes parts) → rest_at number parts ≡ rest (size_of t) true (models_of_leaves parts)
rest_number number t [] h = refl
rest_number number t (TheVariants.Operand home tree whole at ∷ []) h = ap (λ b. if b then Some (home_slot (model_of_home home)) else None) (whole_number number at t (model_of_tree tree.now) (λ nodes holds. (h nodes holds).0))
rest_number number t (TheVariants.Cut shape tree at ∷ []) h = ap (λ b. if b then Some Temporary else None) (whole_number number at t (model_of_tree tree.now) (λ nodes holds. (h nodes holds).0))
rest_number number t (TheVariants.Operand home tree whole at ∷ p ∷ parts) h = refl
rest_number number t (TheVariants.Cut shape tree at ∷ p ∷ parts) h = refl

pub form_match : (search : Search) (form : Form) (k : ℕ) (goal : Slot) (t : ExprModel) (whole : Bool) (number : ℕ) (m : Match) (parts : List Leaf) (x : FormMatch) → slice_get (search_nodes search) number ≡ Some t → Start search form k goal t whole m → ((nodes : List ExprModel) → HoldsSubtrees nodes number t → AreAt nodes m.parts.items) → parts ≡ m.parts.items → (written : ℕ) → written ≡ cells_of_goal (model_of_goal form.goal) → IsOpened parts number k goal form.clobbers written x → IsFormMatch search t whole x
form_match search form k goal t whole number m parts x get s at e written cells o = record {
  form = model_of_form form;
  found = model_of_match m;
  listed = subst (λ j. slice_get (search_stock search).forms j ≡ Some (model_of_form form)) (sym o.form) s.listed;
  clobbers = sym o.clobbers;
  cells = sym (o.cells ∙ cells);
  goes = s.goes ∙ ap Some (sym o.goal);
  slot = subst (IsSlot whole) (sym o.goal) s.slot;
  takes_it = subst (λ j. takes (search_stock search) (model_of_form form) (row_subgoal t whole j) ≡ Some (model_of_match m)) (sym o.goal) s.takes_it;
  start = o.start ∙ ap (rest_at number) e ∙ rest_number number t m.parts.items at;
  register = o.register;
  operands = o.operands ∙ ap (λ l. operands_of (models_of_leaves l)) e;
  cuts = o.cuts ∙ ap (λ l. cuts_of (models_of_leaves l)) e;
  operands_at = parts_operands (search_nodes search) x.operands.items _ _ few (o.operands ∙ ap (λ l. operands_of (models_of_leaves l)) e) (o.operands_at (search_nodes search) here);
  cuts_at = parts_cuts (search_nodes search) x.cuts.items _ _ few (o.cuts ∙ ap (λ l. cuts_of (models_of_leaves l)) e) (o.cuts_at (search_nodes search) here);
}
  where
    here : AreAt (search_nodes search) parts
    here = subst (AreAt (search_nodes search)) (sym e) (at (search_nodes search) (nodes_hold (model_of_destination search.destination) (model_of_tree search.tree.now) number t get))

    few : AreParts (search_nodes search) (operands_of (models_of_leaves m.parts.items)) (cuts_of (models_of_leaves m.parts.items))
    few =
        let le = small_le whole t (models_of_leaves m.parts.items) s.small in
        let n = node_size (model_of_destination search.destination) (model_of_tree search.tree.now) t number get in
        let sum = total_parts (models_of_leaves m.parts.items) in
        omega (arith, le, n, sum)

-- the entry to which a form goes that takes the tree
takes_goal : (search : Search) (form : Form) (k : ℕ) (t : ExprModel) (whole : Bool) → slice_get search.forms.now k ≡ Some form → (x : Takes (search_stock search) t whole k) → (x.form ≡ model_of_form form) × (goal_slot (model_of_form form).goal whole ≡ Some x.entry)
takes_goal search form k t whole got x =
    let l = form_at search k form got in
    let y = x.listed in
    let same : x.form ≡ model_of_form form = cc in
    (same, subst (λ (r : FormModel). goal_slot r.goal whole ≡ Some x.entry) same (row_small (search_stock search) x.form t whole x.entry x.found x.slot x.takes_it).0)

pub never_goal : (search : Search) (form : Form) (k : ℕ) (t : ExprModel) (whole : Bool) (g : Option Slot) → slice_get search.forms.now k ≡ Some form → g ≡ goal_slot (model_of_goal form.goal) whole → g ≡ None → Takes (search_stock search) t whole k → ⊥
never_goal search form k t whole g got is none x =
    let h = (takes_goal search form k t whole got x).1 in
    let e : ◌≡◌ {A = Option Slot} None (Some x.entry) = sym none ∙ is ∙ h in cc

pub never_match : (search : Search) (form : Form) (k : ℕ) (goal : Slot) (t : ExprModel) (whole : Bool) (destination : DestinationModel) (g : Option Slot) (o : Option Match) → slice_get search.forms.now k ≡ Some form → g ≡ goal_slot (model_of_goal form.goal) whole → g ≡ Some goal → destination ≡ entry_destination goal → option_map model_of_match o ≡ taken search.temps (model_of_form form) destination t whole → o ≡ None → Takes (search_stock search) t whole k → ⊥
never_match search form k goal t whole destination g o got is some at found none x =
    let h = takes_goal search form k t whole got x in
    let e : ◌≡◌ {A = Option Slot} (Some goal) (Some x.entry) = sym some ∙ is ∙ h.1 in
    let same : x.entry ≡ goal = cc in
    let a : takes (search_stock search) (model_of_form form) (row_subgoal t whole goal) ≡ Some x.found = subst (λ j. takes (search_stock search) (model_of_form form) (row_subgoal t whole j) ≡ Some x.found) same (subst (λ r. takes (search_stock search) r (row_subgoal t whole x.entry) ≡ Some x.found) h.0 x.takes_it) in
    let b = sym (ap (option_map model_of_match) none) ∙ found ∙ ap (λ p. taken search.temps (model_of_form form) p t whole) at ∙ a in cc

pub never_value : (search : Search) (form : Form) (k : ℕ) (t : ExprModel) (whole : Bool) → slice_get search.forms.now k ≡ Some form → ((temps : ℕ) (w : Bool) → matched temps (model_of_form form).value t w ≡ None) → Takes (search_stock search) t whole k → ⊥
never_value search form k t whole got never x =
    let h = takes_goal search form k t whole got x in
    let is : takes (search_stock search) (model_of_form form) (row_subgoal t whole x.entry) ≡ Some x.found = subst (λ r. takes (search_stock search) r (row_subgoal t whole x.entry) ≡ Some x.found) h.0 x.takes_it in
    let none = no_value search.temps (model_of_form form) (model_of_form form).goal (entry_destination x.entry) t whole (never search.temps) in
    let e : ◌≡◌ {A = Option MatchModel} None (Some x.found) = sym none ∙ is in cc

-- ---- the list of matches

module _ (search : Search) (t : ExprModel) (whole : Bool) where
  pub matches_none : (number : ℕ) → slice_get (search_nodes search) number ≡ Some t → AreFirstMatches search t whole 0 []
  matches_none number get = record { few = node_size (model_of_destination search.destination) (model_of_tree search.tree.now) t number get; each = λ i m get. absurd (cc); below = λ i m get. absurd (cc); all = λ k lt. absurd (omega arith); ordered = λ i j m l lt get. absurd (cc) }

  pub matches_more : (n : ℕ) (list new : List FormMatch) (o : Option FormMatch) → AreFirstMatches search t whole n list → MatchesForm search t whole n o → new ≡ with_match list o → AreFirstMatches search t whole (n + 1) new
  matches_more n list new None h never e = subst (AreFirstMatches search t whole (n + 1)) (sym e) (record {
    few = h.few;
    each = h.each;
    below = λ i m get. (let lt = h.below i m get in omega (arith, lt));
    all = λ k lt x. elim (cases_eq k n) [
      | inl at ↦ absurd (never (subst (Takes (search_stock search) t whole) at x))
      | inr other ↦ h.all k (omega arith) x
    ];
    ordered = h.ordered;
  })
  matches_more n list new (Some f) h (is, at) e = subst (AreFirstMatches search t whole (n + 1)) (sym e) (record {
    few = h.few;
    each = λ i m get. elim (get_push list f i m get) [
      | inl old ↦ h.each i m old
      | inr last ↦ subst (IsFormMatch search t whole) (sym last.1) is
    ];
    below = λ i m get. elim (get_push list f i m get) [
      | inl old ↦ (let lt = h.below i m old in omega (arith, lt))
      | inr last ↦ (let x = ap (λ (y : FormMatch). y.form) last.1 in omega (arith, x, at))
    ];
    all = λ k lt x. elim (cases_eq k n) [
      | inl same ↦ (length list, f, get_new list f, at ∙ sym same)
      | inr other ↦ (let y = h.all k (omega arith) x in (y.0, y.1, get_old list f y.1 y.0 y.2, y.3))
    ];
    ordered = λ i j m l lt gi gj. elim (get_push list f i m gi) [
      | inl oi ↦ elim (get_push list f j l gj) [
        | inl oj ↦ h.ordered i j m l lt oi oj
        | inr last ↦ (let b = h.below i m oi in let x = ap (λ (y : FormMatch). y.form) last.1 in omega (arith, b, x, at))
      ]
      | inr li ↦ elim (get_push list f j l gj) [
        | inl oj ↦ absurd (let w = slice_get_within list j l oj in let x = li.0 in omega (arith, w, x, lt))
        | inr lj ↦ absurd (let x = li.0 in let y = lj.0 in omega (arith, x, y, lt))
      ]
    ];
  })

  -- each form that takes the tree has a match
  pub matches_all : (list : List FormMatch) → AreFirstMatches search t whole (length search.forms.now) list → (k : ℕ) → Takes (search_stock search) t whole k → (i : ℕ) × (m : FormMatch) × (slice_get list i ≡ Some m) × (m.form ≡ k)
  matches_all list h k x = h.all k (let w = slice_get_within (search_stock search).forms k x.form x.listed in let l = length-map search.forms.now model_of_form in omega (arith, w, l)) x

pub at_place : (P : FormMatch → Type 0) (list : List FormMatch) (i : ℕ) (m : FormMatch) → slice_get list i ≡ Some m → P m → (l : FormMatch) → slice_get list i ≡ Some l → P l
at_place P list i m get p l get' = let same : m ≡ l = cc in subst P same p

-- ---- what a match gives

module _ (search : Search) (limits : Limits) (t : ExprModel) (whole : Bool) (m : FormMatch) (f : IsFormMatch search t whole m) where
  pub spared_is : KeepsTo limits m.clobbers m.cells → KeepsTo limits f.form.clobbers (cells_of_goal f.form.goal)
  spared_is e = subst (λ c. KeepsTo limits c (cells_of_goal f.form.goal)) (sym f.clobbers) (subst (λ n. KeepsTo limits m.clobbers n) (sym f.cells) e)

  pub kept_is : KeepsTo limits f.form.clobbers (cells_of_goal f.form.goal) → KeepsTo limits m.clobbers m.cells
  kept_is e = subst (λ n. KeepsTo limits m.clobbers n) f.cells (subst (λ c. KeepsTo limits c (cells_of_goal f.form.goal)) f.clobbers e)

  rest_is : (o : Option Slot) → o ≡ start_under m.start (is_free search.file limits) → rest (size_of t) (is_free search.file limits) f.found.leaves ≡ o
  rest_is o is =
      start_rest (size_of t) (is_free search.file limits) f.found.leaves ∙ ap (λ s. start_under s (is_free search.file limits)) (sym f.start) ∙ sym is

  pub offer_clobbers : (row : Row) → (KeepsTo limits m.clobbers m.cells → ⊥) → IsOffer (search_stock search) limits t whole row m.form Nothing
  offer_clobbers row never = offer_no_spare (search_stock search) limits t whole row m.form f.form f.listed (λ e. never (kept_is e))

  pub offer_start : (row : Row) (o : Option Slot) (q : Slot) → KeepsTo limits m.clobbers m.cells → o ≡ start_under m.start (is_free search.file limits) → o ≡ Some q → IsOffer (search_stock search) limits t whole row m.form (Chains (record { start = q; goal = m.goal }))
  offer_start row o q spared is some =
      let there : m.start ≡ Some q = start_some m.start (is_free search.file limits) q (sym is ∙ some) in
      let r : IsEntry q = subst (λ s. IfSome s IsEntry) there f.register in
      offer_chain (search_stock search) limits t whole row m.form f.form m.goal q f.found f.listed (spared_is spared) f.goes f.slot f.takes_it (rest_is o is ∙ some) r

  pub match_sizes : (o : Option Slot) → o ≡ start_under m.start (is_free search.file limits) → o ≡ None → (operands_size (open_operands m.operands.items) < size_of t) × (exprs_size (open_cuts m.cuts.items) < size_of t + rank search.file limits)
  match_sizes o is none =
      let small = (row_small (search_stock search) f.form t whole m.goal f.found f.slot f.takes_it).1 in
      let z = rest_small whole t search.file limits f.found.leaves small (rest_is o is ∙ none) in
      (subst (λ l. operands_size l < size_of t) (sym f.operands) z.0, subst (λ l. exprs_size l < size_of t + rank search.file limits) (sym f.cuts) z.1)

  offer_costs : (row : Row) (a b d : Option ℕ) (offer : Offer) → KeepsTo limits m.clobbers m.cells → IsLeastOrder (search_stock search) limits (open_operands m.operands.items) a → IsLeastCut (search_stock search) (open_cuts m.cuts.items) b → d ≡ summed (summed (Some 1) a) b → offer ≡ offer_is m.goal d → IsOffer (search_stock search) limits t whole row m.form offer
  offer_costs row a b d offer spared la lb e el =
      let form_least = some_form (search_stock search) limits (row_subgoal t whole m.goal) m.form f.form f.found a b f.listed (spared_is spared) f.takes_it (subst (λ l. IsLeastOrder (search_stock search) limits l a) f.operands la) (subst (λ l. IsLeastCut (search_stock search) l b) f.cuts lb) in
      subst (IsOffer (search_stock search) limits t whole row m.form) (sym (el ∙ ap (offer_is m.goal) e)) (offer_form (search_stock search) limits t whole row m.form f.form m.goal (summed (summed (Some 1) a) b) f.listed f.goes f.slot form_least)

  -- the parts of a cover that begins with the match's form
  parts_at : (ps : CoverOperandsModel) (cs : CoverCutsModel) (r : Slot) → IsSlot whole r → IsSparing (search_stock search) limits (row_subgoal t whole r) (use_form m.form ps cs) → (m.goal ≡ r) × AreSparing (search_stock search) limits (open_operands m.operands.items) ps × AreStored (search_stock search) (open_cuts m.cuts.items) cs
  parts_at ps cs r slot (form, get, spared, found, is, orders, stored) =
      let l = f.listed in
      let same : form ≡ f.form = cc in
      let g : goal_slot f.form.goal whole ≡ Some r = subst (λ (x : FormModel). goal_slot x.goal whole ≡ Some r) same (row_small (search_stock search) form t whole r found slot is).0 in
      let h = f.goes in
      let at : m.goal ≡ r = cc in
      let is' : takes (search_stock search) f.form (row_subgoal t whole m.goal) ≡ Some found = subst (λ j. takes (search_stock search) f.form (row_subgoal t whole j) ≡ Some found) (sym at) (subst (λ x. takes (search_stock search) x (row_subgoal t whole r) ≡ Some found) same is) in
      let k = f.takes_it in
      let equal : found ≡ f.found = cc in
      (at, subst (λ l. AreSparing (search_stock search) limits l ps) (ap (λ (x : MatchModel). operands_of x.leaves) equal ∙ sym f.operands) orders, subst (λ l. AreStored (search_stock search) l cs) (ap (λ (x : MatchModel). cuts_of x.leaves) equal ∙ sym f.cuts) stored)

  -- no cover that begins with the match's form costs less than its parts' floor
  pub floor_below : (a b : Option ℕ) (ps : CoverOperandsModel) (cs : CoverCutsModel) (r : Slot) → IsFloor (search_stock search) limits (open_operands m.operands.items) a → IsLeastCut (search_stock search) (open_cuts m.cuts.items) b → IsSlot whole r → IsSparing (search_stock search) limits (row_subgoal t whole r) (use_form m.form ps cs) → (m.goal ≡ r) × AtMost (summed (summed (Some 1) a) b) (1 + operands_cost ps + cuts_cost cs)
  floor_below a b ps cs r floor lb slot sparing =
      let p = parts_at ps cs r slot sparing in
      (p.0, both_at_most (summed (Some 1) a) b (1 + operands_cost ps) (cuts_cost cs) (both_at_most (Some 1) a 1 (operands_cost ps) (omega arith) (floor ps p.1)) (lb.least cs p.2))

  offer_dear : (row : Row) (a b d : Option ℕ) → IsFloor (search_stock search) limits (open_operands m.operands.items) a → IsLeastCut (search_stock search) (open_cuts m.cuts.items) b → d ≡ summed (summed (Some 1) a) b → ((n : ℕ) → AtMost d n → AtMost (entry row m.goal) n) → IsOffer (search_stock search) limits t whole row m.form Nothing
  offer_dear row a b d floor lb e dear = λ ps cs r slot sparing.
      let h = floor_below a b ps cs r floor lb slot sparing in
      subst (λ j. AtMost (entry row j) (1 + operands_cost ps + cuts_cost cs)) h.0 (dear (1 + operands_cost ps + cuts_cost cs) (subst (λ o. AtMost o (1 + operands_cost ps + cuts_cost cs)) (sym e) h.1))

  pub offer_below : (row : Row) (known o : Option ℕ) (offer : Offer) → KeepsTo limits m.clobbers m.cells → known ≡ entry row m.goal → IsCostBelow (search_stock search) limits (open_operands m.operands.items) (open_cuts m.cuts.items) known o → offer ≡ offer_is m.goal o → IsOffer (search_stock search) limits t whole row m.form offer
  offer_below row known o offer spared e (inl x) is = offer_costs row x.operands x.cuts o offer spared x.order x.cut x.sum is
  offer_below row known o offer spared e (inr (none, x)) is =
      subst (IsOffer (search_stock search) limits t whole row m.form) (sym (is ∙ ap (offer_is m.goal) none))
      (offer_dear row x.operands x.cuts (summed (summed (Some 1) x.operands) x.cuts) x.floor x.cut refl (λ n h. subst (λ k. AtMost k n) e (x.dear n h)))

  -- its operands and its cuts have no more subtrees than the tree
  pub match_parts : size_of t ≤ length (search_nodes search) → AreParts (search_nodes search) (open_operands m.operands.items) (open_cuts m.cuts.items)
  match_parts few =
      let small = (row_small (search_stock search) f.form t whole m.goal f.found f.slot f.takes_it).1 in
      let le = small_le whole t f.found.leaves small in
      let parts = total_parts f.found.leaves in
      let os = ap operands_size f.operands in
      let ts = ap exprs_size f.cuts in
      omega (arith, few, le, parts, os, ts)

  -- where it goes on from no entry, its covers are cheap
  parts_cheap : (o : Option Slot) (a b : Option ℕ) → o ≡ start_under m.start (is_free search.file limits) → o ≡ None → IsLeastOrder (search_stock search) limits (open_operands m.operands.items) a → IsLeastCut (search_stock search) (open_cuts m.cuts.items) b → NoMore (summed (summed (Some 1) a) b) (36 * size_of t - 17)
  parts_cheap o a b is none la lb =
      let la' = order_few (search_stock search) search.low limits (open_operands m.operands.items) a (opened_low m.operands.items) la in
      let lb' = cuts_few (search_stock search) search.low (open_cuts m.cuts.items) b lb in
      let small = (row_small (search_stock search) f.form t whole m.goal f.found f.slot f.takes_it).1 in
      let os = ap operands_size f.operands in
      let ts = ap exprs_size f.cuts in
      let parts = total_parts f.found.leaves in
      let pos = size_pos t in
      let le : 1 + 36 * operands_size (open_operands m.operands.items) + (36 * exprs_size (open_cuts m.cuts.items) - 18 * length (open_cuts m.cuts.items)) ≤ 36 * size_of t - 17 = elim (rest_less whole t search.file limits f.found.leaves small (rest_is o is ∙ none)) [
        | inl lt ↦ omega (arith, os, ts, parts, pos, lt)
        | inr (x, y, r) ↦ (let n = ap operands_size x in let k = ap exprs_size y in let l = ap length (f.cuts ∙ y) in omega (arith, os, ts, pos, n, k, l))
      ] in
      no_more_le (summed (summed (Some 1) a) b) _ (36 * size_of t - 17) le (form_few a b _ _ la' lb')

  pub offer_cheap : (o : Option Slot) (known d : Option ℕ) (offer : Offer) → o ≡ start_under m.start (is_free search.file limits) → o ≡ None → IsCostBelow (search_stock search) limits (open_operands m.operands.items) (open_cuts m.cuts.items) known d → offer ≡ offer_is m.goal d → IsCheapOffer t offer
  offer_cheap o known d offer is none (inl x) e =
      subst (IsCheapOffer t) (sym (e ∙ ap (offer_is m.goal) x.sum)) (go (summed (summed (Some 1) x.operands) x.cuts) (parts_cheap o x.operands x.cuts is none x.order x.cut))
    where
      go : (n : Option ℕ) → NoMore n (36 * size_of t - 17) → IsCheapOffer t (offer_is m.goal n)
      go None h = tt
      go (Some n) h = let pos = size_pos t in omega (arith, h, pos)
  offer_cheap o known d offer is none (inr x) e = subst (IsCheapOffer t) (sym (e ∙ ap (offer_is m.goal) x.0)) tt
