-- What forms ask for, by the parts of their matches.
use Rattle.std.proofs.Common.{◌≡◌, ℕ, zero, suc, ◌+◌, ◌<◌, List, [], ◌∷◌, ◌++◌, append_assoc, length, refl, sym, ap, ◌∙◌, subst, Option, Some, None, Bool, true, false, arith, inl, inr, ◌⊎◌, replicate, get_or}
use Rattle.std.specs.Prelude.{map, slice_get}
use Rattle.std.specs.Borrow.{Bor}
use Rattle.std.specs.Option.{option_map}
use Rattle.std.proofs.lemmas.Bool.{cases_lt}
use Rattle.std.proofs.lemmas.List.{length-map, length-replicate}
use Rattle.std.proofs.lemmas.Option.{slice_get_within, slice_get-get_or, slice_get-map}
use Rattle.rec_bits.proofs.Lists.{get_seam, pushed_at, get_left_some, get_right}
use Rattle.net_model.specs.Exprs.{ExprModel, size_of}
use Rattle.form_model.specs.Forms.{FormModel, DestinationModel, model_of_form, models_of_forms}
use Rattle.form_model.specs.declared.forms.Form.{Form}
use Rattle.form_model.specs.Matches.{MatchModel, taken}
use Rattle.form_model.specs.Covers.{StockModel, stock_with}
use Rattle.form_model.specs.Trees.{model_of_tree}
use Rattle.form_model.specs.declared.trees.Tree.{Tree}
use Rattle.tree_grammar.specs.Numbers.{subtrees, HoldsSubtrees}
use Rattle.tree_grammar.specs.Leaves.{AreAt, IsPartAt, model_of_destination, model_of_match, model_of_leaf, models_of_leaves}
use Rattle.tree_grammar.specs.declared.parts.Leaf.{Leaf}
use Rattle.tree_grammar.specs.declared.parts.Leaf.TheVariants.{Operand, Cut}
use Rattle.tree_grammar.specs.declared.parts.Match.{Match}
use Rattle.tree_grammar.proofs.NumberLemmas.{holds_here}
use Rattle.tree_sharing.proofs.NodeLemmas.{from_start}
use Rattle.least_costs.specs.Made.{IsMade, part_goal}
use Rattle.least_costs.proofs.MadeLemmas.{goes_there, part_stands}
use Rattle.cover_lacks.specs.Lacks.{leaf_tree, FormAsks, PartAsks, RootAsks}
use Rattle.cover_lacks.specs.declared.asks.Look.{Look}
use Rattle.cover_lacks.specs.declared.asks.Search.{Search}
use Rattle.cover_lacks.specs.Inner.Asked.{part_at, part_tree, IsBelow, AddsTree, IsPartUnmade, AddsParts, IsListed, IsUnmade, AreUnmade, LookAsks, LookStands, FirstAsk, AreAfter, IsPartLook, AddsAsked, AddsOfPart, IsSearch, search_nodes}
use Rattle.cover_lacks.proofs.Lists.{split_at}

-- ---- parts

module _ (stock : StockModel) (below : Option ℕ) (parts : List Leaf) where
  later : (n m : ℕ) → IsPartUnmade stock below parts n m → IsPartUnmade stock below parts (n + 1) m
  later n m u = record { place = u.place; within = (let w = u.within in omega (arith, w)); part = u.part; listed = u.listed; at = u.at; counts = u.counts; unmade = u.unmade }

  pub parts_more : (n : ℕ) (old mid new : List ℕ) (p : Leaf) → AddsParts stock below parts n old mid → slice_get parts n ≡ Some p → AddsTree stock below (part_tree p) (part_at p) mid new → AddsParts stock below parts (n + 1) old new
  parts_more n old mid new p adds get (inl (same, made)) = record {
    added = adds.added;
    is = same ∙ adds.is;
    each = λ i m h. later n m (adds.each i m h);
    all = λ place part lt at counts. elim (cases_lt place n) [
      | inl earlier ↦ adds.all place part earlier at counts
      | inr ge ↦ (let e : place ≡ n = omega (arith, lt, ge) in
          let there : slice_get parts n ≡ Some part = subst (λ j. slice_get parts j ≡ Some part) e at in
          let is : part ≡ p = cc in
          inl (subst (λ (q : Leaf). IsMade stock (part_tree q)) (sym is) (made (subst (λ (q : Leaf). IsBelow below (part_tree q)) is counts))))
    ];
  }
  parts_more n old mid new p adds get (inr (more, counts, unmade)) = record {
    added = adds.added ++ part_at p ∷ [];
    is = more ∙ ap (λ l. l ++ part_at p ∷ []) adds.is ∙ append_assoc old adds.added (part_at p ∷ []);
    each = λ i m h. elim (pushed_at adds.added (part_at p) i m h) [
      | inl w ↦ later n m (adds.each i m w.1)
      | inr w ↦ record { place = n; within = omega arith; part = p; listed = get; at = w.1; counts = counts; unmade = unmade }
    ];
    all = λ place part lt at small. elim (cases_lt place n) [
      | inl earlier ↦ elim (adds.all place part earlier at small) [ inl made ↦ inl made | inr w ↦ inr (w.0, get_left_some adds.added _ w.0 _ w.1) ]
      | inr ge ↦ (let e : place ≡ n = omega (arith, lt, ge) in
          let there : slice_get parts n ≡ Some part = subst (λ j. slice_get parts j ≡ Some part) e at in
          let is : part ≡ p = cc in
          inr (length adds.added, get_seam adds.added (part_at p) [] ∙ ap (λ (q : Leaf). Some (part_at q)) (sym is)))
    ];
  }

-- ---- parts and leaves

same_tree : (p : Leaf) → leaf_tree (model_of_leaf p) ≡ part_tree p
same_tree (Operand home tree whole at) = refl
same_tree (Cut shape tree at) = refl

open_part : (parts : List Leaf) (i : ℕ) (p : Leaf) → slice_get parts i ≡ Some p → slice_get (map leaf_tree (models_of_leaves parts)) i ≡ Some (part_tree p)
open_part parts i p h =
    slice_get-map leaf_tree (models_of_leaves parts) i ∙ ap (option_map leaf_tree) (slice_get-map model_of_leaf parts i ∙ ap (option_map model_of_leaf) h) ∙ ap Some (same_tree p)

part_open : (parts : List Leaf) (i : ℕ) (t : ExprModel) → slice_get (map leaf_tree (models_of_leaves parts)) i ≡ Some t → (p : Leaf) × (slice_get parts i ≡ Some p) × (part_tree p ≡ t)
part_open [] i t h = absurd (cc)
part_open (p ∷ ps) zero t h = (p, refl, (let e : leaf_tree (model_of_leaf p) ≡ t = cc in sym (same_tree p) ∙ e))
part_open (p ∷ ps) (suc i) t h = part_open ps i t h

pub at_part : (nodes : List ExprModel) (parts : List Leaf) (i : ℕ) (p : Leaf) → AreAt nodes parts → slice_get parts i ≡ Some p → slice_get nodes (part_at p) ≡ Some (part_tree p)
at_part nodes [] i p h get = absurd (cc)
at_part nodes (Operand home tree whole at ∷ ps) zero p h get = let e : Operand home tree whole at ≡ p = cc in subst (λ (q : Leaf). slice_get nodes (part_at q) ≡ Some (part_tree q)) e h.0
at_part nodes (Cut shape tree at ∷ ps) zero p h get = let e : Cut shape tree at ≡ p = cc in subst (λ (q : Leaf). slice_get nodes (part_at q) ≡ Some (part_tree q)) e h.0
at_part nodes (q ∷ ps) (suc i) p h get = at_part nodes ps i p h.1 get

pub here_part : (nodes : List ExprModel) (p : Leaf) → slice_get nodes (part_at p) ≡ Some (part_tree p) → IsPartAt nodes p
here_part nodes (Operand home tree whole at) h = h
here_part nodes (Cut shape tree at) h = h

-- ---- numbers behind a part's

filler : (n : ℕ) (x t : ExprModel) (at : ℕ) → slice_get (replicate n x) at ≡ Some t → x ≡ t
filler zero x t at h = absurd (cc)
filler (suc n) x t zero h = cc
filler (suc n) x t (suc at) h = filler n x t at h

-- a smaller tree that stands at its number wherever the part's subtrees stand has a greater one
stands_behind : (number at : ℕ) (t p : ExprModel) → size_of p < size_of t → ((nodes : List ExprModel) → HoldsSubtrees nodes number t → slice_get nodes at ≡ Some p) → number < at
stands_behind number at t p less stands =
    let before = replicate number t in
    let len = length-replicate number t in
    let there = stands (before ++ subtrees t) (λ k s get. (let e : number + k ≡ length before + k = omega (arith, len) in ap (slice_get (before ++ subtrees t)) e ∙ get_right before (subtrees t) k ∙ get)) in
    elim (split_at before (subtrees t) at p there) [
      | inl a ↦ absurd (let e = ap size_of (filler number t p at a) in omega (arith, e, less))
      | inr b ↦ further b.0 (let e = b.1 in omega (arith, e, len)) b.2
    ]
  where
    further : (m : ℕ) → at ≡ number + m → slice_get (subtrees t) m ≡ Some p → number < at
    further zero e get =
        let first = holds_here (subtrees t) 0 t (from_start (subtrees t)) in
        let same : p ≡ t = cc in
        absurd (let s = ap size_of same in omega (arith, s, less))
    further (suc k) e get = omega (arith, e)

-- ---- what one form asks for

pub form_at : (forms : List Form) (k : ℕ) (d : Form) → k < length forms → slice_get (models_of_forms forms) k ≡ Some (model_of_form (get_or forms k d))
form_at forms k d lt = slice_get-map model_of_form forms k ∙ ap (option_map model_of_form) (slice_get-get_or forms k d lt)

module _ (stock : StockModel) (nodes : List ExprModel) (l : Look) (k : ℕ) (form : FormModel) (get : slice_get stock.forms k ≡ Some form) where
  pub asked_none : (old : List ℕ) → old ≡ old ++ [] → None ≡ taken stock.temps form (model_of_destination l.goal.destination) (model_of_tree l.goal.tree.now) l.goal.whole → AddsAsked stock nodes l k old old
  asked_none old e none = record {
    added = [];
    is = e;
    are = record {
      each = λ i m h. absurd (cc);
      all = λ t h. absurd (let a = h.0 in
          let same : a.form ≡ form = cc in
          let took = subst (λ (x : FormModel). taken stock.temps x (model_of_destination l.goal.destination) (model_of_tree l.goal.tree.now) l.goal.whole ≡ Some a.found) same a.takes in
          cc);
    };
    after = λ p i m h. absurd (cc);
  }

  pub asked_some : (m : Match) (old new : List ℕ) → Some (model_of_match m) ≡ taken stock.temps form (model_of_destination l.goal.destination) (model_of_tree l.goal.tree.now) l.goal.whole → ((ns : List ExprModel) → LookStands ns l → AreAt ns m.parts.items) → LookStands nodes l → AddsParts stock l.below m.parts.items (length m.parts.items) old new → AddsAsked stock nodes l k old new
  asked_some m old new takes at stands adds = record {
    added = adds.added;
    is = adds.is;
    are = record { each = one; all = every };
    after = λ part i n h. (let u = adds.each i n h in
        let small = subst (λ b. IsBelow b (part_tree u.part)) part.1 u.counts in
        let lt = stands_behind l.goal.at (part_at u.part) (model_of_tree l.goal.tree.now) (part_tree u.part) small
        (λ ns holds. at_part ns m.parts.items u.place u.part (at ns (part_stands ns l.goal.at (model_of_destination l.goal.destination) (model_of_tree l.goal.tree.now) part.0 holds)) u.listed) in
        let e = u.at in omega (arith, lt, e));
  }
    where
      one : (i n : ℕ) → slice_get adds.added i ≡ Some n → IsUnmade stock nodes (LookAsks stock l k) n
      one i n h =
          let u = adds.each i n h in
          record {
            tree = part_tree u.part;
            here = ap (slice_get nodes) (sym u.at) ∙ at_part nodes m.parts.items u.place u.part (at nodes stands) u.listed;
            has = (
              record { form = form; listed = get; found = model_of_match m; takes = sym takes; leaf = u.place; leaves = open_part m.parts.items u.place u.part u.listed },
              u.counts,
            );
            unmade = u.unmade;
          }

      of_part : (t : ExprModel) (leaf : ℕ) → IsBelow l.below t → (p : Leaf) × (slice_get m.parts.items leaf ≡ Some p) × (part_tree p ≡ t) → IsMade stock t ⊎ IsListed nodes adds.added t
      of_part t leaf counts (p, listed, tree) = elim (adds.all leaf p (slice_get_within m.parts.items leaf p listed) listed (subst (IsBelow l.below) (sym tree) counts)) [
        | inl made ↦ inl (subst (IsMade stock) tree made)
        | inr w ↦ inr (w.0, part_at p, w.1, at_part nodes m.parts.items leaf p (at nodes stands) listed ∙ ap Some tree)
      ]

      every : (t : ExprModel) → LookAsks stock l k t → IsMade stock t ⊎ IsListed nodes adds.added t
      every t (a, counts) =
          let same : a.form ≡ form = cc in
          let took = subst (λ (x : FormModel). taken stock.temps x (model_of_destination l.goal.destination) (model_of_tree l.goal.tree.now) l.goal.whole ≡ Some a.found) same a.takes in
          let found : a.found ≡ model_of_match m = cc in
          of_part t a.leaf counts (part_open m.parts.items a.leaf t (subst (λ (f : MatchModel). slice_get (map leaf_tree f.leaves) a.leaf ≡ Some t) found a.leaves))

-- ---- what a form asks for of a part

part_asks : (stock : StockModel) (l : Look) (k : ℕ) (t : ExprModel) → IsPartLook l → l.goal.whole ≡ false → LookAsks stock l k t → PartAsks stock (model_of_tree l.goal.tree.now) k t
part_asks stock l k t (holds, below) part (asks, counts) = record {
  destination = model_of_destination l.goal.destination;
  holds = holds;
  asks = subst (λ w. FormAsks stock k (model_of_destination l.goal.destination) (model_of_tree l.goal.tree.now) w t) part asks;
  smaller = subst (λ b. IsBelow b t) below counts;
}

module _ (stock : StockModel) (nodes : List ExprModel) (k : ℕ) (form : FormModel) (get : slice_get stock.forms k ≡ Some form) where
  -- where it puts the part is where its goal is
  puts_there : (part t : ExprModel) (a : PartAsks stock part k t) → part_goal form.goal ≡ Some a.destination
  puts_there part t a =
      let same : a.asks.form ≡ form = cc in
      let took = subst (λ (x : FormModel). taken stock.temps x a.destination part false ≡ Some a.asks.found) same a.asks.takes in
      goes_there stock.temps form form.goal a.destination part a.asks.found a.holds took

  pub of_part_none : (part : ExprModel) (at : ℕ) (old : List ℕ) → old ≡ old ++ [] → part_goal form.goal ≡ None → AddsOfPart stock nodes part at k old old
  of_part_none part at old e none = record {
    added = [];
    is = e;
    are = record { each = λ i m h. absurd (cc); all = λ t a. absurd (let there = puts_there part t a in cc) };
    after = λ i m h. absurd (cc);
  }

  pub of_part_some : (l : Look) (old new : List ℕ) → IsPartLook l → l.goal.whole ≡ false → part_goal form.goal ≡ Some (model_of_destination l.goal.destination) → AddsAsked stock nodes l k old new → AddsOfPart stock nodes (model_of_tree l.goal.tree.now) l.goal.at k old new
  of_part_some l old new part whole goal adds = record {
    added = adds.added;
    is = adds.is;
    are = record {
      each = λ i m h. (let u = adds.are.each i m h in record { tree = u.tree; here = u.here; has = part_asks stock l k u.tree part whole u.has; unmade = u.unmade });
      all = λ t a. adds.are.all t (looks t a);
    };
    after = adds.after part;
  }
    where
      looks : (t : ExprModel) → PartAsks stock (model_of_tree l.goal.tree.now) k t → LookAsks stock l k t
      looks t a =
          let there = puts_there (model_of_tree l.goal.tree.now) t a in
          let same : a.destination ≡ model_of_destination l.goal.destination = cc in (
            subst (λ w. FormAsks stock k (model_of_destination l.goal.destination) (model_of_tree l.goal.tree.now) w t) (sym whole) (subst (λ d. FormAsks stock k d (model_of_tree l.goal.tree.now) false t) same a.asks),
            subst (λ b. IsBelow b t) (sym part.1) a.smaller,
          )

-- ---- the first forms

module _ (stock : StockModel) (nodes : List ExprModel) (Asks : ℕ → ExprModel → Type 0) where
  pub first_more : (n : ℕ) (P : ExprModel → Type 0) (old new added : List ℕ) → AreUnmade stock nodes (FirstAsk Asks n) old → new ≡ old ++ added → AreUnmade stock nodes P added → ((t : ExprModel) → P t → Asks n t) → ((t : ExprModel) → Asks n t → P t) → AreUnmade stock nodes (FirstAsk Asks (n + 1)) new
  first_more n P old new added before is more to from = subst (AreUnmade stock nodes (FirstAsk Asks (n + 1))) (sym is) (record {
    each = λ i m h. elim (split_at old added i m h) [
      | inl a ↦ (let u = before.each i m a in record { tree = u.tree; here = u.here; has = (u.has.0, (let lt = u.has.1 in omega (arith, lt)), u.has.2); unmade = u.unmade })
      | inr b ↦ (let u = more.each b.0 m b.2 in record { tree = u.tree; here = u.here; has = (n, omega arith, to u.tree u.has); unmade = u.unmade })
    ];
    all = λ t a. elim (cases_lt a.0 n) [
      | inl earlier ↦ elim (before.all t (a.0, earlier, a.2)) [ inl made ↦ inl made | inr w ↦ inr (w.0, w.1, get_left_some old added w.0 w.1 w.2, w.3) ]
      | inr ge ↦ (let lt = a.1 in
          let e : a.0 ≡ n = omega (arith, lt, ge) in
          elim (more.all t (from t (subst (λ j. Asks j t) e a.2))) [
            | inl made ↦ inl made
            | inr w ↦ inr (length old + w.0, w.1, get_right old added w.0 ∙ w.2, w.3)
          ])
    ];
  })

pub after_more : (at : ℕ) (old new added : List ℕ) → AreAfter at old → new ≡ old ++ added → AreAfter at added → AreAfter at new
after_more at old new added before is more = subst (AreAfter at) (sym is) (λ i m h. elim (split_at old added i m h) [ inl a ↦ before i m a | inr b ↦ more b.0 m b.2 ])

-- ---- the forms that ask for something are among all of them

form_bound : (forms : List Form) (temps file k : ℕ) (d : DestinationModel) (t u : ExprModel) (whole : Bool) → FormAsks (stock_with forms temps file) k d t whole u → k < length forms
form_bound forms temps file k d t u whole a =
    let w = slice_get_within (models_of_forms forms) k a.form a.listed in
    let l = length-map forms model_of_form in
    omega (arith, w, l)

pub root_bound : (forms : List Form) (temps file : ℕ) (d : DestinationModel) (root : ExprModel) (k : ℕ) (t : ExprModel) → RootAsks (stock_with forms temps file) d root k t → k < length forms
root_bound forms temps file d root k t a = form_bound forms temps file k d root t true a

pub part_bound : (forms : List Form) (temps file : ℕ) (part : ExprModel) (k : ℕ) (t : ExprModel) → PartAsks (stock_with forms temps file) part k t → k < length forms
part_bound forms temps file part k t a = form_bound forms temps file k a.destination part t false a.asks

-- ---- the subtrees of a search

pub node_at : (s : Search) → IsSearch s → (n : ℕ) (d : Bor Tree) → n < length (search_nodes s) → slice_get (search_nodes s) n ≡ Some (model_of_tree (get_or s.nodes.now n d).now)
node_at s right n d lt =
    let a = ap length right.nodes in
    let b = length-map s.nodes.now (λ (tree : Bor Tree). model_of_tree tree.now) in
    let lt' : n < length s.nodes.now = omega (arith, a, b, lt) in
    subst (λ l. slice_get l n ≡ Some (model_of_tree (get_or s.nodes.now n d).now)) right.nodes
    (slice_get-map (λ (tree : Bor Tree). model_of_tree tree.now) s.nodes.now n ∙ ap (option_map (λ (tree : Bor Tree). model_of_tree tree.now)) (slice_get-get_or s.nodes.now n d lt'))
