-- What is lacking of a job's trees, one after the other.
use Rattle.std.proofs.Common.{◌≡◌, ℕ, zero, suc, ◌+◌, ◌<◌, List, [], ◌∷◌, ◌++◌, append_assoc, length, length-append, take, sym, ap, ◌∙◌, subst, Option, Some, None, Bool, true, false, arith, inl, inr}
use Rattle.std.specs.Prelude.{IfOk, Result, Ok, Err, is_some, slice_get, slice_index_or}
use Rattle.std.specs.Borrow.{Bor}
use Rattle.std.proofs.Math.Seq.{take-length}
use Rattle.std.proofs.lemmas.Bool.{cases_lt}
use Rattle.std.proofs.lemmas.List.{append-nil, get_or_append_left, get_or-append-add}
use Rattle.std.proofs.lemmas.Option.{slice_get_within}
use Rattle.rec_bits.proofs.Lists.{get_left_some, get_right}
use Rattle.net_model.specs.Exprs.{ExprModel}
use Rattle.form_model.specs.Forms.{DestinationModel}
use Rattle.form_model.specs.Covers.{StockModel, stock_with}
use Rattle.form_model.specs.declared.forms.Form.{Form}
use Rattle.form_model.specs.declared.trees.Tree.{Tree}
use Rattle.tree_sharing.specs.Sharing.{job_nodes, exprs_at}
use Rattle.least_costs.specs.Made.{IsLeastCost}
use Rattle.cover_lacks.specs.Lacks.{AreInOrder, AreLacking, IsLacking, IsUncovered, Lacks, all_nodes}
use Rattle.cover_lacks.specs.Inner.Flags.{IsSet, IsFlagged, AreFlags, IsSome, LacksOf, IsLackingIn}
use Rattle.cover_lacks.specs.Inner.Listed.{AddsRoot, AreAdded, LacksBelow}
use Rattle.cover_lacks.proofs.Lists.{split_at}
use Rattle.cover_lacks.proofs.FlagLemmas.{set_within}
use Rattle.cover_lacks.proofs.ListedLemmas.{in_order_same}

-- ---- one tree

module _ (stock : StockModel) (d : DestinationModel) (root : ExprModel) where
  pub uncovered : (flags : List Bool) → IsUncovered stock d root → AreFlags (job_nodes d root) (IsLacking stock d root) flags → IsSome (job_nodes d root) flags → IsLackingIn stock d root flags
  uncovered flags none are some = record {
    are = record { len = are.len; sound = λ n t set here. (none, are.sound n t set here); all = λ t lacks. are.all t lacks.1 };
    some = λ u. some;
  }

  pub uncovered_by : (o : Option ℕ) → IsLeastCost stock d root true o → is_some o ≡ false → IsUncovered stock d root
  uncovered_by None is e = is
  uncovered_by (Some n) is e = absurd (cc)

-- what holds of the flags that were found holds with equal forms
pub flags_lacking : {V E : Type 0} (items : V → List Bool) (r : Result V E) (fs gs : List Form) (temps file : ℕ) (d : DestinationModel) (root : ExprModel) → fs ≡ gs → IfOk r (λ v. AreFlags (job_nodes d root) (IsLacking (stock_with fs temps file) d root) (items v)) → IfOk r (λ v. IsSome (job_nodes d root) (items v)) → IsUncovered (stock_with gs temps file) d root → IfOk r (λ v. IsLackingIn (stock_with gs temps file) d root (items v))
flags_lacking items (Ok v) fs gs temps file d root e are some none =
    uncovered (stock_with gs temps file) d root (items v) none (subst (λ l. AreFlags (job_nodes d root) (IsLacking (stock_with l temps file) d root) (items v)) e are) some
flags_lacking items (Err x) fs gs temps file d root e are some none = tt

-- ---- flags of two lists

set_front : (xs ys : List Bool) (n : ℕ) → IsSet xs n → IsSet (xs ++ ys) n
set_front xs ys n h = get_or_append_left xs ys false n (set_within xs n h) ∙ h

set_behind : (xs ys : List Bool) (n : ℕ) → slice_index_or (xs ++ ys) (length xs + n) false ≡ slice_index_or ys n false
set_behind xs ys n = get_or-append-add xs ys n false

flag_front : (nodes more : List ExprModel) (flags others : List Bool) (t : ExprModel) → IsFlagged nodes flags t → IsFlagged (nodes ++ more) (flags ++ others) t
flag_front nodes more flags others t f = (f.0, set_front flags others f.0 f.1, get_left_some nodes more f.0 t f.2)

flag_behind : (nodes more : List ExprModel) (flags others : List Bool) (t : ExprModel) → length flags ≡ length nodes → IsFlagged more others t → IsFlagged (nodes ++ more) (flags ++ others) t
flag_behind nodes more flags others t len f = (
  length nodes + f.0,
  ap (λ j. slice_index_or (flags ++ others) (j + f.0) false) (sym len) ∙ set_behind flags others f.0 ∙ f.1,
  get_right nodes more f.0 ∙ f.2,
)

-- ---- the first trees

module _ (stock : StockModel) (d : DestinationModel) (roots : List ExprModel) where
  more_below : (n : ℕ) (t : ExprModel) → LacksBelow stock d roots n t → LacksBelow stock d roots (n + 1) t
  more_below n t l = record { which = l.which; within = (let w = l.within in omega (arith, w)); root = l.root; used = l.used; uncovered = l.uncovered; lacking = l.lacking }

  pub added_more : (n : ℕ) (nodes : List ExprModel) (flags others : List Bool) (root : ExprModel) → AreAdded stock d roots n nodes flags → slice_get roots n ≡ Some root → IsLackingIn stock d root others → AreAdded stock d roots (n + 1) (nodes ++ job_nodes d root) (flags ++ others)
  added_more n nodes flags others root before get own = record {
    are = record {
      len = (let a = length-append flags others in let b = length-append nodes (job_nodes d root) in let l = before.are.len in let m = own.are.len in omega (arith, a, b, l, m));
      sound = λ m t set here. elim (split_at nodes (job_nodes d root) m t here) [
        | inl a ↦ more_below n t (before.are.sound m t (front m t set a) a)
        | inr b ↦ (let lacks = own.are.sound b.0 t (back m b.0 b.1 set) b.2 in
            record { which = n; within = omega arith; root = root; used = get; uncovered = lacks.0; lacking = lacks.1 })
      ];
      all = λ t l. elim (cases_lt l.which n) [
        | inl earlier ↦ flag_front nodes (job_nodes d root) flags others t (before.are.all t (record { which = l.which; within = earlier; root = l.root; used = l.used; uncovered = l.uncovered; lacking = l.lacking }))
        | inr ge ↦ (let w = l.within in
            let e : l.which ≡ n = omega (arith, w, ge) in
            let there : slice_get roots n ≡ Some l.root = subst (λ j. slice_get roots j ≡ Some l.root) e l.used in
            let same : l.root ≡ root = cc in
            flag_behind nodes (job_nodes d root) flags others t before.are.len
            (own.are.all t (subst (λ r. LacksOf stock d r t) same (l.uncovered, l.lacking))))
      ];
    };
    some = λ which r lt used none. elim (cases_lt which n) [
      | inl earlier ↦ (let s = before.some which r earlier used none in (s.0, flag_front nodes (job_nodes d root) flags others s.0 s.1))
      | inr ge ↦ (let e : which ≡ n = omega (arith, lt, ge) in
          let there : slice_get roots n ≡ Some r = subst (λ j. slice_get roots j ≡ Some r) e used in
          let same : r ≡ root = cc in
          let s = own.some (subst (IsUncovered stock d) same none) in
          (s.0, flag_behind nodes (job_nodes d root) flags others s.0 before.are.len s.1))
    ];
  }
    where
      front : (m : ℕ) (t : ExprModel) → IsSet (flags ++ others) m → slice_get nodes m ≡ Some t → IsSet flags m
      front m t set here =
          let lt : m < length flags = (let w = slice_get_within nodes m t here in let l = before.are.len in omega (arith, w, l)) in
          sym (get_or_append_left flags others false m lt) ∙ set

      back : (m j : ℕ) → m ≡ length nodes + j → IsSet (flags ++ others) m → IsSet others j
      back m j e set =
          let at : m ≡ length flags + j = (let l = before.are.len in omega (arith, e, l)) in
          sym (set_behind flags others j) ∙ ap (λ i. slice_index_or (flags ++ others) i false) (sym at) ∙ set

  -- all of them
  pub lacks_all : (n : ℕ) → n ≡ length roots → (t : ExprModel) → Lacks stock d roots t → LacksBelow stock d roots n t
  lacks_all n e t l = record { which = l.which; within = (let w = slice_get_within roots l.which l.root l.used in omega (arith, w, e)); root = l.root; used = l.used; uncovered = l.uncovered; lacking = l.lacking }

  pub all_lack : (n : ℕ) (t : ExprModel) → LacksBelow stock d roots n t → Lacks stock d roots t
  all_lack n t l = record { which = l.which; root = l.root; used = l.used; uncovered = l.uncovered; lacking = l.lacking }

-- ---- the subtrees of the first trees

pub nodes_more : (d : DestinationModel) (roots : List ExprModel) (n : ℕ) (root : ExprModel) → slice_get roots n ≡ Some root → all_nodes d (take (n + 1) roots) ≡ all_nodes d (take n roots) ++ job_nodes d root
nodes_more d [] n root h = absurd (cc)
nodes_more d (x ∷ xs) zero root h =
    let same : x ≡ root = cc in
    append-nil (job_nodes d x) ∙ ap (job_nodes d) same
nodes_more d (x ∷ xs) (suc n) root h =
    let e : suc n + 1 ≡ suc (n + 1) = omega arith in
    ap (λ k. all_nodes d (take k (x ∷ xs))) e ∙ ap (λ l. job_nodes d x ++ l) (nodes_more d xs n root h)
    ∙ sym (append_assoc (job_nodes d x) (all_nodes d (take n xs)) (job_nodes d root))

pub all_taken : (d : DestinationModel) (roots : List ExprModel) (n : ℕ) → n ≡ length roots → all_nodes d (take n roots) ≡ all_nodes d roots
all_taken d roots n e = ap (λ k. all_nodes d (take k roots)) e ∙ ap (all_nodes d) (take-length roots)

-- ---- one more tree

module _ (stock : StockModel) (d : DestinationModel) (roots : List ExprModel) (n : ℕ) (root : ExprModel) (get : slice_get roots n ≡ Some root) (old new : List (Bor Tree)) (flags flags' : List Bool) (adds : AddsRoot stock d root old new flags flags') where
  pub root_nodes : exprs_at old ≡ all_nodes d (take n roots) → exprs_at new ≡ all_nodes d (take (n + 1) roots)
  root_nodes e = adds.nodes ∙ ap (λ l. l ++ job_nodes d root) e ∙ sym (nodes_more d roots n root get)

  pub root_added : AreAdded stock d roots n (exprs_at old) flags → AreAdded stock d roots (n + 1) (exprs_at new) flags'
  root_added before =
      subst (λ l. AreAdded stock d roots (n + 1) l flags') (sym adds.nodes)
      (subst (AreAdded stock d roots (n + 1) (exprs_at old ++ job_nodes d root)) (sym adds.is) (added_more stock d roots n (exprs_at old) flags adds.flags root before get adds.lacking))

-- ---- the list of a job

module _ (stock : StockModel) (d : DestinationModel) (roots : List ExprModel) (n : ℕ) (all : n ≡ length roots) (nodes : List ExprModel) (flags : List Bool) (added : AreAdded stock d roots n nodes flags) (list : List ExprModel) (order : AreInOrder nodes (IsFlagged nodes flags) list) where
  pub job_list : nodes ≡ all_nodes d roots → AreLacking stock d roots list
  job_list e = subst (λ l. AreInOrder l (Lacks stock d roots) list) e (in_order_same nodes (IsFlagged nodes flags) (Lacks stock d roots) list
      (λ t f. all_lack stock d roots n t (added.are.sound f.0 t f.1 f.2))
      (λ t l. added.are.all t (lacks_all stock d roots n all t l)) order)

  pub job_some : (which : ℕ) (root : ExprModel) → slice_get roots which ≡ Some root → IsUncovered stock d root → 0 < length list
  job_some which root used none =
      let lt : which < n = (let w = slice_get_within roots which root used in omega (arith, w, all)) in
      let s = added.some which root lt used none in
      let i = order.all s.0 s.1 in
      let w = slice_get_within list i.0 s.0 i.1 in
      omega (arith, w)
