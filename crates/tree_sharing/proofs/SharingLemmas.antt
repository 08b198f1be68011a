-- Equal subtrees have one root, and its number is the least of theirs.
use Rattle.std.proofs.Common.{◌≡◌, ℕ, zero, suc, ◌+◌, ◌<◌, ◌≤◌, List, [], ◌∷◌, ◌++◌, length, Option, Some, None, true, ◌&&◌, true≢false, refl, sym, ap, ◌∙◌, subst, arith, nat_eq, length-append, inl, inr, ◌⊎◌}
use Rattle.std.proofs.lemmas.Bool.{cases_lt}
use Rattle.std.proofs.lemmas.Option.{slice_get_within}
use borrow.Author.Tests.{eqb-true}
use Rattle.std.specs.Prelude.{slice_get, slice_set}
use Rattle.std.specs.Map.{lookup}
use Rattle.std.specs.Option.{option_map}
use Rattle.indexmap.specs.IndexMap.{insert_entry}
use Rattle.rec_bits.proofs.Booleans.{both, and_from}
use Rattle.rec_bits.specs.declared.operator.Op2.{Op2}
use Rattle.rec_bits.specs.contracts.operator.Op1PartialEq.TheImpl.{ghosts as op1_eq}
use Rattle.rec_bits.specs.contracts.operator.Op2PartialEq.TheImpl.{ghosts as op2_eq}
use Rattle.rec_bits.proofs.Equality.{number_self, op1_is, op2_is, op1_self, op2_self, of_two_numbers, of_three_numbers}
use Rattle.net_model.specs.declared.hardware.Space.TheVariants.{Memory as InMemory}
use Rattle.net_model.specs.Exprs.{ExprModel, const, read, un, bin, slice, zext, sext, size_of}
use Rattle.form_model.specs.Trees.{model_of_tree}
use Rattle.form_model.specs.Forms.{DestinationModel, into, filed, cell, stored, temporary, tested}
use Rattle.tree_grammar.specs.Leaves.{value_at}
use Rattle.form_model.specs.declared.trees.Tree.{Tree}
use Rattle.form_model.specs.declared.trees.Tree.TheVariants.{Lit as Lit', Read', Un', Bin', Slice', Zext', Sext'}
use Rattle.tree_grammar.specs.Numbers.{subtrees, HoldsSubtrees}
use Rattle.tree_grammar.proofs.NumberLemmas.{lists_tail, holds_left, holds_right, holds_here, size_length}
use Rattle.tree_sharing.specs.declared.sharing.Root.{Root}
use Rattle.tree_sharing.specs.declared.sharing.Root.TheVariants.{Lit, Read, Un, Bin, Slice, Zext, Sext}
use Rattle.tree_sharing.specs.declared.sharing.Sharing.{Sharing}
use Rattle.tree_sharing.specs.contracts.sharing.RootPartialEq.TheImpl.{ghosts as root_eq}
use Rattle.tree_sharing.specs.Sharing.{IsFirst, AreFirstEqual, job_nodes}
use Rattle.tree_sharing.specs.Inner.Sharing.{IsRootOf, Roots, HasNumber, HaveNumbers, IsMet, IsMetFirst, MeetsFirst, IsDone, AreDoneBefore, AreDoneBelow, Grows, Rooted, Shared, first_of, second_of, operand_size, AreFirstOperands, OperandShared}
use Rattle.tree_sharing.proofs.EntryLemmas.{each_found, each_added, any_weaker, any_found, any_kept, any_added, none_found}

-- ---- equal roots are the same

pub exact_root : (a b : Root) → root_eq.eq a b ≡ true → a ≡ b
exact_root (Lit w v) (Lit w' v') h = of_two_numbers Lit w v w' v' h
exact_root (Read a w) (Read a' w') h = of_two_numbers Read a w a' w' h
exact_root (Un o a) (Un o' a') h =
    let p = both (op1_eq.eq o o') (nat_eq a a') h in
    let eo : o ≡ o' = op1_is o o' p.0 in
    let ea : a ≡ a' = eqb-true a a' p.1 in
    (λ j. Un (eo j) (ea j))
exact_root (Bin o a b) (Bin o' a' b') h =
    let p = both (op2_eq.eq o o') (nat_eq a a' && nat_eq b b') h in
    let q = both (nat_eq a a') (nat_eq b b') p.1 in
    let eo : o ≡ o' = op2_is o o' p.0 in
    let ea : a ≡ a' = eqb-true a a' q.0 in
    let eb : b ≡ b' = eqb-true b b' q.1 in
    (λ j. Bin (eo j) (ea j) (eb j))
exact_root (Slice a h l) (Slice a' h' l') e = of_three_numbers Slice a h l a' h' l' e
exact_root (Zext a w) (Zext a' w') h = of_two_numbers Zext a w a' w' h
exact_root (Sext a w) (Sext a' w') h = of_two_numbers Sext a w a' w' h
exact_root a b h = absurd (true≢false (sym h))

same_root : (a : Root) → root_eq.eq a a ≡ true
same_root (Lit w v) = and_from (nat_eq w w) (nat_eq v v) (number_self w) (number_self v)
same_root (Read a w) = and_from (nat_eq a a) (nat_eq w w) (number_self a) (number_self w)
same_root (Un o a) = and_from (op1_eq.eq o o) (nat_eq a a) (op1_self o) (number_self a)
same_root (Bin o a b) = and_from (op2_eq.eq o o) (nat_eq a a && nat_eq b b) (op2_self o) (and_from (nat_eq a a) (nat_eq b b) (number_self a) (number_self b))
same_root (Slice a h l) = and_from (nat_eq a a) (nat_eq h h && nat_eq l l) (number_self a) (and_from (nat_eq h h) (nat_eq l l) (number_self h) (number_self l))
same_root (Zext a w) = and_from (nat_eq a a) (nat_eq w w) (number_self a) (number_self w)
same_root (Sext a w) = and_from (nat_eq a a) (nat_eq w w) (number_self a) (number_self w)

-- ---- one root for equal trees, and one tree for a root

pub one_first : (nodes : List ExprModel) (t : ExprModel) (a b : ℕ) → IsFirst nodes t a → IsFirst nodes t b → a ≡ b
one_first nodes t a b p q = let h : a ≤ b = p.least b q.at in let k : b ≤ a = q.least a p.at in omega arith

one_root : (nodes : List ExprModel) (a b : Root) (t : ExprModel) → IsRootOf nodes a t → IsRootOf nodes b t → a ≡ b
one_root nodes a b (const w v) p q = p ∙ sym q
one_root nodes a b (read InMemory x w) p q = p.2 ∙ ap (λ i. Read i w) (one_first nodes x p.0 q.0 p.1 q.1) ∙ sym q.2
one_root nodes a b (un op x) p q = p.2 ∙ ap (λ i. Un op i) (one_first nodes x p.0 q.0 p.1 q.1) ∙ sym q.2
one_root nodes a b (bin op x y) p q =
    let e : p.0 ≡ q.0 = one_first nodes x p.0 q.0 p.2 q.2 in
    let f : p.1 ≡ q.1 = one_first nodes y p.1 q.1 p.3 q.3 in
    p.4 ∙ (λ j. Bin op (e j) (f j)) ∙ sym q.4
one_root nodes a b (slice x hi lo) p q = p.2 ∙ ap (λ i. Slice i hi lo) (one_first nodes x p.0 q.0 p.1 q.1) ∙ sym q.2
one_root nodes a b (zext x w) p q = p.2 ∙ ap (λ i. Zext i w) (one_first nodes x p.0 q.0 p.1 q.1) ∙ sym q.2
one_root nodes a b (sext x w) p q = p.2 ∙ ap (λ i. Sext i w) (one_first nodes x p.0 q.0 p.1 q.1) ∙ sym q.2
one_root nodes a b _ p q = absurd p

abbrev bin_of : Op2 → Option ExprModel → Option ExprModel → Option ExprModel
bin_of op None b = None
bin_of op (Some x) None = None
bin_of op (Some x) (Some y) = Some (bin op x y)

-- the tree with a root, whose operands are the trees of the root's numbers
abbrev root_expr : List ExprModel → Root → Option ExprModel
root_expr nodes (Lit width value) = Some (const width value)
root_expr nodes (Read a w) = option_map (λ x. read InMemory x w) (slice_get nodes a)
root_expr nodes (Un op a) = option_map (λ x. un op x) (slice_get nodes a)
root_expr nodes (Bin op a b) = bin_of op (slice_get nodes a) (slice_get nodes b)
root_expr nodes (Slice a hi lo) = option_map (λ x. slice x hi lo) (slice_get nodes a)
root_expr nodes (Zext a w) = option_map (λ x. zext x w) (slice_get nodes a)
root_expr nodes (Sext a w) = option_map (λ x. sext x w) (slice_get nodes a)

root_gives : (nodes : List ExprModel) (root : Root) (t : ExprModel) → IsRootOf nodes root t → root_expr nodes root ≡ Some t
root_gives nodes root (const w v) p = ap (root_expr nodes) p
root_gives nodes root (read InMemory x w) p = ap (root_expr nodes) p.2 ∙ ap (option_map (λ y. read InMemory y w)) p.1.at
root_gives nodes root (un op x) p = ap (root_expr nodes) p.2 ∙ ap (option_map (λ y. un op y)) p.1.at
root_gives nodes root (bin op x y) p =
    let e = p.2.at in let f = p.3.at in
    ap (root_expr nodes) p.4 ∙ (λ j. bin_of op (e j) (f j))
root_gives nodes root (slice x hi lo) p = ap (root_expr nodes) p.2 ∙ ap (option_map (λ y. slice y hi lo)) p.1.at
root_gives nodes root (zext x w) p = ap (root_expr nodes) p.2 ∙ ap (option_map (λ y. zext y w)) p.1.at
root_gives nodes root (sext x w) p = ap (root_expr nodes) p.2 ∙ ap (option_map (λ y. sext y w)) p.1.at
root_gives nodes root _ p = absurd p

one_of_get : (x y : Option ExprModel) (t u : ExprModel) → x ≡ Some t → x ≡ Some u → t ≡ u
one_of_get x y t u e f = let both : Some t ≡ Some u = sym e ∙ f in cc

one_tree : (nodes : List ExprModel) (root : Root) (t u : ExprModel) → IsRootOf nodes root t → IsRootOf nodes root u → t ≡ u
one_tree nodes root t u p q = one_of_get (root_expr nodes root) None t u (root_gives nodes root t p) (root_gives nodes root u q)

-- ---- the number of a root

met_known : (nodes : List ExprModel) (roots : Roots) (root : Root) (t : ExprModel) (first : ℕ) → lookup (root_eq.eq root) roots ≡ Some first → IsRootOf nodes root t → HaveNumbers nodes roots → IsMetFirst nodes roots roots t first
met_known nodes roots root t first found is numbers =
    let known = each_found (HasNumber nodes) root_eq.eq exact_root roots root first numbers found in
    record {
      numbers = numbers;
      kept = λ u met. met;
      met = any_found (λ r. IsRootOf nodes r t) root_eq.eq exact_root roots root first found is;
      is = subst (λ u. IsFirst nodes u first) (one_tree nodes root known.tree t known.is is) known.first;
    }

pub meets_known : (roots : Roots) (root : Root) (at first : ℕ) → lookup (root_eq.eq root) roots ≡ Some first → MeetsFirst roots roots at root first
meets_known roots root at first found nodes t here is numbers before = met_known nodes roots root t first found is numbers

-- a tree of which no equal one stands before it
first_here : (nodes : List ExprModel) (t : ExprModel) (at : ℕ) → slice_get nodes at ≡ Some t → ((m : ℕ) → m < at → slice_get nodes m ≡ Some t → ⊥) → IsFirst nodes t at
first_here nodes t at here none = record {
  at = here;
  least = λ m get. elim (cases_lt m at) [ inl lt ↦ absurd (none m lt get) | inr ge ↦ ge ];
}

unmet : (nodes : List ExprModel) (roots : Roots) (root : Root) (t : ExprModel) → lookup (root_eq.eq root) roots ≡ None → IsRootOf nodes root t → IsMet nodes roots t → ⊥
unmet nodes roots root t none is met =
    none_found root_eq.eq same_root roots root none
    (any_weaker (λ r. IsRootOf nodes r t) (λ r. r ≡ root) (λ r of. one_root nodes r root t of is) roots met)

pub meets_new : (old new : Roots) (root : Root) (at : ℕ) → lookup (root_eq.eq root) old ≡ None → new ≡ insert_entry root_eq.eq old root at → MeetsFirst old new at root at
meets_new old new root at none added nodes t here is numbers before =
    let first = first_here nodes t at here (λ m lt get. unmet nodes old root t none is (before m lt get)) in
    subst (λ es. IsMetFirst nodes old es t at) (sym added) (record {
      numbers = each_added (HasNumber nodes) root_eq.eq exact_root old root at numbers (record { tree = t; is = is; first = first });
      kept = λ u met. any_kept (λ r. IsRootOf nodes r u) root_eq.eq exact_root old root at met;
      met = any_added (λ r. IsRootOf nodes r t) root_eq.eq exact_root old root at is;
      is = first;
    })

-- ---- numbers of first subtrees

get_set : (xs : List ℕ) (i v n f : ℕ) → slice_get (slice_set xs i v) n ≡ Some f → ((n ≡ i) × (f ≡ v)) ⊎ (slice_get xs n ≡ Some f)
get_set [] i v n f h = inr h
get_set (x ∷ xs) zero v zero f h = inl (refl, (cc))
get_set (x ∷ xs) zero v (suc n) f h = inr h
get_set (x ∷ xs) (suc i) v zero f h = inr h
get_set (x ∷ xs) (suc i) v (suc n) f h = elim (get_set xs i v n f h) [ inl p ↦ inl (ap suc p.0, p.1) | inr q ↦ inr q ]

get_set_here : (xs : List ℕ) (i v f : ℕ) → slice_get (slice_set xs i v) i ≡ Some f → f ≡ v
get_set_here [] i v f h = absurd (cc)
get_set_here (x ∷ xs) zero v f h = cc
get_set_here (x ∷ xs) (suc i) v f h = get_set_here xs i v f h

-- the number is written behind which the tree is done
set_kept : (nodes : List ExprModel) (firsts : List ℕ) (at first : ℕ) (t : ExprModel) → slice_get nodes at ≡ Some t → IsFirst nodes t first → (n f : ℕ) (u : ExprModel) → ((g : ℕ) → slice_get firsts n ≡ Some g → IsFirst nodes u g) → slice_get (slice_set firsts at first) n ≡ Some f → slice_get nodes n ≡ Some u → IsFirst nodes u f
set_kept nodes firsts at first t here is n f u known got get = elim (get_set firsts at first n f got) [
  | inl p ↦ (let same = one_of_get (slice_get nodes n) None t u (ap (slice_get nodes) p.0 ∙ here) get in
      subst (λ i. IsFirst nodes u i) (sym p.1) (subst (λ x. IsFirst nodes x first) same is))
  | inr q ↦ known f q
]

set_here : (nodes : List ExprModel) (firsts : List ℕ) (at first : ℕ) (t : ExprModel) → slice_get nodes at ≡ Some t → IsFirst nodes t first → (f : ℕ) (u : ExprModel) → slice_get (slice_set firsts at first) at ≡ Some f → slice_get nodes at ≡ Some u → IsFirst nodes u f
set_here nodes firsts at first t here is f u got get =
    let same = one_of_get (slice_get nodes at) None t u here get in
    subst (λ i. IsFirst nodes u i) (sym (get_set_here firsts at first f got)) (subst (λ x. IsFirst nodes x first) same is)

pub rooted : (old new : Sharing) (at first : ℕ) (root : Root) → MeetsFirst old.roots.entries new.roots.entries at root first → new.firsts.items ≡ slice_set old.firsts.items at first → Rooted old new at root first
rooted old new at first root meets written nodes t here is numbers before =
    let met = meets nodes t here is numbers (λ m lt get. (before m t lt get (omega arith)).met t get) in (
      record {
        numbers = met.numbers;
        kept = λ n done. record {
          met = λ u get. met.kept u (done.met u get);
          first = λ f u got get. set_kept nodes old.firsts.items at first t here met.is n f u (λ g has. done.first g u has get) (ap (λ l. slice_get l n) (sym written) ∙ got) get;
        };
      },
      record {
        met = λ u get. subst (λ x. IsMet nodes new.roots.entries x) (one_of_get (slice_get nodes at) None t u here get) met.met;
        first = λ f u got get. set_here nodes old.firsts.items at first t here met.is f u (ap (λ l. slice_get l at) (sym written) ∙ got) get;
      },
      met.is,
    )

pub get_push : {X : Type 0} (xs : List X) (y : X) (i : ℕ) (f : X) → slice_get (xs ++ (y ∷ [])) i ≡ Some f → (slice_get xs i ≡ Some f) ⊎ ((i ≡ length xs) × (f ≡ y))
get_push [] y zero f h = inr (refl, (cc))
get_push [] y (suc i) f h = absurd (cc)
get_push (x ∷ xs) y zero f h = inl h
get_push (x ∷ xs) y (suc i) f h = elim (get_push xs y i f h) [ inl p ↦ inl p | inr q ↦ inr (ap suc q.0, q.1) ]

-- ---- operands

holds_first : (nodes : List ExprModel) (at : ℕ) (t a : ExprModel) → first_of t ≡ Some a → HoldsSubtrees nodes at t → HoldsSubtrees nodes (at + 1) a
holds_first nodes at (read InMemory b w) a e h = let same : b ≡ a = cc in subst (λ x. HoldsSubtrees nodes (at + 1) x) same (lists_tail nodes at (read InMemory b w) (subtrees b) h)
holds_first nodes at (un op b) a e h = let same : b ≡ a = cc in subst (λ x. HoldsSubtrees nodes (at + 1) x) same (lists_tail nodes at (un op b) (subtrees b) h)
holds_first nodes at (bin op b c) a e h = let same : b ≡ a = cc in subst (λ x. HoldsSubtrees nodes (at + 1) x) same (holds_left nodes at (bin op b c) b c h)
holds_first nodes at (slice b x y) a e h = let same : b ≡ a = cc in subst (λ x. HoldsSubtrees nodes (at + 1) x) same (lists_tail nodes at (slice b x y) (subtrees b) h)
holds_first nodes at (zext b w) a e h = let same : b ≡ a = cc in subst (λ x. HoldsSubtrees nodes (at + 1) x) same (lists_tail nodes at (zext b w) (subtrees b) h)
holds_first nodes at (sext b w) a e h = let same : b ≡ a = cc in subst (λ x. HoldsSubtrees nodes (at + 1) x) same (lists_tail nodes at (sext b w) (subtrees b) h)
holds_first nodes at _ a e h = absurd (cc)

holds_second : (nodes : List ExprModel) (at : ℕ) (t b : ExprModel) → second_of t ≡ Some b → HoldsSubtrees nodes at t → HoldsSubtrees nodes (at + 1 + operand_size (first_of t)) b
holds_second nodes at (bin op a c) b e h = let same : c ≡ b = cc in subst (λ x. HoldsSubtrees nodes (at + 1 + size_of a) x) same (holds_right nodes at (bin op a c) a c h)
holds_second nodes at _ b e h = absurd (cc)

pub tree_sizes : (t : Tree) → size_of (model_of_tree t) ≡ 1 + operand_size (first_of (model_of_tree t)) + operand_size (second_of (model_of_tree t))
tree_sizes (Lit' w v) = refl
tree_sizes (Read' p a w) = omega arith
tree_sizes (Un' o p a) = omega arith
tree_sizes (Bin' o p a q b) = omega arith
tree_sizes (Slice' p a hi lo) = omega arith
tree_sizes (Zext' p a w) = omega arith
tree_sizes (Sext' p a w) = omega arith

-- all before the number `n` behind a tree of number `at` that has more nodes
before_more : (nodes : List ExprModel) (sharing : Sharing) (at n size : ℕ) (t : ExprModel) → slice_get nodes at ≡ Some t → size < size_of t → AreDoneBefore nodes sharing at (size_of t) → ((m : ℕ) → at + 1 ≤ m → m < n → IsDone nodes sharing m) → AreDoneBefore nodes sharing n size
before_more nodes sharing at n size t here less before later m u lt get small = elim (cases_lt m at) [
  | inl earlier ↦ before m u earlier get (omega arith)
  | inr ge ↦ elim (cases_lt at m) [
    | inl behind ↦ later m (omega arith) lt
    | inr le ↦ (let e : m ≡ at = omega arith in
        let same = one_of_get (slice_get nodes at) None t u here (ap (slice_get nodes) (sym e) ∙ get) in
        let sizes = ap size_of same in
        absurd (omega arith))
  ]
]

-- what is known of an operand, where there is one
record OperandDone (nodes : List ExprModel) (old new : Sharing) (at : ℕ) (o : Option ExprModel) (x : ℕ) : Type 0 where
  grows : Grows nodes old new
  done : (n : ℕ) → at ≤ n → n < at + operand_size o → IsDone nodes new n
  is : (a : ExprModel) → o ≡ Some a → IsFirst nodes a x

operand_done : (nodes : List ExprModel) (old new : Sharing) (at x : ℕ) (o : Option ExprModel) → OperandShared old new at o x → HaveNumbers nodes old.roots.entries → ((a : ExprModel) → o ≡ Some a → HoldsSubtrees nodes at a) → ((a : ExprModel) → o ≡ Some a → AreDoneBefore nodes old at (size_of a)) → OperandDone nodes old new at o x
operand_done nodes old new at x None e numbers holds before = record {
  grows = record {
    numbers = subst (λ s. HaveNumbers nodes s.roots.entries) (sym e) numbers;
    kept = λ n done. subst (λ s. IsDone nodes s n) (sym e) done;
  };
  done = λ n ge lt. absurd (omega arith);
  is = λ a h. absurd (cc);
}
operand_done nodes old new at x (Some t) shared numbers holds before =
    let s = shared nodes (holds t refl) numbers (before t refl) in
    record {
      grows = s.grows;
      done = s.done;
      is = λ a h. (let same : t ≡ a = cc in subst (λ y. IsFirst nodes y x) same s.is);
    }

-- a tree is done behind its operands and its root
pub share_more : (old mid last new : Sharing) (t : ExprModel) (at next x y first : ℕ) (root : Root) → size_of t ≡ 1 + operand_size (first_of t) + operand_size (second_of t) → next ≡ at + 1 + operand_size (first_of t) → OperandShared old mid (at + 1) (first_of t) x → OperandShared mid last next (second_of t) y → ((nodes : List ExprModel) → AreFirstOperands nodes t x y → IsRootOf nodes root t) → Rooted last new at root first → Shared old new at t first
share_more old mid last new t at next x y first root sizes en h k made roots nodes holds numbers before =
    let here = holds_here nodes at t holds in
    let f = operand_done nodes old mid (at + 1) x (first_of t) h numbers (λ a e. holds_first nodes at t a e holds)
    (λ a e. (let s = ap operand_size e in before_more nodes old at (at + 1) (size_of a) t here (omega (arith, sizes, s)) before (λ m ge lt. absurd (omega arith)))) in
    let g = operand_done nodes mid last next y (second_of t) k f.grows.numbers (λ b e. subst (λ i. HoldsSubtrees nodes i b) (sym en) (holds_second nodes at t b e holds))
    (λ b e. (let s = ap operand_size e in before_more nodes mid at next (size_of b) t here (omega (arith, sizes, s)) (λ m u lt get small. f.grows.kept m (before m u lt get small)) (λ m ge lt. f.done m ge (omega (arith, en))))) in
    let r = roots nodes t here (made nodes (f.is, g.is)) g.grows.numbers (λ m u lt get small. g.grows.kept m (f.grows.kept m (before m u lt get small))) in
    record {
      grows = record { numbers = r.0.numbers; kept = λ n done. r.0.kept n (g.grows.kept n (f.grows.kept n done)) };
      done = λ n ge lt. elim (cases_lt at n) [
        | inr le ↦ (let e : at ≡ n = omega arith in subst (IsDone nodes new) e r.1)
        | inl behind ↦ elim (cases_lt n next) [
          | inl inner ↦ r.0.kept n (g.grows.kept n (f.done n (omega arith) (omega (arith, en))))
          | inr outer ↦ r.0.kept n (g.done n outer (omega (arith, sizes, en)))
        ]
      ];
      is = r.2;
    }

-- ---- all numbers

pub address_done : (nodes : List ExprModel) (old new : Sharing) (first : ℕ) (t : ExprModel) → Shared old new 0 t first → HoldsSubtrees nodes 0 t → HaveNumbers nodes old.roots.entries → AreDoneBelow nodes new (0 + size_of t)
address_done nodes old new first t shared holds numbers =
    let s = shared nodes holds numbers (λ m u lt get small. absurd (omega arith)) in
    record { numbers = s.grows.numbers; done = λ n lt. s.done n (omega arith) (omega arith) }

pub all_done : (nodes : List ExprModel) (old new : Sharing) (at first : ℕ) (t : ExprModel) → AreDoneBelow nodes old at → Shared old new at t first → HoldsSubtrees nodes at t → length new.firsts.items ≡ at + size_of t → length nodes ≡ at + size_of t → AreFirstEqual nodes new.firsts.items
all_done nodes old new at first t below shared holds len count =
    let s = shared nodes holds below.numbers (λ m u lt get small. below.done m lt) in
    record {
      len = len ∙ sym count;
      each = λ n f u got get. (
          let within = slice_get_within nodes n u get in
          let done : IsDone nodes new n = elim (cases_lt n at) [
            | inl lt ↦ s.grows.kept n (below.done n lt)
            | inr ge ↦ s.done n ge (omega (arith, count))
          ] in
          done.first f u got get);
    }

pub job_length : (destination : DestinationModel) (t : ExprModel) → length (job_nodes destination t) ≡ value_at destination 0 + size_of t
job_length (stored address) t = let a = size_length address in let b = size_length t in omega (arith, a, b, length-append (subtrees address) (subtrees t))
job_length (into id) t = let b = size_length t in omega (arith, b)
job_length filed t = let b = size_length t in omega (arith, b)
job_length (cell address) t = let b = size_length t in omega (arith, b)
job_length temporary t = let b = size_length t in omega (arith, b)
job_length tested t = let b = size_length t in omega (arith, b)
