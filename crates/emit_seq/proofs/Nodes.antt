-- The leaves of a match take disjoint parts of a tree.
use Rattle.std.proofs.Common.{◌≡◌, ℕ, ◌+◌, ◌≤◌, ◌==◌, ◌&&◌, inl, inr, not, Bool, true, false, if◌then◌else◌, List, [], ◌∷◌, ◌++◌, Option, Some, None, refl, sym, ap, ◌∙◌, subst, arith}
use Rattle.std.proofs.lemmas.Bool.{and_parts, eq-eqb, eqb-true}
use Rattle.rec_bits.specs.declared.operator.Op1.{Op1}
use Rattle.rec_bits.specs.declared.operator.Op2.{Op2}
use Rattle.rec_bits.proofs.Booleans.{either}
use Rattle.rec_bits.proofs.Options.{picked}
use Rattle.net_model.specs.declared.hardware.Space.TheVariants.{Memory as InMemory, File as InFile}
use Rattle.net_model.specs.Exprs.{ExprModel, word, reg, const, read, un, bin, slice, cat, zext, sext, select, expr_width}
use Rattle.form_model.specs.Trees.{is_number, is_cell}
use Rattle.form_model.specs.Shapes.{is_shape, shape_setting, shows_below}
use Rattle.form_model.specs.Forms.{FormModel, GoalModel, into_reg, into_memory, into_file, branches, DestinationModel, into, filed, cell, stored, temporary, tested}
use Rattle.form_model.specs.Matches.{HomeModel, in_register, in_file, LeafModel, operand, cut, MatchModel, settled, open_if, both, shape_match, literal_match, cell_match, read_match, un_match, bin_match, slice_match, zext_match, sext_match, matched, address_match, goal_match, same_op1, same_op2}
use Rattle.form_model.specs.Covers.{Operand, operands_of, cuts_of}
use Rattle.form_model.specs.WideNodes.{wide_below, wide_nodes}
use Rattle.form_model.proofs.WideLaws.{below_nodes, one_more}
use Rattle.emit_seq.specs.ReadWords.{ReadsWords, AddressReadsWords}
use Rattle.emit_seq.proofs.Matched.{Joined, joined, Literal, literal, opened, settled_some}

module _ (temps bits : ℕ) where
  -- the nodes of a word's width of a tree, its root among them unless it is whole
  abbrev pub tree_nodes : ExprModel → Bool → ℕ
  tree_nodes t whole = if whole then wide_below bits t else wide_nodes bits t

  -- and those of a tree for a destination
  abbrev pub goal_nodes : DestinationModel → ExprModel → Bool → ℕ
  goal_nodes (into id) tree whole = tree_nodes tree whole
  goal_nodes filed tree whole = tree_nodes tree whole
  goal_nodes (cell address) tree whole = tree_nodes tree true
  goal_nodes (stored address) tree whole = tree_nodes address false + tree_nodes tree false
  goal_nodes temporary tree whole = tree_nodes tree false
  goal_nodes tested tree whole = tree_nodes tree true

  below_tree : (t : ExprModel) (whole : Bool) → wide_below bits t ≤ tree_nodes t whole
  below_tree t true = omega arith
  below_tree t false = below_nodes bits t

  -- a tree that is a cut counts itself
  cut_tree : (t : ExprModel) (whole : Bool) → not whole ≡ true → (expr_width t == bits) ≡ true → is_cell t ≡ false → wide_below bits t + 1 ≤ tree_nodes t whole
  cut_tree t true n w c = absurd (cc)
  cut_tree t false n w c = let e = one_more bits t w c in omega (arith, e)

  -- a number that is a read's address isn't counted
  address_sum : (b : ExprModel) (n : ℕ) → n ≤ tree_nodes b (is_number b) → n ≤ (if is_number b then 0 else wide_nodes bits b)
  address_sum (word w) n h = h
  address_sum (reg r w) n h = h
  address_sum (const w v) n h = h
  address_sum (read space a w) n h = h
  address_sum (un o a) n h = h
  address_sum (bin o a b) n h = h
  address_sum (slice a hi lo) n h = h
  address_sum (cat a b) n h = h
  address_sum (zext a w) n h = h
  address_sum (sext a w) n h = h
  address_sum (select c a b) n h = h

  -- what the leaves may want: the nodes of an operand, and those of a cut with the cut itself
  abbrev pub operands_sum : List Operand → ℕ
  operands_sum [] = 0
  operands_sum (o ∷ os) = tree_nodes o.tree o.whole + operands_sum os

  abbrev pub cuts_sum : List ExprModel → ℕ
  cuts_sum [] = 0
  cuts_sum (t ∷ ts) = wide_below bits t + 1 + cuts_sum ts

  abbrev pub leaves_sum : List LeafModel → ℕ
  leaves_sum leaves = operands_sum (operands_of leaves) + cuts_sum (cuts_of leaves)

  sum-append : (xs ys : List LeafModel) → leaves_sum (xs ++ ys) ≡ leaves_sum xs + leaves_sum ys
  sum-append [] ys = sym (omega arith)
  sum-append (operand id tree whole ∷ xs) ys = let e = sum-append xs ys in omega (arith, e)
  sum-append (cut shape tree ∷ xs) ys = let e = sum-append xs ys in omega (arith, e)

  -- a match takes the tree itself, as an operand or as a cut, or parts below its root
  pub data MatchKind : ExprModel → Bool → MatchModel → Type 0 where
    itself : {t : ExprModel} {whole : Bool} {f : MatchModel} → (home : HomeModel) → f.leaves ≡ operand home t whole ∷ [] → MatchKind t whole f
    stored_whole : {t : ExprModel} {whole : Bool} {f : MatchModel} → (shape : ExprModel) → f.leaves ≡ cut shape t ∷ [] → wide_below bits t + 1 ≤ tree_nodes t whole → MatchKind t whole f
    parts : {t : ExprModel} {whole : Bool} {f : MatchModel} → leaves_sum f.leaves ≤ wide_below bits t → MatchKind t whole f

  pub kind_sum : (t : ExprModel) (whole : Bool) (f : MatchModel) → MatchKind t whole f → leaves_sum f.leaves ≤ tree_nodes t whole
  kind_sum t whole f (itself home e) = let q : leaves_sum f.leaves ≡ leaves_sum (operand home t whole ∷ []) = ap leaves_sum e in omega (arith, q)
  kind_sum t whole f (stored_whole shape e c) =
      let q : leaves_sum f.leaves ≡ leaves_sum (cut shape t ∷ []) = ap leaves_sum e in omega (arith, q, c)
  kind_sum t whole f (parts h) = let b = below_tree t whole in omega (arith, h, b)

  -- what each match of this expression takes
  abbrev MatchKinds : ExprModel → Type 0
  MatchKinds a = (t : ExprModel) (whole : Bool) (f : MatchModel) → matched temps a t whole ≡ Some f → MatchKind t whole f

  shape_kind : (e t : ExprModel) (whole : Bool) (f : MatchModel) → shape_match e t ≡ Some f → MatchKind t whole f
  shape_kind e t whole f h =
      let l : Literal e t f = literal e t f h in
      let q : leaves_sum f.leaves ≡ 0 = ap (λ (z : MatchModel). leaves_sum z.leaves) (sym l.is) in
      parts (omega (arith, q))

  reg_kind : (id w : ℕ) → MatchKinds (reg id w)
  reg_kind id w t whole f h =
      let p : ((w == expr_width t) ≡ true) × (record { setting = 0; leaves = operand (in_register id) t whole ∷ [] } ≡ f) = opened _ _ _ h in
      itself (in_register id) (ap (λ (z : MatchModel). z.leaves) (sym p.1))

  file_kind : (a : ExprModel) (w : ℕ) → MatchKinds (read InFile a w)
  file_kind a w t whole f h =
      let p : ((w == expr_width t) ≡ true) × (record { setting = 0; leaves = operand (in_file a) t whole ∷ [] } ≡ f) = opened _ _ _ h in
      itself (in_file a) (ap (λ (z : MatchModel). z.leaves) (sym p.1))

  un_kind : (a : ExprModel) (op : Op1) → MatchKinds a → (t : ExprModel) (whole : Bool) (f : MatchModel) → un_match (matched temps a) op t ≡ Some f → MatchKind t whole f
  un_kind a op ih (un o b) whole f h =
      let p : (same_op1 o op ≡ true) × (matched temps a b false ≡ Some f) = picked _ _ _ h in
      parts (kind_sum b false f (ih b false f p.1))
  un_kind a op ih t whole f h = absurd (cc)

  bin_kind : (a b : ExprModel) (op : Op2) → MatchKinds a → MatchKinds b → (t : ExprModel) (whole : Bool) (f : MatchModel) → bin_match (matched temps a) (matched temps b) op t ≡ Some f → MatchKind t whole f
  bin_kind a b op iha ihb (bin o c d) whole f h =
      let p : (same_op2 o op ≡ true) × (both (matched temps a c false) (matched temps b d false) ≡ Some f) = picked _ _ _ h in
      let j : Joined (matched temps a c false) (matched temps b d false) f = joined _ _ _ p.1 in
      let q : leaves_sum f.leaves ≡ leaves_sum (j.first.leaves ++ j.second.leaves) = ap (λ (z : MatchModel). leaves_sum z.leaves) (sym j.is) in
      parts (omega (arith, q, sum-append j.first.leaves j.second.leaves, kind_sum c false j.first (iha c false j.first j.is_first), kind_sum d false j.second (ihb d false j.second j.is_second)))
  bin_kind a b op iha ihb t whole f h = absurd (cc)

  read_kind : (a : ExprModel) (w : ℕ) → MatchKinds a → (t : ExprModel) (whole : Bool) (f : MatchModel) → read_match (matched temps a) w t ≡ Some f → MatchKind t whole f
  read_kind a w ih (read InMemory b v) whole f h =
      let p : ((v == w) ≡ true) × (matched temps a b (is_number b) ≡ Some f) = picked _ _ _ h in
      parts (address_sum b (leaves_sum f.leaves) (kind_sum b (is_number b) f (ih b (is_number b) f p.1)))
  read_kind a w ih t whole f h = absurd (cc)

  number_kind : (a t : ExprModel) (whole : Bool) (f : MatchModel) → literal_match a t ≡ Some f → MatchKind t whole f
  number_kind a (read InMemory b v) whole f h =
      let l : Literal a b f = literal a b f h in
      let q : leaves_sum f.leaves ≡ 0 = ap (λ (z : MatchModel). leaves_sum z.leaves) (sym l.is) in
      parts (omega (arith, q))
  number_kind a t whole f h = absurd (cc)

  cell_kind : (a : ExprModel) (w : ℕ) (t : ExprModel) (whole : Bool) (f : MatchModel) → w ≡ bits → cell_match temps a w t whole ≡ Some f → MatchKind t whole f
  cell_kind a w t whole f wide h =
      let p : ((w == expr_width t) ≡ true)
      × ((if is_cell t then literal_match a t else open_if (not whole && shows_below a temps) (cut a t)) ≡ Some f) = picked _ _ _ h in
      fork (eq-eqb _ _ (sym (eqb-true w (expr_width t) p.0) ∙ wide)) (is_cell t) refl p.1
    where
      fork : (expr_width t == bits) ≡ true → (b : Bool) → is_cell t ≡ b → (if b then literal_match a t else open_if (not whole && shows_below a temps) (cut a t)) ≡ Some f → MatchKind t whole f
      fork of_words true e k = number_kind a t whole f k
      fork of_words false e k =
          let p : ((not whole && shows_below a temps) ≡ true) × (record { setting = 0; leaves = cut a t ∷ [] } ≡ f) = opened _ _ _ k in
          let q : (not whole ≡ true) × (shows_below a temps ≡ true) = and_parts _ _ p.0 in
          stored_whole a (ap (λ (z : MatchModel). z.leaves) (sym p.1)) (cut_tree t whole q.0 of_words e)

  slice_kind : (a : ExprModel) (hi lo : ℕ) → MatchKinds a → (t : ExprModel) (whole : Bool) (f : MatchModel) → slice_match (matched temps a) (expr_width a) hi lo t ≡ Some f → MatchKind t whole f
  slice_kind a hi lo ih (slice b h' l') whole f h =
      let p : (((expr_width b == expr_width a) && ((h' == hi) && (l' == lo))) ≡ true) × (matched temps a b false ≡ Some f) = picked _ _ _ h in
      parts (kind_sum b false f (ih b false f p.1))
  slice_kind a hi lo ih t whole f h = absurd (cc)

  zext_kind : (a : ExprModel) (w : ℕ) → MatchKinds a → (t : ExprModel) (whole : Bool) (f : MatchModel) → zext_match (matched temps a) (expr_width a) w t ≡ Some f → MatchKind t whole f
  zext_kind a w ih (zext b v) whole f h =
      let p : (((expr_width b == expr_width a) && (v == w)) ≡ true) × (matched temps a b false ≡ Some f) = picked _ _ _ h in
      parts (kind_sum b false f (ih b false f p.1))
  zext_kind a w ih t whole f h = absurd (cc)

  sext_kind : (a : ExprModel) (w : ℕ) → MatchKinds a → (t : ExprModel) (whole : Bool) (f : MatchModel) → sext_match (matched temps a) (expr_width a) w t ≡ Some f → MatchKind t whole f
  sext_kind a w ih (sext b v) whole f h =
      let p : (((expr_width b == expr_width a) && (v == w)) ≡ true) × (matched temps a b false ≡ Some f) = picked _ _ _ h in
      parts (kind_sum b false f (ih b false f p.1))
  sext_kind a w ih t whole f h = absurd (cc)

  pub matched_kind : (e : ExprModel) → ReadsWords bits e → MatchKinds e
  matched_kind (word w) o t whole f h = shape_kind (word w) t whole f h
  matched_kind (const w v) o t whole f h = shape_kind (const w v) t whole f h
  matched_kind (reg id w) o t whole f h = reg_kind id w t whole f h
  matched_kind (read InFile a w) o t whole f h = file_kind a w t whole f h
  matched_kind (read InMemory a w) o t whole f h =
      elim (either (is_shape a) (cell_match temps a w t whole) (read_match (matched temps a) w t) (Some f) h) as (λ _. MatchKind t whole f) [
        | inl l ↦ cell_kind a w t whole f o.0 l
        | inr l ↦ read_kind a w (matched_kind a o.1) t whole f l
      ]
  matched_kind (un op a) o t whole f h = un_kind a op (matched_kind a o) t whole f h
  matched_kind (bin op a b) o t whole f h =
      elim (either (is_shape (bin op a b)) (shape_match (bin op a b) t) (bin_match (matched temps a) (matched temps b) op t) (Some f) h) as (λ _. MatchKind t whole f) [
        | inl l ↦ shape_kind (bin op a b) t whole f l
        | inr l ↦ bin_kind a b op (matched_kind a o.0) (matched_kind b o.1) t whole f l
      ]
  matched_kind (slice a hi lo) o t whole f h =
      elim (either (is_shape (slice a hi lo)) (shape_match (slice a hi lo) t) (slice_match (matched temps a) (expr_width a) hi lo t) (Some f) h) as (λ _. MatchKind t whole f) [
        | inl l ↦ shape_kind (slice a hi lo) t whole f l
        | inr l ↦ slice_kind a hi lo (matched_kind a o) t whole f l
      ]
  matched_kind (zext a w) o t whole f h =
      elim (either (is_shape (zext a w)) (shape_match (zext a w) t) (zext_match (matched temps a) (expr_width a) w t) (Some f) h) as (λ _. MatchKind t whole f) [
        | inl l ↦ shape_kind (zext a w) t whole f l
        | inr l ↦ zext_kind a w (matched_kind a o) t whole f l
      ]
  matched_kind (sext a w) o t whole f h =
      elim (either (is_shape (sext a w)) (shape_match (sext a w) t) (sext_match (matched temps a) (expr_width a) w t) (Some f) h) as (λ _. MatchKind t whole f) [
        | inl l ↦ shape_kind (sext a w) t whole f l
        | inr l ↦ sext_kind a w (matched_kind a o) t whole f l
      ]
  matched_kind (cat a b) o t whole f h = absurd (cc)
  matched_kind (select c a b) o t whole f h = absurd (cc)

  -- ---- whole forms

  -- whether the tree counts as whole at a destination
  abbrev pub whole_at : DestinationModel → Bool → Bool
  whole_at (into id) whole = whole
  whole_at filed whole = whole
  whole_at (cell a) whole = true
  whole_at (stored a) whole = false
  whole_at temporary whole = false
  whole_at tested whole = true

  -- a destination without a tree of its own for the address
  abbrev pub IsPlain : DestinationModel → Type 0
  IsPlain (stored a) = ⊥
  IsPlain destination = Unit {0}

  -- the address takes nothing there
  address_none : (o : Option ExprModel) (destination : DestinationModel) (x : MatchModel) → IsPlain destination → address_match temps o destination ≡ Some x → x.leaves ≡ []
  address_none None destination x p h = absurd (cc)
  address_none (Some addr) (cell a) x p h =
      let c : (is_shape addr ≡ true) × (settled (shape_setting addr a) ≡ Some x) = picked (is_shape addr) (settled (shape_setting addr a)) x h in
      let (b, e, q) = settled_some (shape_setting addr a) x c.1 in ap (λ (z : MatchModel). z.leaves) (sym q)
  address_none (Some addr) temporary x p h =
      let c : ((is_shape addr && shows_below addr temps) ≡ true) × (settled (Some 0) ≡ Some x) = picked (is_shape addr && shows_below addr temps) (settled (Some 0)) x h in
      let q : record { setting = 0; leaves = [] } ≡ x = cc in ap (λ (z : MatchModel). z.leaves) (sym q)
  address_none (Some addr) (stored a) x p h = absurd p
  address_none (Some addr) (into id) x p h = absurd (cc)
  address_none (Some addr) filed x p h = absurd (cc)
  address_none (Some addr) tested x p h = absurd (cc)

  kind_moved : (t : ExprModel) (whole : Bool) (f g : MatchModel) → g.leaves ≡ f.leaves → MatchKind t whole f → MatchKind t whole g
  kind_moved t whole f g e (itself id q) = itself id (e ∙ q)
  kind_moved t whole f g e (stored_whole shape q c) = stored_whole shape (e ∙ q) c
  kind_moved t whole f g e (parts h) = parts (subst (λ z. leaves_sum z ≤ wide_below bits t) (sym e) h)

  memory_kind : (form : FormModel) (destination : DestinationModel) (tree : ExprModel) (whole : Bool) (found : MatchModel) → ReadsWords bits form.value → IsPlain destination
      → both (address_match temps form.addr destination) (matched temps form.value tree whole) ≡ Some found → MatchKind tree whole found
  memory_kind form destination tree whole found o p h =
      let j : Joined (address_match temps form.addr destination) (matched temps form.value tree whole) found = joined _ _ _ h in
      let e : found.leaves ≡ j.second.leaves = ap (λ (z : MatchModel). z.leaves) (sym j.is) ∙ ap (λ z. z ++ j.second.leaves) (address_none form.addr destination j.first p j.is_first) in
      kind_moved tree whole j.second found e (matched_kind form.value o tree whole j.second j.is_second)

  pub goal_kind : (form : FormModel) (goal : GoalModel) (destination : DestinationModel) (tree : ExprModel) (whole : Bool) (found : MatchModel) → ReadsWords bits form.value → IsPlain destination → goal_match temps form goal destination tree whole ≡ Some found
      → MatchKind tree (whole_at destination whole) found
  goal_kind form (into_reg q) (into id) tree whole found o p h =
      let c : ((q == id) ≡ true) × (matched temps form.value tree whole ≡ Some found) = picked (q == id) (matched temps form.value tree whole) found h in
      matched_kind form.value o tree whole found c.1
  goal_kind form into_file filed tree whole found o p h = matched_kind form.value o tree whole found h
  goal_kind form into_memory (cell a) tree whole found o p h = memory_kind form (cell a) tree true found o p h
  goal_kind form into_memory temporary tree whole found o p h = memory_kind form temporary tree false found o p h
  goal_kind form into_memory (stored a) tree whole found o p h = absurd p
  goal_kind form (branches when_one to) tested tree whole found o p h = matched_kind form.value o tree true found h
  goal_kind form goal destination tree whole found o p h = absurd (cc)

  store_sum : (form : FormModel) (address tree : ExprModel) (at : Option ExprModel) (found : MatchModel) → AddressReadsWords bits at → ReadsWords bits form.value
      → both (address_match temps at (stored address)) (matched temps form.value tree false) ≡ Some found → leaves_sum found.leaves ≤ tree_nodes address false + tree_nodes tree false
  store_sum form address tree None found u v h = absurd (cc)
  store_sum form address tree (Some addr) found u v h =
      let j : Joined (matched temps addr address false) (matched temps form.value tree false) found = joined _ _ _ h in
      let q : leaves_sum found.leaves ≡ leaves_sum (j.first.leaves ++ j.second.leaves) = ap (λ (z : MatchModel). leaves_sum z.leaves) (sym j.is) in
      omega (
        arith,
        q,
        sum-append j.first.leaves j.second.leaves,
        kind_sum address false j.first (matched_kind addr u address false j.first j.is_first),
        kind_sum tree false j.second (matched_kind form.value v tree false j.second j.is_second),
      )

  pub goal_sum : (form : FormModel) (goal : GoalModel) (destination : DestinationModel) (tree : ExprModel) (whole : Bool) (found : MatchModel) → AddressReadsWords bits form.addr → ReadsWords bits form.value
      → goal_match temps form goal destination tree whole ≡ Some found → leaves_sum found.leaves ≤ goal_nodes destination tree whole
  goal_sum form (into_reg q) (into id) tree whole found u v h = kind_sum tree whole found (goal_kind form (into_reg q) (into id) tree whole found v tt h)
  goal_sum form into_file filed tree whole found u v h = kind_sum tree whole found (goal_kind form into_file filed tree whole found v tt h)
  goal_sum form into_memory (cell a) tree whole found u v h = kind_sum tree true found (memory_kind form (cell a) tree true found v tt h)
  goal_sum form into_memory temporary tree whole found u v h = kind_sum tree false found (memory_kind form temporary tree false found v tt h)
  goal_sum form into_memory (stored a) tree whole found u v h = store_sum form a tree form.addr found u v h
  goal_sum form (branches when_one to) tested tree whole found u v h = kind_sum tree true found (matched_kind form.value v tree true found h)
  goal_sum form goal destination tree whole found u v h = absurd (cc)
