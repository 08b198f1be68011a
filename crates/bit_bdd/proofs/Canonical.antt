-- In one book, ids with equal sets are equal.
use Rattle.std.proofs.Common.{◌≡◌, ℕ, zero, suc, ◌^◌, ◌<◌, ◌≤◌, max, Bool, true, false, if◌then◌else◌, true≢false, List, length, slice_get, Some, refl, sym, ap, ◌∙◌, ◌↔◌, IsTrue, inl, inr, arith}
use Rattle.std.proofs.lemmas.Bool.{cases_lt}
use Rattle.std.proofs.lemmas.Option.{slice_get-get_or, slice_get_within}
use Rattle.bit_bdd.specs.declared.Node.{Node}
use Rattle.bit_bdd.specs.declared.Node.TheVariants.{Never, Always, Ask}
use Rattle.bit_bdd.specs.Diagrams.{Point, bits_of, branch, set_of, Diagrams, IsCanonical}
use Rattle.bit_bdd.specs.Shape.{level, IsReducedBook, AsksBelow, ChildrenSeeBelow}
use Rattle.bit_bdd.proofs.Sets.{set_of-ask, set_of-never, set_of-always, level-at}
use Rattle.bit_bdd.proofs.Points.{put, put_same, put_other, word_of, word_of-lt, bits_of-word_of}
use Rattle.std.specs.List.{slice_index_or}

module _ (bits : ℕ) (nodes : List Node) (book : IsReducedBook bits nodes) where
  -- the set of a node that asks
  ask : (id b l h : ℕ) → slice_get nodes id ≡ Some (Ask b l h) → set_of nodes id ≡ branch b (set_of nodes l) (set_of nodes h)
  ask id b l h at = let r = book.reduced id b l h at in set_of-ask nodes id b l h at r.low_before r.high_before

  -- each id has a node
  node_there : (id : ℕ) → id < length nodes → (node : Node) × (slice_get nodes id ≡ Some node)
  node_there id h = (slice_index_or nodes id Never, slice_get-get_or nodes id Never h)

  -- a set depends on the bits below its level alone
  below : (n id : ℕ) → id < n → id < length nodes → (f g : Point) → ((k : ℕ) → k < level nodes id → f k ≡ g k) → set_of nodes id f ≡ set_of nodes id g
  below zero id h within f g same = absurd (omega arith)
  below (suc n) id less within f g same = by (node_there id within).0 (node_there id within).1 (λ i before f g. below n i (omega (arith, less, before)) (omega arith) f g)
    where
      by : (node : Node) → slice_get nodes id ≡ Some node
          → ((i : ℕ) → i < id → (f g : Point) → ((k : ℕ) → k < level nodes i → f k ≡ g k) → set_of nodes i f ≡ set_of nodes i g)
          → set_of nodes id f ≡ set_of nodes id g
      by Never at earlier = let e = set_of-never nodes id at in ap (λ s. s f) e ∙ sym (ap (λ s. s g) e)
      by Always at earlier = let e = set_of-always nodes id at in ap (λ s. s f) e ∙ sym (ap (λ s. s g) e)
      by (Ask b l h) at earlier =
          let r = book.reduced id b l h at in
          let e = ask id b l h at in
          let v = level-at nodes id (Ask b l h) at in
          let bit : f b ≡ g b = same b (omega (arith, v)) in
          let low : set_of nodes l f ≡ set_of nodes l g = earlier l r.low_before f g (λ k less. same k (omega (arith, v, r.low_lower, less))) in
          let high : set_of nodes h f ≡ set_of nodes h g = earlier h r.high_before f g (λ k less. same k (omega (arith, v, r.high_lower, less))) in
          ap (λ s. s f) e ∙ (λ j. if bit j then high j else low j) ∙ sym (ap (λ s. s g) e)

  -- a set does not see a change at or above its level
  pub set_of-put : (id : ℕ) → id < length nodes → (f : Point) (bit : ℕ) (value : Bool) → level nodes id ≤ bit → set_of nodes id (put f bit value) ≡ set_of nodes id f
  set_of-put id within f bit value high = below (suc id) id (omega arith) within (put f bit value) f (λ k less. put_other f bit value k (λ e. absurd (omega (arith, e, less, high))))

  -- the branches of a node, by a change of its bit
  low_branch : (id b l h : ℕ) → slice_get nodes id ≡ Some (Ask b l h) → id < length nodes → (f : Point) → set_of nodes id (put f b false) ≡ set_of nodes l f
  low_branch id b l h at within f =
      let r = book.reduced id b l h at in
      ap (λ s. s (put f b false)) (ask id b l h at) ∙ ap (λ v. if v then set_of nodes h (put f b false) else set_of nodes l (put f b false)) (put_same f b false)
      ∙ set_of-put l (omega (arith, r.low_before)) f b false r.low_lower

  high_branch : (id b l h : ℕ) → slice_get nodes id ≡ Some (Ask b l h) → id < length nodes → (f : Point) → set_of nodes id (put f b true) ≡ set_of nodes h f
  high_branch id b l h at within f =
      let r = book.reduced id b l h at in
      ap (λ s. s (put f b true)) (ask id b l h at) ∙ ap (λ v. if v then set_of nodes h (put f b true) else set_of nodes l (put f b true)) (put_same f b true)
      ∙ set_of-put h (omega (arith, r.high_before)) f b true r.high_lower

  -- a set is not that of an id of a lower level
  not_lower : (n i j : ℕ) → ((i j : ℕ) → i < n → j < n → i < length nodes → j < length nodes → ((f : Point) → set_of nodes i f ≡ set_of nodes j f) → i ≡ j)
      → i ≤ n → i < length nodes → j < length nodes → level nodes j < level nodes i → ((f : Point) → set_of nodes i f ≡ set_of nodes j f) → ⊥
  not_lower n i j known bound within_i within_j lower same = by (node_there i within_i).0 (node_there i within_i).1
    where
      by : (node : Node) → slice_get nodes i ≡ Some node → ⊥
      by Never at = let v = level-at nodes i Never at in omega (arith, v)
      by Always at = let v = level-at nodes i Always at in omega (arith, v)
      by (Ask b l h) at =
          let r = book.reduced i b l h at in
          let v = level-at nodes i (Ask b l h) at in
          let low = (λ (f : Point). sym (low_branch i b l h at within_i f) ∙ same (put f b false) ∙ set_of-put j within_j f b false (omega (arith, v))) in
          let high = (λ (f : Point). sym (high_branch i b l h at within_i f) ∙ same (put f b true) ∙ set_of-put j within_j f b true (omega (arith, v))) in
          r.apart (known l h (omega (arith, r.low_before)) (omega (arith, r.high_before)) (omega (arith, r.low_before)) (omega (arith, r.high_before)) (λ f. low f ∙ sym (high f)))

  -- where smaller ids are known by their sets, two ids of one level and one set have the same node
  alike : (n i j : ℕ) → ((i j : ℕ) → i < n → j < n → i < length nodes → j < length nodes → ((f : Point) → set_of nodes i f ≡ set_of nodes j f) → i ≡ j)
      → i ≤ n → j ≤ n → i < length nodes → j < length nodes → level nodes i ≡ level nodes j → ((f : Point) → set_of nodes i f ≡ set_of nodes j f)
      → (a b : Node) → slice_get nodes i ≡ Some a → slice_get nodes j ≡ Some b → a ≡ b
  alike n i j known bi bj wi wj lev same Never Never ai aj = refl
  alike n i j known bi bj wi wj lev same Never Always ai aj =
      let f : Point = λ _. false in
      absurd (true≢false (sym (sym (ap (λ s. s f) (set_of-never nodes i ai)) ∙ same f ∙ ap (λ s. s f) (set_of-always nodes j aj))))
  alike n i j known bi bj wi wj lev same Never (Ask b l h) ai aj = let v = level-at nodes i Never ai in let w = level-at nodes j (Ask b l h) aj in absurd (omega (arith, v, w, lev))
  alike n i j known bi bj wi wj lev same Always Never ai aj =
      let f : Point = λ _. false in
      absurd (true≢false (sym (ap (λ s. s f) (set_of-always nodes i ai)) ∙ same f ∙ ap (λ s. s f) (set_of-never nodes j aj)))
  alike n i j known bi bj wi wj lev same Always Always ai aj = refl
  alike n i j known bi bj wi wj lev same Always (Ask b l h) ai aj = let v = level-at nodes i Always ai in let w = level-at nodes j (Ask b l h) aj in absurd (omega (arith, v, w, lev))
  alike n i j known bi bj wi wj lev same (Ask b l h) Never ai aj = let v = level-at nodes i (Ask b l h) ai in let w = level-at nodes j Never aj in absurd (omega (arith, v, w, lev))
  alike n i j known bi bj wi wj lev same (Ask b l h) Always ai aj = let v = level-at nodes i (Ask b l h) ai in let w = level-at nodes j Always aj in absurd (omega (arith, v, w, lev))
  alike n i j known bi bj wi wj lev same (Ask b l h) (Ask c m g) ai aj =
      let v = level-at nodes i (Ask b l h) ai in
      let w = level-at nodes j (Ask c m g) aj in
      let r = book.reduced i b l h ai in
      let q = book.reduced j c m g aj in
      let bit : b ≡ c = omega (arith, v, w, lev) in
      let low : l ≡ m = known l m (omega (arith, r.low_before)) (omega (arith, q.low_before)) (omega (arith, r.low_before)) (omega (arith, q.low_before))
      (λ f. sym (low_branch i b l h ai wi f) ∙ same (put f b false) ∙ ap (λ k. set_of nodes j (put f k false)) bit ∙ low_branch j c m g aj wj f) in
      let high : h ≡ g = known h g (omega (arith, r.high_before)) (omega (arith, q.high_before)) (omega (arith, r.high_before)) (omega (arith, q.high_before))
      (λ f. sym (high_branch i b l h ai wi f) ∙ same (put f b true) ∙ ap (λ k. set_of nodes j (put f k true)) bit ∙ high_branch j c m g aj wj f) in
      (λ k. Ask (bit k) (low k) (high k))

  -- two ids that hold of the same points are equal, by induction on their bound
  same_id : (n i j : ℕ) → i < n → j < n → i < length nodes → j < length nodes → ((f : Point) → set_of nodes i f ≡ set_of nodes j f) → i ≡ j
  same_id zero i j bi bj wi wj same = absurd (omega arith)
  same_id (suc n) i j bi bj wi wj same = by (λ a b. same_id n a b)
    where
      by : ((i j : ℕ) → i < n → j < n → i < length nodes → j < length nodes → ((f : Point) → set_of nodes i f ≡ set_of nodes j f) → i ≡ j) → i ≡ j
      by known = elim (cases_lt (level nodes i) (level nodes j)) [
        | inl less ↦ absurd (not_lower n j i known (omega arith) wj wi less (λ f. sym (same f)))
        | inr more ↦ elim (cases_lt (level nodes j) (level nodes i)) [
          | inl less ↦ absurd (not_lower n i j known (omega arith) wi wj less same)
          | inr level ↦
              (let a = node_there i wi in
              let b = node_there j wj in
              let e : a.0 ≡ b.0 = alike n i j known (omega arith) (omega arith) wi wj (omega (arith, more, level)) same a.0 b.0 a.1 b.1 in
              book.distinct i j b.0 (a.1 ∙ ap Some e) b.1)
        ]
      ]

  -- no node asks a bit that the book does not have
  level_within : (id : ℕ) → id < length nodes → level nodes id ≤ bits
  level_within id within = by (node_there id within).0 (node_there id within).1
    where
      by : (node : Node) → slice_get nodes id ≡ Some node → level nodes id ≤ bits
      by Never at = let v = level-at nodes id Never at in omega (arith, v)
      by Always at = let v = level-at nodes id Always at in omega (arith, v)
      by (Ask b l h) at = let v = level-at nodes id (Ask b l h) at in let r = (book.reduced id b l h at).bit_within in omega (arith, v, r)

  -- a point's word is in the set if the point is
  pub by_word : (id : ℕ) → id < length nodes → (f : Point) → set_of nodes id (bits_of (word_of f bits)) ≡ set_of nodes id f
  by_word id within f = let v = level_within id within in below (suc id) id (omega arith) within (bits_of (word_of f bits)) f (λ k less. bits_of-word_of f bits k (omega (arith, v, less)))

  -- two ids that hold of the same words are equal
  pub canonical : (i j : ℕ) → i < length nodes → j < length nodes → ((word : ℕ) → word < 2 ^ bits → set_of nodes i (bits_of word) ≡ set_of nodes j (bits_of word)) → i ≡ j
  canonical i j wi wj same =
      same_id (suc (max i j)) i j (omega arith) (omega arith) wi wj (λ f. sym (by_word i wi f) ∙ same (word_of f bits) (word_of-lt f bits) ∙ by_word j wj f)

-- the same of a whole book
pub is_canonical : (d : Diagrams) → IsReducedBook d.bits d.nodes → IsCanonical d
is_canonical d book i j wi wj = (canonical d.bits d.nodes book i j wi wj, λ e word less. ap (λ k. set_of d.nodes k (bits_of word)) e)

-- the sets of ids 0 and 1
pub empty_set : (d : Diagrams) → IsReducedBook d.bits d.nodes → set_of d.nodes 0 ≡ (λ _. false)
empty_set d book = set_of-never d.nodes 0 book.never

pub full_set : (d : Diagrams) → IsReducedBook d.bits d.nodes → set_of d.nodes 1 ≡ (λ _. true)
full_set d book = set_of-always d.nodes 1 book.always

-- the two constants
pub constant_set : (d : Diagrams) → IsReducedBook d.bits d.nodes → (value : Bool) → set_of d.nodes (if value then 1 else 0) ≡ (λ _. value)
constant_set d book true = full_set d book
constant_set d book false = empty_set d book

pub constant_below : (d : Diagrams) → IsReducedBook d.bits d.nodes → (value : Bool) → AsksBelow d (if value then 1 else 0) 0
constant_below d book true = let v = level-at d.nodes 1 Always book.always in record { within = slice_get_within d.nodes 1 Always book.always; lower = omega (arith, v) }
constant_below d book false = let v = level-at d.nodes 0 Never book.never in record { within = slice_get_within d.nodes 0 Never book.never; lower = omega (arith, v) }

-- a set is empty exactly where its id is 0
pub empty_id : (d : Diagrams) → IsReducedBook d.bits d.nodes → (id : ℕ) → id < length d.nodes → (test : Bool) → ((test ≡ true) ↔ (id ≡ 0)) → IsTrue test ↔ ((word : ℕ) → word < 2 ^ d.bits → set_of d.nodes id (bits_of word) ≡ false)
empty_id d book id within test says = by test says
  where
    none : (word : ℕ) → set_of d.nodes 0 (bits_of word) ≡ false
    none word = ap (λ s. s (bits_of word)) (empty_set d book)

    by : (test : Bool) → ((test ≡ true) ↔ (id ≡ 0)) → IsTrue test ↔ ((word : ℕ) → word < 2 ^ d.bits → set_of d.nodes id (bits_of word) ≡ false)
    by true says = (λ _ word less. ap (λ k. set_of d.nodes k (bits_of word)) (says.0 refl) ∙ none word, λ _. refl)
    by false says = (λ h. absurd (true≢false (sym h)), λ h. absurd (true≢false (sym (says.1 (canonical d.bits d.nodes book id 0 within (slice_get_within d.nodes 0 Never book.never) (λ word less. h word less ∙ sym (none word)))))))

-- a set does not see a change of the bits from one on that it does not ask
pub below_bit : (d : Diagrams) → IsReducedBook d.bits d.nodes → (id bit : ℕ) → id < length d.nodes → level d.nodes id ≤ bit → (f g : Point) → ((k : ℕ) → k < bit → f k ≡ g k) → set_of d.nodes id f ≡ set_of d.nodes id g
below_bit d book id bit within lower f g same = below d.bits d.nodes book (suc id) id (omega arith) within f g (λ k less. same k (omega (arith, less, lower)))

-- the children of a node see only lower bits
pub children_see : (d : Diagrams) → IsReducedBook d.bits d.nodes → (place : ℕ) (node : Node) → slice_get d.nodes place ≡ Some node → ChildrenSeeBelow d node
children_see d book place Never at = tt
children_see d book place Always at = tt
children_see d book place (Ask b l h) at =
    let r = book.reduced place b l h at in
    let within = slice_get_within d.nodes place (Ask b l h) at in
    (below_bit d book l b (omega (arith, within, r.low_before)) r.low_lower, below_bit d book h b (omega (arith, within, r.high_before)) r.high_lower)
