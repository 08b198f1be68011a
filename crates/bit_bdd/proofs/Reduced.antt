-- A reduced book stays reduced when a node is added.
use Rattle.std.proofs.Common.{◌≡◌, ◌≢◌, ℕ, ◌<◌, ◌≤◌, Bool, true, false, List, [], ◌∷◌, ◌++◌, length, slice_get, Some, if◌then◌else◌, true≢false, inl, inr, refl, sym, ap, ◌∙◌, append_assoc, arith}
use Rattle.std.proofs.lemmas.List.{append-nil}
use Rattle.std.proofs.lemmas.Option.{slice_get_within}
use Rattle.std.proofs.lemmas.Map.Keys.{any_passes_from_place}
use Rattle.std.specs.List.{list_any}
use Rattle.indexmap.specs.IndexSet.{insert_key}
use Rattle.bit_bdd.specs.declared.Node.{Node}
use Rattle.bit_bdd.specs.declared.Node.TheVariants.{Never, Always, Ask}
use Rattle.bit_bdd.specs.Diagrams.{branch, node_set, set_of, Diagrams, Extends}
use Rattle.bit_bdd.specs.Shape.{level, IsReduced, IsReducedBook}
use Rattle.rec_bits.proofs.Lists.{get_left, pushed_at}
use Rattle.bit_bdd.proofs.Sets.{set_of-append, set_of-ask, set_of-never, set_of-always, level-append}

-- a node that may be added
pub record CanAdd (bits : ℕ) (nodes : List Node) (bit low high : ℕ) : Type 0 where
  pub bit_within : bit < bits
  pub low_within : low < length nodes
  pub high_within : high < length nodes
  pub low_lower : level nodes low ≤ bit
  pub high_lower : level nodes high ≤ bit
  pub apart : low ≢ high

module _ (bits : ℕ) (nodes : List Node) (book : IsReducedBook bits nodes) where
  -- what holds of a node that asks lasts while the nodes grow
  reduced_later : (node : Node) (place bit low high : ℕ) → place < length nodes → IsReduced bits nodes place bit low high → IsReduced bits (nodes ++ node ∷ []) place bit low high
  reduced_later node place bit low high h r =
      let z = level-append nodes (node ∷ []) low (omega (arith, r.low_before)) in
      let o = level-append nodes (node ∷ []) high (omega (arith, r.high_before)) in
      record {
        bit_within = r.bit_within;
        low_before = r.low_before;
        high_before = r.high_before;
        low_lower = omega (arith, z, r.low_lower);
        high_lower = omega (arith, o, r.high_lower);
        apart = r.apart;
      }

  module _ (bit low high : ℕ) (can : CanAdd bits nodes bit low high) where
    -- the new node is reduced
    reduced_new : IsReduced bits (nodes ++ Ask bit low high ∷ []) (length nodes) bit low high
    reduced_new =
        let z = level-append nodes (Ask bit low high ∷ []) low can.low_within in
        let o = level-append nodes (Ask bit low high ∷ []) high can.high_within in
        record {
          bit_within = can.bit_within;
          low_before = can.low_within;
          high_before = can.high_within;
          low_lower = omega (arith, z, can.low_lower);
          high_lower = omega (arith, o, can.high_lower);
          apart = can.apart;
        }

    -- with a node that was not there the book stays reduced
    pub push_reduced : ((i : ℕ) → slice_get nodes i ≡ Some (Ask bit low high) → ⊥) → IsReducedBook bits (nodes ++ Ask bit low high ∷ [])
    push_reduced absent =
        let node = Ask bit low high in
        record {
          some = book.some;
          few = book.few;
          never = get_left nodes (node ∷ []) 0 (slice_get_within nodes 0 Never book.never) ∙ book.never;
          always = get_left nodes (node ∷ []) 1 (slice_get_within nodes 1 Always book.always) ∙ book.always;
          reduced = λ place b z o at. elim (pushed_at nodes node place (Ask b z o) at) [
            | inl w ↦ reduced_later node place b z o w.0 (book.reduced place b z o w.1)
            | inr w ↦
                (let same : Ask bit low high ≡ Ask b z o = w.1 in
                let eb : bit ≡ b = cc in
                let ez : low ≡ z = cc in
                let eo : high ≡ o = cc in
                rw (w.0, ← eb, ← ez, ← eo) reduced_new)
          ];
          distinct = λ i j n at_i at_j. elim (pushed_at nodes node i n at_i) [
            | inl v ↦ elim (pushed_at nodes node j n at_j) [
              | inl w ↦ book.distinct i j n v.1 w.1
              | inr w ↦ absurd (absent i (v.1 ∙ ap Some (sym w.1)))
            ]
            | inr v ↦ elim (pushed_at nodes node j n at_j) [
              | inl w ↦ absurd (absent j (w.1 ∙ ap Some (sym v.1)))
              | inr w ↦ v.0 ∙ sym w.0
            ]
          ];
        }

    module _ (eq : Node → Node → Bool) (alike : (n : Node) → eq n n ≡ true) where
      -- so it does after an insertion
      pub insert_reduced : IsReducedBook bits (insert_key eq nodes (Ask bit low high))
      insert_reduced = by (list_any (eq (Ask bit low high)) nodes) refl
        where
          by : (b : Bool) → list_any (eq (Ask bit low high)) nodes ≡ b → IsReducedBook bits (if b then nodes else nodes ++ Ask bit low high ∷ [])
          by true e = book
          by false e = push_reduced (λ i at. true≢false (sym (any_passes_from_place (eq (Ask bit low high)) nodes i (Ask bit low high) at (alike (Ask bit low high))) ∙ e))

-- a set's `insert` puts at most one more key
pub insert_more : {K : Type 0} (eq : K → K → Bool) (ks : List K) (k : K) → (more : List K) × (insert_key eq ks k ≡ ks ++ more)
insert_more {K} eq ks k = by (list_any (eq k) ks)
  where
    by : (b : Bool) → (more : List K) × ((if b then ks else ks ++ k ∷ []) ≡ ks ++ more)
    by true = ([], sym (append-nil ks))
    by false = (k ∷ [], refl)

-- a book extends itself
pub extends_refl : (d : Diagrams) → Extends d d
extends_refl d = record { bits = refl; more = []; nodes = sym (append-nil d.nodes); longer = omega arith }

-- and what an older one extends
pub extends_trans : (a b c : Diagrams) → Extends a b → Extends b c → Extends a c
extends_trans a b c f g = record {
  bits = g.bits ∙ f.bits;
  more = f.more ++ g.more;
  nodes = g.nodes ∙ ap (λ l. l ++ g.more) f.nodes ∙ append_assoc a.nodes f.more g.more;
  longer = omega (arith, f.longer, g.longer);
}

module _ (old new : Diagrams) (grows : Extends old new) (id : ℕ) (within : id < length old.nodes) where
  -- an id keeps its set, its level and its place in the book
  pub same_set : set_of new.nodes id ≡ set_of old.nodes id
  same_set = ap (λ l. set_of l id) grows.nodes ∙ set_of-append old.nodes grows.more id within

  pub same_level : level new.nodes id ≡ level old.nodes id
  same_level = ap (λ l. level l id) grows.nodes ∙ level-append old.nodes grows.more id within

  pub still_within : id < length new.nodes
  still_within = omega (arith, grows.longer, within)

-- the set of a node that is made, or found
pub made_set : (bits : ℕ) (old new : List Node) → IsReducedBook bits new → ((more : List Node) × (new ≡ old ++ more)) → (place bit low high : ℕ) → slice_get new place ≡ Some (Ask bit low high) → low < length old → high < length old
    → set_of new place ≡ branch bit (set_of old low) (set_of old high)
made_set bits old new book more place bit low high at z o =
    let r = book.reduced place bit low high at in
    let ez : set_of new low ≡ set_of old low = ap (λ l. set_of l low) more.1 ∙ set_of-append old more.0 low z in
    let eo : set_of new high ≡ set_of old high = ap (λ l. set_of l high) more.1 ∙ set_of-append old more.0 high o in
    set_of-ask new place bit low high at r.low_before r.high_before ∙ (λ j. branch bit (ez j) (eo j))

-- the set of the node at a place
pub node_set_at : (d : Diagrams) → IsReducedBook d.bits d.nodes → (place : ℕ) (node : Node) → slice_get d.nodes place ≡ Some node → set_of d.nodes place ≡ node_set node (set_of d.nodes)
node_set_at d book place Never at = set_of-never d.nodes place at
node_set_at d book place Always at = set_of-always d.nodes place at
node_set_at d book place (Ask bit low high) at =
    let r = book.reduced place bit low high at in
    set_of-ask d.nodes place bit low high at r.low_before r.high_before
