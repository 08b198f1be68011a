-- Jobs with equal trees, in cells that fit.
use Rattle.std.proofs.Common.{◌≡◌, ℕ, zero, suc, ◌-◌, ◌<◌, ◌≤◌, Bool, true, false, List, [], ◌∷◌, length, map, None, Some, inl, inr, refl, sym, ◌∙◌, ap, subst, arith}
use Rattle.std.specs.Prelude.{bit_xor}
use Rattle.net_model.specs.declared.hardware.Space.TheVariants.{Memory as InMemory, File as InFile}
use Rattle.net_model.specs.Exprs.{ExprModel, word, reg, const, read, un, bin, slice, cat, zext, sext, select}
use Rattle.form_model.specs.Forms.{DestinationModel, into, cell, filed, stored, temporary, tested}
use Rattle.src_trees.specs.Lowered.{JobModel}
use Rattle.src_trees.specs.Seen.{ReadsCells, tree_value}
use Rattle.src_trees.specs.Doing.{AllAre, AllRead, DestinationLies, Lies, destination_cell, done, job_value, put_in}
use Rattle.tree_laws.specs.Equal.{AreEqual, AreOpposite, CellsFit}
use Rattle.respell.specs.Respelled.{IsRespelled, IsSameDestination, IsSpelled, ReadsAt, ReadsNoMore}
use Rattle.src_trees.specs.Turned.{job_of_told, turned_back}

module _ (width : ℕ) (cells : List ℕ) (fit : CellsFit width cells) where
  -- ---- reads

  -- an address at which a tree reads is where the tree's reads lie
  address_lies : (temps : ℕ) (address t : ExprModel) → ReadsAt width address t → ReadsCells temps cells t → temps ≤ tree_value cells address
  address_lies temps address (read InMemory a w) (inl e) h = subst (λ v. temps ≤ v) (e.same cells fit) h.1
  address_lies temps address (read InMemory a w) (inr r) h = address_lies temps address a r h.0
  address_lies temps address (un o a) r h = address_lies temps address a r h
  address_lies temps address (bin o a b) (inl r) h = address_lies temps address a r h.0
  address_lies temps address (bin o a b) (inr r) h = address_lies temps address b r h.1
  address_lies temps address (slice a hi lo) r h = address_lies temps address a r h
  address_lies temps address (zext a w) r h = address_lies temps address a r h
  address_lies temps address (sext a w) r h = address_lies temps address a r h
  address_lies temps address (word w) r h = absurd r
  address_lies temps address (reg k w) r h = absurd r
  address_lies temps address (const w v) r h = absurd r
  address_lies temps address (read InFile a w) r h = absurd r
  address_lies temps address (cat a b) r h = absurd r
  address_lies temps address (select c a b) r h = absurd r

  -- a tree that reads no more lies where the other does
  reads_lie : (temps : ℕ) (old t : ExprModel) → ReadsNoMore width old t → ReadsCells temps cells old → ReadsCells temps cells t
  reads_lie temps old (const w v) r h = tt
  reads_lie temps old (read InMemory a w) r h = (reads_lie temps old a r.1 h, address_lies temps a old r.0 h)
  reads_lie temps old (un o a) r h = reads_lie temps old a r h
  reads_lie temps old (bin o a b) r h = (reads_lie temps old a r.0 h, reads_lie temps old b r.1 h)
  reads_lie temps old (slice a hi lo) r h = reads_lie temps old a r h
  reads_lie temps old (zext a w) r h = reads_lie temps old a r h
  reads_lie temps old (sext a w) r h = reads_lie temps old a r h
  reads_lie temps old (word w) r h = absurd r
  reads_lie temps old (reg k w) r h = absurd r
  reads_lie temps old (read InFile a w) r h = absurd r
  reads_lie temps old (cat a b) r h = absurd r
  reads_lie temps old (select c a b) r h = absurd r

  -- ---- destinations

  destination_lies : (temps : ℕ) (d e : DestinationModel) → IsSameDestination width d e → DestinationLies temps cells d → DestinationLies temps cells e
  destination_lies temps (stored a) (stored b) s h = (
    reads_lie temps a b s.1 h.0,
    subst (λ v. temps ≤ v) (s.0.same cells fit) h.1,
    subst (λ v. v < length cells) (s.0.same cells fit) h.2,
  )
  destination_lies temps (stored a) (cell b) s h = absurd s
  destination_lies temps (stored a) (into b) s h = absurd s
  destination_lies temps (stored a) filed s h = absurd s
  destination_lies temps (stored a) temporary s h = absurd s
  destination_lies temps (stored a) tested s h = absurd s
  destination_lies temps (cell a) e s h = subst (DestinationLies temps cells) s h
  destination_lies temps (into a) e s h = subst (DestinationLies temps cells) s h
  destination_lies temps filed e s h = subst (DestinationLies temps cells) s h
  destination_lies temps temporary e s h = subst (DestinationLies temps cells) s h
  destination_lies temps tested e s h = subst (DestinationLies temps cells) s h

  same_cell : (d e : DestinationModel) → IsSameDestination width d e → destination_cell cells e ≡ destination_cell cells d
  same_cell (stored a) (stored b) s = ap Some (sym (s.0.same cells fit))
  same_cell (stored a) (cell b) s = absurd s
  same_cell (stored a) (into b) s = absurd s
  same_cell (stored a) filed s = absurd s
  same_cell (stored a) temporary s = absurd s
  same_cell (stored a) tested s = absurd s
  same_cell (cell a) e s = ap (destination_cell cells) (sym s)
  same_cell (into a) e s = ap (destination_cell cells) (sym s)
  same_cell filed e s = ap (destination_cell cells) (sym s)
  same_cell temporary e s = ap (destination_cell cells) (sym s)
  same_cell tested e s = ap (destination_cell cells) (sym s)

  -- ---- jobs

  module _ (old new : JobModel) where
    same_done : IsRespelled width false old new → done new cells ≡ done old cells
    same_done r =
        let value : job_value cells new.trees ≡ job_value cells old.trees =
        ap (job_value cells) r.one ∙ sym (r.spelled.same cells fit) ∙ sym (ap (job_value cells) r.was) in
        ap (λ v. put_in (destination_cell cells new.destination) v cells) value
        ∙ ap (λ c. put_in c (job_value cells old.trees) cells) (same_cell old.destination new.destination r.destination)

    -- a test changes no cell
    pub told_done : (turned : Bool) → IsRespelled width turned old new → done (job_of_told turned new) cells ≡ done old cells
    told_done false r = same_done r
    told_done true r =
        let none : destination_cell cells old.destination ≡ None = ap (destination_cell cells) r.spelled.0 in
        ap (λ c. put_in c (job_value cells (job_of_told true new).trees) cells) (same_cell old.destination new.destination r.destination ∙ none)
        ∙ sym (ap (λ c. put_in c (job_value cells old.trees) cells) none)

    -- turning a tree back changes no read
    told_read : (temps : ℕ) (turned : Bool) (trees : List ExprModel) → AllRead temps cells trees → AllRead temps cells (job_of_told turned (record { destination = new.destination; trees = trees })).trees
    told_read temps false trees h = h
    told_read temps true [] h = tt
    told_read temps true (t ∷ trees) h = ((h.0, tt), told_read temps true trees h.1)

    pub told_lies : (temps : ℕ) (turned : Bool) → IsRespelled width turned old new → Lies temps cells old → Lies temps cells (job_of_told turned new)
    told_lies temps turned r h =
        let first : AllRead temps cells (r.first ∷ r.rest) = subst (AllRead temps cells) r.was h.reads in
        let own : AllRead temps cells new.trees = subst (AllRead temps cells) (sym r.one) (reads_lie temps r.first r.tree r.reads first.0, tt) in
        record {
          reads = told_read temps turned new.trees own;
          destination = destination_lies temps old.destination new.destination r.destination h.destination;
          below = h.below;
        }

    -- the other answer of a test
    other_bit : (v : ℕ) → v < 2 → bit_xor (1 - v) 1 ≡ v
    other_bit zero h = refl
    other_bit (suc zero) h = refl
    other_bit (suc (suc v)) h = absurd (omega (arith, h))

    told_first : (v : ℕ) (turned : Bool) (destination : DestinationModel) (first tree : ExprModel) → v < 2 → IsSpelled width turned destination first tree → tree_value cells first ≡ v
        → AllAre v cells (job_of_told turned (record { destination = new.destination; trees = tree ∷ [] })).trees
    told_first v false destination first tree less s e = (sym (s.same cells fit) ∙ e, tt)
    told_first v true destination first tree less s e = (ap (λ x. bit_xor x 1) (s.1.other cells fit ∙ ap (λ x. 1 - x) e) ∙ other_bit v less, tt)

    pub told_are : (v : ℕ) (turned : Bool) → IsRespelled width turned old new → v < 2 → AllAre v cells old.trees → AllAre v cells (job_of_told turned new).trees
    told_are v turned r less h =
        let first : AllAre v cells (r.first ∷ r.rest) = subst (AllAre v cells) r.was h in
        subst (λ trees. AllAre v cells (job_of_told turned (record { destination = new.destination; trees = trees })).trees) (sym r.one)
        (told_first v turned old.destination r.first r.tree less r.spelled first.0)

    -- the value of a job that is turned back is no greater
    other_less : (v : ℕ) → bit_xor (1 - v) 1 ≤ v
    other_less zero = (let e : bit_xor 1 1 ≡ 0 = refl in omega (arith, e))
    other_less (suc v) =
        let none : 1 - suc v ≡ 0 = omega arith in
        let one : bit_xor (1 - suc v) 1 ≡ 1 = ap (λ n. bit_xor n 1) none in
        omega (arith, one)

    first_less : (turned : Bool) (destination : DestinationModel) (first tree : ExprModel) → IsSpelled width turned destination first tree
        → job_value cells (job_of_told turned (record { destination = new.destination; trees = tree ∷ [] })).trees ≤ tree_value cells first
    first_less false destination first tree s = (let e = s.same cells fit in omega (arith, e))
    first_less true destination first tree s =
        let e : bit_xor (tree_value cells tree) 1 ≡ bit_xor (1 - tree_value cells first) 1 = ap (λ x. bit_xor x 1) (s.1.other cells fit) in
        let le = other_less (tree_value cells first) in
        omega (arith, e, le)

    pub told_less : (turned : Bool) → IsRespelled width turned old new → job_value cells (job_of_told turned new).trees ≤ job_value cells old.trees
    told_less turned r =
        subst (λ trees. job_value cells (job_of_told turned (record { destination = new.destination; trees = trees })).trees ≤ job_value cells old.trees) (sym r.one)
        (subst (λ v. job_value cells (job_of_told turned (record { destination = new.destination; trees = r.tree ∷ [] })).trees ≤ v) (sym (ap (job_value cells) r.was))
        (first_less turned old.destination r.first r.tree r.spelled))
