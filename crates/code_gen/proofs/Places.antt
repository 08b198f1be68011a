-- The part of a layout at a place of the flow: which block or test it is.
use Rattle.std.proofs.Common.{◌≡◌, ℕ, zero, suc, ◌+◌, false, List, [], ◌∷◌, map, Some, slice_get, refl, sym, ap, subst, ◌∙◌, arith}
use Rattle.form_model.specs.declared.flow.Flow.{Flow}
use Rattle.form_model.specs.Forms.{FormModel}
use Rattle.branch_fix.specs.declared.outline.Branch.{Branch}
use Rattle.branch_fix.specs.declared.part.LayoutPart.{LayoutPart}
use Rattle.branch_fix.specs.declared.part.LayoutPart.TheVariants.{Block, Inner, Test, Jump, End}
use Rattle.branch_fix.specs.Parts.{part_for, parts_from, parts_of, room, starts, blocks_before, tests_before}
use Rattle.branch_fix.specs.Rounds.{IsFixpoint, round, rounds, widened_from}

module _ (forms : List FormModel) (flow : List Flow) (sizes : List ℕ) (forks : List Branch) where
  -- a part is what its place makes of the blocks and tests before it
  pub record IsPartOf (at : ℕ) (p : LayoutPart) : Type 0 where
    pub f : Flow
    pub place : slice_get flow at ≡ Some f
    pub is : p ≡ part_for forms flow sizes forks f at (blocks_before flow at) (tests_before flow at)

  part_there : (rest : List Flow) (at : ℕ) → ((j : ℕ) → slice_get rest j ≡ slice_get flow (at + j)) → (k N : ℕ) → N ≡ at + k → (p : LayoutPart)
      → slice_get (parts_from forms flow sizes forks rest at) k ≡ Some p → IsPartOf N p
  part_there [] at stand k N e p there = absurd cc
  part_there (f ∷ rest) at stand zero N e p there =
      let here : slice_get flow at ≡ Some f = ap (slice_get flow) (let z : at ≡ at + 0 = omega arith in z) ∙ sym (stand 0) in
      let z : at ≡ N = omega arith in
      subst (λ n. IsPartOf n p) z (record { f = f; place = here; is = cc there })
  part_there (f ∷ rest) at stand (suc k) N e p there =
      part_there rest (at + 1) (λ j. stand (suc j) ∙ ap (slice_get flow) (let z : at + suc j ≡ at + 1 + j = omega arith in z)) k N (omega arith) p there

-- ---- the rounds change nothing but which branches are long

abbrev pub shortened : LayoutPart → LayoutPart
shortened (Block block words) = Block block words
shortened Inner = Inner
shortened (Test f) = Test (record f { long = false })
shortened (Jump to) = Jump to
shortened End = End

widened_short : (forms : List FormModel) (addresses : List ℕ) (at : ℕ) (parts : List LayoutPart) → map shortened (widened_from forms addresses at parts) ≡ map shortened parts
widened_short forms addresses at [] = refl
widened_short forms addresses at (Block block words ∷ parts) = ap (λ (ps : List LayoutPart). Block block words ∷ ps) (widened_short forms addresses (at + room (Block block words)) parts)
widened_short forms addresses at (Inner ∷ parts) = ap (λ (ps : List LayoutPart). Inner ∷ ps) (widened_short forms addresses (at + room Inner) parts)
widened_short forms addresses at (Test f ∷ parts) = ap (λ (ps : List LayoutPart). shortened (Test f) ∷ ps) (widened_short forms addresses (at + room (Test f)) parts)
widened_short forms addresses at (Jump to ∷ parts) = ap (λ (ps : List LayoutPart). Jump to ∷ ps) (widened_short forms addresses (at + room (Jump to)) parts)
widened_short forms addresses at (End ∷ parts) = ap (λ (ps : List LayoutPart). End ∷ ps) (widened_short forms addresses (at + room End) parts)

rounds_short : (forms : List FormModel) (n : ℕ) (parts : List LayoutPart) → map shortened (rounds forms n parts) ≡ map shortened parts
rounds_short forms zero parts = refl
rounds_short forms (suc n) parts = rounds_short forms n (round forms parts) ∙ widened_short forms (starts parts) 0 parts

-- what stands at a place of a list of parts of which rounds made another
before_rounds : (first last : List LayoutPart) → map shortened last ≡ map shortened first → (at : ℕ) (p : LayoutPart) → slice_get last at ≡ Some p → (q : LayoutPart) × (slice_get first at ≡ Some q) × (shortened p ≡ shortened q)
before_rounds [] [] e at p there = absurd cc
before_rounds [] (x ∷ last) e at p there = absurd cc
before_rounds (y ∷ first) [] e at p there = absurd cc
before_rounds (y ∷ first) (x ∷ last) e zero p there = let same : x ≡ p = cc in let one : shortened x ≡ shortened y = cc in (y, refl, ap shortened (sym same) ∙ one)
before_rounds (y ∷ first) (x ∷ last) e (suc at) p there = let rest : map shortened last ≡ map shortened first = cc in before_rounds first last rest at p there

module _ (forms : List FormModel) (flow : List Flow) (sizes : List ℕ) (forks : List Branch) (parts : List LayoutPart) (settled : IsFixpoint forms (parts_of forms flow sizes forks) parts) where
  -- what stands at a place of the settled parts, but for the length of its branch
  pub settled_part : (at : ℕ) (p : LayoutPart) → slice_get parts at ≡ Some p → (q : LayoutPart) × IsPartOf forms flow sizes forks at q × (shortened p ≡ shortened q)
  settled_part at p there =
      let e : map shortened parts ≡ map shortened (parts_of forms flow sizes forks) = ap (map shortened) settled.made ∙ rounds_short forms settled.count (parts_of forms flow sizes forks) in
      let h = before_rounds (parts_of forms flow sizes forks) parts e at p there in
      (h.0, part_there forms flow sizes forks flow 0 (λ j. ap (slice_get flow) (let z : j ≡ 0 + j = omega arith in z)) at at (omega arith) h.0 h.1, h.2)
