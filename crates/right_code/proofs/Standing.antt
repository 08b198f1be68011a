-- The words of a layout's items, part by part.
use Rattle.std.proofs.Common.{ℕ, zero, suc, ◌≡◌, ◌+◌, unwrap_or, is_some, true, List, [], ◌∷◌, ◌++◌, length, Option, Some, None, slice_get, slice_index, refl, sym, ◌∙◌, ap, arith, subst}
use Rattle.rec_bits.proofs.Options.{same_Some}
use Rattle.net_model.specs.declared.hardware.Netlist.{Netlist}
use Rattle.net_model.specs.Patterns.{Pattern}
use Rattle.form_model.specs.Forms.{FormModel}
use Rattle.word_fit.specs.Runs.{StandAt}
use Rattle.branch_fix.specs.Parts.{room, address}
use Rattle.branch_fix.specs.Items.{groups, part_items, items_from}
use Rattle.branch_fix.specs.declared.laid.Item.{Item}
use Rattle.branch_fix.specs.declared.part.LayoutPart.{LayoutPart}
use Rattle.branch_fix.proofs.Words.{part_length}
use Rattle.right_code.specs.Words.{StandItems}

pub shown_some : (o : Option ℕ) → is_some o ≡ true → o ≡ Some (unwrap_or o 0)
shown_some None e = absurd (cc e)
shown_some (Some n) e = refl

module _ (netlist : Netlist) (special : Option ℕ) (patterns : List Pattern) (words : ℕ → List ℕ) (code : List ℕ) where
  pub stand_split : (xs ys : List Item) (at n : ℕ) → n ≡ at + length xs → StandItems netlist special patterns words code at (xs ++ ys)
      → StandItems netlist special patterns words code at xs × StandItems netlist special patterns words code n ys
  stand_split [] ys at n e h = let z : at ≡ n = omega (arith, e) in (tt, subst (λ k. StandItems netlist special patterns words code k ys) z h)
  stand_split (x ∷ xs) ys at n e h = let r = stand_split xs ys (at + 1) n (omega (arith, e)) h.1 in ((h.0, r.0), r.1)

  -- the words of a part
  pub part_stands : (forms : List FormModel) (jump : Option FormModel) (addresses : List ℕ) (at : ℕ) (parts : List LayoutPart) (k : ℕ) (p : LayoutPart) (n : ℕ) → slice_get parts k ≡ Some p → n ≡ at + address parts k
      → StandItems netlist special patterns words code at (items_from forms jump addresses at parts) → StandItems netlist special patterns words code n (part_items forms jump addresses n p)
  part_stands forms jump addresses at [] k p n e z h = absurd (cc e)
  part_stands forms jump addresses at (q ∷ parts) zero p n e z h =
      let same : at ≡ n = omega (arith, z) in
      let s = stand_split (part_items forms jump addresses at q) (items_from forms jump addresses (at + room q) parts) at (at + length (part_items forms jump addresses at q)) refl h in
      subst (λ a. StandItems netlist special patterns words code a (part_items forms jump addresses a p)) same (subst (λ r. StandItems netlist special patterns words code at (part_items forms jump addresses at r)) (same_Some q p e) s.0)
  part_stands forms jump addresses at (q ∷ parts) (suc k) p n e z h =
      let l = part_length forms jump addresses at q in
      let s = stand_split (part_items forms jump addresses at q) (items_from forms jump addresses (at + room q) parts) at (at + room q) (omega (arith, l)) h in
      part_stands forms jump addresses (at + room q) parts k p n e (omega (arith, z)) s.1

  -- the groups of a block
  pub groups_stand : (block : ℕ) (xs : List ℕ) (i at : ℕ) → ((j : ℕ) → slice_index (words block) (i + j) ≡ slice_index xs j) → StandItems netlist special patterns words code at (groups block i (length xs)) → StandAt code at xs
  groups_stand block [] i at f h = tt
  groups_stand block (x ∷ xs) i at f h =
      let z : i + 0 ≡ i = omega arith in
      (h.0 ∙ ap (slice_index (words block)) (sym z) ∙ f 0, groups_stand block xs (i + 1) (at + 1) (λ j. let e : i + 1 + j ≡ i + suc j = omega arith in ap (slice_index (words block)) e ∙ f (suc j)) h.1)
