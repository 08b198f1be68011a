-- A worked job with two trees, each of which one form covers: of two covers of one cost that of the
-- first tree is chosen, though its form stands behind the other's.
use Rattle.std.proofs.Common.{◌≡◌, ◌⊎◌, inl, inr, ℕ, zero, suc, ◌+◌, ◌<◌, arith, true, List, [], ◌∷◌, Some, None, slice_get, refl, ap, sym, subst}
use Rattle.rec_bits.specs.declared.operator.Op2.TheVariants.{Sub, Eq as Equal}
use Rattle.net_model.specs.declared.hardware.Space.TheVariants.{Memory as InMemory}
use Rattle.net_model.specs.Exprs.{ExprModel, word, const, read, bin, slice}
use Rattle.form_model.specs.Forms.{FormModel, absolute, branches, tested}
use Rattle.form_model.specs.Matches.{MatchModel, taken}
use Rattle.form_model.specs.CoverModels.{CoverModel, use_form, CoverOperandsModel, no_operands, operand_then, CoverCutsModel, no_cuts, cut_then, cost, operands_cost, cuts_cost}
use Rattle.form_model.specs.Covers.{StockModel, operands_of, cuts_of, JobCoverModel, Covers, ChoiceBefore, Operand, IsOrderly, AreOrderly, AreCut, IsChosen}

abbrev low_byte : ExprModel
low_byte = slice (word 12) 7 0

-- a == 5 as a program's test gives it, with a in cell 3: it is compared, or its difference is
abbrev equal : ExprModel → ExprModel
equal a = bin Equal a (const 16 5)

abbrev no_difference : ExprModel → ExprModel
no_difference a = bin Equal (bin Sub a (const 16 5)) (const 16 0)

abbrev trees : List ExprModel
trees = equal (read InMemory (const 8 3) 16) ∷ no_difference (read InMemory (const 8 3) 16) ∷ []

-- a branch on each of the two, whose operand is a cell; the difference's comes first
abbrev branch_on : ExprModel → FormModel
branch_on condition = record {
  pattern = 1;
  goal = branches true (absolute low_byte);
  addr = None;
  value = condition;
  fields = 255;
  clobbers = 0;
  tied = None;
}

abbrev stock : StockModel
stock = record { forms = branch_on (no_difference (read InMemory low_byte 16)) ∷ branch_on (equal (read InMemory low_byte 16)) ∷ []; temps = 1; file = 0 }

abbrev of_first : JobCoverModel
of_first = record { which = 0; cover = use_form 1 no_operands no_cuts }

abbrev of_second : JobCoverModel
of_second = record { which = 1; cover = use_form 0 no_operands no_cuts }

first_covers : Covers stock tested trees of_first
first_covers = record {
  tree = equal (read InMemory (const 8 3) 16);
  used = refl;
  orderly = (branch_on (equal (read InMemory low_byte 16)), refl, record { setting = 3; leaves = [] }, refl, refl, refl);
  enough = omega arith;
}

second_covers : Covers stock tested trees of_second
second_covers = record {
  tree = no_difference (read InMemory (const 8 3) 16);
  used = refl;
  orderly = (branch_on (no_difference (read InMemory low_byte 16)), refl, record { setting = 3; leaves = [] }, refl, refl, refl);
  enough = omega arith;
}

same_cost : cost of_first.cover ≡ cost of_second.cover
same_cost = refl

-- without leaves there are no operands' covers and no cuts'
no_more_operands : (leaves : List Operand) (ps : CoverOperandsModel) → leaves ≡ [] → AreOrderly stock leaves ps → ps ≡ no_operands
no_more_operands leaves no_operands e h = refl
no_more_operands leaves (operand_then i p ps) e h = (let at : slice_get leaves i ≡ Some h.0 = h.1 in let none : slice_get leaves i ≡ None = rw e refl in cc)

no_more_cuts : (left : List ExprModel) (cs : CoverCutsModel) → left ≡ [] → AreCut stock left cs → cs ≡ no_cuts
no_more_cuts left no_cuts e h = refl
no_more_cuts left (cut_then p cs) e h = (let more : left ≡ h.0 ∷ h.1 = h.2 in cc)

-- nothing else covers the first tree
only_first : (cover : CoverModel) → IsOrderly stock tested (equal (read InMemory (const 8 3) 16)) true cover → cover ≡ of_first.cover
only_first (use_form zero ps cs) h =
    let form : branch_on (no_difference (read InMemory low_byte 16)) ≡ h.0 = (let at : Some (branch_on (no_difference (read InMemory low_byte 16))) ≡ Some h.0 = h.1 in cc) in
    let none : None ≡ Some h.2 = subst (λ r. taken 1 r tested (equal (read InMemory (const 8 3) 16)) true ≡ Some h.2) (sym form) h.3 in
    cc
only_first (use_form (suc zero) ps cs) h =
    let form : branch_on (equal (read InMemory low_byte 16)) ≡ h.0 = (let at : Some (branch_on (equal (read InMemory low_byte 16))) ≡ Some h.0 = h.1 in cc) in
    let found : record { setting = 3; leaves = [] } ≡ h.2 = (let took : Some (record { setting = 3; leaves = [] }) ≡ Some h.2 = subst (λ r. taken 1 r tested (equal (read InMemory (const 8 3) 16)) true ≡ Some h.2) (sym form) h.3 in cc) in
    let operands = no_more_operands _ ps (ap (λ (f : MatchModel). operands_of f.leaves) (sym found)) h.4 in
    let cuts = no_more_cuts _ cs (ap (λ (f : MatchModel). cuts_of f.leaves) (sym found)) h.5 in
    cc
only_first (use_form (suc (suc k)) ps cs) h = (let none : None ≡ Some h.0 = h.1 in cc)

least : (n m : ℕ) → (1 < 1 + n + m) ⊎ (1 ≡ 1 + n + m)
least zero zero = inr refl
least zero (suc m) = inl (omega arith)
least (suc n) m = inl (omega arith)

-- so no other cover comes before it
before : (which : ℕ) (cover : CoverModel) (tree : ExprModel) → slice_get trees which ≡ Some tree → IsOrderly stock tested tree true cover
    → (1 < cost cover) ⊎ ((1 ≡ cost cover) × ((of_first ≡ record { which = which; cover = cover }) ⊎ ChoiceBefore of_first (record { which = which; cover = cover })))
before zero cover tree used h =
    let is : equal (read InMemory (const 8 3) 16) ≡ tree = (let at : Some (equal (read InMemory (const 8 3) 16)) ≡ Some tree = used in cc) in
    let only = only_first cover (subst (λ t. IsOrderly stock tested t true cover) (sym is) h) in
    inr (ap cost (sym only), inl (ap (λ (p : CoverModel). record { which = 0; cover = p }) (sym only)))
before (suc k) (use_form f ps cs) tree used h = by (least (operands_cost ps) (cuts_cost cs))
  where
    by : (1 < 1 + operands_cost ps + cuts_cost cs) ⊎ (1 ≡ 1 + operands_cost ps + cuts_cost cs)
        → (1 < cost (use_form f ps cs)) ⊎ ((1 ≡ cost (use_form f ps cs)) × ((of_first ≡ record { which = suc k; cover = use_form f ps cs }) ⊎ ChoiceBefore of_first (record { which = suc k; cover = use_form f ps cs })))
    by (inl more) = inl more
    by (inr same) = inr (same, inr (inl (omega arith)))

chosen : IsChosen stock tested trees of_first
chosen = record { covers = first_covers; first = λ other covers. before other.which other.cover covers.tree covers.used covers.orderly }

-- and the second's isn't chosen
not_second : IsChosen stock tested trees of_second → ⊥
not_second c = by (c.first of_first first_covers)
  where
    by : (cost of_second.cover < cost of_first.cover) ⊎ ((cost of_second.cover ≡ cost of_first.cover) × ((of_second ≡ of_first) ⊎ ChoiceBefore of_second of_first)) → ⊥
    by (inl more) = absurd (omega (arith, more))
    by (inr (same, inl one)) = cc
    by (inr (same, inr (inl less))) = absurd (omega (arith, less))
    by (inr (same, inr (inr last))) = cc last.0
