-- The cells that the steps of an orderly cover fill are the numbers from the first on, in their
-- order.
use Rattle.std.proofs.Common.{◌≡◌, ℕ, zero, suc, ◌+◌, ◌-◌, ◌<◌, Bool, false, List, [], ◌∷◌, ◌++◌, length, map, drop, Option, Some, refl, sym, ap, ◌∙◌, subst, arith}
use Rattle.std.specs.Prelude.{slice_get, remove, insert}
use Rattle.std.specs.List.{AllZip, range_with_len}
use Rattle.std.proofs.lemmas.List.FromFn.{length-range_with_len}
use Rattle.net_model.specs.Exprs.{ExprModel}
use Rattle.form_model.specs.Forms.{FormModel, DestinationModel, temporary}
use Rattle.form_model.specs.Matches.{LeafModel, operand, cut, MatchModel, taken}
use Rattle.form_model.specs.CoverModels.{CoverModel, use_form, CoverOperandsModel, no_operands, operand_then, CoverCutsModel, no_cuts, cut_then}
use Rattle.form_model.specs.Covers.{StockModel, Operand, home_destination, operands_of, cuts_of, IsOrderly, AreOrderly, AreCut}
use Rattle.form_model.specs.Steps.{OperandCellsModel, CutCellsModel, cut_count, operand_counts, cut_counts, operand_cells, cut_cells, cover_operand_cells, cover_cut_cells, operand_cells_or_none, form_or_none, match_or_none, form_at, match_at}
use Rattle.spill.specs.Filled.{woven_cells, filled_cells, filled_in_operands, filled_by_cuts}
use Rattle.form_model.proofs.Zips.{zip_put, zip_at, map-remove, get_mapped, total}
use Rattle.form_model.proofs.Counts.{operands_long, cuts_long, operands_total, cuts_total}

pub range_joined : (a m n : ℕ) → range_with_len a m ++ range_with_len (a + m) n ≡ range_with_len a (m + n)
range_joined a zero n = ap (λ b. range_with_len b n) (omega arith) ∙ ap (range_with_len a) (omega arith)
range_joined a (suc m) n =
    let h : range_with_len (a + 1) m ++ range_with_len (a + suc m) n ≡ range_with_len (a + 1) (m + n) =
    subst (λ b. range_with_len (a + 1) m ++ range_with_len b n ≡ range_with_len (a + 1) (m + n)) (omega arith) (range_joined (a + 1) m n) in
    let e : suc (m + n) ≡ suc m + n = omega arith in
    ap (λ (z : List ℕ). a ∷ z) h ∙ ap (range_with_len a) e

-- ---- the trees and the counts of a form's leaves

operands_same : (leaves : List LeafModel) (ks ls : List ℕ) (n : ℕ) → map (λ (c : OperandCellsModel). c.operand) (operand_cells leaves ks ls n) ≡ operands_of leaves
operands_same [] ks ls n = refl
operands_same (operand home tree whole ∷ leaves) ks ls n = ap (λ (z : List Operand). record { home = home; tree = tree; whole = whole } ∷ z) (operands_same leaves (drop 1 ks) ls _)
operands_same (cut shape tree ∷ leaves) ks ls n = operands_same leaves ks (drop 1 ls) _

cuts_same : (leaves : List LeafModel) (ks ls : List ℕ) (n : ℕ) → map (λ (c : CutCellsModel). c.tree) (cut_cells leaves ks ls n) ≡ cuts_of leaves
cuts_same [] ks ls n = refl
cuts_same (operand home tree whole ∷ leaves) ks ls n = cuts_same leaves (drop 1 ks) ls _
cuts_same (cut shape tree ∷ leaves) ks ls n = ap (λ (z : List ExprModel). tree ∷ z) (cuts_same leaves ks (drop 1 ls) _)

-- so many cells are inside an operand, and inside a cut
abbrev HasInside : OperandCellsModel → ℕ → Type 0
HasInside c k = c.past ≡ c.first + k

abbrev CutHasInside : CutCellsModel → ℕ → Type 0
CutHasInside c k = c.cell ≡ c.first + k

operands_inside : (leaves : List LeafModel) (ks ls : List ℕ) (n : ℕ) → length ks ≡ length (operands_of leaves) → AllZip HasInside (operand_cells leaves ks ls n) ks
operands_inside [] [] ls n p = tt
operands_inside [] (k ∷ ks) ls n p = absurd (omega (arith, p))
operands_inside (operand home tree whole ∷ leaves) [] ls n p = absurd (omega (arith, p))
operands_inside (operand home tree whole ∷ leaves) (k ∷ ks) ls n p = (refl, operands_inside leaves ks ls (n + k) (omega (arith, p)))
operands_inside (cut shape tree ∷ leaves) ks ls n p = operands_inside leaves ks (drop 1 ls) _ p

cuts_inside : (leaves : List LeafModel) (ks ls : List ℕ) (n : ℕ) → length ls ≡ length (cuts_of leaves) → AllZip CutHasInside (cut_cells leaves ks ls n) ls
cuts_inside [] ks [] n p = tt
cuts_inside [] ks (l ∷ ls) n p = absurd (omega (arith, p))
cuts_inside (operand home tree whole ∷ leaves) ks ls n p = cuts_inside leaves (drop 1 ks) ls _ p
cuts_inside (cut shape tree ∷ leaves) ks [] n p = absurd (omega (arith, p))
cuts_inside (cut shape tree ∷ leaves) ks (l ∷ ls) n p = (refl, cuts_inside leaves ks ls (n + l + 1) (omega (arith, p)))

-- ---- cells in their order

abbrev IsFilled : OperandCellsModel → List ℕ → Type 0
IsFilled c cells = cells ≡ range_with_len c.first (c.past - c.first)

abbrev CutIsFilled : CutCellsModel → List ℕ → Type 0
CutIsFilled c cells = cells ≡ range_with_len c.first (c.cell - c.first + 1)

woven_in_order : (leaves : List LeafModel) (ks ls : List ℕ) (n : ℕ) (xs ys : List (List ℕ)) → length ks ≡ length (operands_of leaves) → length ls ≡ length (cuts_of leaves)
    → AllZip IsFilled (operand_cells leaves ks ls n) xs → AllZip CutIsFilled (cut_cells leaves ks ls n) ys
    → woven_cells leaves xs ys ≡ range_with_len n (total ks + (total ls + length ls))
woven_in_order [] [] [] n xs ys p q h g = refl
woven_in_order [] (k ∷ ks) ls n xs ys p q h g = absurd (omega (arith, p))
woven_in_order [] [] (l ∷ ls) n xs ys p q h g = absurd (omega (arith, q))
woven_in_order (operand home tree whole ∷ leaves) [] ls n xs ys p q h g = absurd (omega (arith, p))
woven_in_order (operand home tree whole ∷ leaves) (k ∷ ks) ls n [] ys p q h g = absurd h
woven_in_order (operand home tree whole ∷ leaves) (k ∷ ks) ls n (x ∷ xs) ys p q h g =
    let here : x ≡ range_with_len n k = h.0 ∙ ap (range_with_len n) (omega arith) in
    let later : woven_cells leaves xs ys ≡ range_with_len (n + k) (total ks + (total ls + length ls)) = woven_in_order leaves ks ls (n + k) xs ys (omega (arith, p)) q h.1 g in
    ap (λ (z : List ℕ). z ++ woven_cells leaves xs ys) here ∙ ap (λ (z : List ℕ). range_with_len n k ++ z) later
    ∙ range_joined n k (total ks + (total ls + length ls)) ∙ ap (range_with_len n) (omega arith)
woven_in_order (cut shape tree ∷ leaves) ks [] n xs ys p q h g = absurd (omega (arith, q))
woven_in_order (cut shape tree ∷ leaves) ks (l ∷ ls) n xs [] p q h g = absurd g
woven_in_order (cut shape tree ∷ leaves) ks (l ∷ ls) n xs (y ∷ ys) p q h g =
    let here : y ≡ range_with_len n (l + 1) = g.0 ∙ ap (range_with_len n) (omega arith) in
    let later : woven_cells leaves xs ys ≡ range_with_len (n + (l + 1)) (total ks + (total ls + length ls)) =
    subst (λ m. woven_cells leaves xs ys ≡ range_with_len m (total ks + (total ls + length ls))) (omega arith) (woven_in_order leaves ks ls (n + l + 1) xs ys p (omega (arith, q)) h g.1) in
    ap (λ (z : List ℕ). z ++ woven_cells leaves xs ys) here ∙ ap (λ (z : List ℕ). range_with_len n (l + 1) ++ z) later
    ∙ range_joined n (l + 1) (total ks + (total ls + length ls)) ∙ ap (range_with_len n) (omega arith)

-- ---- the form at the root

form_is : (stock : StockModel) (k : ℕ) (form : FormModel) → slice_get stock.forms k ≡ Some form → form_at stock k ≡ form
form_is stock k form e = ap form_or_none e

match_is : (stock : StockModel) (k : ℕ) (form : FormModel) (destination : DestinationModel) (tree : ExprModel) (whole : Bool) (found : MatchModel) → slice_get stock.forms k ≡ Some form → taken stock.temps form destination tree whole ≡ Some found
    → match_at stock k destination tree whole ≡ found
match_is stock k form destination tree whole found e f =
    ap match_or_none (ap (λ r. taken stock.temps r destination tree whole) (form_is stock k form e) ∙ f)

module _ (stock : StockModel) where
  mutual
    pub in_order : (p : CoverModel) (n : ℕ) (destination : DestinationModel) (tree : ExprModel) (whole : Bool) → IsOrderly stock destination tree whole p
        → filled_cells stock p n destination tree whole ≡ range_with_len n (cut_count p)
    in_order (use_form k ps cs) n destination tree whole (form, listed, found, is, orderly, are_cut) =
        let ks : List ℕ = operand_counts ps in
        let ls : List ℕ = cut_counts cs in
        let p = operands_long stock ps (operands_of found.leaves) orderly in
        let q = cuts_long stock cs (cuts_of found.leaves) are_cut in
        let counts : total ks + (total ls + length ls) ≡ cut_count (use_form k ps cs) = (let a = operands_total ps in let b = cuts_total cs in omega (arith, a, b)) in
        subst (λ (f : MatchModel). woven_cells f.leaves (filled_in_operands stock ps (cover_operand_cells f.leaves ps cs n)) (filled_by_cuts stock cs (cover_cut_cells f.leaves ps cs n)) ≡ range_with_len n (cut_count (use_form k ps cs)))
        (sym (match_is stock k form destination tree whole found listed is))
        (woven_in_order found.leaves ks ls n _ _ p q
        (operands_in_order ps (operand_cells found.leaves ks ls n) (subst (λ l. AreOrderly stock l ps) (sym (operands_same found.leaves ks ls n)) orderly) (operands_inside found.leaves ks ls n p))
        (cuts_in_order cs (cut_cells found.leaves ks ls n) (subst (λ l. AreCut stock l cs) (sym (cuts_same found.leaves ks ls n)) are_cut) (cuts_inside found.leaves ks ls n q))
        ∙ ap (range_with_len n) counts)

    operands_in_order : (ps : CoverOperandsModel) (left : List OperandCellsModel) → AreOrderly stock (map (λ (c : OperandCellsModel). c.operand) left) ps → AllZip HasInside left (operand_counts ps)
        → AllZip IsFilled left (filled_in_operands stock ps left)
    operands_in_order no_operands [] c h = tt
    operands_in_order no_operands (x ∷ left) c h = absurd (cc)
    operands_in_order (operand_then i p ps) left (o, get, orderly, apart, rest) h =
        let (x, got, same) = get_mapped (λ (c : OperandCellsModel). c.operand) left i o get in
        let (inside, others) = zip_at HasInside left (operand_counts ps) i x (cut_count p) got h in
        let mine : IsOrderly stock (home_destination x.operand.home) x.operand.tree x.operand.whole p =
        subst (λ (y : Operand). IsOrderly stock (home_destination y.home) y.tree y.whole p) (sym same) orderly in
        let is : filled_cells stock p x.first (home_destination x.operand.home) x.operand.tree x.operand.whole ≡ range_with_len x.first (x.past - x.first) =
        in_order p x.first (home_destination x.operand.home) x.operand.tree x.operand.whole mine ∙ ap (range_with_len x.first) (omega (arith, inside)) in
        subst
        (λ (g : Option OperandCellsModel). AllZip IsFilled left (insert (filled_in_operands stock ps (remove left i)) i
        (filled_cells stock p (operand_cells_or_none g).first (home_destination (operand_cells_or_none g).operand.home) (operand_cells_or_none g).operand.tree (operand_cells_or_none g).operand.whole))) (sym got)
        (zip_put IsFilled left (filled_in_operands stock ps (remove left i)) i x _ got is
        (operands_in_order ps (remove left i) (subst (λ l. AreOrderly stock l ps) (sym (map-remove (λ (c : OperandCellsModel). c.operand) left i)) rest) others))

    cuts_in_order : (cs : CoverCutsModel) (cuts : List CutCellsModel) → AreCut stock (map (λ (c : CutCellsModel). c.tree) cuts) cs → AllZip CutHasInside cuts (cut_counts cs)
        → AllZip CutIsFilled cuts (filled_by_cuts stock cs cuts)
    cuts_in_order no_cuts [] c h = tt
    cuts_in_order no_cuts (x ∷ cuts) c h = absurd (cc)
    cuts_in_order (cut_then p cs) [] (tree, later, e, orderly, enough, rest) h = absurd (cc)
    cuts_in_order (cut_then p cs) (x ∷ cuts) (tree, later, e, orderly, enough, rest) h =
        let same : tree ≡ x.tree = cc in
        let same' : later ≡ map (λ (c : CutCellsModel). c.tree) cuts = cc in
        let mine : IsOrderly stock temporary x.tree false p = subst (λ t. IsOrderly stock temporary t false p) same orderly in
        let inside = h.0 in
        let is : filled_cells stock p x.first temporary x.tree false ≡ range_with_len x.first (cut_count p) = in_order p x.first temporary x.tree false mine in (
          ap (λ (z : List ℕ). z ++ (x.cell ∷ [])) is ∙ ap (λ c. range_with_len x.first (cut_count p) ++ (c ∷ [])) inside
              ∙ range_joined x.first (cut_count p) 1 ∙ ap (range_with_len x.first) (omega (arith, inside)),
          cuts_in_order cs cuts (subst (λ l. AreCut stock l cs) same' rest) h.1,
        )

-- ---- numbers in their order

range_get : (a n i m : ℕ) → slice_get (range_with_len a n) i ≡ Some m → (m ≡ a + i) × (i < n)
range_get a zero i m h = absurd (cc)
range_get a (suc n) zero m h = (let e : a ≡ m = cc in omega (arith, e), omega arith)
range_get a (suc n) (suc i) m h = let r = range_get (a + 1) n i m h in let e = r.0 in let l = r.1 in (omega (arith, e), omega (arith, l))

pub filled_many : (stock : StockModel) (cover : CoverModel) (destination : DestinationModel) (tree : ExprModel) (whole : Bool) → IsOrderly stock destination tree whole cover
    → length (filled_cells stock cover 0 destination tree whole) ≡ cut_count cover
filled_many stock cover destination tree whole h = ap length (in_order stock cover 0 destination tree whole h) ∙ length-range_with_len 0 (cut_count cover)

filled_get : (stock : StockModel) (cover : CoverModel) (destination : DestinationModel) (tree : ExprModel) (whole : Bool) (i cell : ℕ) → IsOrderly stock destination tree whole cover
    → slice_get (filled_cells stock cover 0 destination tree whole) i ≡ Some cell → (cell ≡ i) × (i < cut_count cover)
filled_get stock cover destination tree whole i cell h e =
    let r = range_get 0 (cut_count cover) i cell (subst (λ l. slice_get l i ≡ Some cell) (in_order stock cover 0 destination tree whole h) e) in
    let same = r.0 in
    (omega (arith, same), r.1)

pub filled_below : (stock : StockModel) (cover : CoverModel) (destination : DestinationModel) (tree : ExprModel) (whole : Bool) (i cell : ℕ) → IsOrderly stock destination tree whole cover
    → slice_get (filled_cells stock cover 0 destination tree whole) i ≡ Some cell → cell < cut_count cover
filled_below stock cover destination tree whole i cell h e =
    let r = filled_get stock cover destination tree whole i cell h e in let s = r.0 in let l = r.1 in omega (arith, s, l)

pub filled_once : (stock : StockModel) (cover : CoverModel) (destination : DestinationModel) (tree : ExprModel) (whole : Bool) (i j cell : ℕ) → IsOrderly stock destination tree whole cover
    → slice_get (filled_cells stock cover 0 destination tree whole) i ≡ Some cell → slice_get (filled_cells stock cover 0 destination tree whole) j ≡ Some cell → i ≡ j
filled_once stock cover destination tree whole i j cell h e f =
    sym (filled_get stock cover destination tree whole i cell h e).0 ∙ (filled_get stock cover destination tree whole j cell h f).0
