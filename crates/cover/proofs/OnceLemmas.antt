-- The order of covers is strict, so a job has at most one chosen cover.
use Rattle.std.proofs.Common.{◌≡◌, ◌⊎◌, ◌<◌, List, sym, subst, arith, inl, inr}
use Rattle.net_model.specs.Exprs.{ExprModel}
use Rattle.form_model.specs.Forms.{DestinationModel}
use Rattle.form_model.specs.CoverModels.{CoverModel, use_form, CoverOperandsModel, no_operands, operand_then, CoverCutsModel, no_cuts, cut_then, cost}
use Rattle.form_model.specs.Covers.{StockModel, IsBefore, AreBefore, CutsBefore, IsSooner, SamePlaces, JobCoverModel, ChoiceBefore, IsChosen, HasNoCover}

sooner_once : (ps qs : CoverOperandsModel) → IsSooner ps qs → IsSooner qs ps → ⊥
sooner_once no_operands qs h k = h
sooner_once (operand_then i p ps) no_operands h k = h
sooner_once (operand_then i p ps) (operand_then j q qs) (inl h) (inl k) = omega (arith, h, k)
sooner_once (operand_then i p ps) (operand_then j q qs) (inl h) (inr k) = let e = k.0 in omega (arith, h, e)
sooner_once (operand_then i p ps) (operand_then j q qs) (inr h) (inl k) = let e = h.0 in omega (arith, k, e)
sooner_once (operand_then i p ps) (operand_then j q qs) (inr h) (inr k) = sooner_once ps qs h.1 k.1

sooner_same : (ps qs : CoverOperandsModel) → IsSooner ps qs → SamePlaces ps qs → ⊥
sooner_same no_operands qs h k = h
sooner_same (operand_then i p ps) no_operands h k = h
sooner_same (operand_then i p ps) (operand_then j q qs) (inl h) k = let e = k.0 in omega (arith, h, e)
sooner_same (operand_then i p ps) (operand_then j q qs) (inr h) k = sooner_same ps qs h.1 k.1

same_back : (ps qs : CoverOperandsModel) → SamePlaces ps qs → SamePlaces qs ps
same_back no_operands no_operands h = tt
same_back no_operands (operand_then j q qs) h = absurd h
same_back (operand_then i p ps) no_operands h = absurd h
same_back (operand_then i p ps) (operand_then j q qs) h = (sym h.0, same_back ps qs h.1)

mutual
  before_once : (p q : CoverModel) → IsBefore p q → IsBefore q p → ⊥
  before_once (use_form k ps cs) (use_form l qs ds) (inl h) (inl h') = omega (arith, h, h')
  before_once (use_form k ps cs) (use_form l qs ds) (inl h) (inr h') = let e = h'.0 in omega (arith, h, e)
  before_once (use_form k ps cs) (use_form l qs ds) (inr h) (inl h') = let e = h.0 in omega (arith, h', e)
  before_once (use_form k ps cs) (use_form l qs ds) (inr (e, inl s)) (inr (e', inl s')) = sooner_once ps qs s s'
  before_once (use_form k ps cs) (use_form l qs ds) (inr (e, inl s)) (inr (e', inr (same, x))) = sooner_same ps qs s (same_back qs ps same)
  before_once (use_form k ps cs) (use_form l qs ds) (inr (e, inr (same, x))) (inr (e', inl s')) = sooner_same qs ps s' (same_back ps qs same)
  before_once (use_form k ps cs) (use_form l qs ds) (inr (e, inr (same, inl b))) (inr (e', inr (same', inl b'))) = all_before_once ps qs b b'
  before_once (use_form k ps cs) (use_form l qs ds) (inr (e, inr (same, inl b))) (inr (e', inr (same', inr (eq, c)))) =
      let b' = subst (λ x. AreBefore ps x) eq b in all_before_once ps ps b' b'
  before_once (use_form k ps cs) (use_form l qs ds) (inr (e, inr (same, inr (eq, c)))) (inr (e', inr (same', inl b))) =
      let b' = subst (λ x. AreBefore x ps) (sym eq) b in all_before_once ps ps b' b'
  before_once (use_form k ps cs) (use_form l qs ds) (inr (e, inr (same, inr (eq, c)))) (inr (e', inr (same', inr (eq', c')))) = cuts_before_once cs ds c c'

  all_before_once : (ps qs : CoverOperandsModel) → AreBefore ps qs → AreBefore qs ps → ⊥
  all_before_once no_operands qs h k = h
  all_before_once (operand_then i p ps) no_operands h k = h
  all_before_once (operand_then i p ps) (operand_then j q qs) (inl h) (inl k) = before_once p q h k
  all_before_once (operand_then i p ps) (operand_then j q qs) (inl h) (inr k) = let h' = subst (λ x. IsBefore p x) k.0 h in before_once p p h' h'
  all_before_once (operand_then i p ps) (operand_then j q qs) (inr h) (inl k) = let k' = subst (λ x. IsBefore x p) (sym h.0) k in before_once p p k' k'
  all_before_once (operand_then i p ps) (operand_then j q qs) (inr h) (inr k) = all_before_once ps qs h.1 k.1

  cuts_before_once : (cs ds : CoverCutsModel) → CutsBefore cs ds → CutsBefore ds cs → ⊥
  cuts_before_once no_cuts ds h k = h
  cuts_before_once (cut_then p cs) no_cuts h k = h
  cuts_before_once (cut_then p cs) (cut_then q ds) (inl h) (inl k) = before_once p q h k
  cuts_before_once (cut_then p cs) (cut_then q ds) (inl h) (inr k) = let h' = subst (λ x. IsBefore p x) k.0 h in before_once p p h' h'
  cuts_before_once (cut_then p cs) (cut_then q ds) (inr h) (inl k) = let k' = subst (λ x. IsBefore x p) (sym h.0) k in before_once p p k' k'
  cuts_before_once (cut_then p cs) (cut_then q ds) (inr h) (inr k) = cuts_before_once cs ds h.1 k.1

choice_once : (a b : JobCoverModel) → ChoiceBefore a b → ChoiceBefore b a → ⊥
choice_once a b (inl h) (inl k) = omega (arith, h, k)
choice_once a b (inl h) (inr k) = let e = k.0 in omega (arith, h, e)
choice_once a b (inr h) (inl k) = let e = h.0 in omega (arith, k, e)
choice_once a b (inr h) (inr k) = before_once a.cover b.cover h.1 k.1

pub chosen_once : (stock : StockModel) (destination : DestinationModel) (trees : List ExprModel) (a b : JobCoverModel) → IsChosen stock destination trees a → IsChosen stock destination trees b → a ≡ b
chosen_once stock destination trees a b x y = go (x.first b y.covers) (y.first a x.covers)
  where
    go : (cost a.cover < cost b.cover) ⊎ ((cost a.cover ≡ cost b.cover) × ((a ≡ b) ⊎ ChoiceBefore a b)) → (cost b.cover < cost a.cover) ⊎ ((cost b.cover ≡ cost a.cover) × ((b ≡ a) ⊎ ChoiceBefore b a)) → a ≡ b
    go (inl h) (inl k) = absurd (omega (arith, h, k))
    go (inl h) (inr (e, k)) = absurd (omega (arith, h, e))
    go (inr (e, inl same)) k = same
    go (inr (e, inr h)) (inl k) = absurd (omega (arith, k, e))
    go (inr (e, inr h)) (inr (e', inl same)) = sym same
    go (inr (e, inr h)) (inr (e', inr k)) = absurd (choice_once a b h k)

pub chosen_covers : (stock : StockModel) (destination : DestinationModel) (trees : List ExprModel) (a : JobCoverModel) → IsChosen stock destination trees a → HasNoCover stock destination trees → ⊥
chosen_covers stock destination trees a x none = none.none a x.covers
