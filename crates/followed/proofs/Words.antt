-- The words of an image as they are coded.
use Rattle.std.proofs.Common.{◌≡◌, ℕ, zero, suc, inl, inr, false, is_some, List, [], ◌∷◌, ◌++◌, map, length, Option, Some, None, refl, ◌∙◌, sym, ap, subst, slice_get, slice_index, arith}
use Rattle.std.specs.List.{AllByRecursion}
use Rattle.std.specs.Option.{option_map}
use Rattle.std.proofs.lemmas.Option.{slice_get_cases, slice_get-map, same_Some}
use Rattle.std.proofs.lemmas.List.{length-map}
use Rattle.rec_bits.proofs.Lists.{pushed_at}
use Rattle.net_model.specs.declared.hardware.Netlist.{Netlist}
use Rattle.net_model.specs.Exprs.{write_at, write}
use Rattle.net_model.specs.Widths.{WordFits}
use Rattle.sym_expr.specs.declared.pool.Node.{Node}
use Rattle.sym_expr.specs.Pools.{Grows, expr_of_id}
use Rattle.sym_expr.proofs.CallerLemmas.{same_expr}
use Rattle.sym_run.specs.declared.moves.Move.{Move}
use Rattle.sym_run.specs.declared.moves.Move.TheVariants.{Keep as Stay, Write as Put, WriteAt as PutAt}
use Rattle.sym_run.specs.declared.walk.Coded.{Coded}
use Rattle.sym_run.specs.Moves.{AreWithin, IsWithin, transfer_of}
use Rattle.sym_run.proofs.Agreeing.{from_moves}
use Rattle.word_moves.specs.declared.moves.StorageMove.{StorageMove}
use Rattle.word_moves.specs.declared.moves.StorageMove.TheVariants.{Keep, Write, WriteAt}
use Rattle.word_moves.specs.declared.moves.WordMoves.{WordMoves}
use Rattle.word_moves.specs.Moves.{IsMoveWithin, IsWordMoves, transfer_in}
use Rattle.followed.specs.Inner.Coded.{AreWordsOf, IsWordOf, move_of}

pub none_of : {A : Type 0} (o : Option A) → is_some o ≡ false → o ≡ None
none_of None e = refl
none_of (Some x) e = absurd (cc e)

unmapped : {A B : Type 0} (f : A → B) (o : Option A) (y : B) → option_map f o ≡ Some y → (x : A) × (o ≡ Some x) × (f x ≡ y)
unmapped f None y e = absurd (cc e)
unmapped f (Some x) y e = (x, refl, same_Some (f x) y e)

same_transfer : (pool : List Node) (x : StorageMove) → transfer_of pool (Some (move_of x)) ≡ transfer_in pool x
same_transfer pool Keep = refl
same_transfer pool (Write value) = refl
same_transfer pool (WriteAt addr value) = refl

same_within : (pool : List Node) (x : StorageMove) → IsMoveWithin pool x → IsWithin (length pool) (move_of x)
same_within pool Keep h = tt
same_within pool (Write value) h = h
same_within pool (WriteAt addr value) h = h

pub word_of : (netlist : Netlist) (word : ℕ) (pool : List Node) (m : WordMoves) → IsWordMoves netlist word pool m → WordFits netlist word → m.clash ≡ None → (moves : List Move) → moves ≡ map move_of m.moves
    → IsWordOf netlist pool word (record { word = word; moves = moves })
word_of netlist word pool m w fits e moves f = record {
  is = record {
    same = refl;
    clean = record { fits = fits; clean = sym w.clash ∙ e };
    moves = from_moves netlist word pool moves (ap length f ∙ length-map m.moves move_of ∙ w.moves.long)
        (λ id move there. let u = un id move there in ap (λ x. transfer_of pool (Some x)) (sym u.2) ∙ same_transfer pool u.0 ∙ w.moves.are id u.0 u.1);
  };
  within = λ id move there. let u = un id move there in subst (IsWithin (length pool)) u.2 (same_within pool u.0 (w.moves.within id u.0 u.1));
}
  where
    un : (id : ℕ) (move : Move) → slice_get moves id ≡ Some move → (x : StorageMove) × (slice_get m.moves id ≡ Some x) × (move_of x ≡ move)
    un id move there = unmapped move_of (slice_get m.moves id) move (sym (slice_get-map move_of m.moves id) ∙ ap (λ xs. slice_get xs id) (sym f) ∙ there)

-- ---- a pool that grows

module _ (old new : List Node) (g : Grows old new) where
  kept_transfer : (move : Move) → IsWithin (length old) move → transfer_of old (Some move) ≡ transfer_of new (Some move)
  kept_transfer Stay h = refl
  kept_transfer (Put value) h = ap write (sym (same_expr old new g value h))
  kept_transfer (PutAt addr value) h =
      ap (λ e. write_at e (expr_of_id old value)) (sym (same_expr old new g addr h.0)) ∙ ap (write_at (expr_of_id new addr)) (sym (same_expr old new g value h.1))

  kept_within : (move : Move) → IsWithin (length old) move → IsWithin (length new) move
  kept_within Stay h = tt
  kept_within (Put value) h = let long = g.longer in omega (arith, h, long)
  kept_within (PutAt addr value) h = let long = g.longer in let a = h.0 in let b = h.1 in (omega (arith, a, long), omega (arith, b, long))

  kept_moves : (moves : List Move) → AreWithin (length old) moves → (id : ℕ) → transfer_of old (slice_get moves id) ≡ transfer_of new (slice_get moves id)
  kept_moves moves h id = elim (slice_get_cases moves id).1 as (λ _. transfer_of old (slice_get moves id) ≡ transfer_of new (slice_get moves id)) [
    | inl w ↦ ap (transfer_of old) w.2 ∙ kept_transfer w.0 (h id w.0 w.2) ∙ ap (transfer_of new) (sym w.2)
    | inr w ↦ ap (transfer_of old) w.1 ∙ ap (transfer_of new) (sym w.1)
  ]

  pub word_kept : (netlist : Netlist) (word : ℕ) (coded : Coded) → IsWordOf netlist old word coded → IsWordOf netlist new word coded
  word_kept netlist word coded h = record {
    is = record { same = h.is.same; clean = h.is.clean; moves = λ id. h.is.moves id ∙ kept_moves coded.moves h.within id };
    within = λ id move e. kept_within move (h.within id move e);
  }

  pub words_more : (netlist : Netlist) (words : List ℕ) (code all : List Coded) (one : Coded) (i : ℕ) → length code ≡ i → AreWordsOf netlist old words code → IsWordOf netlist new (slice_index words i) one
      → all ≡ code ++ one ∷ [] → AreWordsOf netlist new words all
  words_more netlist words code all one i long h w e a coded f =
      elim (pushed_at code one a coded (ap (λ xs. slice_get xs a) (sym e) ∙ f)) as (λ _. IsWordOf netlist new (slice_index words a) coded) [
        | inl v ↦ word_kept netlist (slice_index words a) coded (h a coded v.1)
        | inr v ↦ subst (λ k. IsWordOf netlist new (slice_index words k) coded) (sym (v.0 ∙ long)) (subst (IsWordOf netlist new (slice_index words i)) v.1 w)
      ]

pub all_there : {A : Type 0} (P : A → Type 0) (xs : List A) → AllByRecursion P xs → (k : ℕ) (x : A) → slice_get xs k ≡ Some x → P x
all_there P [] h k x e = absurd (cc e)
all_there P (y ∷ xs) h zero x e = subst P (same_Some y x e) h.0
all_there P (y ∷ xs) h (suc k) x e = all_there P xs h.1 k x e
