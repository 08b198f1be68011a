-- Listed nodes are of the values of their operators.
use Rattle.std.proofs.Common.{◌≡◌, ℕ, ◌<◌, List, [], ◌∷◌, length, get_or, zero, suc, Option, Some, None, Result, Ok, Err, ◌∙◌, sym, ap, subst, slice_index, arith}
use Rattle.std.specs.Prelude.{IfOk, IfSome}
use Rattle.rec_bits.specs.Operators.{slice_of, sext_of}
use Rattle.sym_expr.specs.declared.pool.Node.TheVariants.{Const, Slice, Zext, Sext}
use Rattle.tree_laws.specs.declared.classes.Classes.{Classes}
use Rattle.tree_laws.specs.Classes.{Grows, NodeStands, class_count, head_in}
use Rattle.class_values.specs.declared.facts.Fact.{Fact}
use Rattle.class_values.specs.Values.{AreFacts, AreSame, HasNumber, Holds, IsNumber}
use Rattle.class_values.specs.Operators.{IsMade, IsMadeOf, IsSext, IsSlice, IsZext}
use Rattle.class_values.proofs.Grown.{stands_below, stands_width}
use Rattle.class_values.proofs.Keeping.{holds_kept}

-- a fact of an answer by another
pub if_found : {E : Type 0} (r : Result (Option ℕ) E) (P Q : ℕ → Type 0) → ((c : ℕ) → P c → Q c) → IfOk r (λ found. IfSome found P) → IfOk r (λ found. IfSome found Q)
if_found (Err e) P Q f h = tt
if_found (Ok None) P Q f h = tt
if_found (Ok (Some c)) P Q f h = f c h

pub both_found : {E : Type 0} (r : Result (Option ℕ) E) (P R Q : ℕ → Type 0) → ((c : ℕ) → P c → R c → Q c) → IfOk r (λ found. IfSome found P) → IfOk r (λ found. IfSome found R) → IfOk r (λ found. IfSome found Q)
both_found (Err e) P R Q f h k = tt
both_found (Ok None) P R Q f h k = tt
both_found (Ok (Some c)) P R Q f h k = f c h k

-- ---- numbers

pub number_made : (t : Classes) (w n c : ℕ) → NodeStands t (Const w n) c → IsNumber t w n c
number_made t w n c s memory = record {
  holds = record { below = stands_below t (Const w n) c s; value = λ regs m. sym (s memory regs m).value };
  width = sym (stands_width t (Const w n) c s);
}

pub same_heads : (t : Classes) (a b : ℕ) → a < class_count t → b < class_count t → head_in t a ≡ head_in t b → AreSame t a b
same_heads t a b p q e = record {
  first = p;
  second = q;
  value = λ memory regs m. sym (m.heads a p).value ∙ ap (slice_index regs) e ∙ (m.heads b q).value;
}

pub same_holds : (t : Classes) (a b : ℕ) → AreSame t a b → (memory : List ℕ) (n : ℕ) → Holds t memory b n → Holds t memory a n
same_holds t a b s memory n h = record { below = s.first; value = λ regs m. s.value memory regs m ∙ h.value regs m }

pub moved_number : (t : Classes) (w v n m c : ℕ) → w ≡ v → n ≡ m → IsNumber t w n c → IsNumber t v m c
moved_number t w v n m c e f is = subst (λ x. IsNumber t x m c) e (subst (λ y. IsNumber t w y c) f is)

pub fact_at : (t : Classes) (memory : List ℕ) (facts : List Fact) (k : ℕ) (d : Fact) → k < length facts → AreFacts t memory facts → Holds t memory (get_or facts k d).class (get_or facts k d).number
fact_at t memory [] k d l h = absurd (omega arith)
fact_at t memory (fact ∷ facts) zero d l h = h.0
fact_at t memory (fact ∷ facts) (suc k) d l h = fact_at t memory facts k d (omega arith) h.1

-- ---- operators over classes

module _ (old new : Classes) (g : Grows old new) (facts : List Fact) where
  pub slice_made : (a hi lo c : ℕ) → NodeStands new (Slice a hi lo) c → IsSlice old new facts a hi lo c
  slice_made a hi lo c s memory x f h = record {
    holds = record {
      below = stands_below new (Slice a hi lo) c s;
      value = λ regs m. sym (s memory regs m).value ∙ ap (λ n. slice_of n hi lo) ((holds_kept old new g memory a x h).value regs m);
    };
    width = sym (stands_width new (Slice a hi lo) c s);
  }

  pub zext_made : (a w c : ℕ) → NodeStands new (Zext a w) c → IsZext old new facts a w c
  zext_made a w c s memory x f h = record {
    holds = record {
      below = stands_below new (Zext a w) c s;
      value = λ regs m. sym (s memory regs m).value ∙ (holds_kept old new g memory a x h).value regs m;
    };
    width = sym (stands_width new (Zext a w) c s);
  }

  pub sext_made : (a w c : ℕ) → NodeStands new (Sext a w) c → IsSext old new facts a w c
  sext_made a w c s memory x f h =
      let k = g.widths a h.below in
      record {
        holds = record {
          below = stands_below new (Sext a w) c s;
          value = λ regs m. (let e = (holds_kept old new g memory a x h).value regs m in sym (s memory regs m).value ∙ (λ i. sext_of (e i) (k i) w));
        };
        width = sym (stands_width new (Sext a w) c s);
      }

  -- ---- operators over numbers

  pub folded : (a w n c : ℕ) (f : ℕ → ℕ) → HasNumber old facts a n → IsNumber new w (f n) c → IsMade old new facts a w f c
  folded a w n c f number is memory x are h = record {
    holds = record {
      below = (is memory).holds.below;
      value = λ regs m. (let p = (holds_kept old new g memory a n (number memory are)).value regs m in let q = (holds_kept old new g memory a x h).value regs m in
          (is memory).holds.value regs m ∙ ap f (sym p ∙ q));
    };
    width = (is memory).width;
  }

  pub folded_two : (a b w n k c : ℕ) (f : ℕ → ℕ → ℕ) → HasNumber old facts a n → HasNumber old facts b k → IsNumber new w (f n k) c → IsMadeOf old new facts a b w f c
  folded_two a b w n k c f left right is memory x y are h j = record {
    holds = record {
      below = (is memory).holds.below;
      value = λ regs m.
          (let p = sym ((holds_kept old new g memory a n (left memory are)).value regs m) ∙ (holds_kept old new g memory a x h).value regs m in
          let q = sym ((holds_kept old new g memory b k (right memory are)).value regs m) ∙ (holds_kept old new g memory b y j).value regs m in
          (is memory).holds.value regs m ∙ (λ i. f (p i) (q i)));
    };
    width = (is memory).width;
  }

-- what holds of an option, at its value
pub some_of : (P : ℕ → Type 0) (o : Option ℕ) (x : ℕ) → o ≡ Some x → IfSome o P → P x
some_of P o x e h = subst (λ p. IfSome p P) e h

-- a fact of an option by another
pub if_known : (o : Option ℕ) (P Q : ℕ → Type 0) → ((c : ℕ) → P c → Q c) → IfSome o P → IfSome o Q
if_known None P Q f h = tt
if_known (Some c) P Q f h = f c h
