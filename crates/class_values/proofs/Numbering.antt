-- Numbers of classes, by facts and by listed operators over numbers.
use Rattle.std.proofs.Common.{◌≡◌, ◌==◌, inl, inr, ℕ, ◌-◌, ◌^◌, ◌<◌, List, [], ◌∷◌, Option, ◌∙◌, sym, ap, subst, slice_index, arith}
use Rattle.std.proofs.lemmas.Bool.{cases_eq, ne_eqb}
use Rattle.std.specs.Prelude.{IfSome}
use Rattle.rec_bits.specs.declared.operator.Op1.{Op1}
use Rattle.rec_bits.specs.declared.operator.Op1.TheVariants.{Not}
use Rattle.rec_bits.specs.declared.operator.Op2.{Op2}
use Rattle.rec_bits.specs.declared.operator.Op2.TheVariants.{Eq}
use Rattle.rec_bits.specs.Operators.{apply1_of, apply2_of, bit_of, sext_of, slice_of}
use Rattle.net_model.specs.Meaning.{mean}
use Rattle.sym_expr.specs.declared.pool.Node.{Node}
use Rattle.sym_expr.specs.declared.pool.Node.TheVariants.{Bin, Sext, Slice, Un, Zext}
use Rattle.tree_laws.specs.declared.classes.Classes.{Classes}
use Rattle.tree_laws.specs.Meanings.{state_of}
use Rattle.tree_laws.specs.Classes.{TableMeans, class_count, expr_in, width_in}
use Rattle.class_values.specs.declared.facts.Fact.{Fact}
use Rattle.class_values.specs.Values.{AreFacts, AreSame, HasNumber}
use Rattle.class_values.specs.Inner.Numbers.{IsListed, IsTold}
use Rattle.class_values.proofs.Made.{if_known, same_holds}

one_bit : (x y : ℕ) → bit_of (x == y) ≡ 1 → x ≡ y
one_bit x y e =
    elim (cases_eq x y) as (λ _. x ≡ y) [
      | inl same ↦ same
      | inr differ ↦ (let z : bit_of (x == y) ≡ 0 = ap bit_of (ne_eqb x y differ) in absurd (omega (arith, e, z)))
    ]

module _ (t : Classes) where
  listed_value : (node : Node) (class : ℕ) → IsListed t node class → (memory regs : List ℕ) → TableMeans t memory regs → slice_index regs class ≡ mean (expr_in t node) (state_of memory regs) 0
  listed_value node class l memory regs m = l.same.value memory regs m ∙ sym (l.stands memory regs m).value

  -- ---- by facts

  pub told_as : (fact : Fact) (a class n : ℕ) → AreSame t class a → IsTold t fact a n → IsTold t fact class n
  told_as fact a class n same h memory holds = same_holds t class a same memory n (h memory holds)

  pub told_itself : (fact : Fact) (class : ℕ) → AreSame t class fact.class → IsTold t fact class fact.number
  told_itself fact class same memory holds = same_holds t class fact.class same memory fact.number holds

  pub equation_told : (fact : Fact) (a b n : ℕ) → a < class_count t → fact.number ≡ 1 → HasNumber t [] b n → IsListed t (Bin Eq a b) fact.class → IsTold t fact a n
  equation_told fact a b n below e number l memory holds = record {
    below = below;
    value = λ regs m.
        (let bit : bit_of (slice_index regs a == slice_index regs b) ≡ 1 = sym (listed_value (Bin Eq a b) fact.class l memory regs m) ∙ holds.value regs m ∙ e in
        one_bit (slice_index regs a) (slice_index regs b) bit ∙ (number memory tt).value regs m);
  }

  pub denial_told : (fact : Fact) (a n : ℕ) → a < class_count t → width_in t a ≡ 1 → n ≡ 1 - fact.number → IsListed t (Un Not a) fact.class → IsTold t fact a n
  denial_told fact a n below wide e l memory holds = record {
    below = below;
    value = λ regs m.
        (let x = slice_index regs a in
        let less : x < 2 = subst (λ w. x < 2 ^ w) wide (m.values a below) in
        let value : 1 - x ≡ fact.number = (λ i. apply1_of Not (sym wide i) x) ∙ sym (listed_value (Un Not a) fact.class l memory regs m) ∙ holds.value regs m in
        omega (arith, less, value, e));
  }

  pub told_over : (fact operand : Fact) (class n : ℕ) → IsTold t fact operand.class operand.number → IsTold t operand class n → IsTold t fact class n
  told_over fact operand class n f h memory holds = h memory (f memory holds)

  pub told_first : (facts : List Fact) (fact : Fact) (rest : List Fact) (class : ℕ) (o : Option ℕ) → facts ≡ fact ∷ rest → IfSome o (IsTold t fact class) → IfSome o (HasNumber t facts class)
  told_first facts fact rest class o e h =
      if_known o _ _ (λ n k. subst (λ (fs : List Fact). HasNumber t fs class n) (sym e) (λ memory are. k memory are.0)) h

  pub told_later : (facts : List Fact) (fact : Fact) (rest : List Fact) (class : ℕ) (o : Option ℕ) → facts ≡ fact ∷ rest → IfSome o (HasNumber t rest class) → IfSome o (HasNumber t facts class)
  told_later facts fact rest class o e h =
      if_known o _ _ (λ n k. subst (λ (fs : List Fact). HasNumber t fs class n) (sym e) (λ memory are. k memory are.1)) h

  -- ---- by operators

  module _ (facts : List Fact) where
    listed_number : (node : Node) (class n : ℕ) → IsListed t node class
        → ((memory regs : List ℕ) → AreFacts t memory facts → TableMeans t memory regs → mean (expr_in t node) (state_of memory regs) 0 ≡ n) → HasNumber t facts class n
    listed_number node class n l f memory are = record {
      below = l.same.first;
      value = λ regs m. listed_value node class l memory regs m ∙ f memory regs are m;
    }

    pub un_number : (op : Op1) (a x n class : ℕ) → IsListed t (Un op a) class → HasNumber t facts a x → n ≡ apply1_of op (width_in t a) x → HasNumber t facts class n
    un_number op a x n class l h e =
        listed_number (Un op a) class n l (λ memory regs are m. ap (apply1_of op (width_in t a)) ((h memory are).value regs m) ∙ sym e)

    pub bin_number : (op : Op2) (a b x y n class : ℕ) → IsListed t (Bin op a b) class → HasNumber t facts a x → HasNumber t facts b y → n ≡ apply2_of op (width_in t a) x y → HasNumber t facts class n
    bin_number op a b x y n class l h k e =
        listed_number (Bin op a b) class n l
        (λ memory regs are m. (let p = (h memory are).value regs m in let q = (k memory are).value regs m in (λ i. apply2_of op (width_in t a) (p i) (q i)) ∙ sym e))

    pub slice_number : (a x hi lo n class : ℕ) → IsListed t (Slice a hi lo) class → HasNumber t facts a x → n ≡ slice_of x hi lo → HasNumber t facts class n
    slice_number a x hi lo n class l h e =
        listed_number (Slice a hi lo) class n l (λ memory regs are m. ap (λ v. slice_of v hi lo) ((h memory are).value regs m) ∙ sym e)

    pub zext_number : (a x w class : ℕ) → IsListed t (Zext a w) class → HasNumber t facts a x → HasNumber t facts class x
    zext_number a x w class l h = listed_number (Zext a w) class x l (λ memory regs are m. (h memory are).value regs m)

    pub sext_number : (a x w n class : ℕ) → IsListed t (Sext a w) class → HasNumber t facts a x → n ≡ sext_of x (width_in t a) w → HasNumber t facts class n
    sext_number a x w n class l h e =
        listed_number (Sext a w) class n l (λ memory regs are m. ap (λ v. sext_of v (width_in t a) w) ((h memory are).value regs m) ∙ sym e)
