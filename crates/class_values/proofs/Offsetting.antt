-- Classes as sums with a number.
use Rattle.std.proofs.Common.{◌≡◌, ℕ, ◌+◌, ◌%◌, ◌^◌, ◌<◌, List, ◌∙◌, sym, ap, subst, slice_index, arith}
use Rattle.std.proofs.Math.Nat.{mod-eq_of_lt}
use Rattle.std.proofs.lemmas.Nat.{pow_pos}
use Rattle.rec_bits.specs.declared.operator.Op2.TheVariants.{Add}
use Rattle.rec_bits.specs.Operators.{apply2_of}
use Rattle.tree_laws.specs.declared.classes.Classes.{Classes}
use Rattle.tree_laws.specs.Classes.{class_count, width_in}
use Rattle.class_values.specs.declared.facts.Fact.{Fact}
use Rattle.class_values.specs.Inner.Numbers.{IsSum}
use Rattle.class_values.specs.Operators.{IsOffset}

module _ (t : Classes) (facts : List Fact) where
  pub sum_offset : (class w base by n : ℕ) → IsSum t facts class w base by n → IsOffset t facts class w base n
  sum_offset class w base by n sum = record {
    small = sum.small;
    value = λ memory regs f m. sum.same.value memory regs m ∙ sym (sum.stands memory regs m).value ∙ (λ i. apply2_of Add (sum.wide i) (slice_index regs base) ((sum.number memory f).value regs m i));
  }

  pub own_offset : (class w : ℕ) → class < class_count t → width_in t class ≡ w → IsOffset t facts class w class 0
  own_offset class w below wide = record {
    small = pow_pos w;
    value = λ memory regs f m.
        (let less : slice_index regs class < 2 ^ w = subst (λ u. slice_index regs class < 2 ^ u) wide (m.values class below) in
        let e : slice_index regs class ≡ slice_index regs class + 0 = omega arith in
        sym (mod-eq_of_lt less) ∙ ap (λ z. z % 2 ^ w) e);
  }
