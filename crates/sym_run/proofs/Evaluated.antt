-- The class of an expression, by those of its operands.
use Rattle.std.proofs.Common.{◌≡◌, ◌≢◌, ℕ, ◌==◌, List, cond, ◌∙◌, sym, ap, subst, eq-eqb}
use Rattle.std.proofs.lemmas.Bool.{ne_eqb}
use Rattle.rec_bits.specs.declared.operator.Op1.{Op1}
use Rattle.rec_bits.specs.declared.operator.Op2.{Op2}
use Rattle.rec_bits.specs.Operators.{apply1_of, apply2_of, sext_of, result_width}
use Rattle.net_model.specs.declared.states.State.{State}
use Rattle.net_model.specs.declared.hardware.Space.TheVariants.{Memory as InMemory}
use Rattle.net_model.specs.Exprs.{ExprModel, cell, word, reg, const, read, un, bin, slice, zext, sext, select, expr_width}
use Rattle.net_model.specs.Meaning.{mean}
use Rattle.tree_laws.specs.declared.classes.Classes.{Classes}
use Rattle.tree_laws.specs.Classes.{Grows, TableMeans}
use Rattle.class_values.specs.declared.facts.Fact.{Fact}
use Rattle.sym_run.specs.declared.known.Known.{Known}
use Rattle.class_values.specs.Values.{AreFacts, HasNumber, HoldsWide, IsNumber}
use Rattle.sym_run.specs.Known.{Evaluates, StandsFor}
use Rattle.sym_run.specs.Reading.{IsCell}
use Rattle.class_values.specs.Operators.{IsBin, IsSext, IsSlice, IsUn, IsZext}
use Rattle.sym_run.specs.Inner.Reading.{IsFileCell, IsReg}
use Rattle.class_values.proofs.Keeping.{facts_kept, wide_kept}
use Rattle.sym_run.proofs.Keeping.{known_kept}
use Rattle.sym_run.proofs.Cells.{one_value}

module _ (facts : List Fact) (known : Known) (i : ℕ) where
  pub word_evaluated : (old new : Classes) (w c : ℕ) → IsNumber new w i c → Evaluates old new facts known i (word w) c
  word_evaluated old new w c is memory s f k = is memory

  pub const_evaluated : (old new : Classes) (w n c : ℕ) → IsNumber new w n c → Evaluates old new facts known i (const w n) c
  const_evaluated old new w n c is memory s f k = is memory

  pub reg_evaluated : (t : Classes) (r w c : ℕ) → IsReg t known r w c → Evaluates t t facts known i (reg r w) c
  reg_evaluated t r w c is memory s f k = is memory s k

  module _ (first middle last : Classes) (g : Grows first middle) (e : ExprModel) (a : ℕ) (evaluated : Evaluates first middle facts known i e a) where
    pub then_un : (op : Op1) (c : ℕ) → IsUn middle last facts op a c → Evaluates first last facts known i (un op e) c
    then_un op c is memory s f k =
        let p = evaluated memory s f k in
        subst (λ w. HoldsWide last memory c w (apply1_of op w (mean e s i))) p.width (is memory (mean e s i) (facts_kept first middle g memory facts f) p.holds)

    pub then_slice : (hi lo c : ℕ) → IsSlice middle last facts a hi lo c → Evaluates first last facts known i (slice e hi lo) c
    then_slice hi lo c is memory s f k = is memory (mean e s i) (facts_kept first middle g memory facts f) (evaluated memory s f k).holds

    pub then_zext : (w c : ℕ) → IsZext middle last facts a w c → Evaluates first last facts known i (zext e w) c
    then_zext w c is memory s f k = is memory (mean e s i) (facts_kept first middle g memory facts f) (evaluated memory s f k).holds

    pub then_sext : (w c : ℕ) → IsSext middle last facts a w c → Evaluates first last facts known i (sext e w) c
    then_sext w c is memory s f k =
        let p = evaluated memory s f k in
        subst (λ v. HoldsWide last memory c w (sext_of (mean e s i) v w)) p.width (is memory (mean e s i) (facts_kept first middle g memory facts f) p.holds)

    pub then_read : (w c : ℕ) → IsCell middle last facts known a w c → Evaluates first last facts known i (read InMemory e w) c
    then_read w c is memory s f k =
        is memory s (mean e s i) (facts_kept first middle g memory facts f) (known_kept first middle g memory known s k) (evaluated memory s f k).holds

    pub then_cell : (w c : ℕ) → IsFileCell middle facts known a w c → Evaluates first middle facts known i (cell e w) c
    then_cell w c is memory s f k =
        is memory s (mean e s i) (facts_kept first middle g memory facts f) (known_kept first middle g memory known s k) (evaluated memory s f k).holds

    pub then_bin : (end : Classes) → Grows middle last → (op : Op2) (d : ExprModel) (b c : ℕ) → Evaluates middle last facts known i d b → IsBin last end facts op a b c → Evaluates first end facts known i (bin op e d) c
    then_bin end h op d b c other is memory s f k =
        let p = wide_kept middle last h memory a (expr_width e) (mean e s i) (evaluated memory s f k) in
        let f2 = facts_kept first middle g memory facts f in
        let q = other memory s f2 (known_kept first middle g memory known s k) in
        subst (λ w. HoldsWide end memory c (result_width op w) (apply2_of op w (mean e s i) (mean d s i))) p.width
        (is memory (mean e s i) (mean d s i) (facts_kept middle last h memory facts f2) p.holds q.holds)

    module _ (h : Grows middle last) (way : ℕ) (number : HasNumber middle facts a way) (x y : ExprModel) (c : ℕ) where
      decided : (memory : List ℕ) (s : State) → AreFacts first memory facts → StandsFor first memory known s → (regs : List ℕ) → TableMeans last memory regs → mean e s i ≡ way
      decided memory s f k regs m = one_value middle last h memory a (mean e s i) way (evaluated memory s f k).holds (number memory (facts_kept first middle g memory facts f)) regs m

      pub then_first : way ≡ 1 → Evaluates middle last facts known i x c → Evaluates first last facts known i (select e x y) c
      then_first one other memory s f k =
          let q = other memory s (facts_kept first middle g memory facts f) (known_kept first middle g memory known s k) in
          record {
            holds = record {
              below = q.holds.below;
              value = λ regs m. q.holds.value regs m ∙ sym (ap (λ b. cond b (mean x s i) (mean y s i)) (eq-eqb (mean e s i) 1 (decided memory s f k regs m ∙ one)));
            };
            width = q.width;
          }

      pub then_second : way ≢ 1 → expr_width y ≡ expr_width x → Evaluates middle last facts known i y c → Evaluates first last facts known i (select e x y) c
      then_second other_way w other memory s f k =
          let q = other memory s (facts_kept first middle g memory facts f) (known_kept first middle g memory known s k) in
          record {
            holds = record {
              below = q.holds.below;
              value = λ regs m. q.holds.value regs m ∙ sym (ap (λ b. cond b (mean x s i) (mean y s i)) (ap (λ n. n == 1) (decided memory s f k regs m) ∙ ne_eqb way 1 other_way));
            };
            width = q.width ∙ w;
          }
