-- Classes of one table that have the values of another table's classes.
use Rattle.std.proofs.Common.{◌≡◌, ℕ, ◌<◌, ◌^◌, ◌++◌, List, [], ◌∷◌, ◌∙◌, sym, ap, subst, slice_index}
use Rattle.std.proofs.Math.Logic.{∥∥₁_elim}
use Rattle.std.proofs.Math.Nat.{ℕ_set}
use Rattle.rec_bits.specs.declared.operator.Op1.{Op1}
use Rattle.rec_bits.specs.declared.operator.Op2.{Op2}
use Rattle.rec_bits.specs.Operators.{apply1_of, apply2_of, slice_of, sext_of}
use Rattle.sym_expr.specs.declared.pool.Node.{Node}
use Rattle.sym_expr.specs.declared.pool.Node.TheVariants.{Read, Un, Bin, Slice, Zext, Sext}
use Rattle.tree_laws.specs.declared.classes.Classes.{Classes}
use Rattle.tree_laws.specs.Classes.{Grows, NodeStands, cell_bits, class_count, width_in}
use Rattle.class_values.specs.declared.facts.Fact.{Fact}
use Rattle.class_values.specs.Values.{AreFacts, AreSame, HasNumber, Holds}
use Rattle.class_values.specs.Values.{IsNumber}
use Rattle.class_values.specs.Inner.Numbers.{IsListed, IsSized}
use Rattle.class_values.proofs.Grown.{stands_below}
use Rattle.class_values.proofs.Keeping.{grows_on, grows_same, wide_kept}
use Rattle.class_values.proofs.Made.{same_holds}
use Rattle.sym_run.proofs.Writing.{number_is}
use Rattle.mark_start.specs.declared.run.Run.{Run}
use Rattle.mark_start.proofs.Learning.{stands_kept}
use Rattle.segment.specs.Copied.{AreAlike, IsCopy, IsCopyOf}
use Rattle.segment.specs.Runs.{AreEqualOf, IsToldOn}

module _ (t : Classes) (facts : List Fact) where
  -- ---- copies

  pub copy_kept : (old new : Classes) → Grows old new → (a c : ℕ) → IsCopy t facts old a c → IsCopy t facts new a c
  copy_kept old new g a c k memory regs f m = wide_kept old new g memory c (width_in t a) (slice_index regs a) (k memory regs f m)

  pub number_copied : (to : Classes) (a w n c : ℕ) → IsSized t facts a w n → IsNumber to w n c → IsCopy t facts to a c
  number_copied to a w n c s is memory regs f m = (let i = is memory in record {
    holds = record { below = i.holds.below; value = λ rs k. i.holds.value rs k ∙ sym ((s.number memory f).value regs m) };
    width = i.width ∙ sym s.width;
  })

  -- a node of a class
  pub node_copied : (to : Classes) (node : Node) (a c : ℕ) → IsListed t node a → width_in to c ≡ width_in t a → IsCopyOf t facts to node c → IsCopy t facts to a c
  node_copied to node a c l wide k memory regs f m = (let x = k memory regs f m in record {
    holds = record { below = x.below; value = λ rs n. x.value rs n ∙ (l.stands memory regs m).value ∙ sym (l.same.value memory regs m) };
    width = wide;
  })

  module _ (old new : Classes) (g : Grows old new) where
    pub read_copied : (a w x c : ℕ) → IsCopy t facts old a x → NodeStands new (Read x w) c → IsCopyOf t facts new (Read a w) c
    read_copied a w x c k s memory regs f m = (let n = copy_kept old new g a x k memory regs f m in record {
      below = stands_below new (Read x w) c s;
      value = λ rs i. sym (s memory rs i).value ∙ ap (slice_index memory) (n.holds.value rs i);
    })

    pub un_copied : (op : Op1) (a x c : ℕ) → IsCopy t facts old a x → NodeStands new (Un op x) c → IsCopyOf t facts new (Un op a) c
    un_copied op a x c k s memory regs f m = (let n = copy_kept old new g a x k memory regs f m in record {
      below = stands_below new (Un op x) c s;
      value = λ rs i. (let e = n.width in let v = n.holds.value rs i in sym (s memory rs i).value ∙ (λ j. apply1_of op (e j) (v j)));
    })

    pub slice_copied : (a hi lo x c : ℕ) → IsCopy t facts old a x → NodeStands new (Slice x hi lo) c → IsCopyOf t facts new (Slice a hi lo) c
    slice_copied a hi lo x c k s memory regs f m = (let n = copy_kept old new g a x k memory regs f m in record {
      below = stands_below new (Slice x hi lo) c s;
      value = λ rs i. sym (s memory rs i).value ∙ ap (λ v. slice_of v hi lo) (n.holds.value rs i);
    })

    pub zext_copied : (a w x c : ℕ) → IsCopy t facts old a x → NodeStands new (Zext x w) c → IsCopyOf t facts new (Zext a w) c
    zext_copied a w x c k s memory regs f m = (let n = copy_kept old new g a x k memory regs f m in record {
      below = stands_below new (Zext x w) c s;
      value = λ rs i. sym (s memory rs i).value ∙ n.holds.value rs i;
    })

    pub sext_copied : (a w x c : ℕ) → IsCopy t facts old a x → NodeStands new (Sext x w) c → IsCopyOf t facts new (Sext a w) c
    sext_copied a w x c k s memory regs f m = (let n = copy_kept old new g a x k memory regs f m in record {
      below = stands_below new (Sext x w) c s;
      value = λ rs i. (let e = n.width in let v = n.holds.value rs i in sym (s memory rs i).value ∙ (λ j. sext_of (v j) (e j) w));
    })

    pub bin_copied : (op : Op2) (a b x y c : ℕ) → IsCopy t facts old a x → IsCopy t facts old b y → NodeStands new (Bin op x y) c → IsCopyOf t facts new (Bin op a b) c
    bin_copied op a b x y c k l s memory regs f m =
        (let n = copy_kept old new g a x k memory regs f m in let o = copy_kept old new g b y l memory regs f m in record {
          below = stands_below new (Bin op x y) c s;
          value = λ rs i. (let e = n.width in let v = n.holds.value rs i in let w = o.holds.value rs i in sym (s memory rs i).value ∙ (λ j. apply2_of op (e j) (v j) (w j)));
        })

  -- ---- classes of one value

  pub copies_alike : (to : Classes) → cell_bits to ≡ cell_bits t → (a b x y : ℕ) → IsCopy t facts to a x → IsCopy t facts to b y → AreSame to x y → AreAlike t facts a b
  copies_alike to bits a b x y p q s memory regs f m =
      number_is to memory (λ k. subst (λ w. slice_index memory k < 2 ^ w) (sym bits) (m.cells_fit k)) x (slice_index regs a) (slice_index regs b) (p memory regs f m).holds (same_holds to x y s memory (slice_index regs b) (q memory regs f m).holds)

  pub alike_equal : (a b : ℕ) → AreAlike t facts a b → AreEqualOf t facts a b
  alike_equal a b h memory x y fits f p q =
      ∥∥₁_elim t.meanings (ℕ_set _ _) (λ m. let r = m memory fits in sym (p.value r.0 r.1) ∙ h memory r.0 f r.1 ∙ q.value r.0 r.1)

-- ---- facts

pub told_none : (old new : Classes) (run : Run) → Grows old new → IsToldOn old new run run
told_none old new run g = record { grows = g; stands = λ memory s now k. stands_kept old new g run memory s now k }

pub told_on : (a b d : Classes) (run next last : Run) → IsToldOn a b run next → IsToldOn b d next last → IsToldOn a d run last
told_on a b d run next last f h = record { grows = grows_on a b d f.grows h.grows; stands = λ memory s now k. h.stands memory s now (f.stands memory s now k) }

facts_on : (t : Classes) (memory : List ℕ) (facts : List Fact) (fact : Fact) → AreFacts t memory facts → Holds t memory fact.class fact.number → AreFacts t memory (facts ++ fact ∷ [])
facts_on t memory [] fact h k = (k, tt)
facts_on t memory (f ∷ facts) fact h k = (h.0, facts_on t memory facts fact h.1 k)

-- a fact of a class that has the value of one with a number
pub fact_told : (t : Classes) (run : Run) (facts : List Fact) → facts ≡ run.facts → (none : List Fact) → none ≡ [] → (fact : Fact) (b : ℕ) → fact.class < class_count t → AreAlike t none fact.class b → HasNumber t facts b fact.number
    → (more : List Fact) → more ≡ run.facts ++ fact ∷ [] → IsToldOn t t run (record { facts = more; machine = run.machine; vars = run.vars })
fact_told t run facts same none is fact b below alike number more e = record {
  grows = grows_same t;
  stands = λ memory s now k.
      (let h : Holds t memory b fact.number = number memory (subst (AreFacts t memory) (sym same) k.facts) in
      let held : Holds t memory fact.class fact.number = record { below = below; value = λ regs m. alike memory regs (subst (AreFacts t memory) (sym is) tt) m ∙ h.value regs m } in
      record {
        facts = subst (AreFacts t memory) (sym e) (facts_on t memory run.facts fact k.facts held);
        machine = k.machine;
        vars = k.vars;
      });
}
