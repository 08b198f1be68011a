-- The accumulator machine's forms are as the laws want them, so its covers leave their trees'
-- values.
use Rattle.std.proofs.Common.{◌≡◌, ◌∙◌, ◌%◌, ◌^◌, false, ℕ, zero, suc, ◌≤◌, ◌<◌, ◌+◌, List, [], ◌∷◌, length, Some, None, true, refl, ap, subst, sym, slice_get, arith}
use Rattle.net_model.specs.declared.hardware.Space.TheVariants.{Memory as InMemory}
use Rattle.net_model.specs.declared.states.State.{State}
use Rattle.std.specs.Int.{bit_at}
use Rattle.std.proofs.lemmas.Bool.{true≢false}
use Rattle.rec_bits.specs.declared.operator.Op2.TheVariants.{Add, Sub}
use Rattle.rec_bits.proofs.Booleans.{or_comm}
use Rattle.net_model.specs.Meaning.{mean}
use Rattle.net_model.specs.Exprs.{ExprModel, reg, const, read, bin, zext, write, expr_width}
use Rattle.form_model.specs.Forms.{FormModel, GoalModel, into_reg, cell}
use Rattle.form_model.specs.Effects.{register, expr_reads}
use Rattle.form_model.specs.Bits.{uses}
use Rattle.emit_seq.specs.Formed.{BitsApart, IsOnce, CellsShown, MeansAlike, IsIntoReg, IsFormed, AreFormed}
use Rattle.emit_seq.specs.Leaves.{LeaveValue}
use Rattle.emit_seq.specs.Spares.{clobbers_of, AreShared, ReadsCounter, AreSpare}
use Rattle.emit_seq.specs.Worked.{field, acc_forms, acc_stock, acc_patterns, less_tree, less_cover, less_orderly}
use Rattle.form_model.proofs.Zips.{Each}
use Rattle.emit_seq.proofs.Leaving.{leave_value}
use Rattle.emit_seq.proofs.Spared.{steps_spare}

each_at : (P : FormModel → Type 0) (forms : List FormModel) (k : ℕ) (form : FormModel) → slice_get forms k ≡ Some form → Each P forms → P form
each_at P [] k form e h = absurd (cc)
each_at P (x ∷ forms) zero form e h = subst P (cc) h.0
each_at P (x ∷ forms) (suc k) form e h = each_at P forms k form e h.1

itself : (t : ExprModel) → MeansAlike t t
itself t = record { means = λ s i. refl; reads = λ i r. refl }

no_bit : (a b : ExprModel) → ((k : ℕ) → uses a k ≡ false) → BitsApart a b
no_bit a b f k h = absurd (true≢false (sym h ∙ f k))

into : (form : FormModel) (r : ℕ) (value : ExprModel) → slice_get acc_patterns form.pattern ≡ Some (record { storage = r; move = write value }) → MeansAlike form.value value → IsOnce form.value → CellsShown 0 form.value
    → bit_at form.clobbers r ≡ 1 → r < 3 → IsIntoReg acc_patterns 3 0 form r
into form r value e a o q c b = record { value = value; is = e; alike = a; once = o; shown = q; clobbered = c; below = b }

sum_alike : (a b : ExprModel) → expr_width a ≡ expr_width b → MeansAlike (bin Add a b) (bin Add b a)
sum_alike a b e = record {
  means = λ s i. sums (mean a s i) (mean b s i) (expr_width a) (expr_width b) e;
  reads = λ i r. or_comm (expr_reads i a (register r)) (expr_reads i b (register r));
}
  where
    sums : (x y m n : ℕ) → m ≡ n → (x + y) % 2 ^ m ≡ (y + x) % 2 ^ n
    sums x y m n e = let c : x + y ≡ y + x = omega arith in rw (e, c) refl

acc_each : Each (λ (form : FormModel). IsFormed None acc_patterns 3 0 form form.goal) acc_forms
acc_each = (
  into _ 0 next refl (itself next) (tt, tt, no_bit pc one (λ k. refl), no_bit one pc (λ k. refl)) (tt, tt) refl (omega arith),
  (
    into _ 0 next refl (sum_alike one pc refl) (tt, tt, no_bit one pc (λ k. refl), no_bit pc one (λ k. refl)) (tt, tt) refl (omega arith),
    (
      ((tt, tt, no_bit acc zero_expr (λ k. refl), no_bit zero_expr acc (λ k. refl)), (tt, tt)),
      (
        ((tt, tt, no_bit zero_expr acc (λ k. refl), no_bit acc zero_expr (λ k. refl)), (tt, tt)),
        (
          tt,
          (
            into _ 1 (bin Add acc mem) refl (itself (bin Add acc mem)) (tt, tt, no_bit acc mem (λ k. refl), (λ k h. refl)) (tt, tt) refl (omega arith),
            (
              into _ 1 (bin Add acc mem) refl (sum_alike mem acc refl) (tt, tt, (λ k h. refl), no_bit acc mem (λ k. refl)) (tt, tt) refl (omega arith),
              (
                into _ 1 mem refl (itself mem) tt tt refl (omega arith),
                (
                  into _ 1 (bin Sub acc mem) refl (itself (bin Sub acc mem)) (tt, tt, no_bit acc mem (λ k. refl), (λ k h. refl)) (tt, tt) refl (omega arith),
                  (
                    into _ 1 (zext field 16) refl (itself (zext field 16)) tt tt refl (omega arith),
                    (
                      record {
                        storage = 2;
                        addr = field;
                        value = acc;
                        is = refl;
                        other = refl;
                        at = field;
                        has = refl;
                        alike_addr = itself field;
                        alike_value = itself acc;
                        once_addr = tt;
                        once_value = tt;
                        shown_addr = tt;
                        shown_value = tt;
                        apart = λ k h. refl;
                        apart_back = no_bit acc field (λ k. refl);
                      },
                      tt,
                    ),
                  ),
                ),
              ),
            ),
          ),
        ),
      ),
    ),
  ),
)
  where
    pc : ExprModel
    pc = reg 0 8

    one : ExprModel
    one = const 8 1

    next : ExprModel
    next = bin Add pc one

    acc : ExprModel
    acc = reg 1 16

    zero_expr : ExprModel
    zero_expr = const 16 0

    mem : ExprModel
    mem = read InMemory field 16

acc_formed : AreFormed None acc_patterns 3 0 acc_forms
acc_formed k form e = each_at (λ (r : FormModel). IsFormed None acc_patterns 3 0 r r.goal) acc_forms k form e acc_each

acc_own : Each (λ (form : FormModel). clobbers_of acc_forms form.pattern ≡ form.clobbers) acc_forms
acc_own = (refl, (refl, (refl, (refl, (refl, (refl, (refl, (refl, (refl, (refl, (refl, tt)))))))))))

acc_shared : AreShared acc_forms
acc_shared j k a b ea eb e =
    sym (each_at (λ (r : FormModel). clobbers_of acc_forms r.pattern ≡ r.clobbers) acc_forms j a ea acc_own) ∙ ap (λ p. clobbers_of acc_forms p) e
    ∙ each_at (λ (r : FormModel). clobbers_of acc_forms r.pattern ≡ r.clobbers) acc_forms k b eb acc_own

-- what goes into the program counter reads it
abbrev Counts : FormModel → Type 0
Counts form = form.goal ≡ into_reg 0 → (i : ℕ) × (expr_reads i form.value (register 0) ≡ true)

acc_counts : Each Counts acc_forms
acc_counts = (
  (λ e. (0, refl)),
  (
    (λ e. (0, refl)),
    (
      (λ e. absurd (cc)),
      (
        (λ e. absurd (cc)),
        (
          (λ e. absurd (cc)),
          (
            (λ e. absurd (one_zero e)),
            (
              (λ e. absurd (one_zero e)),
              ((λ e. absurd (one_zero e)), ((λ e. absurd (one_zero e)), ((λ e. absurd (one_zero e)), ((λ e. absurd (cc)), tt)))),
            ),
          ),
        ),
      ),
    ),
  ),
)
  where
    number : GoalModel → ℕ
    number (into_reg r) = r
    number goal = 0

    one_zero : into_reg 1 ≡ into_reg 0 → ⊥
    one_zero e = let q : 1 ≡ 0 = ap number e in omega (arith, q)

acc_counter : ReadsCounter acc_forms 0
acc_counter k form e = each_at Counts acc_forms k form e acc_counts

-- from every state of three registers and at least five cells x = (a + b) - (a - b) is done, and no
-- variable but x changes
pub acc_leaves : (s : State) → length s.regs ≡ 3 → 5 ≤ length s.cells → LeaveValue (acc_stock 2) None acc_patterns (cell 4) less_tree less_cover s
acc_leaves s r c =
    leave_value (acc_stock 2) None acc_patterns 3 acc_formed (cell 4) less_tree less_cover s tt less_orderly (omega arith) (omega arith)
    (record { regs = r; reads = (((omega arith, tt), (omega arith, tt)), ((omega arith, tt), (omega arith, tt))); aim_reads = tt; aim = omega (arith, c); temps = omega (arith, c); file = omega arith })

pub acc_spares : AreSpare (acc_stock 2) None acc_patterns 0 (cell 4) less_tree less_cover
acc_spares = steps_spare (acc_stock 2) None acc_patterns 3 0 acc_formed acc_shared acc_counter (cell 4) less_tree less_cover tt less_orderly
