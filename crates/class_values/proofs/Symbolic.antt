-- Classes of values that stand in two cells.
use Rattle.std.proofs.Common.{◌≡◌, ℕ, ◌+◌, ◌*◌, ◌-◌, ◌/◌, ◌%◌, ◌^◌, ◌<◌, ◌≤◌, ◌∙◌, sym, ap, slice_index, arith}
use Rattle.std.proofs.Math.Nat.{mod-add-div', mod-eq_of_lt, pow-le-pow_right}
use Rattle.std.proofs.Math.Pow.{shr_mod}
use Rattle.rec_bits.specs.declared.operator.Op2.TheVariants.{Add, Mul}
use Rattle.rec_bits.specs.Operators.{apply2_of}
use Rattle.sym_expr.specs.declared.pool.Node.TheVariants.{Read, Zext}
use Rattle.tree_laws.specs.declared.classes.Classes.{Classes}
use Rattle.tree_laws.specs.Classes.{Grows, NodeStands}
use Rattle.class_values.specs.Values.{IsNumber}
use Rattle.class_values.specs.Symbols.{IsSymbol}
use Rattle.class_values.specs.Inner.Limbs.{IsLimb, IsLimbIn}
use Rattle.class_values.specs.Inner.Sums.{HasLow, Makes}
use Rattle.class_values.proofs.Grown.{stands_below, stands_width}
use Rattle.class_values.proofs.Keeping.{holds_kept, wide_kept}

module _ (old new : Classes) (g : Grows old new) where
  pub limb_made : (cell address at c : ℕ) → IsNumber old 64 address at → NodeStands new (Read at cell) c → IsLimb new cell address c
  limb_made cell address at c is s memory = record {
    holds = record {
      below = stands_below new (Read at cell) c s;
      value = λ regs m. sym (s memory regs m).value ∙ ap (slice_index memory) ((holds_kept old new g memory at address (is memory).holds).value regs m);
    };
    width = sym (stands_width new (Read at cell) c s);
  }

  pub limb_widened : (cell address width of c : ℕ) → IsLimb old cell address of → NodeStands new (Zext of width) c → IsLimbIn new address width c
  limb_widened cell address width of c is s memory = record {
    holds = record {
      below = stands_below new (Zext of width) c s;
      value = λ regs m. sym (s memory regs m).value ∙ (holds_kept old new g memory of (slice_index memory address) (is memory).holds).value regs m;
    };
    width = sym (stands_width new (Zext of width) c s);
  }

  -- the low bits of a cell
  pub narrow_made : (cell address width low c : ℕ) → 1 ≤ width → width ≤ cell → IsLimb old cell address low → HasLow new low (width - 1) c → IsSymbol new cell address width c
  narrow_made cell address width low c some within is h memory x fits stored =
      let e : width - 1 + 1 ≡ width = omega (arith, some) in
      let p : 2 ^ width ≤ 2 ^ cell = pow-le-pow_right (omega arith) within in
      let whole : x % 2 ^ cell ≡ x = mod-eq_of_lt (omega (arith, fits, p)) in
      record {
        holds = record {
          below = h.below;
          value = λ regs m.
              (let l = (holds_kept old new g memory low (slice_index memory address) (is memory).holds).value regs m in
              h.value memory regs m ∙ (λ i. l i % 2 ^ e i) ∙ ap (λ n. n % 2 ^ width) (stored.low ∙ whole) ∙ mod-eq_of_lt fits);
        };
        width = h.wide ∙ e;
      }

  pub limb_kept : (address width c : ℕ) → IsLimbIn old address width c → IsLimbIn new address width c
  limb_kept address width c h memory = wide_kept old new g memory c width (slice_index memory address) (h memory)

  pub number_kept : (width n c : ℕ) → IsNumber old width n c → IsNumber new width n c
  number_kept width n c h memory = wide_kept old new g memory c width n (h memory)

-- ---- both cells together

added : (a b x w : ℕ) → a + b ≡ x → x < w → (a + b % w) % w ≡ x
added a b x w s less =
    let m : b % w ≡ b = mod-eq_of_lt (omega (arith, s, less)) in
    ap (λ n. (a + n) % w) m ∙ ap (λ n. n % w) s ∙ mod-eq_of_lt less

joined : (cell width x : ℕ) → width ≤ cell + cell → x < 2 ^ width
    → apply2_of Add width (x % 2 ^ cell) (apply2_of Mul width ((x / 2 ^ cell) % 2 ^ cell) (2 ^ cell)) ≡ x
joined cell width x within fits =
    let p : 2 ^ width ≤ 2 ^ (cell + cell) = pow-le-pow_right (omega arith) within in
    let high : (x / 2 ^ cell) % 2 ^ cell ≡ x / 2 ^ cell = shr_mod cell cell (omega (arith, fits, p)) in
    ap (λ n. (x % 2 ^ cell + (n * 2 ^ cell) % 2 ^ width) % 2 ^ width) high
    ∙ added (x % 2 ^ cell) (x / 2 ^ cell * 2 ^ cell) x (2 ^ width) (mod-add-div' x (2 ^ cell)) fits

pub wide_made : (t : Classes) (cell address width low high unit raised c : ℕ) → width ≤ cell + cell → IsLimbIn t address width low → IsLimbIn t (address + 1) width high
    → IsNumber t width (2 ^ cell) unit → Makes t Mul high unit raised → Makes t Add low raised c → IsSymbol t cell address width c
wide_made t cell address width low high unit raised c within l h u r s memory x fits stored =
    let first = l memory in
    let second = h memory in
    record {
      holds = record {
        below = s.below;
        value = λ regs m.
            (let a = first.holds.value regs m ∙ stored.low in
            let b = second.holds.value regs m ∙ stored.high in
            let n = (u memory).holds.value regs m in
            let product = r.value memory regs m ∙ (λ i. apply2_of Mul (second.width i) (b i) (n i)) in
            s.value memory regs m ∙ (λ i. apply2_of Add (first.width i) (a i) (product i)) ∙ joined cell width x within fits);
      };
      width = s.wide ∙ first.width;
    }
