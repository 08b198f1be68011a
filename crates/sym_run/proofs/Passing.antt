-- What arrays' cells hold behind writes.
use Rattle.std.proofs.Common.{◌≡◌, ◌≢◌, ◌==◌, if◌then◌else◌, ◌⊎◌, inl, inr, ℕ, ◌+◌, ◌-◌, ◌*◌, ◌/◌, ◌%◌, ◌^◌, ◌<◌, ◌≤◌, List, [], ◌∷◌, length, get_or, zero, suc, Some, ◌∙◌, sym, ap, refl, subst, slice_get, slice_index, arith, eq-eqb}
use Rattle.std.proofs.Math.Logic.{∥∥₁_elim}
use Rattle.std.proofs.Math.Nat.{ℕ_set, add-mod_right, add-mul-mod_self_left, div-add-mod, mod-add-mod, mod-eq_of_lt, mod-lt}
use Rattle.std.proofs.lemmas.Bool.{cases_eq, ne_eqb}
use Rattle.std.proofs.lemmas.Nat.{pow_pos}
use Rattle.rec_bits.specs.declared.operator.Op2.TheVariants.{Eq}
use Rattle.rec_bits.specs.Operators.{bit_of}
use Rattle.sym_expr.specs.declared.pool.Node.TheVariants.{Read}
use Rattle.net_model.specs.declared.states.State.{State}
use Rattle.tree_laws.specs.declared.classes.Classes.{Classes}
use Rattle.tree_laws.specs.Classes.{Grows, NodeStands, width_in}
use Rattle.sym_run.specs.declared.known.Cell.TheVariants.{Array}
use Rattle.sym_run.specs.declared.known.Element.{Element}
use Rattle.class_values.specs.declared.facts.Fact.{Fact}
use Rattle.sym_run.specs.declared.known.Known.{Known}
use Rattle.sym_run.specs.declared.known.Put.{Put}
use Rattle.class_values.specs.Values.{AreFacts, AreSame, HasNumber, Holds, HoldsWide}
use Rattle.sym_run.specs.Known.{StandsFor, cell_at, cell_of}
use Rattle.sym_run.specs.Reading.{IsCell}
use Rattle.sym_run.specs.Inner.Reading.{IsAlias, IsListedAs, IsOfWidth}
use Rattle.class_values.specs.Operators.{IsOffset, IsBin}
use Rattle.sym_run.specs.Inner.Passed.{AreApart, ArePassed, IsChosen, IsLeftAt, IsPassed, IsRange}
use Rattle.sym_run.proofs.Cells.{find_inside}
use Rattle.class_values.proofs.Grown.{stands_below, stands_width}
use Rattle.class_values.proofs.Keeping.{facts_kept, holds_kept, wide_kept}
use Rattle.sym_run.proofs.Keeping.{inside_kept, wrote_kept}
use Rattle.class_values.proofs.Made.{same_holds}
use Rattle.sym_run.proofs.Writing.{number_is}

-- ---- numbers

-- the number added is told from the sum
from_sum : (b n w : ℕ) → 0 < w → n < w → ((b + n) % w + (w - b % w)) % w ≡ n
from_sum b n w pos less =
    let r : b % w < w = mod-lt b pos in
    let d : w * (b / w) + b % w ≡ b = div-add-mod b w in
    let e : b + n + (w - b % w) ≡ n + w + w * (b / w) = omega (arith, r, d) in
    mod-add-mod (b + n) w (w - b % w) ∙ ap (λ z. z % w) e ∙ add-mul-mod_self_left (n + w) w (b / w) ∙ add-mod_right n w ∙ mod-eq_of_lt less

same_number : (b n k w : ℕ) → 0 < w → n < w → k < w → (b + n) % w ≡ (b + k) % w → n ≡ k
same_number b n k w pos p q e = sym (from_sum b n w pos p) ∙ ap (λ z. (z + (w - b % w)) % w) e ∙ from_sum b k w pos q

-- ---- addresses that differ

pub listed_at : (t : Classes) (class : ℕ) (elements : List Element) (k : ℕ) (d : Element) → k < length elements → AreSame t class (get_or elements k d).class → IsListedAs t elements class (get_or elements k d)
listed_at t class [] k d l s = absurd (omega arith)
listed_at t class (e ∷ es) zero d l s = inl (s, refl)
listed_at t class (e ∷ es) (suc k) d l s = inr (listed_at t class es k d (omega arith) s)

module _ (t : Classes) (facts : List Fact) where
  pub in_range : (elements : List Element) (class : ℕ) (one : Element) → IsListedAs t elements class one → IsRange t facts elements class one.first one.end
  in_range [] class one s memory cells n fits f i h = absurd s
  in_range (e ∷ es) class one (inl s) memory cells n fits f i h =
      let same : i.0.address ≡ n = number_is t memory fits class i.0.address n (same_holds t class e.class s.0 memory i.0.address i.0.holds) h in
      subst (λ (o : Element). (o.first ≤ n) × (n < o.end)) s.1 (subst (λ k. (e.first ≤ k) × (k < e.end)) same (i.0.behind, i.0.within))
  in_range (e ∷ es) class one (inr s) memory cells n fits f i h = in_range es class one s memory cells n fits f i.1 h

  pub in_single : (elements : List Element) (class number : ℕ) → HasNumber t facts class number → IsRange t facts elements class number (number + 1)
  in_single elements class number is memory cells n fits f i h =
      let same : number ≡ n = number_is t memory fits class number n (is memory f) h in
      (omega (arith, same), omega (arith, same))

  pub ranges_apart : (elements : List Element) (a b first end start stop : ℕ) → IsRange t facts elements a first end → IsRange t facts elements b start stop → (end ≤ start) ⊎ (stop ≤ first) → AreApart t facts elements a b
  ranges_apart elements a b first end start stop p q (inl o) memory cells n k fits f i ha hb e =
      let x = p memory cells n fits f i ha in
      let y = q memory cells k fits f i hb in
      let l = x.1 in
      let m = y.0 in
      absurd (omega (arith, l, m, o, e))
  ranges_apart elements a b first end start stop p q (inr o) memory cells n k fits f i ha hb e =
      let x = p memory cells n fits f i ha in
      let y = q memory cells k fits f i hb in
      let l = x.0 in
      let m = y.1 in
      absurd (omega (arith, l, m, o, e))

  pub offsets_apart : (elements : List Element) (a b w base other n k : ℕ) → IsOffset t facts a w base n → IsOffset t facts b w other k → n ≢ k → AreSame t base other → AreApart t facts elements a b
  offsets_apart elements a b w base other n k p q differ same memory cells x y fits f i ha hb e =
      differ (∥∥₁_elim t.meanings (ℕ_set _ _) (λ m.
      let z = m memory fits in
      let first : (slice_index z.0 base + n) % 2 ^ w ≡ x = sym (p.value memory z.0 f z.1) ∙ ha.value z.0 z.1 in
      let second : (slice_index z.0 base + k) % 2 ^ w ≡ y = ap (λ r. (r + k) % 2 ^ w) (same.value memory z.0 z.1) ∙ sym (q.value memory z.0 f z.1) ∙ hb.value z.0 z.1 in
      same_number (slice_index z.0 base) n k (2 ^ w) (pow_pos w) p.small q.small (first ∙ e ∙ sym second)))

-- ---- cells behind writes

module _ (facts : List Fact) (elements : List Element) (put : Put) (at width was : ℕ) where
  pub passed_same : (t : Classes) (c : ℕ) → AreSame t at put.address → IsOfWidth t put.value width c → IsPassed t t facts elements put at width was c
  passed_same t c s is memory cells one a x fits f i ha hv hat hx =
      let e : one.address ≡ a = number_is t memory fits at one.address a (same_holds t at put.address s memory one.address ha) hat in
      subst (HoldsWide t memory c width) (sym (ap (λ b. if b then one.value else x) (eq-eqb one.address a e)))
      (record { holds = subst (λ k. Holds t memory k one.value) (sym is.same) hv; width = ap (width_in t) is.same ∙ is.wide })

  pub passed_apart : (t : Classes) → AreApart t facts elements at put.address → IsPassed t t facts elements put at width was was
  passed_apart t apart memory cells one a x fits f i ha hv hat hx =
      subst (HoldsWide t memory was width) (sym (ap (λ b. if b then one.value else x) (ne_eqb one.address a (λ e. apart memory cells a one.address fits f i hat ha (sym e))))) hx

  pub passed_either : (t0 t1 t2 : Classes) → Grows t0 t1 → (value bit c : ℕ) → IsOfWidth t0 put.value width value → IsBin t0 t1 facts Eq put.address at bit → IsChosen t1 t2 facts bit width value was c → IsPassed t0 t2 facts elements put at width was c
  passed_either t0 t1 t2 g value bit c is same chosen memory cells one a x fits f i ha hv hat hx =
      let b = (same memory one.address a f ha hat).holds in
      let v : HoldsWide t0 memory value width one.value = record { holds = subst (λ k. Holds t0 memory k one.value) (sym is.same) hv; width = ap (width_in t0) is.same ∙ is.wide } in
      let q = chosen memory one.value x (λ k. subst (λ w. slice_index memory k < 2 ^ w) (sym g.bits) (fits k)) (facts_kept t0 t1 g memory facts f) (wide_kept t0 t1 g memory value width one.value v) (wide_kept t0 t1 g memory was width x hx) in
      elim (cases_eq one.address a) as (λ _. HoldsWide t2 memory c width (if one.address == a then one.value else x)) [
        | inl e ↦ (let y = eq-eqb one.address a e in subst (HoldsWide t2 memory c width) (sym (ap (λ b. if b then one.value else x) y)) (q.0 (subst (λ b. Holds t1 memory bit (bit_of b)) y b)))
        | inr e ↦ (let y = ne_eqb one.address a e in subst (HoldsWide t2 memory c width) (sym (ap (λ b. if b then one.value else x) y)) (q.1 (subst (λ b. Holds t1 memory bit (bit_of b)) y b)))
      ]

module _ (facts : List Fact) (elements : List Element) (at width : ℕ) where
  pub none_passed : (t : Classes) (was : ℕ) → ArePassed t t facts elements [] at width was was
  none_passed t was memory cells [] a x fits f i h hat hx = hx
  none_passed t was memory cells (one ∷ log) a x fits f i h hat hx = absurd h

  pub more_passed : (t0 t1 t2 : Classes) → Grows t0 t1 → (put : Put) (puts : List Put) (was c d : ℕ) → IsPassed t0 t1 facts elements put at width was c → ArePassed t1 t2 facts elements puts at width c d → ArePassed t0 t2 facts elements (put ∷ puts) at width was d
  more_passed t0 t1 t2 g put puts was c d first rest memory cells [] a x fits f i h hat hx = absurd h
  more_passed t0 t1 t2 g put puts was c d first rest memory cells (one ∷ log) a x fits f i h hat hx =
      rest memory cells log a (if one.address == a then one.value else x) (λ k. subst (λ w. slice_index memory k < 2 ^ w) (sym g.bits) (fits k)) (facts_kept t0 t1 g memory facts f) (inside_kept t0 t1 g memory cells elements i)
      (wrote_kept t0 t1 g memory puts log h.2) (holds_kept t0 t1 g memory at a hat) (first memory cells one a x fits f i h.0 h.1 hat hx)

-- ---- elements

module _ (facts : List Fact) (known : Known) (at width : ℕ) where
  pub element_made : (t0 t1 t2 : Classes) → Grows t0 t1 → (was c : ℕ) → NodeStands t1 (Read at width) was → ArePassed t1 t2 facts known.inside known.puts at width was c → IsLeftAt t0 t2 facts known at width c
  element_made t0 t1 t2 g was c stands passed memory cells log a fits f i h hat =
      let own = holds_kept t0 t1 g memory at a hat in
      let old : HoldsWide t1 memory was width (slice_index memory a) = record {
        holds = record { below = stands_below t1 (Read at width) was stands; value = λ regs m. sym (stands memory regs m).value ∙ ap (slice_index memory) (own.value regs m) };
        width = sym (stands_width t1 (Read at width) was stands);
      } in
      passed memory cells log a (slice_index memory a) (λ k. subst (λ w. slice_index memory k < 2 ^ w) (sym g.bits) (fits k)) (facts_kept t0 t1 g memory facts f)
      (inside_kept t0 t1 g memory cells known.inside i) (wrote_kept t0 t1 g memory known.puts log h) own old

  -- what is left in an array's cell is what the cell holds
  left_held : (t0 t1 : Classes) (c : ℕ) → IsLeftAt t0 t1 facts known at width c → (memory : List ℕ) (s : State) (a : ℕ) → AreFacts t0 memory facts → StandsFor t0 memory known s → Holds t0 memory at a
      → cell_at known.cells a ≡ Array → HoldsWide t1 memory c width (slice_index s.cells a)
  left_held t0 t1 c left memory s a f h hat array =
      subst (HoldsWide t1 memory c width) (sym (h.arrays.are a array)) (left memory known.cells h.arrays.log a h.fits f h.inside h.arrays.wrote hat)

  pub cell_inside : (t0 t1 : Classes) (addr c : ℕ) → IsLeftAt t0 t1 facts known at width c → IsAlias t0 known.inside addr at → IsCell t0 t1 facts known addr width c
  cell_inside t0 t1 addr c is alias memory s a f h k =
      let i = find_inside t0 memory known.cells known.inside addr at alias h.inside in
      subst (λ n. HoldsWide t1 memory c width (slice_index s.cells n)) (number_is t0 memory h.fits addr i.address a i.holds k) (left_held t0 t1 c is memory s i.address f h i.alike i.array)

  pub cell_array : (t0 t1 : Classes) (number c : ℕ) → IsLeftAt t0 t1 facts known at width c → HasNumber t0 facts at number → slice_get known.cells number ≡ Some Array → IsCell t0 t1 facts known at width c
  cell_array t0 t1 number c is has there memory s a f h k =
      left_held t0 t1 c is memory s a f h k (ap (cell_at known.cells) (number_is t0 memory h.fits at a number k (has memory f)) ∙ ap cell_of there)
