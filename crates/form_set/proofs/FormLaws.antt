-- What the forms of a list promise, and when there are none of a kind.
use Rattle.std.proofs.Common.{◌≡◌, ◌≢◌, ℕ, zero, suc, ◌+◌, ◌%◌, ◌^◌, ◌<◌, ◌==◌, Bool, true, false, cond, List, [], ◌∷◌, ◌++◌, Some, length, slice_get, refl, sym, ap, subst, ◌∙◌, arith, inl, inr}
use Rattle.std.specs.Prelude.{bit_or, bit_xor, ◌⊎◌}
use Rattle.std.specs.Int.{bit_at}
use Rattle.std.proofs.lemmas.Bool.{eqb-true, ne_eqb}
use Rattle.std.proofs.lemmas.Nat.{and_le_l}
use Rattle.std.proofs.lemmas.Nat.Bits.{bit_at_or, bit_at_xor, bit_at-lt, bit_at-pow_same}
use Rattle.net_model.specs.declared.hardware.Netlist.{Netlist}
use Rattle.net_model.specs.declared.hardware.Storage.{Storage}
use Rattle.net_model.specs.Fields.{transfer_fields}
use Rattle.net_model.specs.declared.hardware.Space.TheVariants.{File as InFile}
use Rattle.net_model.specs.Nets.{IsRegister, counter_of, place_in}
use Rattle.net_model.specs.Patterns.{Pattern}
use Rattle.net_model.specs.Exprs.{TransferModel, ExprModel, keep, write}
use Rattle.form_model.specs.Forms.{FormModel}
use Rattle.form_set.specs.Listing.{AreFormModels, AreFormModelsOf, plain, jump, branch, other, IsPlain, branch_form_model, plain_form_model, sides_of, test_sides}
use Rattle.form_set.specs.Promises.{HasWords, IsForm, IsFormOf, of_branch, of_jump, of_plain}
use Rattle.operand_swaps.specs.Swaps.{swap_count}
use Rattle.form_set.specs.Listing.{map_below}
use Rattle.form_set.specs.Words.{AreClobbers, AreKept, CanKeep, Joins, joins, fails, none, all_registers, is_register_storage, own_storage, registers_below, with}
use Rattle.net_model.proofs.Storages.{register_within}
use Rattle.form_set.proofs.Bits.{bit_cases}
use Rattle.form_set.proofs.Holding.{with_new, with_old}
use Rattle.form_set.proofs.Registers.{register_is}

-- ---- the words of a plain form

joined_can : (netlist : Netlist) (p : Pattern) (id before after : ℕ) → Joins netlist p id before after → CanKeep netlist p before → CanKeep netlist p after
joined_can netlist p id before after (joins r ok e) h = subst (CanKeep netlist p) (sym e) ok
joined_can netlist p id before after (fails r never e) h = subst (CanKeep netlist p) (sym e) h
joined_can netlist p id before after (none r e) h = subst (CanKeep netlist p) (sym e) h

kept_can : (netlist : Netlist) (p : Pattern) (n kept : ℕ) → AreKept netlist p n kept → CanKeep netlist p 0 → CanKeep netlist p kept
kept_can netlist p zero kept a ok = subst (CanKeep netlist p) (sym a) ok
kept_can netlist p (suc n) kept a ok = joined_can netlist p n a.0 kept a.2 (kept_can netlist p n a.0 a.1 ok)

-- each register is one of all
one_more : (b : Bool) (set n r : ℕ) → bit_at set r ≡ 1 → bit_at (cond b (with set n) set) r ≡ 1
one_more true set n r e = with_old set n r e
one_more false set n r e = e

below_has : (storages : List Storage) (n r : ℕ) → r < n → is_register_storage (slice_get storages r) ≡ true → bit_at (registers_below storages n) r ≡ 1
below_has storages zero r lt h = absurd (omega (arith, lt))
below_has storages (suc n) r lt h = by (r == n) refl (λ less. below_has storages n r less h)
  where
    by : (b : Bool) → (r == n) ≡ b → (r < n → bit_at (registers_below storages n) r ≡ 1) → bit_at (cond (is_register_storage (slice_get storages n)) (with (registers_below storages n) n) (registers_below storages n)) r ≡ 1
    by true e before =
        (let q = eqb-true r n e in
        subst (λ (b : Bool). bit_at (cond b (with (registers_below storages n) n) (registers_below storages n)) r ≡ 1) (sym (ap (λ k. is_register_storage (slice_get storages k)) (sym q) ∙ h))
        (subst (λ k. bit_at (with (registers_below storages n) n) k ≡ 1) (sym q) (with_new (registers_below storages n) n)))
    by false e before = one_more (is_register_storage (slice_get storages n)) (registers_below storages n) n r (before (grind (arith, e, lt)))

-- a register that is no clobber is kept
unclobbered : (all kept own r : ℕ) → bit_at all r ≡ 1 → bit_at (bit_or own (bit_xor all kept)) r ≡ 0 → bit_at kept r ≡ 1
unclobbered all kept own r a e =
    let o = bit_at_or own (bit_xor all kept) r in
    let x : bit_at (bit_xor all kept) r ≡ 0 = omega (arith, o, e) in
    let y = bit_at_xor all kept r in
    by (bit_cases kept r) x y
  where
    by : (bit_at kept r ≡ 0) ⊎ (bit_at kept r ≡ 1) → bit_at (bit_xor all kept) r ≡ 0 → bit_at (bit_xor all kept) r ≡ (bit_at all r + bit_at kept r) % 2 → bit_at kept r ≡ 1
    by (inr q) x y = q
    by (inl q) x y = absurd (omega (arith, q, x, y, a))

-- for every setting of a plain form there is a word that does its transfer, steps, and changes no
-- more than the clobbers
pub plain_words : (netlist : Netlist) (p : Pattern) (clobbers : ℕ) → IsPlain netlist p → AreClobbers netlist p clobbers → HasWords netlist p clobbers
plain_words netlist p clobbers h c setting is =
    let w = kept_can netlist p (length netlist.storages) c.kept c.are h.ok setting is in (
      w.0,
      w.1,
      record {
        given = w.2.given;
        steps = w.2.steps;
        memory = w.2.memory;
        file = w.2.file;
        registers = λ r reg z. w.2.registers r
            (unclobbered (all_registers netlist.storages) c.kept (own_storage netlist p.storage) r (below_has netlist.storages (length netlist.storages) r (register_within netlist.storages r reg) ((register_is _).1 reg))
            (subst (λ n. bit_at n r ≡ 0) c.is z));
      },
    )

-- the destination is one of them, unless it is the file
pub own_clobber : (netlist : Netlist) (p : Pattern) (clobbers : ℕ) → AreClobbers netlist p clobbers → p.storage ≢ place_in InFile netlist.storages → bit_at clobbers p.storage ≡ 1
own_clobber netlist p clobbers c n =
    let o = bit_at_or (own_storage netlist p.storage) (bit_xor (all_registers netlist.storages) c.kept) p.storage in
    let same : own_storage netlist p.storage ≡ 2 ^ p.storage = ap (λ (b : Bool). cond b 0 (2 ^ p.storage)) (ne_eqb p.storage (place_in InFile netlist.storages) n) in
    let s : bit_at (own_storage netlist p.storage) p.storage ≡ 1 = ap (λ k. bit_at k p.storage) same ∙ bit_at-pow_same p.storage in
    let lt = bit_at-lt (bit_xor (all_registers netlist.storages) c.kept) p.storage in
    subst (λ n. bit_at n p.storage ≡ 1) (sym c.is) (omega (arith, o, s, lt))

-- and so is the program counter, since the words step
pub counter_clobber : (netlist : Netlist) (p : Pattern) (clobbers : ℕ) → IsRegister (slice_get netlist.storages (counter_of netlist.codes)) → IsPlain netlist p → AreClobbers netlist p clobbers
    → bit_at clobbers (counter_of netlist.codes) ≡ 1
counter_clobber netlist p clobbers reg h c = by (bit_cases clobbers (counter_of netlist.codes))
  where
    stays : (m : TransferModel) (a b : ExprModel) → m ≡ keep → (m ≡ write a) ⊎ (m ≡ write b) → ⊥
    stays m a b k (inl e) = cc
    stays m a b k (inr e) = cc

    by : (bit_at clobbers (counter_of netlist.codes) ≡ 0) ⊎ (bit_at clobbers (counter_of netlist.codes) ≡ 1) → bit_at clobbers (counter_of netlist.codes) ≡ 1
    by (inr e) = e
    by (inl z) =
        (let w = plain_words netlist p clobbers h c 0 (let le = and_le_l 0 (transfer_fields p.move) in omega (arith, le)) in
        absurd (stays _ _ _ (w.2.registers (counter_of netlist.codes) reg z) w.2.steps.step))

-- ---- the forms of a list

append_at : {A : Type 0} (xs ys : List A) (k : ℕ) (x : A) → slice_get (xs ++ ys) k ≡ Some x → (slice_get xs k ≡ Some x) ⊎ ((j : ℕ) × (slice_get ys j ≡ Some x))
append_at [] ys k x e = inr (k, e)
append_at (y ∷ xs) ys zero x e = inl e
append_at (y ∷ xs) ys (suc k) x e = append_at xs ys k x e

each_at : {A : Type 0} (f : ℕ → A) (n k : ℕ) (x : A) → slice_get (map_below f n) k ≡ Some x → (j : ℕ) × (x ≡ f j)
each_at f zero k x e = absurd (cc)
each_at f (suc n) k x e = by (append_at (map_below f n) (f n ∷ []) k x e) (λ q. each_at f n k x q)
  where
    last : (j : ℕ) → slice_get (f n ∷ []) j ≡ Some x → x ≡ f n
    last zero q = cc
    last (suc j) q = absurd (cc)

    by : (slice_get (map_below f n) k ≡ Some x) ⊎ ((j : ℕ) × (slice_get (f n ∷ []) j ≡ Some x)) → (slice_get (map_below f n) k ≡ Some x → (j : ℕ) × (x ≡ f j)) → (j : ℕ) × (x ≡ f j)
    by (inl q) before = before q
    by (inr q) before = (n, last q.0 q.1)

of_forms : (netlist : Netlist) (reach number : ℕ) (p : Pattern) (forms : List FormModel) → AreFormModelsOf netlist reach number p forms → (k : ℕ) (form : FormModel) → slice_get forms k ≡ Some form → IsFormOf netlist reach number p form
of_forms netlist reach number p forms (plain clobbers h c e) k form at =
    (let r = each_at (plain_form_model netlist number p clobbers) (2 ^ swap_count (sides_of p.move)) k form (subst (λ rs. slice_get rs k ≡ Some form) e at) in of_plain r.0 clobbers h c r.1)
of_forms netlist reach number p forms (jump h e) zero form at = (let q = subst (λ rs. slice_get rs zero ≡ Some form) e at in of_jump h (cc))
of_forms netlist reach number p forms (jump h e) (suc k) form at = (let q = subst (λ rs. slice_get rs (suc k) ≡ Some form) e at in absurd (cc))
of_forms netlist reach number p forms (branch parts h e) k form at =
    (let r = each_at (branch_form_model netlist number p parts) (2 ^ swap_count (test_sides parts)) k form (subst (λ rs. slice_get rs k ≡ Some form) e at) in of_branch r.0 parts h r.1)
of_forms netlist reach number p forms (other a b c e) k form at = (let q = subst (λ rs. slice_get rs k ≡ Some form) e at in absurd (cc))

-- each form of a list is one of its pattern
pub form_at : (netlist : Netlist) (reach number : ℕ) (ps : List Pattern) (forms : List FormModel) → AreFormModels netlist reach number ps forms → (k : ℕ) (form : FormModel) → slice_get forms k ≡ Some form
    → IsForm netlist reach number ps form
form_at netlist reach number [] forms h k form at = (let q = subst (λ rs. slice_get rs k ≡ Some form) h at in absurd (cc))
form_at netlist reach number (p ∷ ps) forms h k form at =
    by (append_at h.0 h.1 k form (subst (λ rs. slice_get rs k ≡ Some form) h.4 at)) (λ j q. form_at netlist reach (number + 1) ps h.1 h.3 j form q)
  where
    by : (slice_get h.0 k ≡ Some form) ⊎ ((j : ℕ) × (slice_get h.1 j ≡ Some form)) → ((j : ℕ) → slice_get h.1 j ≡ Some form → IsForm netlist reach (number + 1) ps form) → IsForm netlist reach number (p ∷ ps) form
    by (inl q) later = record { place = 0; pattern = p; at = refl; of = subst (λ n. IsFormOf netlist reach n p form) (let e : number ≡ number + 0 = omega arith in e) (of_forms netlist reach number p h.0 h.2 k form q) }
    by (inr q) later = (let f = later q.0 q.1 in
        record { place = suc f.place; pattern = f.pattern; at = f.at; of = subst (λ n. IsFormOf netlist reach n f.pattern form) (let e : number + 1 + f.place ≡ number + suc f.place = omega arith in e) f.of })
