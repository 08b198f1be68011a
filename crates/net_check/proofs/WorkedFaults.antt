-- The faults of the small netlists.
use Rattle.std.proofs.Common.{lit≤, lit<, refl, ℕ, zero, suc, ◌<◌, ◌≡◌, ◌⊎◌, inl, inr, List, [], ◌∷◌, slice_get, slice_index, arith}
use Rattle.std.specs.List.{AllByRecursion}
use Rattle.net_model.specs.declared.fault.NetFault.TheVariants.{Cycle, Enable, WideSelect, FileAddr, Role as RoleFault}
use Rattle.net_model.specs.declared.fault.Role.TheVariants.{File as NoFile}
use Rattle.net_model.specs.Nets.{nets_of}
use Rattle.net_model.specs.Order.{position_of}
use Rattle.net_model.specs.Depends.{Among, Depends, direct, via, named_by, IsAcyclic}
use Rattle.net_model.specs.CheckedRules.{HasFile, HasRoles, KeepsRules}
use Rattle.net_model.specs.NetFaults.{FaultOf}
use Rattle.net_model.proofs.Acyclic.{acyclic_of}
use Rattle.net_model.proofs.FaultLaws.{kept_no_fault}
use Rattle.net_check.specs.Worked.{looped, small, filed}

-- ---- nets 1 and 2 lie on a cycle, and net 0 doesn't

abbrev InLoop : ℕ → Type 0
InLoop n = (n ≡ 1) ⊎ (n ≡ 2)

step_in : (a b : ℕ) → InLoop a → Among b (named_by looped a) → InLoop b
step_in a b (inl e) h = elim (rw e at h) [ inl i ↦ inr i | inr i ↦ absurd i ]
step_in a b (inr e) h = elim (rw e at h) [ inl i ↦ inl i | inr i ↦ absurd i ]

stays_in : (a b : ℕ) → InLoop a → Depends (named_by looped) a b → InLoop b
stays_in a b h (direct n) = step_in a b h n
stays_in a c h (via {b = b} n d) = stays_in b c (step_in a b h n) d

leads_in : (b : ℕ) → Depends (named_by looped) 0 b → InLoop b
leads_in b (direct (inl e)) = inr e
leads_in b (direct (inr h)) = absurd h
leads_in c (via {b = b} (inl e) d) = stays_in b c (inr e) d
leads_in c (via (inr h) d) = absurd h

pub looped_fault : FaultOf looped (Cycle 30)
looped_fault = (1, record { on = via (inl refl) (direct (inl refl)); least = first }, refl)
  where
    first : (m : ℕ) → m < 1 → Depends (named_by looped) m m → ⊥
    first zero h d = elim (leads_in 0 d) [ inl e ↦ cc e | inr e ↦ cc e ]
    first (suc m) h d = omega arith

pub looped_breaks : (order : List ℕ) → KeepsRules looped order → ⊥
looped_breaks order k = kept_no_fault looped order k (Cycle 30) looped_fault

-- ---- an enable and a selector that read the program counter

abbrev plain_order : List ℕ
plain_order = 0 ∷ 1 ∷ 2 ∷ 3 ∷ 4 ∷ 5 ∷ []

module _ (enable : ℕ) where
  order_nets : (i : ℕ) → i < 6 → slice_index plain_order i < 6
  order_nets zero h = lit< tt
  order_nets (suc zero) h = lit< tt
  order_nets (suc (suc zero)) h = lit< tt
  order_nets (suc (suc (suc zero))) h = lit< tt
  order_nets (suc (suc (suc (suc zero)))) h = lit< tt
  order_nets (suc (suc (suc (suc (suc zero))))) h = lit< tt
  order_nets (suc (suc (suc (suc (suc (suc i)))))) h = absurd (omega arith)

  order_places : (n : ℕ) → n < 6 → position_of plain_order n < 6
  order_places zero h = lit< tt
  order_places (suc zero) h = lit< tt
  order_places (suc (suc zero)) h = lit< tt
  order_places (suc (suc (suc zero))) h = lit< tt
  order_places (suc (suc (suc (suc zero)))) h = lit< tt
  order_places (suc (suc (suc (suc (suc zero))))) h = lit< tt
  order_places (suc (suc (suc (suc (suc (suc i)))))) h = absurd (omega arith)

  order_falls : (n : ℕ) → AllByRecursion (λ m. position_of plain_order m < position_of plain_order n) (nets_of (slice_get (small 1 enable).nets n))
  order_falls zero = tt
  order_falls (suc zero) = tt
  order_falls (suc (suc zero)) = (lit< tt, tt)
  order_falls (suc (suc (suc zero))) = (lit< tt, tt)
  order_falls (suc (suc (suc (suc zero)))) = (lit< tt, (lit< tt, tt))
  order_falls (suc (suc (suc (suc (suc zero))))) = (lit< tt, (lit< tt, (lit< tt, tt)))
  order_falls (suc (suc (suc (suc (suc (suc n)))))) = tt

  small_acyclic : IsAcyclic (small 1 enable)
  small_acyclic = acyclic_of (small 1 enable) plain_order (record { long = refl; nets = order_nets; places = order_places; falls = order_falls })

  small_roles : HasRoles (small 1 enable)
  small_roles = record {
    code = refl;
    memory = refl;
    counter = lit≤ tt;
    sizes = ((lit≤ tt, lit≤ tt), (lit≤ tt, lit≤ tt));
    address = lit≤ tt;
    file = (refl, tt);
    mode = tt;
    bank = tt;
  }

-- the enable comes first, and the selector only where the enable is static
pub late_enable : FaultOf (small 1 3) (Enable 40)
late_enable = (small_acyclic 3, small_roles 3, refl)

pub wide_selector : FaultOf (small 1 2) (WideSelect 20)
wide_selector = (small_acyclic 2, small_roles 2, (refl, tt), (refl, (refl, tt)), refl)

-- ---- a register file

filed_acyclic : (size addr : ℕ) → IsAcyclic (filed size addr)
filed_acyclic size addr = acyclic_of (filed size addr) order (record { long = refl; nets = below; places = placed; falls = falls })
  where
    order : List ℕ
    order = 0 ∷ 1 ∷ []

    below : (i : ℕ) → i < 2 → slice_index order i < 2
    below zero h = lit< tt
    below (suc zero) h = lit< tt
    below (suc (suc i)) h = absurd (omega arith)

    placed : (n : ℕ) → n < 2 → position_of order n < 2
    placed zero h = lit< tt
    placed (suc zero) h = lit< tt
    placed (suc (suc i)) h = absurd (omega arith)

    falls : (n : ℕ) → AllByRecursion (λ m. position_of order m < position_of order n) (nets_of (slice_get (filed size addr).nets n))
    falls zero = tt
    falls (suc zero) = tt
    falls (suc (suc n)) = tt

filed_roles : (size addr : ℕ) → HasFile (filed size addr) → HasRoles (filed size addr)
filed_roles size addr file = record {
  code = refl;
  memory = refl;
  counter = lit≤ tt;
  sizes = ((lit≤ tt, lit≤ tt), (lit≤ tt, lit≤ tt));
  address = lit≤ tt;
  file = file;
  mode = tt;
  bank = tt;
}

-- the file is written where the program counter says
pub late_address : FaultOf (filed 4 1) (FileAddr 20)
late_address = (filed_acyclic 4 1, filed_roles 4 1 (refl, (lit≤ tt, lit≤ tt)), tt, tt, tt, refl)

-- two bits reach four cells, and a file has a cell
pub past_its_addresses : FaultOf (filed 5 1) (RoleFault NoFile)
past_its_addresses = (filed_acyclic 5 1, (refl, refl, lit≤ tt, ((lit≤ tt, lit≤ tt), (lit≤ tt, lit≤ tt)), lit≤ tt, λ h. omega (arith, h.1.1)))

pub without_a_cell : FaultOf (filed 0 0) (RoleFault NoFile)
without_a_cell = (filed_acyclic 0 0, (refl, refl, lit≤ tt, ((lit≤ tt, lit≤ tt), (lit≤ tt, lit≤ tt)), lit≤ tt, λ h. omega (arith, h.1.0)))
