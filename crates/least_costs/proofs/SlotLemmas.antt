-- Entries of a row and their places.
use Rattle.std.proofs.Common.{◌≡◌, ◌≢◌, ◌<◌, Bool, true, false, refl, sym, ap, ◌∙◌, subst, arith, eq-eqb}
use Rattle.std.specs.Prelude.{not}
use Rattle.std.proofs.lemmas.Bool.{not-false}
use borrow.Author.Tests.{eqb-true}
use Rattle.least_costs.specs.contracts.slots.SlotPartialEq.TheImpl.{ghosts as slot_eq}
use Rattle.least_costs.specs.declared.slots.Slot.{Slot}
use Rattle.least_costs.specs.declared.slots.Slot.TheVariants.{Register, File, Temporary}
use Rattle.least_costs.specs.Slots.{place, IsEntry, IsSlot}

-- an entry stands inside its row
pub place_within : (s : Slot) → IsEntry s → place s < 18
place_within (Register r) h = omega (arith, h)
place_within File h = omega arith
place_within Temporary h = omega arith

pub slot_entry : (whole : Bool) (s : Slot) → IsSlot whole s → IsEntry s
slot_entry whole (Register r) h = h
slot_entry whole File h = tt
slot_entry whole Temporary h = tt

pub slot_within : (whole : Bool) (s : Slot) → IsSlot whole s → place s < 18
slot_within whole s h = place_within s (slot_entry whole s h)

-- no two entries stand in one place
pub place_once : (a b : Slot) → IsEntry a → IsEntry b → place a ≡ place b → a ≡ b
place_once (Register r) (Register q) h k e = ap Register e
place_once (Register r) File h k e = absurd (omega (arith, h, e))
place_once (Register r) Temporary h k e = absurd (omega (arith, h, e))
place_once File (Register q) h k e = absurd (omega (arith, k, e))
place_once File File h k e = refl
place_once File Temporary h k e = absurd (omega (arith, e))
place_once Temporary (Register q) h k e = absurd (omega (arith, k, e))
place_once Temporary File h k e = absurd (omega (arith, e))
place_once Temporary Temporary h k e = refl

-- ---- whether two entries are one

pub same_entry : (a b : Slot) → not (slot_eq.eq a b) ≡ false → a ≡ b
same_entry (Register r) (Register q) h = ap Register (eqb-true r q (not-false _ h))
same_entry (Register r) File h = absurd (cc)
same_entry (Register r) Temporary h = absurd (cc)
same_entry File (Register q) h = absurd (cc)
same_entry File File h = refl
same_entry File Temporary h = absurd (cc)
same_entry Temporary (Register q) h = absurd (cc)
same_entry Temporary File h = absurd (cc)
same_entry Temporary Temporary h = refl

equal_self : (a : Slot) → slot_eq.eq a a ≡ true
equal_self (Register r) = eq-eqb r r refl
equal_self File = refl
equal_self Temporary = refl

pub other_entry : (a b : Slot) → not (slot_eq.eq a b) ≡ true → a ≢ b
other_entry a b h e =
    let s : not (slot_eq.eq a b) ≡ false = ap not (subst (λ x. slot_eq.eq a x ≡ true) e (equal_self a)) in
    let t : true ≡ false = sym h ∙ s in cc
