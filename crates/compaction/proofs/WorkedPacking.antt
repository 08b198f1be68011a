-- Worked groups that may be merged, steps that may move, and lists that are packed, where a word
-- does at most two steps.
use Rattle.std.proofs.Common.{◌≡◌, ℕ, ◌≤◌, lit<, lit≤, zero, suc, arith, List, [], ◌∷◌, length, slice_get, Some, refl}
use Rattle.std.proofs.lemmas.Bool.{true≢false}
use Rattle.std.specs.List.{remove}
use Rattle.std.proofs.lemmas.List.Sorted.{IsPermutation-append_comm}
use Rattle.form_model.specs.Effects.{Operation}
use Rattle.form_model.specs.Live.{Regs, no_regs}
use Rattle.form_model.specs.declared.forms.Step.{Step}
use Rattle.compaction.specs.Chosen.{Packs, ends, merges, stays}
use Rattle.compaction.specs.Lists.{IsPatternList}
use Rattle.compaction.specs.Packing.{IsPacked, IsSettled, Mergeable, Movable}
use Rattle.compaction.specs.Worked.{as_is, fetches, loads, stores}

abbrev fits_two : ℕ → List Operation → Regs → Type 0
fits_two w g live = length g ≤ 2

-- a read may stand beside a store at another address, and not beside one at its own, where it would
-- find the old value
merged : Mergeable as_is fits_two (stores 2 ∷ []) (fetches 3 ∷ []) no_regs
merged = record { differ = refl; apart = refl; word = (0, lit≤ tt) }

met : Mergeable as_is fits_two (stores 2 ∷ []) (fetches 2 ∷ []) no_regs → ⊥
met c = true≢false c.apart

-- three steps have no word
crowded : Mergeable as_is fits_two (fetches 2 ∷ loads ∷ []) (stores 3 ∷ []) no_regs → ⊥
crowded c = (let few : 3 ≤ 2 = c.word.1 in absurd (omega (arith, few)))

-- a read may leave a group in which nobody reads its register
moved : Movable as_is fits_two (stores 2 ∷ []) (fetches 3) (loads ∷ []) no_regs
moved = record { free = record { other = lit≤ tt; own = refl; apart = refl; unread = refl }; first = (0, lit≤ tt); second = (0, lit≤ tt) }

-- and not one in which its register is stored
read_there : Movable as_is fits_two (fetches 3 ∷ []) loads (stores 2 ∷ []) no_regs → ⊥
read_there c = true≢false c.free.unread

-- two neighbours that may be merged aren't packed
unpacked : IsPacked as_is fits_two no_regs ((stores 2 ∷ []) ∷ (fetches 3 ∷ []) ∷ []) → ⊥
unpacked p = (p 0 (stores 2 ∷ []) (fetches 3 ∷ []) refl refl).unmergeable merged

-- and those that meet stay
settled : IsSettled as_is fits_two (stores 2 ∷ []) (fetches 2 ∷ []) no_regs
settled = record { unmergeable = met; unmovable = alone }
  where
    alone : (i : ℕ) (x : Operation) → slice_get (fetches 2 ∷ []) i ≡ Some x → Movable as_is fits_two (stores 2 ∷ []) x (remove (fetches 2 ∷ []) i) no_regs → ⊥
    alone zero x e c = (let none : 1 ≤ 0 = c.free.other in absurd (omega (arith, none)))
    alone (suc i) x e c = cc

-- the packing of a store and a read beside it, and of those that meet
together : Packs as_is fits_two no_regs 0 ((stores 2 ∷ []) ∷ (fetches 3 ∷ []) ∷ []) ((stores 2 ∷ fetches 3 ∷ []) ∷ [])
together =
    merges 0 ((stores 2 ∷ []) ∷ (fetches 3 ∷ []) ∷ []) ((stores 2 ∷ fetches 3 ∷ []) ∷ []) [] (stores 2 ∷ []) (fetches 3 ∷ []) [] refl refl merged
    (ends 0 ((stores 2 ∷ fetches 3 ∷ []) ∷ []) ((stores 2 ∷ fetches 3 ∷ []) ∷ []) (lit≤ tt) refl)

alone : Packs as_is fits_two no_regs 0 ((stores 2 ∷ []) ∷ (fetches 2 ∷ []) ∷ []) ((stores 2 ∷ []) ∷ (fetches 2 ∷ []) ∷ [])
alone =
    stays 0 ((stores 2 ∷ []) ∷ (fetches 2 ∷ []) ∷ []) ((stores 2 ∷ []) ∷ (fetches 2 ∷ []) ∷ []) [] (stores 2 ∷ []) (fetches 2 ∷ []) [] refl refl settled
    (ends 1 ((stores 2 ∷ []) ∷ (fetches 2 ∷ []) ∷ []) ((stores 2 ∷ []) ∷ (fetches 2 ∷ []) ∷ []) (lit≤ tt) refl)

-- a word of two patterns lists them, the lesser first
two_patterns : List Step
two_patterns = record { pattern = 4; setting = 9 } ∷ record { pattern = 2; setting = 0 } ∷ []

listed : IsPatternList two_patterns (2 ∷ 4 ∷ [])
unfolding two_patterns
listed = record { ascends = (lit≤ tt, lit< tt, (lit≤ tt, lit< tt, tt)); holds = IsPermutation-append_comm (4 ∷ []) (2 ∷ []) }

falling : IsPatternList two_patterns (4 ∷ 2 ∷ []) → ⊥
unfolding two_patterns
falling l = (let up : 5 ≤ 2 = l.ascends.2.0 in absurd (omega (arith, up)))
