-- Each group of a packing has a step, so there are no more groups than steps; and its words' lists
-- ascend. The empty set of bits is that of no registers.
use Rattle.net_model.specs.Nets.{file_place}
use Rattle.std.proofs.Common.{◌≡◌, ℕ, suc, ◌-◌, ◌≤◌, List, [], ◌∷◌, ◌++◌, Option, length, arith, length-append, subst, sym}
use Rattle.std.proofs.lemmas.List.Sorted.{length_permutation}
use Rattle.std.specs.List.{AllByRecursion}
use Rattle.net_model.specs.declared.hardware.Netlist.{Netlist}
use Rattle.net_model.specs.Patterns.{Pattern}
use Rattle.transfer_set.specs.declared.machine.Machine.{Machine}
use Rattle.transfer_set.specs.Machines.{machine_netlist, machine_patterns}
use Rattle.word_fit.specs.Fits.{fits_over}
use Rattle.word_fit.specs.Groups.{AllHaveWords}
use Rattle.compaction.specs.Laws.{operation_in}
use Rattle.compaction.specs.Words.{HaveWords}
use Rattle.code_model.specs.declared.image.Word.{Word}
use Rattle.code_model.specs.ImageFits.{AscendFrom}
use Rattle.form_model.specs.declared.forms.Step.{Step}
use Rattle.form_model.specs.Effects.{Operation, operation_of}
use Rattle.form_model.specs.Live.{Regs, no_regs, regs_of, singles}
use Rattle.branch_fix.specs.declared.laid.Item.{Item}
use Rattle.live_sets.proofs.Bits.{regs_of_none}
use Rattle.compaction.specs.Chosen.{Packs, ends, merges, moves, stays}
use Rattle.compaction.specs.Packing.{all_steps}
use Rattle.right_code.specs.Words.{EachHasStep, IsPackingOf, ListItems}

-- no register's bit is set in 0
pub none_live : regs_of 0 ≡ no_regs
none_live = λ j r. regs_of_none r j

-- a group for each step has it
pub singles_some : (xs : List Step) → EachHasStep (singles xs)
singles_some [] = tt
singles_some (x ∷ xs) = (omega arith, singles_some xs)

-- the last groups are others that have steps
others_some : (front old new : List (List Step)) → (EachHasStep old → EachHasStep new) → EachHasStep (front ++ old) → EachHasStep (front ++ new)
others_some [] old new f h = f h
others_some (g ∷ front) old new f h = (h.0, others_some front old new f h.1)

-- groups that are merged keep their steps, and no group gives its last step away
pub packs_some : (m : Step → Operation) (fits : ℕ → List Step → Regs → Type 0) (after : Regs) (pair : ℕ) (gs result : List (List Step)) → EachHasStep gs → Packs m fits after pair gs result → EachHasStep result
packs_some m fits after pair gs result some (ends p xs r few same) = subst EachHasStep (sym same) some
packs_some m fits after pair gs result some (merges p xs r front g h back split place merge rest) =
    packs_some m fits after (p - 1) (front ++ (g ++ h) ∷ back) r
    (others_some front (g ∷ h ∷ back) ((g ++ h) ∷ back) (λ s. (omega (arith, s.0, length-append g h), s.1.1)) (subst EachHasStep split some)) rest
packs_some m fits after pair gs result some (moves p xs r front g a x b back split place unmerged movable first rest) =
    packs_some m fits after (p - 1) (front ++ (g ++ x ∷ []) ∷ (a ++ b) ∷ back) r
    (others_some front (g ∷ (a ++ x ∷ b) ∷ back) ((g ++ x ∷ []) ∷ (a ++ b) ∷ back) (λ s. (omega (arith, s.0, length-append g (x ∷ [])), (movable.free.other, s.1.1))) (subst EachHasStep split some)) rest
packs_some m fits after pair gs result some (stays p xs r front g h back split place settled rest) = packs_some m fits after (suc p) xs r some rest

-- so there are no more groups than steps
few_groups : (groups : List (List Step)) → EachHasStep groups → length groups ≤ length (all_steps groups)
few_groups [] some = omega arith
few_groups (g ∷ groups) some = omega (arith, some.0, few_groups groups some.1, length-append g (all_steps groups))

pub groups_few : {netlist : Netlist} {patterns : List Pattern} {steps : List Step} {after : Regs} {groups : List (List Step)} → IsPackingOf netlist patterns steps after groups → length groups ≤ length steps
groups_few {netlist} {patterns} {steps} {after} {groups} packing = omega (arith, few_groups groups packing.some, length_permutation steps (all_steps groups) packing.holds)

-- lists of patterns ascend
pub lists_ascend : (groups : ℕ → List (List Step)) (items : List Item) (words : List Word) → ListItems groups items words → AllByRecursion (λ (word : Word). AscendFrom 0 word.patterns) words
lists_ascend groups [] [] h = tt
lists_ascend groups [] (w ∷ words) h = absurd h
lists_ascend groups (i ∷ items) [] h = absurd h
lists_ascend groups (i ∷ items) (w ∷ words) h = (h.0.ascends, lists_ascend groups items words h.1)

-- groups that have words by the netlist have them by a machine that tells its register file
pub told_words : (machine : Machine) (groups : List (List Step)) (after : Regs) → machine.patterns.now.file ≡ file_place (machine_netlist machine).storages →
    AllHaveWords (operation_in (machine_netlist machine) (machine_patterns machine)) (fits_over (machine_netlist machine) (operation_in (machine_netlist machine) (machine_patterns machine))) groups after →
    HaveWords machine groups after
told_words machine groups after told have =
    subst (λ (f : Option ℕ). AllHaveWords (operation_of f (machine_patterns machine)) (fits_over (machine_netlist machine) (operation_of f (machine_patterns machine))) groups after) (sym told) have
