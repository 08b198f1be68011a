-- The groups and the words of blocks, and the words that stand in an image in the order of its
-- layout.
use Rattle.compaction.specs.Laws.{operation_in}
use Rattle.std.specs.Prelude.{ℕ, ◌+◌, ◌≤◌, ◌≡◌, List, [], ◌∷◌, length, Option, slice_index, IsPermutation}
use Rattle.mode_set.specs.Words.{FitsTurn}
use Rattle.std.specs.List.{AllByRecursion, slice_index_or}
use Rattle.net_model.specs.declared.hardware.Netlist.{Netlist}
use Rattle.net_model.specs.Patterns.{Pattern}
use Rattle.code_model.specs.declared.image.Word.{Word}
use Rattle.form_model.specs.declared.forms.Step.{Step}
use Rattle.form_model.specs.Live.{Regs}
use Rattle.word_fit.specs.Fits.{IsLeastFit, fits_over}
use Rattle.word_fit.specs.Groups.{AreLeast}
use Rattle.compaction.specs.Lists.{IsPatternList}
use Rattle.compaction.specs.Meant.{MeansSteps}
use Rattle.compaction.specs.Packing.{IsPacked, all_steps}
use Rattle.branch_fix.specs.declared.laid.Item.{Item}
use Rattle.branch_fix.specs.declared.laid.Item.TheVariants.{Group, Jump}

-- ---- the groups of a block

-- each group has a step, so that a block without steps has no group
abbrev pub EachHasStep : List (List Step) → Type 0
EachHasStep groups = AllByRecursion (λ (group : List Step). 1 ≤ length group) groups

-- groups that the steps of a block are packed into, where these registers are live behind the
-- block: each has a step, and together they hold the steps, each as often; any words that fit the
-- groups leave what the steps leave one after the other; no two neighbours may be merged, and no
-- step may move to the group before
pub record IsPackingOf (netlist : Netlist) (patterns : List Pattern) (steps : List Step)
    (after : Regs) (groups : List (List Step)) : Type 0 where
  pub some : EachHasStep groups
  pub holds : IsPermutation steps (all_steps groups)
  pub means : MeansSteps netlist (operation_in netlist patterns) after steps groups
  pub packed : IsPacked (operation_in netlist patterns) (fits_over netlist (operation_in netlist patterns)) after groups

-- each group has one word, the least that fits it with the registers that are live behind it
abbrev pub AreGroupWords : Netlist → List Pattern → List (List Step) → Regs → List ℕ → Type 0
AreGroupWords netlist patterns groups after words =
    AreLeast (operation_in netlist patterns) (fits_over netlist (operation_in netlist patterns)) words groups after

-- ---- the words of a layout

-- the word of an item: that of its group in its block's words, or the least jump or branch word of
-- the item's setting that keeps the data memory and the mode
abbrev pub IsItemWord : Netlist → Option ℕ → List Pattern → (ℕ → List ℕ) → ℕ → Item → Type 0
IsItemWord netlist special patterns words i (Group block at) = i ≡ slice_index (words block) at
IsItemWord netlist special patterns words i (Jump step) =
    IsLeastFit (λ word. FitsTurn netlist special word (operation_in netlist patterns step)) i

-- the words of items stand in the code one after the other, from an address on
abbrev pub StandItems : Netlist → Option ℕ → List Pattern → (ℕ → List ℕ) → List ℕ → ℕ → List Item → Type 0
StandItems netlist special patterns words code at [] = Unit {0}
StandItems netlist special patterns words code at (item ∷ items) =
    IsItemWord netlist special patterns words (slice_index code at) item
    × StandItems netlist special patterns words code (at + 1) items

-- the steps of an item's word: those of its group, by the blocks' groups, or the jump or branch
-- alone
abbrev pub item_steps : (ℕ → List (List Step)) → Item → List Step
item_steps groups (Group block at) = slice_index_or (groups block) at []
item_steps groups (Jump step) = step ∷ []

-- the words of items list the patterns of their steps
abbrev pub ListItems : (ℕ → List (List Step)) → List Item → List Word → Type 0
ListItems groups [] [] = Unit {0}
ListItems groups (item ∷ items) (word ∷ words) =
    IsPatternList (item_steps groups item) word.patterns × ListItems groups items words
ListItems groups _ _ = ⊥
