-- The same over a netlist with a table of its patterns, as the packer has them.
use Rattle.std.specs.Prelude.{◌≡◌, ℕ, List, [], ◌∷◌, map, Option}
use Rattle.form_model.specs.declared.forms.Step.{Step}
use Rattle.form_model.specs.Live.{Regs, live_before, regs_of}
use Rattle.word_fit.specs.Fits.{IsLeastFit}
use Rattle.word_fit.specs.Groups.{lives_of}
use Rattle.live_sets.specs.Listed.{AreListed}
use Rattle.compaction.specs.Machines.{known_fits, known_operation}
use Rattle.compaction.specs.Tables.{KnowsReads}
use Rattle.compaction.specs.Packing.{Mergeable, Movable}
use Rattle.compaction.specs.Inner.Turns.{IsChange, IsMoved, IsMovedAt, IsPackedTo, IsPacking, IsTurn}
use Rattle.compaction.specs.Inner.Found.{AreFound}
use Rattle.compaction.specs.declared.change.Change.{Change}
use Rattle.compaction.specs.declared.change.Change.TheVariants.{Merged, Moved, Settled}
use Rattle.compaction.specs.declared.change.Fitted.{Fitted}
use Rattle.compaction.specs.declared.change.Pair.{Pair}
use Rattle.compaction.specs.declared.draft.Draft.{Draft}
use Rattle.compaction.specs.declared.machine.KnownMachine.{KnownMachine}

-- ---- the machine

-- it lists patterns of its netlist, and tells what each expression reads
pub record HasTables (known : KnownMachine) : Type 0 where
  pub listed : AreListed known.machine
  pub tables : KnowsReads known

-- ---- changes and turns

-- some word fits the group, where these registers are live behind it
abbrev pub HasWord : KnownMachine → List Step → Regs → Type 0
HasWord known g live = (w : ℕ) × known_fits known w g live

-- the word of a group is the least that fits it there
abbrev pub IsFitted : KnownMachine → Regs → Fitted → Type 0
IsFitted known live fitted = IsLeastFit (λ word. known_fits known word fitted.group live) fitted.word

-- so it is for two neighbours, where these registers are live behind the second
abbrev pub AreFitted : KnownMachine → Regs → Fitted → Fitted → Type 0
AreFitted known live first second =
    IsFitted known (live_before (known_operation known) (second.group ∷ []) live) first × IsFitted known live second

abbrev pub IsPairFitted : KnownMachine → Regs → Pair → Type 0
IsPairFitted known live pair = AreFitted known live pair.first pair.second

-- and for the groups that a change makes
abbrev pub AreWordsOf : KnownMachine → Regs → Change → Type 0
AreWordsOf known live (Merged both) = IsFitted known live both
AreWordsOf known live (Moved first second) = AreFitted known live first second
AreWordsOf known live Settled = Unit {0}

abbrev pub CanMerge : KnownMachine → List Step → List Step → Regs → Type 0
CanMerge known g h live = Mergeable (known_operation known) (known_fits known) g h live

abbrev pub CanMove : KnownMachine → List Step → Step → List Step → Regs → Type 0
CanMove known g x rest live = Movable (known_operation known) (known_fits known) g x rest live

abbrev pub MovesAt : KnownMachine → List Step → List Step → Regs → ℕ → List Step → List Step → Type 0
MovesAt known g h live index first second =
    IsMovedAt (known_operation known) (known_fits known) g h live index first second

abbrev pub Moves : KnownMachine → List Step → List Step → Regs → List Step → List Step → Type 0
Moves known g h live first second = IsMoved (known_operation known) (known_fits known) g h live first second

abbrev pub Changes : KnownMachine → List Step → List Step → Regs → Change → Type 0
Changes known g h live change = IsChange (known_operation known) (known_fits known) g h live change

abbrev pub PackedTo : KnownMachine → Regs → ℕ → List (List Step) → Type 0
PackedTo known after k gs = IsPackedTo (known_operation known) (known_fits known) after k gs

abbrev pub Turns : KnownMachine → Regs → List (List Step) → List (List Step) → ℕ → ℕ → Type 0
Turns known after old new k next = IsTurn (known_operation known) (known_fits known) after old new k next

abbrev pub Packing : KnownMachine → Regs → List (List Step) → List (List Step) → Type 0
Packing known after old new = IsPacking (known_operation known) (known_fits known) after old new

-- the words that were found for groups are the least that fit them
abbrev pub HaveFound : KnownMachine → List (Option ℕ) → List (List Step) → Regs → Type 0
HaveFound known found gs after = AreFound (known_operation known) (known_fits known) found gs after

-- a draft of a block behind which these registers are live, of which the first k pairs are settled:
-- it has the registers that are live behind each group, and the words that were found
pub record IsDraft (known : KnownMachine) (after : Regs) (k : ℕ) (draft : Draft) : Type 0 where
  pub lives : map regs_of draft.lives.items ≡ lives_of (known_operation known) draft.groups.items after
  pub found : HaveFound known draft.found.items draft.groups.items after
  pub packed : PackedTo known after k draft.groups.items
