-- The same over a machine, as the packer has it. `Worked` computes which steps meet;
-- `proofs/WorkedPacking` has groups that may be merged and that may not, packings and lists.
use Rattle.std.specs.Prelude.{ℕ, List}
use Rattle.transfer_set.specs.declared.machine.Machine.{Machine}
use Rattle.form_model.specs.declared.forms.Step.{Step}
use Rattle.form_model.specs.Effects.{Operation}
use Rattle.form_model.specs.Live.{Regs}
use Rattle.word_fit.specs.Machines.{machine_fits, machine_operation}
use Rattle.compaction.specs.Packing.{IsPacked}
use Rattle.compaction.specs.Chosen.{Packs}
use Rattle.compaction.specs.declared.machine.KnownMachine.{KnownMachine}

-- ---- a machine of which it is known what its expressions read

-- what its steps do
abbrev pub known_operation : KnownMachine → Step → Operation
known_operation known = machine_operation known.machine

-- which words fit a group of them
abbrev pub known_fits : KnownMachine → ℕ → List Step → Regs → Type 0
known_fits known = machine_fits known.machine

-- ---- the result

-- no two of the groups may be merged, and no step may move
abbrev pub ArePacked : Machine → Regs → List (List Step) → Type 0
ArePacked machine after gs = IsPacked (machine_operation machine) (machine_fits machine) after gs

-- they are those that are written
abbrev pub IsWritten : Machine → Regs → List (List Step) → List (List Step) → Type 0
IsWritten machine after gs result = Packs (machine_operation machine) (machine_fits machine) after 0 gs result
