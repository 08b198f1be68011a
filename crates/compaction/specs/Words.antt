-- The words of groups, by the patterns of a machine.
use Rattle.std.specs.Prelude.{List}
use Rattle.transfer_set.specs.declared.machine.Machine.{Machine}
use Rattle.form_model.specs.declared.forms.Step.{Step}
use Rattle.form_model.specs.Live.{Regs}
use Rattle.word_fit.specs.Groups.{AllHaveWords}
use Rattle.word_fit.specs.Machines.{machine_fits, machine_operation}

-- each group has a word that fits it with the registers that are live after it
abbrev pub HaveWords : Machine → List (List Step) → Regs → Type 0
HaveWords machine groups after = AllHaveWords (machine_operation machine) (machine_fits machine) groups after
