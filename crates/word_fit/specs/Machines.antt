-- What steps do by the patterns of a machine, and which words fit them.
use Rattle.std.specs.Prelude.{ℕ, List}
use Rattle.transfer_set.specs.declared.machine.Machine.{Machine}
use Rattle.transfer_set.specs.Machines.{machine_netlist}
use Rattle.form_model.specs.declared.forms.Step.{Step}
use Rattle.form_model.specs.Effects.{Operation}
use Rattle.form_model.specs.Live.{Regs}
use Rattle.word_fit.specs.Fits.{fits_over}
use Rattle.word_fit.specs.Steps.{step_operation}

-- what a step does
abbrev pub machine_operation : Machine → Step → Operation
machine_operation machine = step_operation machine.pool.now machine.patterns.now

-- which words fit a group of steps
abbrev pub machine_fits : Machine → ℕ → List Step → Regs → Type 0
machine_fits machine = fits_over (machine_netlist machine) (machine_operation machine)
