use Rattle.net_model.specs.Nets.{file_place}
use Rattle.std.proofs.lemmas.Result.{IfOk-from_err}
use Rattle.std.proofs.Common.{◌≡◌, ℕ, Option, subst}
use Rattle.form_model.specs.Effects.{operation_of}
use Rattle.form_model.specs.Live.{regs_of, singles}
use Rattle.word_fit.specs.Fits.{fits_over}
use Rattle.word_fit.specs.Groups.{AreLeast}
use Rattle.compaction.specs.Meant.{MeansSteps}
use Rattle.compaction.specs.Packing.{IsPacked}
use Rattle.word_fit.specs.Steps.{step_operation}
use Rattle.code_gen.specs.Machines.{known_netlist, known_patterns}
use Rattle.code_gen.proofs.Packing.{packs_some, singles_some}
use Rattle.code_gen.proofs.blocks.pack_block.Goals as goal

pub returns-clause-packed : goal.returns-clause-packed
returns-clause-packed c =
    let machine = c.args.known.now in
    let operation = step_operation machine.machine.pool.now machine.machine.patterns.now in
    let made = c.in_ok-block.ensures in
    let some =
    packs_some operation (fits_over (known_netlist machine) operation) (regs_of c.args.after) 0 (singles c.args.steps.now) c.in_ok-block.block.groups (singles_some c.args.steps.now) made.chosen in
    let nt = known_netlist machine in
    let patterns = known_patterns machine in
    let after = regs_of c.args.after in
    let told : machine.machine.patterns.now.file ≡ file_place nt.storages = c.requires.ready.patterns.file in
    record {
      packing = record {
        some = some;
        holds = made.steps;
        means = subst (λ (f : Option ℕ). MeansSteps nt (operation_of f patterns) after c.args.steps.now c.in_ok-block.block.groups) told made.meaning;
        packed = subst (λ (f : Option ℕ). IsPacked (operation_of f patterns) (fits_over nt (operation_of f patterns)) after c.in_ok-block.block.groups) told made.packed;
      };
      least = subst (λ (f : Option ℕ). AreLeast (operation_of f patterns) (fits_over nt (operation_of f patterns)) c.in_ok-block.block.words c.in_ok-block.block.groups after) told made.least;
    }

pub returns-in_err-block-clause-once : goal.returns-in_err-block-clause-once
returns-in_err-block-clause-once c = IfOk-from_err c.from_residual.result _ c.from_residual.ensures.0

pub returns-in_err-block-clause-packed : goal.returns-in_err-block-clause-packed
returns-in_err-block-clause-packed c = IfOk-from_err c.from_residual.result _ c.from_residual.ensures.0
