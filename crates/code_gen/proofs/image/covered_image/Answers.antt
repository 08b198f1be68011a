use Rattle.std.proofs.Common.{◌≡◌, ◌+◌, ◌∙◌, ap, arith, get_or, length}
use Rattle.std.proofs.lemmas.List.{length-map}
use Rattle.std.proofs.lemmas.Option.{slice_get-get_or}
use Rattle.branch_fix.specs.Bounds.{bound_of}
use Rattle.mode_set.specs.declared.plans.Plan.{Plan}
use Rattle.net_model.specs.CheckedRules.{code_size}
use Rattle.net_model.specs.declared.hardware.Netlist.{Netlist}
use Rattle.net_model.proofs.ModeFaults.{some_modes}
use Rattle.code_gen.proofs.Built.{beyond, codes_there, is_fitting, is_right, near, too_long}
use Rattle.code_gen.proofs.Frames.{forms_within, machine_within}
use Rattle.code_gen.proofs.Held.{reach_read}
use Rattle.code_gen.proofs.image.covered_image.Goals as goal

-- mode 0 has its machine and its forms
pub bounds-modes-0 : goal.bounds-modes-0
bounds-modes-0 c =
    let t = c.requires.task in
    forms_within c.args.program.now.modes c.args.program.now t.task t.isas t.planning 0 (some_modes t.task.netlist)

pub bounds-modes-0-2 : goal.bounds-modes-0-2
bounds-modes-0-2 c =
    let t = c.requires.task in
    machine_within c.args.program.now.modes c.args.program.now t.task t.isas t.planning 0 (some_modes t.task.netlist)

-- there are as many costs as plans
pub laid_image-requires-clause-few : goal.laid_image-requires-clause-few
laid_image-requires-clause-few c =
    let long = length-map c.args.program.now.plans.now (λ (plan : Plan). plan.cost) in
    let are = ap length (c.as_slice-2.ensures ∙ c.in_ok-costs.ensures) in
    omega (arith, long, are, c.requires.few)

pub returns-then-bound-reach-clause-refused : goal.returns-then-bound-reach-clause-refused
returns-then-bound-reach-clause-refused c = λ task isas p placed.
    beyond c.args.program.now.modes c.args.program.now task isas p c.bound-bound.result
    (c.bound-bound.ensures ∙ ap (bound_of c.args.program.now.flow.now) (c.as_slice.ensures ∙ c.in_ok-costs.ensures)) _ (reach_read c.args.program.now.modes c.index-modes-0.result (forms_within c.args.program.now.modes c.args.program.now task isas p 0 (some_modes task.netlist))) c.if-bound-reach.true

pub returns-then-len-size-clause-refused : goal.returns-then-len-size-clause-refused
returns-then-len-size-clause-refused c = λ task isas p placed.
    (let modes = c.args.program.now.modes in
    let program = c.args.program.now in
    let bound = c.bound-bound.ensures ∙ ap (bound_of program.flow.now) (c.as_slice.ensures ∙ c.in_ok-costs.ensures) in
    let own = slice_get-get_or modes.machines.now 0 c.index-modes-0-2.result (machine_within modes program task isas p 0 (some_modes task.netlist)) in
    let room : c.from-size.result ≡ code_size task.netlist.codes =
    c.from-size.ensures ∙ c.code_size.ensures ∙ ap (λ (n : Netlist). code_size n.codes) c.netlist.ensures.value ∙ codes_there modes program task isas p (get_or modes.machines.now 0 c.index-modes-0-2.result) own in (
      near modes program task isas p c.bound-bound.result bound _ (reach_read c.args.program.now.modes c.index-modes-0.result (forms_within c.args.program.now.modes c.args.program.now task isas p 0 (some_modes task.netlist))) c.if-bound-reach.false,
      too_long modes program task isas p c.bound-bound.result bound _ (reach_read c.args.program.now.modes c.index-modes-0.result (forms_within c.args.program.now.modes c.args.program.now task isas p 0 (some_modes task.netlist))) c.in_ok-image.image (c.in_ok-image.ensures.made task isas p placed) c.len-len.result c.from-size.result
          c.len-len.ensures room c.if-len-size.true,
    ))

pub returns-clause-right : goal.returns-clause-right
returns-clause-right c = λ task isas p placed.
    (let modes = c.args.program.now.modes in
    let program = c.args.program.now in
    let bound = c.bound-bound.ensures ∙ ap (bound_of program.flow.now) (c.as_slice.ensures ∙ c.in_ok-costs.ensures) in
    let own = slice_get-get_or modes.machines.now 0 c.index-modes-0-2.result (machine_within modes program task isas p 0 (some_modes task.netlist)) in
    let size = c.from-size.ensures ∙ c.code_size.ensures ∙ ap (λ (n : Netlist). code_size n.codes) c.netlist.ensures.value ∙ codes_there modes program task isas p (get_or modes.machines.now 0 c.index-modes-0-2.result) own in
    let len = c.len-len.ensures in
    let few = c.if-len-size.false in
    is_right modes program task isas p c.in_ok-image.image (c.in_ok-image.ensures.made task isas p placed) (omega (arith, len, size, few)) (near modes program task isas p c.bound-bound.result bound _ (reach_read c.args.program.now.modes c.index-modes-0.result (forms_within c.args.program.now.modes c.args.program.now task isas p 0 (some_modes task.netlist))) c.if-bound-reach.false))

pub returns-clause-fits : goal.returns-clause-fits
returns-clause-fits c = λ task isas p placed.
    (let modes = c.args.program.now.modes in
    let program = c.args.program.now in
    let own = slice_get-get_or modes.machines.now 0 c.index-modes-0-2.result (machine_within modes program task isas p 0 (some_modes task.netlist)) in
    let size = c.from-size.ensures ∙ c.code_size.ensures ∙ ap (λ (n : Netlist). code_size n.codes) c.netlist.ensures.value ∙ codes_there modes program task isas p (get_or modes.machines.now 0 c.index-modes-0-2.result) own in
    let len = c.len-len.ensures in
    let few = c.if-len-size.false in
    is_fitting modes program task isas p c.in_ok-image.image (c.in_ok-image.ensures.made task isas p placed) (omega (arith, len, size, few)) c.args.places placed c.requires.named c.in_ok-image.ensures.costs)
