use Rattle.std.proofs.Common.{ℕ, List, ◌≤◌, ◌^◌, ◌∙◌, ap, subst, sym, arith}
use Rattle.net_model.specs.declared.hardware.Space.TheVariants.{Memory as InMemory}
use Rattle.net_model.specs.declared.hardware.Storage.{Storage}
use Rattle.net_model.specs.CheckedRules.{memory_addr_width}
use Rattle.net_model.specs.Nets.{memory_size, memory_width}
use Rattle.net_model.proofs.Memories.{few_sizes}
use Rattle.src_model.specs.Rules.{temp_count}
use Rattle.src_model.specs.Written.{model_of_program}
use Rattle.code_model.specs.declared.image.Places.{Places}
use Rattle.code_model.specs.Layout.{need_of}
use Rattle.src_trees.specs.Held.{HoldsVars, LieWithin}
use Rattle.src_trees.proofs.Cells.{row_held, row_room}
use Rattle.right_code.proofs.Chosen.{in_reach}
use Rattle.code_gen.proofs.Memories.{first_storages}
use Rattle.code_gen.proofs.jobs.blocks_of.Goals as goal

pub lower-requires-clause-held : goal.lower-requires-clause-held
lower-requires-clause-held c =
    let typed = c.args.typed.now in
    let program = model_of_program typed.program in
    let temps = temp_count typed.width program in
    let base = c.first.result.now in
    let stored = first_storages c.args.modes.now.netlist base.netlist c.first.ensures.base in
    subst (λ (addr : ℕ). HoldsVars c.args.places.now.temps program.vars (record { word = typed.width; addr = addr; places = c.args.places.now.list })) (sym c.addr_width-width.ensures.width)
    (subst (λ (places : Places). HoldsVars places.temps program.vars (record { word = typed.width; addr = memory_addr_width base.netlist.storages; places = places.list })) (sym c.requires.places)
    (row_held typed.width (memory_addr_width base.netlist.storages) temps program.vars
    (in_reach base.netlist base.order c.addr_width-width.ensures.rules typed.width program (ap memory_width stored ∙ sym c.requires.width)
    (subst (λ (list : List Storage). need_of typed.width program ≤ memory_size list) (sym stored) c.requires.room))))

pub lower-requires-clause-few : goal.lower-requires-clause-few
lower-requires-clause-few c =
    let typed = c.args.typed.now in
    let program = model_of_program typed.program in
    let base = c.first.result.now in
    let stored = first_storages c.args.modes.now.netlist base.netlist c.first.ensures.base in
    let room : need_of typed.width program ≤ memory_size c.args.modes.now.netlist.storages = c.requires.room in
    let few : memory_size c.args.modes.now.netlist.storages ≤ 65536 = subst (λ (list : List Storage). memory_size list ≤ 65536) stored (few_sizes base.netlist base.order c.addr_width-width.ensures.rules InMemory) in
    subst (λ (places : Places). LieWithin places.temps (2 ^ 32) places.list) (sym c.requires.places)
    (row_room (temp_count typed.width program) (2 ^ 32) program.vars (omega (arith, room, few)))
