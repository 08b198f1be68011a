use Rattle.std.proofs.Common.{◌≡◌, ◌∙◌, IsTrue, None, Some, ap, is_some, not, option_map, sym}
use Rattle.net_model.specs.declared.hardware.Space.TheVariants.{File as InFile}
use Rattle.net_model.specs.CheckedRules.{count_in}
use Rattle.net_model.specs.Nets.{array_in}
use Rattle.net_check.specs.Inner.Roles.{shape_of}
use Rattle.net_check.proofs.Lacks.{beside_of, memory_wide, no_bank_beside, shaped_of}
use Rattle.net_check.proofs.role.has_bank_beside.Goals as goal

pub is_beside-requires-clause-low : goal.is_beside-requires-clause-low
is_beside-requires-clause-low c = (memory_wide c.args.netlist.now c.args.memory c.requires.formed c.requires.memory).0

pub is_beside-requires-clause-high : goal.is_beside-requires-clause-high
is_beside-requires-clause-high c = (memory_wide c.args.netlist.now c.args.memory c.requires.formed c.requires.memory).1

pub returns-in-Some : goal.returns-in-Some
returns-in-Some c =
    let netlist = c.args.netlist.now in
    let file : Some c.in-Some.bank ≡ option_map shape_of (array_in InFile netlist.storages) = rw c.as_slice-storages.ensures at c.in-Some.ensures in
    let has : IsTrue (is_some netlist.special) = c.is_none.ensures ∙ ap not c.if-is_none.false in
    let one : count_in InFile netlist.storages ≡ 1 = ap (count_in InFile) (sym c.as_slice-storages.ensures) ∙ sym c.count_files.ensures ∙ c.if-count_files-ne1.false in (
      λ t. beside_of netlist.storages netlist.special c.args.memory c.requires.memory c.in-Some.bank file has one (c.is_beside.ensures.0 t),
      λ h. c.is_beside.ensures.1 (shaped_of netlist.storages netlist.special c.args.memory c.requires.memory c.in-Some.bank file h),
    )

pub returns-in-None : goal.returns-in-None
returns-in-None c =
    let netlist = c.args.netlist.now in
    let file : None ≡ option_map shape_of (array_in InFile netlist.storages) = rw c.as_slice-storages.ensures at c.in-None.ensures in
    (λ t. absurd (cc t), λ h. absurd (no_bank_beside netlist.storages netlist.special file h))
