use Rattle.std.proofs.Common.{ℕ, ◌^◌, subst, sym}
use Rattle.code_model.specs.declared.image.Places.{Places}
use Rattle.src_model.specs.Written.{model_of_program}
use Rattle.src_trees.specs.Held.{HoldsVars, LieWithin}
use Rattle.check_command.proofs.RuleLemmas.{places_few, vars_held}
use Rattle.check_command.proofs.rules.marks_fault.Goals as goal

pub lower-requires-clause-held : goal.lower-requires-clause-held
lower-requires-clause-held c =
    let typed = c.args.typed.now in
    let image = c.args.image.now in
    let vars = (model_of_program typed.program).vars in
    subst (λ (p : Places). HoldsVars p.temps vars (record { word = typed.width; addr = c.addr_width.result; places = p.list })) (sym c.in_ok-places.ensures)
    (subst (λ (n : ℕ). HoldsVars image.temps vars (record { word = typed.width; addr = n; places = image.places })) (sym c.addr_width.ensures.width)
    (vars_held c.args.checked.now.netlist c.args.checked.now.order c.addr_width.ensures.rules vars image c.requires.placed typed.width c.requires.word))

pub lower-requires-clause-few : goal.lower-requires-clause-few
lower-requires-clause-few c =
    subst (λ (p : Places). LieWithin p.temps (2 ^ 32) p.list) (sym c.in_ok-places.ensures)
    (places_few c.args.checked.now.netlist c.args.checked.now.order c.addr_width.ensures.rules (model_of_program c.args.typed.now.program).vars c.args.image.now c.requires.placed)

pub mark_fault-requires : goal.mark_fault-requires
mark_fault-requires c = c.requires.fits.in_order
