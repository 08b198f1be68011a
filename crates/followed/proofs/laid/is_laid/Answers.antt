use Rattle.std.proofs.Common.{ℕ, ◌∙◌, ap, arith, subst, List}
use Rattle.code_model.specs.declared.image.Place.{Place}
use Rattle.src_model.specs.declared.program.Program.{Program}
use Rattle.src_model.specs.declared.program.Var.{Var}
use Rattle.src_model.specs.Written.{model_of_program}
use Rattle.src_trees.specs.Held.{AreAlone, LieWithin, StandFor}
use Rattle.followed.proofs.Laying.{laid}
use Rattle.followed.proofs.laid.is_laid.Goals as goal

pub returns : goal.returns
returns c e =
    let netlist = c.args.checked.now.netlist in
    let image = c.args.image.now in
    let l = model_of_program c.args.typed.now.program in
    let addr = c.addr_width-addr.ensures.width in
    let low = c.if-addr-lt1.false in
    let high = c.if-addr-width.false in
    let width = c.width.ensures.value in
    let size = c.memory_size-size.ensures in
    let temps = c.if-image-size.false in
    laid netlist c.args.checked.now.order c.addr_width-addr.ensures.rules c.args.typed.now.width l image (omega (arith, addr, low)) (omega (arith, addr, high, width)) (omega (arith, temps, size))
    (subst (λ (ps : List Place). StandFor ps l.vars) c.as_slice.ensures (subst (λ (vs : List Var). StandFor c.as_slice.result.now vs) (c.as_slice-2.ensures ∙ ap (λ (p : Program). p.vars) c.program.ensures.value)
    (c.stand_for.ensures c.if-not-stand_for.false)))
    (subst (λ (n : ℕ). LieWithin image.temps n image.places) size (subst (λ (ps : List Place). LieWithin image.temps c.memory_size-size.result ps) c.as_slice-3.ensures (c.lie_within.ensures c.if-not-lie_within.false)))
    (subst AreAlone c.as_slice-4.ensures (c.are_alone.ensures e))
