use Rattle.std.proofs.Common.{◌-◌, ◌∙◌, ap, arith, refl, sym}
use Rattle.std.specs.Prelude.{option_copied}
use Rattle.std.proofs.lemmas.Result.{IfOk-weaker}
use Rattle.net_model.specs.declared.hardware.Netlist.{Netlist}
use Rattle.src_model.specs.declared.program.Program.{Program}
use Rattle.src_model.specs.Written.{model_of_program}
use Rattle.src_trees.specs.Jobs.{models_of_jobs}
use Rattle.followed.proofs.Following.{addresses, whole_follows}
use Rattle.followed.proofs.whole.ways_of.Goals as goal

pub goes_to-requires : goal.goes_to-requires
goes_to-requires c id move e = (c.requires.code (c.len-count.result - 1) c.in-Some.coded.now (sym c.coded_at.ensures ∙ ap option_copied c.in-Some.is)).within id move e

pub ways-requires-clause-code : goal.ways-requires-clause-code
ways-requires-clause-code c a coded e = (c.requires.code a coded e).within

pub returns : goal.returns
returns c =
    let claim = c.args.claim.now in
    let netlist = claim.checked.now.netlist in
    let viewed = claim.viewed.now in
    let l = model_of_program claim.typed.now.program in
    let width = claim.typed.now.width in
    let some = c.if-count-eq0.false in
    let count = c.len-count.ensures in
    IfOk-weaker c.ways.result _ _
    (λ passed h. whole_follows netlist viewed width l _ _ passed h
    (c.as_slice-2.ensures ∙ ap (λ (p : Program). p.vars) c.program.ensures.value) c.netlist-netlist.ensures.sound c.requires.modeless (c.from-counter.ensures ∙ c.pc.ensures) (c.from-memory.ensures ∙ c.memory.ensures)
    (c.from-file.ensures ∙ c.place.ensures) (c.from-file_cells.ensures ∙ c.size.ensures) (c.as_slice-4.ensures ∙ ap (λ (n : Netlist). n.storages) c.netlist-netlist.ensures.value) c.width.ensures
    c.requires.code (c.memory_width.ensures.width ∙ c.requires.word) c.requires.word refl c.requires.laid (c.as_slice-3.ensures ∙ c.in_ok-marks.ensures ∙ ap addresses c.as_slice.ensures) (c.as_slice-5.ensures ∙ c.requires.flow)
    (ap models_of_jobs c.as_slice-6.ensures.value ∙ c.requires.jobs) (omega (arith, some, count)) c.in-Some.coded.now (sym c.coded_at.ensures ∙ ap option_copied c.in-Some.is) (c.goes_to.ensures c.if-not-goes_to.false)) c.ways.ensures
