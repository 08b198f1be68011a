use Rattle.std.proofs.Common.{◌≡◌, ◌∙◌, ◌++◌, ◌<◌, ℕ, List, ap, arith, get_or, length, subst, sym}
use Rattle.std.specs.List.{AllZip}
use Rattle.std.proofs.lemmas.Slice.Zip.{AllZip-long}
use Rattle.net_model.specs.declared.hardware.Netlist.{Netlist}
use Rattle.net_model.specs.CheckedRules.{Ordered}
use Rattle.net_model.specs.ModeRules.{AreModesOfNetlist, modes_in}
use Rattle.isa_extract.specs.Extraction.{IsIsaOf}
use Rattle.isa_extract.specs.Extracts.{AreTextsBelow, IsTextOf}
use Rattle.isa_extract.specs.declared.netlists.Isa.{Isa}
use Rattle.isa_extract.proofs.OverModes.{base_read, many, text_more, zip_read}
use Rattle.isa_extract.proofs.texts.mode_texts.Goals as goal

abbrev Are : Ordered → Isa → Type 0
Are base isa = IsIsaOf base.netlist isa

pub bounds-bases-mode : goal.bounds-bases-mode
bounds-bases-mode c =
    let long = AllZip-long Are c.args.modes.now.bases c.args.isas.now c.requires in
    let same = ap length c.bases-bases.ensures.value in
    omega (arith, long, same)

pub patterns_text-requires : goal.patterns_text-requires
patterns_text-requires c =
    let bases = c.bases-bases.result.now in
    let base = c.index-bases-mode.result in
    let are : AllZip Are bases c.args.isas.now = subst (λ (list : List Ordered). AllZip Are list c.args.isas.now) (sym c.bases-bases.ensures.value) c.requires in
    zip_read Are bases c.args.isas.now c.loop-isa.isa-index base c.isa-item.result are (omega (arith, c.loop-isa-test.true))
    (c.index-bases-mode.is ∙ ap (λ (k : ℕ). get_or bases k base) c.loop-isa.invariant.0) c.isa-item.is

pub loop-isa-preserved : goal.loop-isa-preserved
loop-isa-preserved c =
    let netlist = c.args.modes.now.netlist in
    let bases = c.bases-bases.result.now in
    let base = c.index-bases-mode.result in
    let mode = c.loop-isa.mode in
    let own = c.in_ok-own.own.items in
    let are : AreModesOfNetlist netlist bases = subst (AreModesOfNetlist netlist) (sym c.bases-bases.ensures.value) c.bases-bases.ensures.kept in
    let long = AllZip-long Are c.args.modes.now.bases c.args.isas.now c.requires in
    let same = ap length c.bases-bases.ensures.value in
    let within : mode < length bases = omega (arith, long, same) in (
      omega arith,
      text_more netlist mode c.loop-isa.text.items own c.extend_from_slice.new.self.items c.loop-isa.invariant.1
          (subst (λ (n : Netlist). IsTextOf n own) (base_read netlist bases are mode base within c.index-bases-mode.is) c.in_ok-own.ensures)
          (c.in_ok-extend_from_slice.ensures.items ∙ (λ i. c.in_ok-add_mode.ensures i ++ c.as_slice.ensures.value i)),
    )

pub returns : goal.returns
returns c =
    let netlist = c.args.modes.now.netlist in
    let bases = c.args.modes.now.bases in
    let count = many netlist bases c.bases-bases.ensures.kept in
    let long = AllZip-long Are bases c.args.isas.now c.requires in
    let all : c.loop-isa.mode ≡ modes_in netlist = omega (arith, count, long) in
    subst (λ (n : ℕ). AreTextsBelow netlist n c.loop-isa.text.items) all c.loop-isa.invariant.1
