use Rattle.std.proofs.Common.{◌<◌, arith, length}
use Rattle.std.proofs.lemmas.Slice.Zip.{AllZip-long}
use Rattle.net_model.proofs.ModeFaults.{some_bases}
use Rattle.net_model.specs.CheckedRules.{Ordered}
use Rattle.isa_extract.specs.Extraction.{IsIsaOf}
use Rattle.isa_extract.specs.declared.netlists.Isa.{Isa}
use Rattle.isa_extract.proofs.OverModes.{zip_first}
use Rattle.isa_extract.proofs.texts.modes_text.Goals as goal

abbrev Are : Ordered → Isa → Type 0
Are base isa = IsIsaOf base.netlist isa

pub bounds-isas-0 : goal.bounds-isas-0
bounds-isas-0 c =
    let long = AllZip-long Are c.args.modes.now.bases c.args.isas.now c.requires in
    let some = some_bases c.args.modes.now.netlist c.args.modes.now.bases c.first.ensures.kept in
    let there : 0 < length c.args.isas.now = omega (arith, long, some) in
    there

pub patterns_text-requires : goal.patterns_text-requires
patterns_text-requires c =
    zip_first Are c.args.modes.now.bases c.args.isas.now c.first.result.now c.index-isas-0.result c.requires c.first.ensures.value c.index-isas-0.is
