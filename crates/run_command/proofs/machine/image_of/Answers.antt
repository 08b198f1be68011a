use Rattle.std.proofs.Common.{◌≡◌}
use Rattle.viewed_text.specs.Texts.{IsImageRead, IsRemarkedRefusal}
use Rattle.run_command.specs.Inner.Runs.{IsImageFault, image_fault}
use Rattle.run_command.proofs.Firsts.{image_fault_first, image_first, told_err, told_ok}
use Rattle.run_command.proofs.machine.image_of.Goals as goal

pub returns-clause-found : goal.returns-clause-found
returns-clause-found c =
    let netlist = c.args.modes.now.netlist in
    let first = c.first.result.now.netlist in
    let bytes = c.args.bytes.now in
    told_ok (λ fault other. other ≡ image_fault fault) c.read_image.result c.map_err.result (IsImageRead first bytes) (IsImageRead netlist bytes)
    (image_first netlist first c.first.ensures.base bytes) c.map_err.ensures.cases c.read_image.ensures.found

pub returns-clause-refused : goal.returns-clause-refused
returns-clause-refused c =
    let netlist = c.args.modes.now.netlist in
    let first = c.first.result.now.netlist in
    let bytes = c.args.bytes.now in
    told_err (λ fault other. other ≡ image_fault fault) c.read_image.result c.map_err.result (IsRemarkedRefusal first bytes) (IsImageFault netlist bytes)
    (λ fault other is refused. rw is (image_fault_first netlist first c.first.ensures.base bytes fault refused)) c.map_err.ensures.cases c.read_image.ensures.refused
