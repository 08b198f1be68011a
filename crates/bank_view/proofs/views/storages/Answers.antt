use Rattle.std.proofs.Common.{◌≡◌, ◌∙◌, List, Some, ap, arith, length, refl, slice_get, sym}
use Rattle.std.proofs.lemmas.Option.{slice_get_read}
use Rattle.net_model.specs.declared.hardware.Storage.{Storage}
use Rattle.bank_view.proofs.Arrays.{no_file}
use Rattle.bank_view.proofs.Beside.{beside_of}
use Rattle.bank_view.proofs.views.storages.Goals as goal

pub joined-requires-clause-other : goal.joined-requires-clause-other
joined-requires-clause-other c =
    let d = c.args.netlist.now in
    let xs = c.as_slice-storage-items.result.now in
    let there : slice_get xs c.loop-number.number ≡ Some c.storage-item.result =
    slice_get_read xs (length xs) c.loop-number.number c.storage-item.result refl (omega arith) c.storage-item.is in
    no_file d (beside_of d c.requires.banks) c.loop-number.number c.storage-item.result
    (ap (λ (storages : List Storage). slice_get storages c.loop-number.number) (sym c.as_slice-storage-items.ensures) ∙ there)
    (λ e. c.if-number-numbers.true (e ∙ sym c.requires.numbers.bank_place))
