use Rattle.std.proofs.Common.{◌≡◌, Some, sym, ◌∙◌, arith}
use Rattle.std.proofs.lemmas.Option.{slice_get_within}
use Rattle.std.specs.Prelude.{slice_get}
use Rattle.state_text.specs.Inner.Settings.{named_at}
use Rattle.net_model.proofs.KeptRules.{few_storages}
use Rattle.state_text.proofs.Storages.{found_storage}
use Rattle.state_text.proofs.line.setting_for.Goals as goal

pub overflow_cast-place : goal.overflow_cast-place
overflow_cast-place c =
    let n = c.args.checked.now.netlist in
    let f : slice_get n.storages c.in_ok-place.place ≡ Some c.in_ok-storage.storage.now = rw c.netlist.ensures.value at (sym c.in_ok-storage.ensures) in
    omega (arith, slice_get_within n.storages c.in_ok-place.place c.in_ok-storage.storage.now f, few_storages n c.args.checked.now.order c.netlist.ensures.kept)

pub returns : goal.returns
returns c =
    let n = c.args.checked.now.netlist in
    let f : slice_get n.storages c.in_ok-place.place ≡ Some c.in_ok-storage.storage.now = rw c.netlist.ensures.value at (sym c.in_ok-storage.ensures) in
    let e : named_at n.storages c.args.name.now ≡ Some c.in_ok-place.place = rw (c.as_slice.ensures, c.netlist.ensures.value) at (sym c.in_ok-place.ensures) in
    c.setting_at.ensures ∙ (found_storage n c.args.still c.args.name.now c.args.text.now c.in_ok-place.place c.in_ok-storage.storage.now e f)
