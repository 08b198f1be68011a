use Rattle.std.proofs.Common.{◌∙◌, ap, List}
use Rattle.bank_view.specs.declared.slot.Slot.{Slot}
use Rattle.bank_view.specs.Views.{before, is_bank_write, is_memory_write}
use Rattle.bank_view.specs.Inner.Numbers.{numbers_from, total}
use Rattle.bank_view.proofs.Numbers.{are_numbers, slots_few}
use Rattle.bank_view.proofs.views.numbered.Goals as goal

pub returns : goal.returns
returns c =
    are_numbers c.args.netlist.now c.requires.few _
    (c.in_ok-nets.ensures ∙ ap (λ (l : List Slot). numbers_from c.args.netlist.now 0 l) c.requires.slots)
    (c.total.ensures ∙ ap (λ (l : List Slot). total c.args.netlist.now l) c.requires.slots)
    (c.memory_number.ensures ∙ ap (λ (l : List Slot). before c.args.netlist.now is_memory_write l) c.requires.slots)
    (c.bank_number.ensures ∙ ap (λ (l : List Slot). before c.args.netlist.now is_bank_write l) c.requires.slots)
    c.memory_place.ensures c.bank_place.ensures

pub net_numbers-requires : goal.net_numbers-requires
net_numbers-requires c = slots_few c.args.netlist.now c.args.slots.now c.requires.slots c.requires.few

pub total-requires : goal.total-requires
total-requires c = slots_few c.args.netlist.now c.args.slots.now c.requires.slots c.requires.few

pub memory_number-requires : goal.memory_number-requires
memory_number-requires c = slots_few c.args.netlist.now c.args.slots.now c.requires.slots c.requires.few

pub bank_number-requires : goal.bank_number-requires
bank_number-requires c = slots_few c.args.netlist.now c.args.slots.now c.requires.slots c.requires.few
