use Rattle.std.proofs.Common.{◌≡◌, sym, ◌∙◌, Some, None}
use Rattle.rec_bits.specs.Faults.{least}
use Rattle.net_model.specs.NetFaults.{enable_offsets, control_offsets, selector_offsets}
use Rattle.net_model.proofs.Offsets.{all_pass}
use Rattle.net_check.proofs.Broken.{at_control}
use Rattle.net_check.proofs.control.first_broken.Goals as goal

pub returns-in-Some : goal.returns-in-Some
returns-in-Some c =
    let broken : Some c.in-Some.at ≡ least (enable_offsets c.args.netlist.now) = rw c.requires.enables at c.in-Some.ensures in
    (c.requires.acyclic, c.requires.roles, sym broken)

pub returns-in-Some-sooner_of : goal.returns-in-Some-sooner_of
returns-in-Some-sooner_of c =
    let static : None ≡ least (enable_offsets c.args.netlist.now) = rw c.requires.enables at c.in_default.ensures in
    let broken : Some c.in-Some-sooner_of.at ≡ least (control_offsets c.args.netlist.now) = (rw (c.least_broken-enable_at.ensures, c.least_broken-selector_at.ensures, c.requires.enables, c.requires.selectors) at c.in-Some-sooner_of.ensures) ∙ at_control c.args.netlist.now in
    (c.requires.acyclic, c.requires.roles, all_pass _ _ _ (sym static), sym broken)

pub returns-in-Some-least_broken : goal.returns-in-Some-least_broken
returns-in-Some-least_broken c =
    let static : None ≡ least (enable_offsets c.args.netlist.now) = rw c.requires.enables at c.in_default.ensures in
    let plain : None ≡ least (control_offsets c.args.netlist.now) = (rw (c.least_broken-enable_at.ensures, c.least_broken-selector_at.ensures, c.requires.enables, c.requires.selectors) at c.in_default-sooner_of.ensures) ∙ at_control c.args.netlist.now in
    let broken : Some c.in-Some-least_broken.at ≡ least (selector_offsets c.args.netlist.now) = rw c.requires.selectors at c.in-Some-least_broken.ensures in
    (c.requires.acyclic, c.requires.roles, all_pass _ _ _ (sym static), all_pass _ _ _ (sym plain), sym broken)

pub returns-in-None : goal.returns-in-None
returns-in-None c =
    let static : None ≡ least (enable_offsets c.args.netlist.now) = rw c.requires.enables at c.in_default.ensures in
    let plain : None ≡ least (control_offsets c.args.netlist.now) = (rw (c.least_broken-enable_at.ensures, c.least_broken-selector_at.ensures, c.requires.enables, c.requires.selectors) at c.in_default-sooner_of.ensures) ∙ at_control c.args.netlist.now in
    let narrow : None ≡ least (selector_offsets c.args.netlist.now) = rw c.requires.selectors at c.in-None.ensures in
    record { enables = all_pass _ _ _ (sym static); control = all_pass _ _ _ (sym plain); selectors = all_pass _ _ _ (sym narrow) }
