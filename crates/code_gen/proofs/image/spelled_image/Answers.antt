use Rattle.std.proofs.Common.{◌≡◌, subst}
use Rattle.std.proofs.lemmas.Result.{IfErr-weaker, IfOk-weaker}
use Rattle.code_model.specs.ImageFits.{IsFitting, limits_of}
use Rattle.net_model.specs.declared.hardware.Netlist.{Netlist}
use Rattle.code_gen.proofs.Spelled.{fault_so, spelled_coded, spelled_netlist}
use Rattle.code_gen.proofs.image.spelled_image.Goals as goal

pub planned_image-requires-clause-coded : goal.planned_image-requires-clause-coded
planned_image-requires-clause-coded c =
    let t = c.requires.coded in
    let s = spelled_coded c.args.modes.now c.args.modes.now.usable.now c.args.places c.args.blocks c.in_ok-blocks.blocks t.task t.is c.args.spelling t.may c.in_ok-blocks.ensures in
    record { task = s.0; is = s.2 }

pub returns-clause-right : goal.returns-clause-right
returns-clause-right c =
    IfOk-weaker c.planned_image.result _ _ (λ image h task coded may.
    (let s = spelled_coded c.args.modes.now c.args.modes.now.usable.now c.args.places c.args.blocks c.in_ok-blocks.blocks task coded c.args.spelling may c.in_ok-blocks.ensures in
    record { spelled = s.0; is = s.1; said = h s.0 s.2 })) c.planned_image.ensures.right

pub returns-clause-reached : goal.returns-clause-reached
returns-clause-reached c =
    IfOk-weaker c.planned_image.result _ _ (λ image h task coded may.
    (let s = spelled_coded c.args.modes.now c.args.modes.now.usable.now c.args.places c.args.blocks c.in_ok-blocks.blocks task coded c.args.spelling may c.in_ok-blocks.ensures in
    record { spelled = s.0; is = s.1; said = h s.0 s.2 })) c.planned_image.ensures.reached

pub returns-clause-fits : goal.returns-clause-fits
returns-clause-fits c =
    IfOk-weaker c.planned_image.result _ _ (λ image h task coded may.
    (let s = spelled_coded c.args.modes.now c.args.modes.now.usable.now c.args.places c.args.blocks c.in_ok-blocks.blocks task coded c.args.spelling may c.in_ok-blocks.ensures in
    subst (λ (n : Netlist). IsFitting (limits_of n) image) (spelled_netlist c.args.spelling task s.0 s.1) (h s.0 s.2))) c.planned_image.ensures.fits

pub returns-clause-refused : goal.returns-clause-refused
returns-clause-refused c =
    IfErr-weaker c.planned_image.result _ _ (λ fault h task coded may.
    (let s = spelled_coded c.args.modes.now c.args.modes.now.usable.now c.args.places c.args.blocks c.in_ok-blocks.blocks task coded c.args.spelling may c.in_ok-blocks.ensures in
    fault_so c.args.spelling task s.0 s.1 fault (h s.0 s.2))) c.planned_image.ensures.refused
