use Rattle.std.proofs.lemmas.Result.{err_from_is_err_and}
use Rattle.dual_command.proofs.Imaged.{coded_checked, image_refused, image_right, places_few, places_fit, places_held, places_refused}
use Rattle.dual_command.proofs.compiler.image_for.Goals as goal

pub jobs-requires-clause-held : goal.jobs-requires-clause-held
jobs-requires-clause-held c =
    places_held c.args.modes.now c.args.typed.now c.args.in_bank.now.items c.requires.seen c.requires.width c.requires.flags
    c.in_ok-places.ensures.memory c.in_ok-places.ensures.enough c.in_ok-places.places c.in_ok-places.ensures.places

pub jobs-requires-clause-few : goal.jobs-requires-clause-few
jobs-requires-clause-few c =
    places_few c.args.modes.now c.args.typed.now c.args.in_bank.now.items c.requires.seen c.requires.width c.requires.flags
    c.in_ok-places.ensures.memory c.in_ok-places.ensures.enough c.in_ok-places.places c.in_ok-places.ensures.places

pub image_of-requires-clause-checked : goal.image_of-requires-clause-checked
image_of-requires-clause-checked c =
    coded_checked c.args.modes.now c.args.typed.now c.args.in_bank.now.items c.requires.seen c.requires.width c.requires.flags
    c.in_ok-places.ensures.memory c.in_ok-places.ensures.enough c.in_ok-places.places c.in_ok-places.ensures.places
    c.in_ok-blocks.blocks c.in_ok-blocks.ensures.flow c.in_ok-blocks.ensures.jobs c.requires.program

pub image_of-requires-clause-named : goal.image_of-requires-clause-named
image_of-requires-clause-named c =
    places_fit c.args.modes.now c.args.typed.now c.args.in_bank.now.items c.requires.seen c.requires.width c.requires.flags
    c.in_ok-places.ensures.memory c.in_ok-places.ensures.enough c.in_ok-places.places c.in_ok-places.ensures.places c.requires.named

pub returns-clause-image : goal.returns-clause-image
returns-clause-image c = λ n is.
    image_right c.args.modes.now c.args.typed.now c.args.in_bank.now.items c.requires.seen c.requires.width c.requires.flags
    c.in_ok-places.ensures.memory c.in_ok-places.ensures.enough c.in_ok-places.places c.in_ok-places.ensures.places
    c.in_ok-blocks.blocks c.in_ok-blocks.ensures.flow c.in_ok-blocks.ensures.jobs n is
    c.in_ok-image.image c.in_ok-image.ensures.right c.in_ok-image.ensures.reached c.in_ok-image.ensures.fits

pub returns-in_err-places-clause-refused : goal.returns-in_err-places-clause-refused
returns-in_err-places-clause-refused c =
    let p = err_from_is_err_and c.from_residual.result c.from_residual.ensures.1 in
    rw (p.1, p.2) (λ n is. places_refused c.args.modes.now c.args.typed.now c.args.in_bank.now.items n is _ c.in_err-places.ensures.refused)

pub returns-in_err-image-clause-refused : goal.returns-in_err-image-clause-refused
returns-in_err-image-clause-refused c =
    let p = err_from_is_err_and c.from_residual-in_err-image.result c.from_residual-in_err-image.ensures.1 in
    rw (p.1, p.2) (λ n is.
    image_refused c.args.modes.now c.args.typed.now c.args.in_bank.now.items c.requires.seen c.requires.width c.requires.flags
    c.in_ok-places.ensures.memory c.in_ok-places.ensures.enough c.in_ok-places.places c.in_ok-places.ensures.places
    c.in_ok-blocks.blocks c.in_ok-blocks.ensures.flow c.in_ok-blocks.ensures.jobs n is _ c.in_err-image.ensures.refused)
