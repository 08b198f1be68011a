use Rattle.std.proofs.Common.{◌≡◌, ◌↔◌, true, Bool, subst, sym}
use Rattle.net_model.specs.Occurs.{IsLinear}
use Rattle.transfer_set.specs.Entries.{ids_transfer}
use Rattle.form_set.specs.Tied.{counted}
use Rattle.form_set.proofs.LinearLaws.{linear_is}
use Rattle.form_set.proofs.linear.move_linear.Goals as goal

pub returns : goal.returns
returns c =
    let move = counted c.args.filed (ids_transfer c.args.pool.now c.args.addr c.args.value) in
    subst (λ (b : Bool). (b ≡ true) ↔ IsLinear c.args.free move) (sym c.are_linear-linear.ensures) (linear_is c.args.free move)
