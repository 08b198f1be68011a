use Rattle.std.proofs.Common.{◌^◌, subst, sym}
use Rattle.std.proofs.lemmas.Result.{IfOk-weaker}
use Rattle.code_model.specs.declared.image.Places.{Places}
use Rattle.src_trees.specs.Held.{LieWithin}
use Rattle.followed.proofs.Laying.{lie_few}
use Rattle.followed.proofs.checks.passed.Goals as goal

pub lower-requires-clause-few : goal.lower-requires-clause-few
lower-requires-clause-few c =
    subst (λ (places : Places). LieWithin places.temps (2 ^ 32) places.list) (sym c.in_ok-places.ensures)
    (lie_few c.args.claim.now.checked.now.netlist c.args.claim.now.checked.now.order c.addr_width.ensures.rules c.args.claim.now.viewed.now.image.temps c.args.claim.now.viewed.now.image.places (c.is_laid.ensures c.if-not-is_laid.false).room.within)

pub returns-clause-ways : goal.returns-clause-ways
returns-clause-ways c = IfOk-weaker c.ways.result _ _ (λ passed h. h.ways) c.ways.ensures.ways
