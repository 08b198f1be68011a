use Rattle.std.proofs.Common.{arith, ◌≡◌, ◌+◌, ◌∙◌, sym, ap, ◌<◌, length, get_or, map}
use Rattle.std.specs.List.{range_with_len}
use Rattle.std.proofs.lemmas.List.{drop_more}
use Rattle.std.proofs.lemmas.Option.{slice_get-get_or}
use Rattle.branch_fix.specs.declared.part.LayoutPart.TheVariants.{Block}
use Rattle.branch_fix.specs.Parts.{address, total}
use Rattle.branch_fix.proofs.Addresses.{address_first, address_more, starts_more}
use Rattle.branch_fix.proofs.rooms.starts.Goals as goal

pub loop-part-init : goal.loop-part-init
loop-part-init c = record { made = c.new-addresses.ensures; here = sym (address_first c.args.parts.now); sum = omega arith }

pub loop-part-preserved : goal.loop-part-preserved
loop-part-preserved c =
    let parts = c.args.parts.now in
    let k = c.loop-part.part-index in
    let within : k < length parts = omega arith in
    let i = c.loop-part.invariant in
    let r = c.room-address.ensures in
    let t = ap total (drop_more parts k (Block 0 0) within) in
    record {
      made = starts_more parts k c.loop-part.address c.loop-part.addresses c.push.new.self i.made i.here c.in_ok-push.ensures.pushed;
      here = address_more parts k c.loop-part.address c.room-address.result (get_or parts k (Block 0 0)) (slice_get-get_or parts k (Block 0 0) within) i.here r;
      sum = omega (arith, t, i.sum, r);
    }

pub returns : goal.returns
returns c =
    let parts = c.args.parts.now in
    let last : c.loop-part.part-index ≡ length parts = omega arith in
    starts_more parts c.loop-part.part-index c.loop-part.address c.loop-part.addresses c.push-2.new.self c.loop-part.invariant.made c.loop-part.invariant.here c.in_ok-push-2.ensures.pushed
    ∙ ap (λ n. map (address parts) (range_with_len 0 (n + 1))) last
