use Rattle.std.proofs.Common.{◌≡◌, ◌<◌, ◌≤◌, sym, length, slice_get, slice_index, Some, arith}
use Rattle.std.proofs.lemmas.Grind.{common_steps}
use Rattle.rec_bits.proofs.Lists.{slice_get_past}
use Rattle.net_check.specs.Inner.Graphs.{named_in}
use Rattle.net_check.specs.Inner.Walk.{stage_at}
use Rattle.net_check.specs.declared.walk.Stage.TheVariants.{New, Open, Placed}
use Rattle.net_check.proofs.Walks.{read_at}
use Rattle.net_check.proofs.Steps.{goes_off, goes_seen, goes_new, goes_placed, open_cycle}
use Rattle.net_check.proofs.walk.step.Goals as goal

pub returns-in_default : goal.returns-in_default
returns-in_default c =
    let at : c.stage_of.result ≡ stage_at c.args.walk.now.stages c.args.top = rw c.as_slice.ensures at c.stage_of.ensures in
    goes_off _ c.requires.range c.args.walk.now c.args.top c.requires.kept (λ k h. c.in_default.not-Open k (rw at h))

pub returns-then-place-named : goal.returns-then-place-named
returns-then-place-named c =
    let here : Open c.in-Open.place ≡ stage_at c.args.walk.now.stages c.args.top = rw c.as_slice.ensures at c.in-Open.ensures in
    let past : length (named_in c.args.graph.now c.args.top) ≤ c.in-Open.place = rw c.named_at-named.ensures at c.if-place-named.true in
    goes_placed _ c.requires.range c.args.walk.now c.args.top c.requires.kept _ (sym here) (slice_get_past _ _ past) _ _ c.set.ensures c.in_ok-push.ensures.pushed

pub returns-in_ok-push-in-New-2 : goal.returns-in_ok-push-in-New-2
returns-in_ok-push-in-New-2 c =
    let here : Open c.in-Open.place ≡ stage_at c.args.walk.now.stages c.args.top = rw c.as_slice.ensures at c.in-Open.ensures in
    let short : c.in-Open.place < length (named_in c.args.graph.now c.args.top) = rw c.named_at-named.ensures at c.if-place-named.false in
    let fresh : New ≡ stage_at c.args.walk.now.stages (slice_index c.named_at-named.result.now c.in-Open.place) = rw c.as_slice-2.ensures at c.in-New.ensures in
    let at : slice_get (named_in c.args.graph.now c.args.top) c.in-Open.place ≡ Some (slice_index c.named_at-named.result.now c.in-Open.place) = rw c.named_at-named.ensures (read_at _ _ short) in
    goes_new _ c.requires.range c.args.walk.now c.args.top c.requires.kept _ (sym here) _ at (sym fresh) _ _ _ c.set-in-New.ensures c.in_ok-push-in-New.ensures.pushed c.in_ok-push-in-New-2.ensures.pushed

pub returns-in-Open-stage_of : goal.returns-in-Open-stage_of
returns-in-Open-stage_of c =
    let short : c.in-Open.place < length (named_in c.args.graph.now c.args.top) = rw c.named_at-named.ensures at c.if-place-named.false in
    let here : Open c.in-Open-stage_of.field-0 ≡ stage_at c.args.walk.now.stages (slice_index c.named_at-named.result.now c.in-Open.place) = rw c.as_slice-2.ensures at c.in-Open-stage_of.ensures in
    let at : slice_get (named_in c.args.graph.now c.args.top) c.in-Open.place ≡ Some (slice_index c.named_at-named.result.now c.in-Open.place) = rw c.named_at-named.ensures (read_at _ _ short) in
    open_cycle _ c.args.walk.now c.args.top c.requires.kept _ _ _ at (sym here)

pub returns-in_ok-push-in-Placed : goal.returns-in_ok-push-in-Placed
returns-in_ok-push-in-Placed c =
    let here : Open c.in-Open.place ≡ stage_at c.args.walk.now.stages c.args.top = rw c.as_slice.ensures at c.in-Open.ensures in
    let short : c.in-Open.place < length (named_in c.args.graph.now c.args.top) = rw c.named_at-named.ensures at c.if-place-named.false in
    let done : Placed ≡ stage_at c.args.walk.now.stages (slice_index c.named_at-named.result.now c.in-Open.place) = rw c.as_slice-2.ensures at c.in-Placed.ensures in
    let at : slice_get (named_in c.args.graph.now c.args.top) c.in-Open.place ≡ Some (slice_index c.named_at-named.result.now c.in-Open.place) = rw c.named_at-named.ensures (read_at _ _ short) in
    goes_seen _ c.requires.range c.args.walk.now c.args.top c.requires.kept _ (sym here) _ at (sym done) _ _ c.set-in-Placed.ensures c.in_ok-push-in-Placed.ensures.pushed

pub set-requires : goal.set-requires
set-requires c = grind (arith, common_steps)

pub set-requires-in-New : goal.set-requires-in-New
set-requires-in-New c = grind (arith, common_steps)

pub set-requires-in-Placed : goal.set-requires-in-Placed
set-requires-in-Placed c = grind (arith, common_steps)
