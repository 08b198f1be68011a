use Rattle.std.proofs.Common.{◌≡◌, ◌∙◌, ap, get_or, set}
use Rattle.cycle_sim.specs.Shown.{Shown}
use Rattle.cycle_sim.specs.Trades.{holding}
use Rattle.cycle_sim.proofs.Sims.{traded_at}
use Rattle.cycle_sim.proofs.modes.trade.Goals as goal

pub returns-clause-sims : goal.returns-clause-sims
returns-clause-sims c =
    let sims = c.args.sims.now.items in
    let spare = c.args.spare.now in
    let from = c.args.from in
    let to = c.args.to in
    let x = c.index_mut.result.now in
    let y = c.index_mut-2.result.now in
    let z = c.index_mut-3.result.now in
    let first : c.trade.new.other ≡ holding x spare = c.trade.ensures.there in
    let second : c.trade-2.new.other ≡ holding y (holding spare x) = c.trade-2.ensures.there ∙ ap (holding y) c.trade.ensures.here in
    let third : c.trade-3.new.other ≡ holding z (holding (holding spare x) y) =
    c.trade-3.ensures.there ∙ ap (holding z) (c.trade-2.ensures.here ∙ ap (λ (sim : Shown). holding sim y) c.trade.ensures.here) in
    (λ i. set (set (set sims from (first i)) to (second i)) from (third i))
    ∙ traded_at sims from to spare (rw (← c.args.sims.now.ok.0) c.requires.from) (rw (← c.args.sims.now.ok.0) c.requires.to) c.requires.apart x c.index_mut.ensures.value
    y (c.index_mut-2.ensures.value ∙ (λ i. get_or (set sims from (first i)) to y))
    z (c.index_mut-3.ensures.value ∙ (λ i. get_or (set (set sims from (first i)) to (second i)) from z))
