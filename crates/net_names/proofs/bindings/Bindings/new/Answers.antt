use Rattle.std.proofs.Common.{◌+◌, map, drop, ap, refl}
use Rattle.net_model.specs.Written.{binding_of}
use Rattle.net_names.specs.Places.{bound_place}
use Rattle.net_names.proofs.Tables.{places_next, seen_from}
use Rattle.net_names.proofs.bindings.Bindings.new.Goals as goal

pub loop-i-preserved : goal.loop-i-preserved
loop-i-preserved c =
    let bindings = c.args.bindings.now in
    let parts = seen_from binding_of bindings bindings c.loop-i.i c.index-bindings-i.result refl c.loop-i-test.true c.index-bindings-i.is in
    places_next c.loop-i.table c.enter.new.self c.index-bindings-i.result.0.name c.loop-i.i
    (bound_place (drop c.loop-i.i (map binding_of bindings))) (bound_place (drop (c.loop-i.i + 1) (map binding_of bindings))) (bound_place (map binding_of bindings))
    c.in_ok-enter.ensures.entered (λ name. ap (λ bs. bound_place bs name) parts) c.loop-i.invariant
