use Rattle.std.proofs.Common.{◌∙◌, ap, drop, length, refl, arith}
use Rattle.std.proofs.lemmas.Option.{slice_get_read}
use Rattle.std.specs.Prelude.{slice_get}
use Rattle.rec_bits.proofs.Booleans.{impossible}
use Rattle.rec_bits.proofs.Lists.{goes_first, fits_first}
use Rattle.state_text.specs.Shown.{register_lines}
use Rattle.state_text.proofs.Shown.{register_next}
use Rattle.state_text.proofs.writing.put_registers.Goals as goal

pub put_storage-requires-clause-here : goal.put_storage-requires-clause-here
put_storage-requires-clause-here c =
    ap (λ storages. slice_get storages c.loop-id.id) c.requires.here
    ∙ slice_get_read c.args.storages.now (length c.args.storages.now) c.loop-id.id c.index-storages-id.result refl c.loop-id-test.true c.index-storages-id.is

pub returns-in_err-put_storage-clause-succeeds : goal.returns-in_err-put_storage-clause-succeeds
returns-in_err-put_storage-clause-succeeds c = λ h.
    let left = register_lines c.args.sim.now.state.regs c.loop-id.id (drop c.loop-id.id c.args.storages.now) in
    let next = register_next c.args.sim.now.state.regs c.loop-id.id c.args.storages.now c.index-storages-id.result c.loop-id-test.true c.index-storages-id.is in
    impossible (c.in_err-put_storage.ensures.succeeds (fits_first c.loop-id.out.items c.args.out.now.items _ _ left _ _ c.loop-id.invariant.text next (omega (arith, h, c.loop-id.invariant.room))))

pub loop-id-preserved : goal.loop-id-preserved
loop-id-preserved c =
    let left = register_lines c.args.sim.now.state.regs c.loop-id.id (drop c.loop-id.id c.args.storages.now) in
    let next = register_next c.args.sim.now.state.regs c.loop-id.id c.args.storages.now c.index-storages-id.result c.loop-id-test.true c.index-storages-id.is in
    record {
      text = goes_first c.loop-id.out.items c.put_storage.new.out.items c.args.out.now.items _ _ left _ c.loop-id.invariant.text next c.in_ok-put_storage.ensures.text;
      room = omega (arith, c.loop-id.invariant.room, c.in_ok-put_storage.ensures.room);
    }
