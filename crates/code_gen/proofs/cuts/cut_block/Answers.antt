use Rattle.std.proofs.Common.{◌+◌, arith}
use Rattle.code_gen.specs.Inner.Coded.{no_block}
use Rattle.code_gen.proofs.Running.{block_cuts, block_once, cuts_start, cuts_then}
use Rattle.code_gen.proofs.cuts.cut_block.Goals as goal

pub loop-place-init : goal.loop-place-init
loop-place-init c = record {
  ready = c.requires.ready;
  within = omega arith;
  cuts = cuts_start c.args.program.now.modes c.args.program.now c.args.at (c.args.at + c.args.count) c.empty_block-block.result c.empty_block-block.ensures;
}

-- the cut at a place goes on from the cuts before it
pub loop-place-preserved : goal.loop-place-preserved
loop-place-preserved c = record {
  ready = c.push_cut.ensures.ready;
  within = c.in_ok-place.ensures.below;
  cuts = cuts_then c.args.program.now.modes c.args.program.now c.args.at c.loop-place.place _ (c.args.at + c.args.count) no_block c.loop-place.block c.push_cut.new.block
      c.loop-place.invariant.cuts c.in_ok-place.ensures.cut;
}

pub returns-clause-code : goal.returns-clause-code
returns-clause-code c =
    block_cuts c.args.program.now.modes c.args.program.now c.args.at c.args.count c.loop-place.place c.loop-place.block
    (let least = c.loop-place-test.false in let most = c.loop-place.invariant.within in omega (arith, least, most)) c.loop-place.invariant.cuts

pub returns-clause-once : goal.returns-clause-once
returns-clause-once c =
    block_once c.args.program.now.modes c.args.program.now c.args.at c.args.count c.loop-place.place c.loop-place.block
    (let least = c.loop-place-test.false in let most = c.loop-place.invariant.within in omega (arith, least, most)) c.loop-place.invariant.cuts
