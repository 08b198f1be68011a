use Rattle.std.proofs.Common.{refl, arith, subst}
use Rattle.bit_bdd.proofs.CallerLemmas.{extends_refl, extends_trans}
use Rattle.form_model.specs.Live.{regs_of}
use Rattle.compaction.specs.Chosen.{ends}
use Rattle.compaction.specs.Machines.{known_fits, known_operation}
use Rattle.compaction.specs.Inner.Machines.{Packing}
use Rattle.compaction.proofs.Found.{found_long}
use Rattle.compaction.proofs.Lives.{same_refl, same_trans}
use Rattle.compaction.proofs.LiveLists.{sets_long}
use Rattle.compaction.proofs.Packed.{all_settled, is_packed}
use Rattle.compaction.proofs.packer.settled.Goals as goal

pub loop-pair-init : goal.loop-pair-init
loop-pair-init c = record {
  grows = extends_refl c.args.book.now;
  ready = c.requires.ready;
  same = same_refl (known_operation c.args.known.now) c.in_ok-draft.draft.groups.items;
  chosen = λ result w. w;
  draft = c.in_ok-draft.ensures.draft;
}

pub turn-requires-clause-lives : goal.turn-requires-clause-lives
turn-requires-clause-lives c =
    sets_long (known_operation c.args.known.now) (regs_of c.args.after) c.loop-pair.draft.groups.items c.loop-pair.draft.lives.items c.loop-pair.invariant.draft.lives

pub turn-requires-clause-found : goal.turn-requires-clause-found
turn-requires-clause-found c =
    found_long (known_operation c.args.known.now) (known_fits c.args.known.now) (regs_of c.args.after) c.loop-pair.draft.found.items c.loop-pair.draft.groups.items c.loop-pair.invariant.draft.found

pub loop-pair-preserved : goal.loop-pair-preserved
loop-pair-preserved c =
    let t = c.in_ok-pair.ensures.turn (regs_of c.args.after) c.loop-pair.invariant.draft in
    record {
      grows = extends_trans c.args.book.now c.loop-pair.book c.turn.new.book c.loop-pair.invariant.grows c.in_ok-pair.ensures.grows;
      ready = c.in_ok-pair.ensures.ready;
      same = same_trans (known_operation c.args.known.now) c.in_ok-draft.draft.groups.items c.loop-pair.draft.groups.items c.turn.new.draft.groups.items c.loop-pair.invariant.same t.0.same;
      chosen = λ result w. c.loop-pair.invariant.chosen result (t.0.chosen result w);
      draft = t.1;
    }

pub loop-pair-smaller : goal.loop-pair-smaller
loop-pair-smaller c = (c.in_ok-pair.ensures.turn (regs_of c.args.after) c.loop-pair.invariant.draft).0.less

pub returns-clause-packing : goal.returns-clause-packing
returns-clause-packing c =
    let known = c.args.known.now in
    let m = known_operation known in
    let f = known_fits known in
    let after = regs_of c.args.after in
    let gs = c.loop-pair.draft.groups.items in
    let packed = c.loop-pair.invariant.draft.packed in
    subst (λ z. Packing known after z gs) c.in_ok-draft.ensures.groups (record {
      same = c.loop-pair.invariant.same;
      words = packed.words;
      differ = packed.differ;
      packed = is_packed m f after gs (all_settled m f after c.loop-pair.pair gs (omega (arith, c.len.ensures, c.saturating_sub.ensures)) packed.settled);
      chosen = c.loop-pair.invariant.chosen gs (ends c.loop-pair.pair gs gs (omega (arith, c.len.ensures, c.saturating_sub.ensures)) refl);
    })

pub returns-clause-draft : goal.returns-clause-draft
returns-clause-draft c =
    let draft = c.loop-pair.invariant.draft in
    record {
      lives = draft.lives;
      found = draft.found;
      packed = record { words = draft.packed.words; differ = draft.packed.differ; settled = tt };
    }
