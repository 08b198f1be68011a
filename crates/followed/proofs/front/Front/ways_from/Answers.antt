use Rattle.std.proofs.Common.{subst, List, None, []}
use Rattle.code_model.specs.declared.image.Mark.{Mark}
use Rattle.code_model.specs.declared.image.Place.{Place}
use Rattle.segment.specs.Asked.{AreArrays, AreSpots}
use Rattle.mark_start.specs.declared.hints.Spot.{Spot}
use Rattle.followed.specs.Inner.Led.{AreMarksLed}
use Rattle.followed.specs.Turned.{tests_of}
use Rattle.followed.proofs.front.Front.ways_from.Goals as goal

pub returns : goal.returns
returns c =
    let self = c.args.self.now in
    let seen = c.args.seen.now in
    let first = c.args.first.now in
    let bare = c.are_bare.ensures c.if-not-are_bare.false self.pool.now in
    record {
      new = c.requires.new;
      here = c.requires.here;
      hint = first;
      spots = subst (λ (xs : List Spot). AreSpots [] (λ name. None) self.pool.now seen.viewed.now.image.places xs) c.as_slice-2.ensures
          (subst (λ (ps : List Place). AreSpots [] (λ name. None) self.pool.now ps c.as_slice-2.result.now) c.as_slice.ensures bare);
      arrays = subst (λ (xs : List Spot). AreArrays seen.vars.now xs) c.as_slice-3.ensures (c.are_arrays.ensures c.if-not-are_arrays.false);
      known = c.in_ok-way.ensures.known;
      first = c.in_ok-way.ensures.is;
      turns = subst (λ (ms : List Mark). AreMarksLed self (tests_of ms) c.in_ok-turns.turns) c.as_slice-4.ensures c.in_ok-turns.ensures;
    }
