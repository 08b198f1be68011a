use Rattle.std.proofs.Common.{◌∙◌, subst, sym, List}
use Rattle.code_model.specs.declared.image.Place.{Place}
use Rattle.code_model.specs.Views.{hidden_in, view_at}
use Rattle.segment.specs.Asked.{AreArrays, AreSpots}
use Rattle.mark_start.specs.declared.hints.Spot.{Spot}
use Rattle.followed.proofs.said.Seen.is_here.Goals as goal

pub are_spots-requires-clause-mark : goal.are_spots-requires-clause-mark
are_spots-requires-clause-mark c = c.label_at-mark.ensures ∙ c.requires.later.marks c.args.hint.now.address c.requires.low

pub are_spots-requires-clause-views : goal.are_spots-requires-clause-views
are_spots-requires-clause-views c name = c.requires.later.views c.args.hint.now.address name c.requires.low

pub returns : goal.returns
returns c e =
    let viewed = c.args.self.now.viewed.now in
    let hint = c.args.hint.now in
    let mark = c.label_at-mark.ensures ∙ c.requires.later.marks hint.address c.requires.low in
    record {
      labelled = sym mark ∙ c.is_label.ensures c.if-not-is_label.false;
      spots = subst (λ (xs : List Spot). AreSpots (hidden_in viewed hint.address) (view_at viewed.views hint.address) c.args.self.now.pool.now viewed.image.places xs) c.as_slice.ensures
          (subst (λ (ps : List Place). AreSpots (hidden_in viewed hint.address) (view_at viewed.views hint.address) c.args.self.now.pool.now ps c.as_slice.result.now) c.as_slice-places.ensures
          (c.are_spots.ensures c.if-not-are_spots.false));
      arrays = subst (AreArrays c.args.self.now.vars.now) c.as_slice-2.ensures (c.are_arrays.ensures e);
    }
