use Rattle.std.proofs.lemmas.Grind.{common_steps}
use Rattle.std.proofs.Common.{◌≡◌, ℕ, ◌<◌, ◌∙◌, List, length, get_or, map, Option, slice_get, slice_index, Some, sym, ap, arith, subst}
use Rattle.std.proofs.lemmas.Option.{slice_get_within}
use Rattle.bit_bdd.proofs.CallerLemmas.{extends_trans}
use Rattle.form_model.specs.declared.forms.Step.{Step}
use Rattle.form_model.specs.Live.{Regs, regs_of}
use Rattle.word_fit.specs.Fits.{IsLeastFit}
use Rattle.compaction.specs.Machines.{known_fits, known_operation}
use Rattle.compaction.specs.Inner.Machines.{HaveFound}
use Rattle.compaction.proofs.Found.{found_long}
use Rattle.compaction.proofs.LiveLists.{sets_long}
use Rattle.compaction.proofs.Listed.{found_there, group_there, least_more, live_there, longer, word_there}
use Rattle.compaction.proofs.words.group_words.Goals as goal

-- two lists that are one are as long
as_long : {A : Type 0} (xs ys : List A) → xs ≡ ys → length xs ≡ length ys
as_long xs ys e = ap (λ z. length z) e

pub bounds-lives-index : goal.bounds-lives-index
bounds-lives-index c =
    let draft = c.args.draft.now in
    omega (arith, sets_long (known_operation c.args.known.now) c.requires.draft.0 draft.groups.items draft.lives.items c.requires.draft.1.lives, as_long _ _ c.as_slice-lives.ensures.value, as_long _ _ c.as_slice-groups.ensures.value, c.loop-index-test.true)

pub bounds-found-index : goal.bounds-found-index
bounds-found-index c =
    let draft = c.args.draft.now in
    omega (arith, found_long (known_operation c.args.known.now) (known_fits c.args.known.now) c.requires.draft.0 draft.found.items draft.groups.items c.requires.draft.1.found, as_long _ _ c.as_slice-found.ensures.value, as_long _ _ c.as_slice-groups.ensures.value, c.loop-index-test.true)

pub word_of-requires-clause-word : goal.word_of-requires-clause-word
word_of-requires-clause-word c =
    let m = known_operation c.args.known.now in
    let f = known_fits c.args.known.now in
    let after = c.requires.draft.0 in
    let d = c.requires.draft.1 in
    let k = c.loop-index.index in
    let gs = c.args.draft.now.groups.items in
    let lives = c.as_slice-lives.result.now in
    let g = c.as_slice-group.result.now in
    let lt : k < length gs = omega (arith, as_long _ _ c.as_slice-groups.ensures.value, c.loop-index-test.true) in
    let n : k < length lives = omega (arith, sets_long m after gs c.args.draft.now.lives.items d.lives, as_long _ _ c.as_slice-lives.ensures.value, lt) in
    let at : slice_get gs k ≡ Some g =
    subst (λ z. slice_get z k ≡ Some g) c.as_slice-groups.ensures.value
    (group_there m f after c.as_slice-groups.result.now k c.index-groups-index.result g c.loop-index-test.true c.index-groups-index.is c.as_slice-group.ensures) in
    word_there m f after gs k g (regs_of (get_or lives k 0)) at
    (live_there m f after gs lives k (ap (λ (z : List ℕ). map regs_of z) c.as_slice-lives.ensures.value ∙ d.lives) n lt) d.packed.words

pub word_of-requires-clause-found : goal.word_of-requires-clause-found
word_of-requires-clause-found c =
    let known = c.args.known.now in
    let m = known_operation known in
    let f = known_fits known in
    let after = c.requires.draft.0 in
    let d = c.requires.draft.1 in
    let k = c.loop-index.index in
    let gs = c.args.draft.now.groups.items in
    let lives = c.as_slice-lives.result.now in
    let g = c.as_slice-group.result.now in
    let lt : k < length gs = omega (arith, as_long _ _ c.as_slice-groups.ensures.value, c.loop-index-test.true) in
    let n : k < length lives = omega (arith, sets_long m after gs c.args.draft.now.lives.items d.lives, as_long _ _ c.as_slice-lives.ensures.value, lt) in
    let at : slice_get gs k ≡ Some g =
    subst (λ z. slice_get z k ≡ Some g) c.as_slice-groups.ensures.value
    (group_there m f after c.as_slice-groups.result.now k c.index-groups-index.result g c.loop-index-test.true c.index-groups-index.is c.as_slice-group.ensures) in
    found_there m f after c.as_slice-found.result.now gs k g (regs_of (get_or lives k 0)) at
    (live_there m f after gs lives k (ap (λ (z : List ℕ). map regs_of z) c.as_slice-lives.ensures.value ∙ d.lives) n lt)
    (subst (λ (z : List (Option ℕ)). HaveFound known z gs after) (sym c.as_slice-found.ensures.value) d.found)

pub loop-index-preserved : goal.loop-index-preserved
loop-index-preserved c =
    let m = known_operation c.args.known.now in
    let f = known_fits c.args.known.now in
    let k = c.loop-index.index in
    let groups = c.as_slice-groups.result.now in
    let lives = c.as_slice-lives.result.now in
    let g = c.as_slice-group.result.now in
    let at : slice_get groups k ≡ Some g = group_there m f c.requires.draft.0 groups k c.index-groups-index.result g c.loop-index-test.true c.index-groups-index.is c.as_slice-group.ensures in
    record {
      grows = extends_trans c.args.book.now c.loop-index.book c.word_of.new.book c.loop-index.invariant.grows c.in_ok-word.ensures.grows;
      ready = c.in_ok-word.ensures.ready;
      long = ap (λ (z : List ℕ). length z) c.in_ok-push.ensures.pushed ∙ longer c.loop-index.words c.in_ok-word.word k c.loop-index.invariant.long;
      least =
          least_more (λ i h w. IsLeastFit (λ word. f word h (regs_of (get_or lives i 0))) w)
          groups c.loop-index.words c.push.new.self k c.in_ok-word.word g c.loop-index.invariant.long c.in_ok-push.ensures.pushed at c.in_ok-word.ensures.least c.loop-index.invariant.least;
    }

pub returns-clause-least : goal.returns-clause-least
returns-clause-least c = λ after d.
    let m = known_operation c.args.known.now in
    let f = known_fits c.args.known.now in
    let draft = c.args.draft.now in
    let gs = draft.groups.items in
    let lives = c.as_slice-lives.result.now in
    let same : length c.as_slice-groups.result.now ≡ length gs = as_long _ _ c.as_slice-groups.ensures.value in
    record {
      long = omega (arith, c.loop-index.invariant.long, c.loop-index-test.false, same);
      least = λ k g e.
          let lt : k < length gs = slice_get_within gs k g e in
          let n : k < length lives = omega (arith, sets_long m after gs draft.lives.items d.lives, as_long _ _ c.as_slice-lives.ensures.value, lt) in
          let at : slice_get c.as_slice-groups.result.now k ≡ Some g = subst (λ z. slice_get z k ≡ Some g) (sym c.as_slice-groups.ensures.value) e in
          subst (λ (l : Regs). IsLeastFit (λ word. f word g l) (slice_index c.loop-index.words k))
          (live_there m f after gs lives k (ap (λ (z : List ℕ). map regs_of z) c.as_slice-lives.ensures.value ∙ d.lives) n lt)
          (c.loop-index.invariant.least k g (omega (arith, lt, same, c.loop-index-test.false)) at);
    }

pub returns-in_err-word-clause-grows : goal.returns-in_err-word-clause-grows
returns-in_err-word-clause-grows c = grind (arith, common_steps)

pub returns-in_err-push-clause-grows : goal.returns-in_err-push-clause-grows
returns-in_err-push-clause-grows c = grind (arith, common_steps)
