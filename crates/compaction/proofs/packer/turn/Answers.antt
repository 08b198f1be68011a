use Rattle.std.proofs.lemmas.Result.{IfOk-from_err}
use Rattle.std.proofs.Common.{◌≡◌, ◌+◌, List, ◌∷◌, [], ◌++◌, Some, subst, arith, take, drop, get_or, set, ◌∙◌, ap, refl}
use Rattle.form_model.specs.Live.{Regs, regs_of, live_before}
use Rattle.word_fit.specs.Fits.{IsLeastFit}
use Rattle.form_model.specs.declared.forms.Step.{Step}
use Rattle.compaction.specs.declared.change.Change.TheVariants.{Merged, Moved}
use Rattle.compaction.specs.Machines.{known_fits, known_operation}
use Rattle.compaction.specs.Inner.Machines.{AreWordsOf, Changes, Turns}
use Rattle.compaction.proofs.Found.{merged_found, moved_found}
use Rattle.compaction.proofs.LiveLists.{second_set, merged_sets, moved_sets}
use Rattle.compaction.proofs.Turns.{IsAt, pair_in, merged_turn, moved_turn, settled_turn, merged_list, moved_list, merged_live, moved_live, second_differs}
use Rattle.compaction.proofs.packer.turn.Goals as goal

pub returns-in-Merged-clause-turn : goal.returns-in-Merged-clause-turn
returns-in-Merged-clause-turn c = λ after d.
    let known = c.args.known.now in
    let m = known_operation known in
    let f0 = known_fits known in
    let k = c.args.pair in
    let old = c.args.draft.now in
    let gs = old.groups.items in
    let g = c.as_slice-first.result.now in
    let h = c.as_slice-second.result.now in
    let front : List (List Step) = take k gs in
    let back : List (List Step) = drop (k + 2) gs in
    let live : Regs = regs_of (get_or c.as_slice.result.now (k + 1) 0) in
    let a : IsAt gs k g h front back = pair_in _ _ _ _ _ _ _ c.as_slice-all.ensures.value c.requires.within c.index-all-pair.is c.as_slice-first.ensures c.index-all-pair-2.is c.as_slice-second.ensures in
    let l : live ≡ live_before m back after = second_set m after gs k g h front back c.as_slice.result.now old.lives.items a d.lives c.as_slice.ensures.value (omega (arith, c.requires.lives, c.requires.within)) in
    let both = c.in-Merged.both in
    let f : Changes known g h live (Merged both) = subst (λ z. Changes known g h live z) c.in-Merged.is c.in_ok-both.ensures.change in
    let w : AreWordsOf known live (Merged both) = subst (λ z. AreWordsOf known live z) c.in-Merged.is c.in_ok-both.ensures.words in
    let mid = c.remove.new.self.items in
    let hs = set mid k both.group in
    let kept = c.remove-in-Merged-2.new.self.items in
    let list : hs ≡ front ++ both.group ∷ back = merged_list gs mid hs k g h both.group front back a c.remove.ensures.items refl in
    let before : live_before m (g ∷ h ∷ back) after ≡ live_before m (both.group ∷ back) after = merged_live m f0 after g h both.group back live f.0 f.1 in
    let t : Turns known after gs hs k c.saturating_sub.result = merged_turn m f0 after gs mid hs k c.saturating_sub.result g h both.group live front back a l f.0 f.1 d.packed c.remove.ensures.items refl c.saturating_sub.ensures in (
      t,
      record {
        lives = merged_sets m after gs hs k g h both.group front back old.lives.items c.remove-in-Merged.new.self.items a d.lives c.remove-in-Merged.ensures.items list before;
        found =
            merged_found m f0 after gs hs k g h both.group front back old.found.items kept (set kept k (Some both.word)) both.word a d.found c.remove-in-Merged-2.ensures.items refl list before
            (subst (λ (z : Regs). IsLeastFit (λ n. f0 n both.group z) both.word) l w);
        packed = t.packed;
      },
    )

pub returns-in-Moved-clause-turn : goal.returns-in-Moved-clause-turn
returns-in-Moved-clause-turn c = λ after d.
    let known = c.args.known.now in
    let m = known_operation known in
    let f0 = known_fits known in
    let k = c.args.pair in
    let old = c.args.draft.now in
    let gs = old.groups.items in
    let g = c.as_slice-first.result.now in
    let h = c.as_slice-second.result.now in
    let front : List (List Step) = take k gs in
    let back : List (List Step) = drop (k + 2) gs in
    let live : Regs = regs_of (get_or c.as_slice.result.now (k + 1) 0) in
    let a : IsAt gs k g h front back = pair_in _ _ _ _ _ _ _ c.as_slice-all.ensures.value c.requires.within c.index-all-pair.is c.as_slice-first.ensures c.index-all-pair-2.is c.as_slice-second.ensures in
    let l : live ≡ live_before m back after = second_set m after gs k g h front back c.as_slice.result.now old.lives.items a d.lives c.as_slice.ensures.value (omega (arith, c.requires.lives, c.requires.within)) in
    let more = c.in-Moved.more in
    let rest = c.in-Moved.rest in
    let f : Changes known g h live (Moved more rest) = subst (λ z. Changes known g h live z) c.in-Moved.is c.in_ok-both.ensures.change in
    let w : AreWordsOf known live (Moved more rest) = subst (λ z. AreWordsOf known live z) c.in-Moved.is c.in_ok-both.ensures.words in
    let mid = set gs k more.group in
    let hs = set mid (k + 1) rest.group in
    let between = c.live_between-between.result in
    let kept = set old.found.items k (Some more.word) in
    let list : hs ≡ front ++ more.group ∷ rest.group ∷ back = moved_list gs mid hs k g h more.group rest.group front back a refl refl in
    let before : live_before m (g ∷ h ∷ back) after ≡ live_before m (more.group ∷ rest.group ∷ back) after =
    moved_live m f0 after g h more.group rest.group back live (second_differs m f0 after gs k g h front back a d.packed) f.1 in
    let t : Turns known after gs hs k c.saturating_sub-in-Moved.result =
    moved_turn m f0 after gs mid hs k c.saturating_sub-in-Moved.result g h more.group rest.group live front back a l f.0 f.1 d.packed refl refl c.saturating_sub-in-Moved.ensures in (
      t,
      record {
        lives =
            moved_sets m after gs hs k g h more.group rest.group front back old.lives.items (set old.lives.items k between) between a d.lives refl
            (c.live_between-between.ensures ∙ ap (λ z. live_before m (c.as_slice-in-Moved.result.now ∷ []) z) l
            ∙ ap (λ z. live_before m (z ∷ back) after) c.as_slice-in-Moved.ensures)
            list before;
        found =
            moved_found m f0 after gs hs k g h more.group rest.group front back old.found.items kept (set kept (k + 1) (Some rest.word)) more.word rest.word a d.found refl refl list before
            (subst (λ (z : Regs). IsLeastFit (λ n. f0 n more.group (live_before m (rest.group ∷ []) z)) more.word) l w.0)
            (subst (λ (z : Regs). IsLeastFit (λ n. f0 n rest.group z) rest.word) l w.1);
        packed = t.packed;
      },
    )

pub returns-in-Settled-clause-turn : goal.returns-in-Settled-clause-turn
returns-in-Settled-clause-turn c = λ after d.
    let known = c.args.known.now in
    let m = known_operation known in
    let f0 = known_fits known in
    let k = c.args.pair in
    let old = c.args.draft.now in
    let gs = old.groups.items in
    let g = c.as_slice-first.result.now in
    let h = c.as_slice-second.result.now in
    let front : List (List Step) = take k gs in
    let back : List (List Step) = drop (k + 2) gs in
    let live : Regs = regs_of (get_or c.as_slice.result.now (k + 1) 0) in
    let a : IsAt gs k g h front back = pair_in _ _ _ _ _ _ _ c.as_slice-all.ensures.value c.requires.within c.index-all-pair.is c.as_slice-first.ensures c.index-all-pair-2.is c.as_slice-second.ensures in
    let l : live ≡ live_before m back after = second_set m after gs k g h front back c.as_slice.result.now old.lives.items a d.lives c.as_slice.ensures.value (omega (arith, c.requires.lives, c.requires.within)) in
    let f = subst (λ z. Changes known g h live z) c.in-Settled.is c.in_ok-both.ensures.change in
    let t : Turns known after gs gs k (k + 1) = settled_turn m f0 after gs k g h live front back a l f d.packed in
    (t, record { lives = d.lives; found = d.found; packed = t.packed })

pub returns-in_err-both-clause-turn : goal.returns-in_err-both-clause-turn
returns-in_err-both-clause-turn c = IfOk-from_err c.from_residual.result _ c.from_residual.ensures.0
