use Rattle.std.proofs.Common.{◌≡◌, ◌<◌, ◌+◌, ◌++◌, ◌∷◌, [], ℕ, List, inl, inr, sym, ◌∙◌, ap, arith, length, slice_get, slice_index, slice_set, Some}
use Rattle.std.proofs.lemmas.Grind.{common_steps}
use Rattle.std.proofs.lemmas.List.{length_push}
use Rattle.rec_bits.proofs.Lists.{all_at}
use Rattle.rec_bits.proofs.Faults.{among_last}
use Rattle.net_model.specs.Depends.{Among, direct}
use Rattle.net_check.specs.Inner.Graphs.{named_in}
use Rattle.net_check.specs.Inner.Components.{IsSearch, IsMerged, IsPathTo, SeenFrom, MetAt, mark_at}
use Rattle.net_check.specs.declared.cycle.Mark.TheVariants.{New, Met}
use Rattle.net_check.proofs.Walks.{among_at, read_at}
use Rattle.net_check.proofs.Marks.{reach_depends}
use Rattle.net_check.proofs.Meets.{met_kept, met_later, met_less}
use Rattle.net_check.proofs.Joins.{to_top, joined_kept, joined_seen, on_kept, on_later, on_less}
use Rattle.net_check.proofs.cycle.step.Goals as goal
use Rattle.net_check.proofs.cycle.step.Goals.{In_ok-push, in-Met-mark_of+in_ok-merge-in-Met-mark_of, in-Done}

-- the net that is looked at
met_top : (c : In_ok-push) → mark_at c.args.search.now.marks c.args.top ≡ Met c.in-Met.index c.in-Met.place
met_top c = sym (rw c.as_slice.ensures at c.in-Met.ensures)

next_net : (c : In_ok-push) → slice_get (named_in c.args.graph.now c.args.top) c.in-Met.place ≡ Some (slice_index c.named_at-named.result.now c.in-Met.place)
next_net c =
    let short : c.in-Met.place < length (named_in c.args.graph.now c.args.top) = rw c.named_at-named.ensures at c.if-place-named.false in
    rw c.named_at-named.ensures (read_at _ _ short)

pub returns-in_default : goal.returns-in_default
returns-in_default c =
    let o = c.requires.kept.on_path c.args.top (among_last c.args.top c.args.search.now.path) in
    let at : c.mark_of.result ≡ mark_at c.args.search.now.marks c.args.top = rw c.as_slice.ensures at c.mark_of.ensures in
    absurd (c.in_default.not-Met o.0 o.1.place (at ∙ o.1.is))

pub returns-in-New : goal.returns-in-New
returns-in-New c =
    let s = (goal.at.returns-in-New c).In_ok-push in
    let net : ℕ = slice_index c.named_at-named.result.now c.in-Met.place in
    let at : slice_get (named_in c.args.graph.now c.args.top) c.in-Met.place ≡ Some net = next_net s in
    let inside : net < length c.args.graph.now = all_at (λ m. m < length c.args.graph.now) _ c.in-Met.place net (c.requires.range c.args.top) at in
    let fresh : mark_at c.args.search.now.marks net ≡ New = sym (rw c.as_slice-2.ensures at c.in-New.ensures) in
    let names : Among net (named_in c.args.graph.now c.args.top) = among_at _ c.in-Met.place net at in
    let all : (p : ℕ) → p < length c.args.search.now.met → IsPathTo c.args.graph.now (slice_index c.args.search.now.met p) net =
    λ p l. inr (reach_depends c.args.graph.now _ c.args.top net (to_top c.args.graph.now c.args.search.now.marks c.args.search.now.met c.args.search.now.starts c.args.search.now.path c.args.top c.requires.kept c.in-Met.index (record { place = c.in-Met.place; is = met_top s }) p l) (direct names)) in
    let is = c.in_ok-meet-in-New.ensures in
    let path : c.meet.new.search.path ≡ (c.args.search.now.path ++ c.args.top ∷ []) ++ net ∷ [] = is.path ∙ ap (λ (xs : List ℕ). xs ++ net ∷ []) c.in_ok-push.ensures.pushed in
    record {
      kept = met_kept c.args.graph.now c.args.search.now.marks c.args.search.now.met c.args.search.now.starts _ c.requires.kept net inside fresh all _ _ _ _ is.marks is.met is.starts path;
      later = met_later c.args.graph.now c.args.search.now.marks c.args.search.now.met c.args.search.now.starts _ c.requires.kept net inside fresh all _ is.marks;
      less = omega (arith, met_less c.args.graph.now c.args.search.now.marks c.args.search.now.met c.args.search.now.starts _ c.requires.kept net inside fresh all _ is.marks, ap length path, length_push (c.args.search.now.path ++ c.args.top ∷ []) net);
    }

pub returns : goal.returns
returns c =
    let s = (goal.at.returns c).In_ok-push in
    let net : ℕ = slice_index c.named_at-named.result.now c.in-Met.place in
    let at : slice_get (named_in c.args.graph.now c.args.top) c.in-Met.place ≡ Some net = next_net s in
    let names : Among net (named_in c.args.graph.now c.args.top) = among_at _ c.in-Met.place net at in
    let pushed : c.push.new.self ≡ c.args.search.now.path ++ c.args.top ∷ [] = c.in_ok-push.ensures.pushed in
    let parted : IsSearch c.args.graph.now c.args.search.now.marks c.args.search.now.met c.args.search.now.starts (c.args.search.now.path ++ c.args.top ∷ []) = c.requires.kept in
    let here : mark_at c.args.search.now.marks c.args.top ≡ Met c.in-Met.index c.in-Met.place = met_top s in
    elim c.match-mark_of-2.branch [
      | in-Met-mark_of+in_ok-merge-in-Met-mark_of w ↦
          let there : MetAt c.args.search.now.marks net w.in-Met-mark_of.at = record { place = w.in-Met-mark_of.field-1; is = sym (rw c.as_slice-2.ensures at w.in-Met-mark_of.ensures) } in
          let merged : IsMerged w.in-Met-mark_of.at c.args.search.now.starts w.merge.new.starts = w.in_ok-merge-in-Met-mark_of.ensures in
          let joined : IsSearch c.args.graph.now c.args.search.now.marks c.args.search.now.met w.merge.new.starts (c.args.search.now.path ++ c.args.top ∷ []) = joined_kept _ _ _ _ _ _ parted c.in-Met.index (record { place = c.in-Met.place; is = here }) net w.in-Met-mark_of.at names there w.merge.new.starts merged in
          let seen : SeenFrom c.args.search.now.marks w.merge.new.starts c.in-Met.index net = joined_seen _ _ _ _ _ _ parted c.in-Met.index (record { place = c.in-Met.place; is = here }) net w.in-Met-mark_of.at names there w.merge.new.starts merged in
          let set : c.set.new.self ≡ slice_set c.args.search.now.marks c.args.top (Met c.in-Met.index (c.in-Met.place + 1)) = rw w.search-is at c.set.ensures in
          rw (w.search-is, pushed) (record {
            kept = on_kept _ _ _ _ _ _ joined c.in-Met.index c.in-Met.place here net at seen _ set;
            later = on_later _ _ _ _ _ _ joined c.in-Met.index c.in-Met.place here net at seen _ set;
            less = omega (arith, on_less _ _ _ _ _ _ joined c.in-Met.index c.in-Met.place here net at seen _ set);
          })
      | in-Done w ↦
          let done : SeenFrom c.args.search.now.marks c.args.search.now.starts c.in-Met.index net = inl (record { told = w.in-Done.field-0; is = sym (rw c.as_slice-2.ensures at w.in-Done.ensures) }) in
          let set : c.set.new.self ≡ slice_set c.args.search.now.marks c.args.top (Met c.in-Met.index (c.in-Met.place + 1)) = rw w.search-is at c.set.ensures in
          rw (w.search-is, pushed) (record {
            kept = on_kept _ _ _ _ _ _ parted c.in-Met.index c.in-Met.place here net at done _ set;
            later = on_later _ _ _ _ _ _ parted c.in-Met.index c.in-Met.place here net at done _ set;
            less = omega (arith, on_less _ _ _ _ _ _ parted c.in-Met.index c.in-Met.place here net at done _ set);
          })
    ]

pub meet-requires : goal.meet-requires
meet-requires c = grind (arith, common_steps)

pub set-requires : goal.set-requires
set-requires c = grind (arith, common_steps)
