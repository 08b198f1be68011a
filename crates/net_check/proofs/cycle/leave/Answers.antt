use Rattle.std.proofs.Common.{◌≡◌, ◌<◌, ◌+◌, ◌⊎◌, ◌↔◌, ◌++◌, ◌∷◌, [], IsTrue, sym, ◌∙◌, refl, arith, subst, length}
use Rattle.std.proofs.lemmas.List.{length_push}
use Rattle.net_model.specs.Depends.{Among}
use Rattle.net_check.specs.Inner.Graphs.{named_in}
use Rattle.net_check.proofs.Joins.{top_at}
use Rattle.net_check.proofs.Closes.{left_kept, not_begun, part_left, part_later, part_less}
use Rattle.net_check.proofs.cycle.leave.Goals as goal

pub is_cyclic-told-requires : goal.is_cyclic-told-requires
is_cyclic-told-requires c =
    rw c.len.ensures (top_at c.args.graph.now c.args.search.now.marks c.args.search.now.met c.args.search.now.starts c.args.search.now.path c.args.top c.requires.kept c.args.index (record { place = c.requires.here.0; is = c.requires.here.1 })).0

pub complete-requires-clause-within : goal.complete-requires-clause-within
complete-requires-clause-within c =
    let h : c.args.index < length c.args.search.now.met = (top_at c.args.graph.now c.args.search.now.marks c.args.search.now.met c.args.search.now.starts c.args.search.now.path c.args.top c.requires.kept c.args.index (record { place = c.requires.here.0; is = c.requires.here.1 })).0 in
    omega (arith, h)

pub returns-in-Some : goal.returns-in-Some
returns-in-Some c =
    let begun : c.args.search.now.starts ≡ c.pop.new.self ++ c.args.index ∷ [] = rw c.if-start-index.true at c.in-Some.ensures in
    let exact : IsTrue c.is_cyclic-told.result ↔ ((c.args.index + 1 < length c.args.search.now.met) ⊎ Among c.args.top (named_in c.args.graph.now c.args.top)) = rw c.len.ensures at c.is_cyclic-told.ensures in
    record {
      kept = part_left c.args.graph.now c.args.search.now.marks c.args.search.now.met c.args.search.now.starts c.args.search.now.path c.args.top c.requires.kept c.args.index c.requires.here.0 c.requires.here.1 c.requires.here.2 c.pop.new.self begun c.is_cyclic-told.result exact _ c.complete.new.search refl refl refl refl c.complete.ensures;
      later = part_later c.args.graph.now c.args.search.now.marks c.args.search.now.met c.args.search.now.starts c.args.search.now.path c.args.top c.requires.kept c.args.index c.requires.here.0 c.requires.here.1 c.requires.here.2 c.pop.new.self begun c.is_cyclic-told.result exact _ c.complete.new.search refl refl refl refl c.complete.ensures;
      less = part_less c.args.graph.now c.args.search.now.marks c.args.search.now.met c.args.search.now.starts c.args.search.now.path c.args.top c.requires.kept c.args.index c.requires.here.0 c.requires.here.1 c.requires.here.2 c.pop.new.self begun c.is_cyclic-told.result exact _ c.complete.new.search refl refl refl refl c.complete.ensures;
    }

pub returns-in_ok-push-in-Some-2 : goal.returns-in_ok-push-in-Some-2
returns-in_ok-push-in-Some-2 c =
    let none : Among c.args.index c.args.search.now.starts → ⊥ = not_begun c.args.graph.now c.args.search.now.marks c.args.search.now.met c.args.search.now.starts c.args.search.now.path c.args.top c.requires.kept c.args.index c.requires.here.0 c.requires.here.1 c.requires.here.2 c.pop.new.self c.in-Some.start c.in-Some.ensures c.if-start-index.false in
    let same : c.push.new.self ≡ c.args.search.now.starts = c.in_ok-push-in-Some-2.ensures.pushed ∙ sym c.in-Some.ensures in
    record {
      kept = rw same (left_kept c.args.graph.now c.args.search.now.marks c.args.search.now.met c.args.search.now.starts c.args.search.now.path c.args.top c.requires.kept c.args.index c.requires.here.0 c.requires.here.1 c.requires.here.2 none);
      later = λ m h. h;
      less = omega (arith, length_push c.args.search.now.path c.args.top);
    }

pub returns-in-None : goal.returns-in-None
returns-in-None c =
    let none : Among c.args.index c.args.search.now.starts → ⊥ = λ a. subst (Among c.args.index) c.in-None.ensures.0 a in
    let same : c.pop.new.self ≡ c.args.search.now.starts = c.in-None.ensures.1 ∙ sym c.in-None.ensures.0 in
    record {
      kept = rw same (left_kept c.args.graph.now c.args.search.now.marks c.args.search.now.met c.args.search.now.starts c.args.search.now.path c.args.top c.requires.kept c.args.index c.requires.here.0 c.requires.here.1 c.requires.here.2 none);
      later = λ m h. h;
      less = omega (arith, length_push c.args.search.now.path c.args.top);
    }
