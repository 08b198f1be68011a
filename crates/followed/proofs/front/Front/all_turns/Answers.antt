use Rattle.std.proofs.Common.{◌∙◌, ◌++◌, ap, subst, sym, List}
use Rattle.followed.specs.declared.passed.Turn.{Turn}
use Rattle.followed.specs.Inner.Led.{AreMarksLed}
use Rattle.followed.specs.Turned.{tests_of}
use Rattle.followed.proofs.front.Front.all_turns.Goals as goal

pub returns : goal.returns
returns c =
    let added = c.in_ok-add_turns.ensures in
    subst (λ (ts : List Turn). AreMarksLed c.args.self.now (tests_of c.args.marks.now) ts)
    (sym (added.1 ∙ ap (λ (ts : List Turn). ts ++ added.0) c.new-turns.ensures)) added.2
