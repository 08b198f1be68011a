-- Groups that do what steps do mean them.
use Rattle.std.proofs.Common.{ℕ, List, [], length, sym, ◌∙◌, subst}
use Rattle.net_model.specs.declared.hardware.Netlist.{Netlist}
use Rattle.net_model.specs.CheckedRules.{KeepsRules}
use Rattle.form_model.specs.Effects.{Operation}
use Rattle.form_model.specs.Live.{Regs, singles}
use Rattle.word_fit.specs.Runs.{RunsTo}
use Rattle.word_fit.proofs.Runs.{runs_to, effect-singles}
use Rattle.compaction.specs.Meant.{MeansSteps}
use Rattle.compaction.specs.Inner.Turns.{IsSame}

pub means_steps : (netlist : Netlist) (order : List ℕ) → KeepsRules netlist order → {A : Type 0} (m : A → Operation) (after : Regs) (xs : List A) (gs : List (List A)) → IsSame m (singles xs) gs → MeansSteps netlist m after xs gs
means_steps netlist order keeps m after xs gs e = λ code words s f h p b.
    subst (λ t. RunsTo netlist code s (length words) after t) (sym (e.effect s) ∙ effect-singles m xs s)
    (runs_to netlist order keeps code m after words gs s f h p b)
