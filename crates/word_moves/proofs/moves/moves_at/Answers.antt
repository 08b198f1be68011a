use Rattle.std.proofs.Common.{◌≡◌, ◌∙◌, ap, slice_index}
use Rattle.net_model.specs.declared.hardware.Netlist.{Netlist}
use Rattle.net_model.specs.Clock.{clash_in}
use Rattle.word_moves.proofs.moves.moves_at.Goals as goal

pub returns-clause-moves : goal.returns-clause-moves
returns-clause-moves c =
    let nets : c.as_slice-2.result.now ≡ c.args.checked.now.netlist.nets = c.as_slice-2.ensures ∙ ap (λ (n : Netlist). n.nets) c.netlist.ensures.value in
    record {
      clash = c.first_clash-clash.ensures ∙ (λ j. clash_in (c.requires.values j) (nets j));
      moves = c.in_ok-moves.ensures;
    }
