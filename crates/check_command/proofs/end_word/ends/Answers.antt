use Rattle.std.proofs.Common.{◌≡◌, ◌↔◌, ◌∙◌, ℕ, List, Option, IsTrue, ap, subst, sym, slice_get}
use Rattle.net_model.specs.Nets.{counter_of, memory_id}
use Rattle.word_moves.specs.declared.moves.StorageMove.{StorageMove}
use Rattle.check_command.specs.Inner.Moves.{AreEnding}
use Rattle.check_command.proofs.EndLemmas.{ending_ends, ends_ending}
use Rattle.check_command.proofs.end_word.ends.Goals as goal

pub are_ending-requires : goal.are_ending-requires
are_ending-requires c move e =
    let moves = c.args.found.now.moves in
    c.requires.moves.moves.within (counter_of c.args.checked.now.netlist.codes) move
    (sym (c.found_of-counter.ensures ∙ ap (λ (ms : List StorageMove). slice_get ms c.pc.result) c.as_slice-moves.ensures ∙ ap (λ (k : ℕ). slice_get moves k) c.pc.ensures) ∙ e)

pub returns : goal.returns
returns c =
    let netlist = c.args.checked.now.netlist in
    let found = c.args.found.now in
    let nodes = c.args.pool.now in
    let word = c.args.word in
    let address = c.args.address in
    let counter : c.found_of-counter.result ≡ slice_get found.moves (counter_of netlist.codes) =
    c.found_of-counter.ensures ∙ ap (λ (ms : List StorageMove). slice_get ms c.pc.result) c.as_slice-moves.ensures ∙ ap (λ (k : ℕ). slice_get found.moves k) c.pc.ensures in
    let memory : c.found_of-memory.result ≡ slice_get found.moves (memory_id netlist.storages) =
    c.found_of-memory.ensures ∙ ap (λ (ms : List StorageMove). slice_get ms c.place.result) c.as_slice-moves.ensures ∙ ap (λ (k : ℕ). slice_get found.moves k) c.place.ensures in
    let said : IsTrue c.are_ending.result ↔ AreEnding nodes word address found.clash (slice_get found.moves (counter_of netlist.codes)) (slice_get found.moves (memory_id netlist.storages)) =
    subst (λ (m : Option StorageMove). IsTrue c.are_ending.result ↔ AreEnding nodes word address found.clash (slice_get found.moves (counter_of netlist.codes)) m) memory
    (subst (λ (m : Option StorageMove). IsTrue c.are_ending.result ↔ AreEnding nodes word address found.clash m c.found_of-memory.result) counter c.are_ending.ensures) in (
      λ t. ending_ends netlist word nodes found c.requires.moves c.requires.fits address (said.0 t),
      λ h. said.1 (ends_ending netlist word nodes found c.requires.moves address h),
    )
